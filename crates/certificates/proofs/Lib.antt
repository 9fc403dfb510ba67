-- The laws of `certificates`.
mod Hearing
