-- What `certificates` is to do.
pub mod Hearing
