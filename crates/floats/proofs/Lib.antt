-- The laws of `floats` that belong to no one function.
pub mod Encoding
pub mod Limits
pub mod Places
pub mod Computes
