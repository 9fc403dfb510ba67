-- The laws of `station`.
pub mod Calls
pub mod Serving
