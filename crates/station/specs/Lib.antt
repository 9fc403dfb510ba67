-- What `station` is to do.
pub mod Calls
pub mod Serving
