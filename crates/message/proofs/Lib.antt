-- The laws of `message` that belong to no one function.
pub mod Ranges
pub mod Plain
pub mod Views
pub mod InRange
