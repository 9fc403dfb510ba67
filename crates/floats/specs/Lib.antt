-- The definitions of `floats`.
pub mod Bits
pub mod Ranges
pub mod InRange
