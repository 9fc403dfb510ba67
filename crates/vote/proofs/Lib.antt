-- The laws of the vote that belong to no one function.
pub mod InRange
pub mod Order
pub mod Lexicographic
pub mod Counting
pub mod Exact
mod Turns
pub mod Facts
pub mod Strength
pub mod Rule
pub mod Answer
pub mod Decided
pub mod Computes
