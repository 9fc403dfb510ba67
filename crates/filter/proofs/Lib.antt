-- The laws of `filter` that belong to no one function.
pub mod Cases
pub mod Sums
pub mod Rounding
pub mod Laws
pub mod Inputs
pub mod Exact
pub mod Computes
