-- The laws of `units` that belong to no one function.
pub mod Every
pub mod Chains
pub mod Masks
pub mod Scan
pub mod Picked
pub mod TheNumbers
pub mod Tab
pub mod Counted
pub mod InRange
pub mod Refusals
