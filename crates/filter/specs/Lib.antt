-- The definitions of `filter`.
pub mod Run
pub mod Runs
pub mod Share
pub mod Compute
pub mod Checked
pub mod InRange
