-- The definitions of `store`.
pub mod First
pub mod Row
pub mod Rows
pub mod Repeated
pub mod Newest
pub mod Runs
pub mod Stored
pub mod Says
pub mod Kept
pub mod Text
