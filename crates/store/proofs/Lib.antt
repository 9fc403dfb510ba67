-- The laws of `store` that belong to no one function.
pub mod Firsts
pub mod RowTrip
pub mod Rows
pub mod RowRefusals
pub mod Repeats
pub mod Exact
pub mod Back
pub mod Refusals
pub mod Counting
pub mod Keeping
pub mod Enough
pub mod Telling
-- what the functions' proofs need, and no caller's
mod Names
mod Reading
mod Gathering
mod Looking
mod Places
mod Fills
mod RunLines
mod Putting
mod Stages
mod Writing
mod Counted
mod Answered
