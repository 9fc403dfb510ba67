-- The definitions of `plan`.
pub mod Plan
pub mod Readings
pub mod States
pub mod Timers
pub mod Votes
