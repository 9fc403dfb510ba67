-- The ways that a step can go.
pub mod Phases
pub mod Reasons
pub mod InRange
pub mod Ways
pub mod Endings
pub mod Sendings
pub mod Judging
pub mod Changes
pub mod Outcomes
pub mod Session
