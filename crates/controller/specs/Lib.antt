-- The definitions of `controller`.
pub mod State
pub mod Start
pub mod Merge
pub mod Effects
pub mod Answers
pub mod Step
pub mod Sent
pub mod Told
