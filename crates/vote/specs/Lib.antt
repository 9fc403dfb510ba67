-- The definitions of `vote`.
pub mod Digest
pub mod Vote
pub mod InRange
pub mod Decision
