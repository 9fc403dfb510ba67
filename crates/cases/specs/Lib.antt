-- The table of document 01's cases, and the round of its session.
pub mod Table
pub mod Session
