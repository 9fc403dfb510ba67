-- The statement about the table of document 01's cases, and the one about its session.
pub mod Cases
pub mod Session
