-- The laws of `fields` that belong to no one function.
pub mod Cases
pub mod Numbers
pub mod Texts
pub mod Scans
pub mod Certificates
pub mod Dates
pub mod Spellings
pub mod Puts
pub mod Starts
pub mod Lines
pub mod Carrying
pub mod Holding
-- what the functions' proofs need, and no caller's
mod Reading
mod Positions
mod Quicks
mod Writing
