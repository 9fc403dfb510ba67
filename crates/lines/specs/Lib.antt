-- The definitions of `lines`.
pub mod Table
pub mod Lists
pub mod Values
pub mod Reading
pub mod Walk
pub mod Straight
pub mod Writing
pub mod Settling
pub mod Settings
pub mod Answers
