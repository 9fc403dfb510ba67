-- The definitions of `message`.
pub mod Head
pub mod View
pub mod Readings
pub mod Message
pub mod Settings
pub mod InRange
