-- The definitions of `units`.
pub mod Limits
pub mod Within
pub mod Labels
pub mod Refusal
pub mod Mask
pub mod Bytes
pub mod Reading
pub mod Every
pub mod Pick
pub mod Tab
pub mod Settings
pub mod InRange
