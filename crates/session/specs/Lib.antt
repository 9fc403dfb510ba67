-- The definitions of `session`.
pub mod Turn
pub mod Feeding
pub mod Repeat
pub mod Serving
pub mod Station
pub mod Example
pub mod Reach
pub mod Pieces
pub mod Handling
pub mod Demand
pub mod Booting
