-- A group of controllers, the premises of demand 3, and what it says.
pub mod World
pub mod Premises
pub mod Demand
pub mod Changing
pub mod Wire
pub mod Stations
pub mod Programs
pub mod Scripts
pub mod Examples
pub mod Schedules
pub mod WrongRules
