-- The laws of `lines` that belong to no one function.
pub mod Rows
pub mod Columns
mod Walking
mod Making
mod Stages
mod Openings
mod Firsts
mod Adding
pub mod Plain
mod Putting
mod Sending
mod Settlings
mod Runs
pub mod Spelled
pub mod Wire
mod Straights
mod Arrays
mod Quantities
pub mod Meaning
pub mod Saying
pub mod RoundTrip
pub mod Refusing
pub mod SettingTrip
pub mod WholeSettings
pub mod Answers
