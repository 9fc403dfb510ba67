-- The definitions of `fields`.
pub mod Digits
pub mod Text
pub mod Field
pub mod Certificate
pub mod Day
pub mod Put
pub mod Lines
pub mod Cut
