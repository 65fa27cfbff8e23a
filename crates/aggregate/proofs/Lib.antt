pub mod Members
pub mod Keeping
pub mod Sides
