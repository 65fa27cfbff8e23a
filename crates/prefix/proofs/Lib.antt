pub mod Words
pub mod Strings
pub mod Order
pub mod Numbers
pub mod Joins
pub mod Meaning
pub mod Shifts
