pub mod Tables
pub mod Laws
pub mod Limits
pub mod Examples
pub mod Routes
pub mod Search
pub mod Model
