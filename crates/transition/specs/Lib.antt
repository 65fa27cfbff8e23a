pub mod Writes
pub mod Plans
pub mod Passes
pub mod Laws
pub mod NearMisses
pub mod Examples
pub mod Model
