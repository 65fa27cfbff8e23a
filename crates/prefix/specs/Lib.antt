pub mod Bits
pub mod Model
pub mod Laws
pub mod Text
