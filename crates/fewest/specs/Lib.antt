pub mod Trees
pub mod Needs
pub mod Prescribed
pub mod Edges
pub mod Laws
pub mod NearMisses
pub mod Examples
