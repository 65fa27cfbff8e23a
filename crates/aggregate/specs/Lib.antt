pub mod Sets
pub mod Model
pub mod Routes
