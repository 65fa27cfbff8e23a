pub mod Cases
pub mod FewestCases
