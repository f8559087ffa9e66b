pub mod Laws
pub mod Any
pub mod Records
pub mod Back
pub mod Accepted
