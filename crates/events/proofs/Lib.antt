pub mod Scripts
pub mod Written
