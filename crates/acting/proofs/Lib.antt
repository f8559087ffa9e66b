pub mod Kit
pub mod Statements
pub mod Reading
