pub mod Scripts
pub mod Turns
pub mod Courses
pub mod Visits
