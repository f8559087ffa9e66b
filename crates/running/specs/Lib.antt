pub mod Courses
pub mod Visits
pub mod Code
