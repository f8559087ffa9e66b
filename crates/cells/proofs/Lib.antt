pub mod Marks
pub mod Layouts
pub mod Searches
