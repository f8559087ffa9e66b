pub mod Trials
pub mod Visiting
pub mod Comparable
