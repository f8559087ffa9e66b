pub mod Keys
pub mod Packed
pub mod Pages
pub mod Targets
pub mod Pieces
pub mod Room
