pub mod Order
pub mod Seeking
