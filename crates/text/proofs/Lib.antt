pub mod Digits
pub mod Pieces
pub mod Prefixes
pub mod Heads
