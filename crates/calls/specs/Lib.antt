pub mod Held
pub mod Shown
pub mod Pairs
pub mod Asking
pub mod Sequences
