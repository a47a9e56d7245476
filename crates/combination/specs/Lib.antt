pub mod Combinations
pub mod Checks
