pub mod Limits
pub mod Bounds
pub mod Ranks
pub mod Coefficients
pub mod Elements
pub mod Divisors
pub mod Turns
