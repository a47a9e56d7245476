pub mod Lists
pub mod Divisibility
pub mod Polynomials
pub mod Rings
pub mod Algebra
pub mod Dividing
pub mod Ideals
pub mod Theorems
