pub mod Holding
pub mod Vanishing
pub mod Reaching
pub mod Tables
pub mod Asked
pub mod Sequencing
