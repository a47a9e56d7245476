pub mod Models
pub mod Finishing
pub mod Calls
pub mod Standing
pub mod Runs
pub mod Hears
pub mod Consoles
