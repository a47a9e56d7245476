pub mod Cuts
pub mod Grammar
pub mod Heads
pub mod Heard
pub mod Laws
pub mod Worked
