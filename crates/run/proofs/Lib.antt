pub mod Reading
pub mod Finishing
pub mod Holds
pub mod RunLaws
