pub mod Held
pub mod Kept
pub mod Same
