pub mod Kept
pub mod Guessing
pub mod Loops
pub mod Served
pub mod Lines
pub mod Reading
