pub mod Face
pub mod Layering
