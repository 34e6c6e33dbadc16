pub mod Face
pub mod Lists
pub mod Layers
