pub mod Texts
pub mod Filling
