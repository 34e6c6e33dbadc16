pub mod Claims
pub mod Uncited
