pub mod Reference
pub mod Tried
pub mod Statement
pub mod Chain
pub mod ChainValue
