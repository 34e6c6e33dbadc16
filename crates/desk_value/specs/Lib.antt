pub mod Answer
pub mod Value
pub mod Said
