pub mod Layout
pub mod Answer
pub mod Promise
pub mod Said
pub mod Inside
pub mod Places
