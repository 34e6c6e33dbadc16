pub mod Fields
pub mod Answer
pub mod Calls
pub mod Said
pub mod Reading
pub mod Steps
pub mod Bytes
