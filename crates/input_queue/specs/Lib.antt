pub mod Queue
pub mod Ring
pub mod Answer
pub mod Calls
pub mod Said
pub mod Whole
pub mod Runs
