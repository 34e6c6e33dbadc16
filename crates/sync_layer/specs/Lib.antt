pub mod Lists
pub mod Seats
pub mod Slots
pub mod Answer
pub mod Calls
pub mod Said
pub mod Whole
pub mod Runs
