pub mod Split
pub mod Picked
pub mod Counts
pub mod Words
pub mod Refusals
