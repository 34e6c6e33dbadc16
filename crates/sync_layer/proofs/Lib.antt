pub mod Rows
pub mod Seating
pub mod Answers
pub mod Refusing
pub mod Kept
pub mod Apart
pub mod Found
