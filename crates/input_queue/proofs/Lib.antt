pub mod Answers
pub mod Cases
pub mod Fills
pub mod Kept
pub mod Places
