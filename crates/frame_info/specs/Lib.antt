pub mod Choice
pub mod Frame
pub mod Word
pub mod Refusal
pub mod Status
