pub mod Advanced
pub mod Windows
pub mod Said
pub mod Sums
pub mod Averages
pub mod Answer
pub mod Readings
pub mod Bits
