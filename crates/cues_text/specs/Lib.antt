pub mod Text
pub mod Args
