pub mod Digits
pub mod Loose
pub mod Strict
pub mod Writing
