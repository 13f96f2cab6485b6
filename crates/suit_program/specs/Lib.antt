pub mod Duality
pub mod Programs
pub mod Readings
pub mod Supports
pub mod Walks
