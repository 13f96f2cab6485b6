pub mod Bytes
pub mod PortCounts
pub mod Held
pub mod Reading
pub mod Room
