pub mod Cards
pub mod Holdings
pub mod Masks
pub mod Ranks
pub mod Reading
pub mod Seats
