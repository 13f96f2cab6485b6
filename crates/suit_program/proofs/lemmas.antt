-- Lemmas, in the rooms of their subjects.
pub mod Duality
pub mod Programs
pub mod Readings
pub mod Supports
pub mod Walks
