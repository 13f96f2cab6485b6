pub mod Cells
pub mod Lines
pub mod Replays
pub mod Sparse
pub mod States
