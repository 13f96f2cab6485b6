pub mod Deals
pub mod Draws
pub mod Naming
pub mod Records
