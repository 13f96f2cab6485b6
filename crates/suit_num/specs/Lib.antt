pub mod Binomials
pub mod Divisors
pub mod Laws
pub mod Narrow
