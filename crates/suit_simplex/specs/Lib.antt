pub mod Dense
pub mod Examples
pub mod Laws
