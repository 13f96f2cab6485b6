pub mod ClassLaws
pub mod ClassLayouts
pub mod Examples
pub mod Walks
