pub mod Histories
pub mod LineLaws
pub mod Lines
pub mod Sentences
pub mod Told
pub mod Values
pub mod Walks
