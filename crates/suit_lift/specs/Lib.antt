pub mod Lifts
pub mod Certified
pub mod LiftLaws
pub mod Naming
pub mod Examples
pub mod FullLists
