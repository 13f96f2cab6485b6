pub mod FindingByTheFirstTest
pub mod VerdictsMet
