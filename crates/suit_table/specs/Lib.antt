pub mod Entries
pub mod Fields
pub mod Judging
pub mod Outcomes
pub mod Records
pub mod Summaries
pub mod Tables
