pub mod Dealing
pub mod RecordNamesItsQuestion
