pub mod Entering
pub mod SummaryIsMet
pub mod Misfits
pub mod OutcomesFitQuestions
pub mod Putting
pub mod Reaching
pub mod Telling
pub mod Trimming
