-- Lemmas on plans and defences that meet; they speak of no tree.
pub mod MeetingAtLeast
pub mod MeetingAtMost
pub mod MeetingByTurns
pub mod ReadingsMeet
pub mod WeakDuality
