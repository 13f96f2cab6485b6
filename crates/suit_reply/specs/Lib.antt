pub mod AgainstDefence
pub mod AgainstPlan
pub mod LayoutsReplies
pub mod NodeMoves
pub mod NodeReplies
pub mod Turns
