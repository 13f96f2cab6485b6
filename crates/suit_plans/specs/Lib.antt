pub mod BestReplies
pub mod Masses
pub mod Orders
pub mod PlanLaws
pub mod Properness
pub mod Starts
pub mod Players
pub mod ReplyLaws
