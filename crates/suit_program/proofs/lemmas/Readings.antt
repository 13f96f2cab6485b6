-- Lemmas on the plan and the defence that are read from an optimum.
pub mod BothAreRead
pub mod DefenceHolds
pub mod DefenceIsProper
pub mod DefencesHoldTheWorth
pub mod HeldInEachLayout
pub mod LeastCommonMultiple
pub mod MassSharedOut
pub mod MassesNoLess
pub mod PartOfAPoint
pub mod PlanIsProper
pub mod PlanKeeps
pub mod PlansKeepTheWorth
pub mod PricesCoverTheMass
pub mod RowsFit
pub mod SharesOneByOne
pub mod TooWide
pub mod WorkedExample
