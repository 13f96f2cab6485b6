pub mod LookingForMoves
pub mod OneMoreTextJoined
pub mod MovesClassByClass
pub mod LongDivision
pub mod WhichHistoriesAreTold
pub mod LinesMoveByMove
pub mod WalkWhereMassGoes
pub mod MovesCanBeWritten
