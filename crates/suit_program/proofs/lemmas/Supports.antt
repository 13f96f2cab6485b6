-- Lemmas on supports: what play with their moves reaches, and what their marks name.
pub mod AtAChoice
pub mod FirstAndWhole
pub mod HasTheReply
pub mod ReachedInOrder
pub mod RepliesInTheTree
pub mod SumsByPlay
pub mod TurnCases
pub mod WhatIsReached
pub mod WhatMarksName
pub mod WithMoreMoves
