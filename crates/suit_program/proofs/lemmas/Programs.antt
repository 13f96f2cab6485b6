-- Lemmas on a support's program: what a class history is worth at a point, rows, columns and prices.
pub mod Beginnings
pub mod ColumnsComeOnce
pub mod EntriesByRow
pub mod LinearInThePoint
pub mod ObjectiveIsBounded
pub mod OneMoveEach
pub mod PricesByName
pub mod RowsComeOnce
pub mod SumOfAColumn
pub mod SumsInOrder
pub mod ToldByPoints
pub mod UnderAPath
pub mod WellFormed
pub mod WithinTheRows
pub mod WorthAtPrices
pub mod WorthByMoves
pub mod WorthWithinMass
