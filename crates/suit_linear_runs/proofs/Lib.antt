pub mod WellFormedRowByRow
