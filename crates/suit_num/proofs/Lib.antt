pub mod BinomialLaws
pub mod DivisorLaws
pub mod FractionLaws
pub mod IntegerLaws
pub mod NarrowProducts
pub mod OddParts
pub mod SignedDivisors
