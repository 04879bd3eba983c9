-- Words of the laws on these definitions: the records and functions that they speak of. The laws are in proofs/Laws. Nothing here must be believed.
pub mod Binary
pub mod Real
pub mod Squares
pub mod RootWhole
pub mod RootOrder
pub mod Patterns
pub mod Spacing
pub mod RootDivide
pub mod RootPattern
pub mod RoundNearest
pub mod SumOfSquares
pub mod RootSquares
