-- The verdicts and their numbers, the answer under each, and checks in a row; then laws.
pub mod Answers
pub mod Laws
