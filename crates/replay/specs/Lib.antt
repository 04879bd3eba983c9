-- What the lists of worked values are made of, then laws.
pub mod Words
pub mod Laws
