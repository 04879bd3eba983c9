-- Document 01's Extraction: the definitions, the words that the contracts add to them, then the laws of a cell and its rows.
pub mod Extraction
pub mod Words
pub mod Surface
pub mod Laws
