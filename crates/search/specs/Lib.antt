-- Document 01's search and Spacing: the definitions, then what callers need to know of them.
pub mod Search
pub mod Spacing
pub mod Words
pub mod Laws
