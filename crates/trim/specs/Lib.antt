-- Document 01's trim: the definitions, what the passes leave, then what is proved of them.
pub mod Trim
pub mod Words
pub mod Laws
