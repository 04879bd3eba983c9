-- Document 01's orientation: the definitions, then what is proved of them.
pub mod Orientation
pub mod Laws
