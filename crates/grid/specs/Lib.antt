-- Document 01's Grid: the definitions, then what is proved of them.
pub mod Grid
pub mod Laws
