-- Document 01's preview sheet: the definitions, then where a sheet that fits has its points.
pub mod Sheet
pub mod Laws
