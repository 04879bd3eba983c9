-- Document 01's Points and box: the definitions, then what callers need to know of them.
pub mod Points
pub mod Box
pub mod Laws
