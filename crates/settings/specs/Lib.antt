-- Document 01's settings and refusals: the definitions; then either side of each limit, and what a pass of the checks tells.
pub mod Settings
pub mod Refusals
pub mod Laws
