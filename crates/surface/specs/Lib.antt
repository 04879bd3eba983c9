-- Document 01's level.
pub mod Surface
