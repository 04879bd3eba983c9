-- Document 01's preview program: the definitions that its contracts cite.
pub mod Preview
