pub mod BelowAll
