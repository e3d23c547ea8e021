pub mod KnownQuiet
