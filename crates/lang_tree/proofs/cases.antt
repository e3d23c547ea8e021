pub mod CaseLaw
