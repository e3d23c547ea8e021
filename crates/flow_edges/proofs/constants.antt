pub mod FormLimits
