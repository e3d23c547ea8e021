pub mod Products
pub mod LimitLaws
pub mod SourceLimits
