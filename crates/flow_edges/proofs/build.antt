pub mod ActionTotals
pub mod EdgeLimits
