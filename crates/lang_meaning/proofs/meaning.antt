pub mod OneMeaning
pub mod OneExpression
