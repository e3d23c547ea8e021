pub mod OneEnd
pub mod OneMeaning
pub mod Answered
