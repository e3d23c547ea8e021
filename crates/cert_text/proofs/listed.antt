pub mod ElementsLeft
