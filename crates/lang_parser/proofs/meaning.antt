pub mod ExpressionAnswers
