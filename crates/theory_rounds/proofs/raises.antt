pub mod ProblemsAgree
