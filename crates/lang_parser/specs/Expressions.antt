-- What the code has read of an expression.
use Rattle.std.specs.Prelude.{ℕ}
use Rattle.lang_tree.specs.View.{condition_of}
use Rattle.lang_meaning.specs.Expressions.{Meaning, a_number, a_condition, a_choice}
use Rattle.lang_parser.specs.declared.alone.Expr as code_expr
use Rattle.lang_parser.specs.declared.alone.Read.{Read}

-- what the code's expression is
abbrev pub expr_of : code_expr.Expr → Meaning
expr_of (code_expr.TheVariants.Number f) = a_number f
expr_of (code_expr.TheVariants.Truth c) = a_condition (condition_of c)
expr_of code_expr.TheVariants.Free = a_choice

-- what the code has read
abbrev pub read_of : Read → Meaning × ℕ
read_of r = (expr_of r.expr, r.next)
