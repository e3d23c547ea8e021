-- Lists of statements in a row.
use Rattle.std.proofs.Common.{◌≡◌, ◌++◌, List, [], ◌∷◌, refl, ap}
use Rattle.lang_tree.specs.declared.stmt.Stmt.{Stmt}
use Rattle.lang_tree.specs.Tree.{cons}
use Rattle.lang_tree.specs.View.{statement_of, statements_of}
use Rattle.lang_meaning.specs.Walk.{followed_by}

-- two lists of the code's statements in a row stand for the statements of the first one followed by those of the second one
pub statements_append : (xs ys : List Stmt) → statements_of (xs ++ ys) ≡ followed_by (statements_of xs) (statements_of ys)
statements_append [] ys = refl
statements_append (x ∷ xs) ys = ap (cons (statement_of x)) (statements_append xs ys)
