-- A statement more at the end of statements.
use Rattle.std.proofs.Common.{◌≡◌, ℕ, ◌+◌, Bool, true, List, [], ◌∷◌, ◌++◌, refl, arith}
use Rattle.std.specs.Prelude.{IsTrue}
use Rattle.std.proofs.lemmas.Bool.{and_from, and_parts}
use Rattle.lang_tree.specs.declared.stmt.Stmt.{Stmt}
use Rattle.lang_tree.specs.Tree.{node_count, nodes_in}
use Rattle.lang_tree.specs.Limits.{is_statement, are_statements}
use Rattle.lang_tree.specs.View.{statement_of, statements_of}

-- all are within the limits where those before and the last are
pub added_fits : (n : ℕ) (i : Bool) (xs : List Stmt) (x : Stmt) → IsTrue (are_statements n i (statements_of xs))
    → IsTrue (is_statement n i (statement_of x)) → IsTrue (are_statements n i (statements_of (xs ++ x ∷ [])))
added_fits n i [] x h k = and_from (is_statement n i (statement_of x)) true k refl
added_fits n i (y ∷ xs) x h k =
    let p = and_parts (is_statement n i (statement_of y)) (are_statements n i (statements_of xs)) h in
    and_from (is_statement n i (statement_of y)) (are_statements n i (statements_of (xs ++ x ∷ []))) p.0 (added_fits n i xs x p.1 k)

-- they are as many as those before and the last
pub added_count : (xs : List Stmt) (x : Stmt)
    → nodes_in (statements_of (xs ++ x ∷ [])) ≡ nodes_in (statements_of xs) + node_count (statement_of x)
added_count [] x = omega arith
added_count (y ∷ xs) x = omega (arith, added_count xs x)
