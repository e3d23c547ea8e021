-- The head of a `for`, whose first part and condition were read.
use Rattle.std.proofs.Common.{◌≡◌, ◌+◌, ℕ, List, Result, Ok, subst}
use Rattle.source_grammar.specs.Grammar.{ForFirst, Optional, Updates}
use Rattle.source_tree.specs.Expressions.{Expression}
use Rattle.source_tree.specs.Statements.{Change, Statements}
use Rattle.source_meaning.specs.Results.{◌>>=◌}
use Rattle.source_meaning.specs.Names.{State}
use Rattle.source_meaning.specs.Limits.{counted}
use Rattle.source_meaning.specs.Statements.{prelude_of, read_first, read_test, read_updates}
use Rattle.source_reader.specs.Answers.{Answers}
use Rattle.source_reader.specs.declared.stop.Stop.{Stop}
use Rattle.source_change.specs.declared.conditions.Test.{Test}
use Rattle.source_change.proofs.results.Answered.{ok_then}
use Rattle.source_statement.specs.Parts.{read_head}
use Rattle.base_integers.specs.declared.integers.Integers.{Integers}

-- what is answered of the rest is answered of the head
pub headed : (integers : Integers) {C : Type 0} (First : Unit {0} → State × Statements → Type 0) (Is : Test → Expression → Type 0)
    (Was : C → State × Statements × Expression × List Change → Type 0) (res : Result C Stop) (test : Test) (line : ℕ → ℕ) (n : ℕ)
    (st k : State) (at : ℕ) (f : ForFirst) (t : Optional) (us : Updates)
    → ((r : State × Statements) → First tt r → k ≡ r.0)
    → Answers First (Ok tt) (read_first integers line n st f) → Answers Is (Ok test) (read_test integers line n k at t)
    → ((r : State × Statements) (x : Expression) → First tt r → Is test x
    → Answers Was res (counted at (prelude_of integers line n at x + 1) k >>= λ now. read_updates integers line n now us
    >>= λ u. Ok (u.0, r.1, x, u.1)))
    → Answers Was res (read_head integers line n st at f t us)
headed integers First Is Was res test line n st k at f t us same a b h =
    ok_then First Was tt res (read_first integers line n st f)
    (λ r. read_test integers line n r.0 at t >>= λ x. counted at
    (prelude_of integers line n at x + 1) r.0 >>= λ now. read_updates integers line n now us
    >>= λ u. Ok (u.0, r.1, x, u.1)) a
    (λ r w.
    let P : State → Type 0 = λ k. Answers Was res (read_test integers line n k at t >>= λ x. counted at
    (prelude_of integers line n at x + 1) k
    >>= λ now. read_updates integers line n now us >>= λ u. Ok (u.0, r.1, x, u.1)) in
    subst P (same r w)
    (ok_then Is Was test res (read_test integers line n k at t) (λ x. counted at (prelude_of integers line n at x + 1) k
    >>= λ now. read_updates integers line n now us >>= λ u. Ok (u.0, r.1, x, u.1)) b (λ x s. h r x w s)))
