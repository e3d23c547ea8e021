-- Tests that were read, and counted.
use Rattle.std.proofs.Common.{◌≡◌, ◌∙◌, ◌∷◌, ◌++◌, [], ℕ, List, Result, Ok, Err, length, sym, ap, subst}
use Rattle.std.specs.Result.{IsErrAnd}
use Rattle.lang_tree.specs.Tree as tree
use Rattle.lang_tree.specs.View.{statements_of, statement_of}
use Rattle.lang_tree.specs.View as view
use Rattle.lang_tree.specs.declared.stmt.Stmt.{Stmt}
use Rattle.source_grammar.specs.Grammar.{Expr}
use Rattle.source_tree.specs.Expressions.{Expression}
use Rattle.source_tree.specs.Statements.{LoopKind, Statements, loop}
use Rattle.source_core.specs.Core as core
use Rattle.source_core.specs.Core.{condition_of, core_in}
use Rattle.source_meaning.specs.declared.fault.FunctionFault.{FunctionFault}
use Rattle.source_meaning.specs.Results.{◌>>=◌}
use Rattle.source_meaning.specs.Names.{State}
use Rattle.source_meaning.specs.Limits.{counted}
use Rattle.source_meaning.specs.Statements.{read_condition, prelude_of, one}
use Rattle.source_names.specs.Gives.{Gives}
use Rattle.source_reader.specs.Answers.{Answers}
use Rattle.source_reader.specs.declared.stop.Stop.{Stop}
use Rattle.source_reader.specs.declared.stop.Stop.TheVariants.{Fault}
use Rattle.source_change.specs.Tests.{IsTest}
use Rattle.source_change.specs.Pushed.{WasPushed}
use Rattle.source_change.specs.declared.conditions.Test.{Test}
use Rattle.source_change.proofs.lists.Deeds.{length_deeds, statements_append}
use Rattle.source_change.proofs.results.Answered.{err_given, given_then, ok_then}
use Rattle.base_integers.specs.declared.integers.Integers.{Integers}

-- there are as many deeds before a test
pub test_length : (integers : Integers) (n line : ℕ) (t : Test) (x : Expression) → IsTest t (condition_of integers n line x)
    → length t.prelude.items ≡ length (condition_of integers n line x).prelude
test_length integers n line t x i = sym (length_deeds t.prelude.items) ∙ ap length i.prelude

module _ (integers : Integers) (line : ℕ → ℕ) (n : ℕ) where
  -- a test was read, and this is so
  abbrev pub Tests : (at : ℕ) → Type 0 → Test → Expression → Type 0
  Tests at R t x = IsTest t (condition_of integers n (line at) x) × R

  -- what comes behind a test whose statements were counted
  pub counted_then : {C D : Type 0} (Was : C → D → Type 0) (R : Type 0) (at : ℕ) (g : ℕ → ℕ) (k now : State) (e : Expr) (t : Test)
      (r : Result C Stop) (f : Expression → State → Result D FunctionFault)
      → Answers (Tests at R) (Ok t) (read_condition integers line n k at e)
      → Gives {A = Unit {0}} (λ _. now) (Ok tt) (counted at (g (length t.prelude.items)) k)
      → ((x : Expression) → IsTest t (condition_of integers n (line at) x) → R → Answers Was r (f x now))
      → Answers Was r (read_condition integers line n k at e >>= λ x. counted at (g (prelude_of integers line n at x)) k >>= λ now. f x now)
  counted_then Was R at g k now e t r f a c h =
      ok_then (Tests at R) Was t r (read_condition integers line n k at e) (λ x. counted at (g
      (prelude_of integers line n at x)) k >>= λ now. f x now) a
      (λ x i. let P : ℕ → Type 0 = λ m. Gives {A = Unit {0}} (λ _. now) (Ok tt) (counted at (g m) k) in
      given_then {A = Unit {0}} (λ _. now) Was tt r (counted at (g (prelude_of integers line n at x)) k) (λ now. f x now)
      (subst P (test_length integers n (line at) t x i.0) c) (h x i.0 i.1))

  -- the fault of their count
  pub counted_fault : {C D : Type 0} (Was : C → D → Type 0) (R : Type 0) (at : ℕ) (g : ℕ → ℕ) (k now : State) (e : Expr) (t : Test)
      (r : Result C Stop) (s : FunctionFault) (f : Expression → State → Result D FunctionFault)
      → Answers (Tests at R) (Ok t) (read_condition integers line n k at e)
      → Gives {A = Unit {0}} (λ _. now) (Err s) (counted at (g (length t.prelude.items)) k) → IsErrAnd r (λ t. t ≡ Fault s)
      → Answers Was r (read_condition integers line n k at e >>= λ x. counted at (g (prelude_of integers line n at x)) k >>= λ now. f x now)
  counted_fault Was R at g k now e t r s f a c h =
      ok_then (Tests at R) Was t r (read_condition integers line n k at e) (λ x. counted at (g
      (prelude_of integers line n at x)) k >>= λ now. f x now) a
      (λ x i. let P : ℕ → Type 0 = λ m. Gives {A = Unit {0}} (λ _. now) (Err s) (counted at (g m) k) in
      err_given {A = Unit {0}} (λ _. now) Was r s (counted at (g (prelude_of integers line n at x)) k) (λ now. f x now) h
      (subst P (test_length integers n (line at) t x i.0) c))

-- a loop that was pushed
pub loop_made : (integers : Integers) (n line at : ℕ) (kind : LoopKind) (made : tree.LoopKind) (x : Expression) (t : Test)
    (b : tree.Statements)
    (body : Statements) (st : Stmt) (o p : List Stmt) → p ≡ o ++ (st ∷ [])
    → statement_of st ≡ tree.loop made (view.condition_of t.cond) b at
    → made ≡ core.kind_of integers n kind (condition_of integers n line x).prelude
    → IsTest t (condition_of integers n line x) → b ≡ core_in integers n body → at ≡ line
    → WasPushed integers n o p (one (loop kind x body line))
loop_made integers n line at kind made x t b body st o p e s m i q l =
    let all : statement_of st ≡ tree.loop (core.kind_of integers n kind (condition_of integers n line x).prelude)
    (condition_of integers n line x).condition
    (core_in integers n body) line =
    s ∙ ap (λ m. tree.loop m (view.condition_of t.cond) b at) m
    ∙ ap (λ d. tree.loop (core.kind_of integers n kind (condition_of integers n line x).prelude) d b at) i.condition
    ∙ ap (λ b. tree.loop (core.kind_of integers n kind (condition_of integers n line x).prelude)
    (condition_of integers n line x).condition b at) q
    ∙ ap (tree.loop (core.kind_of integers n kind (condition_of integers n line x).prelude) (condition_of integers n line x).condition
    (core_in integers n body)) l in
    ap statements_of e ∙ statements_append o (st ∷ [])
    ∙ ap (λ s. core.followed_by (statements_of o) (tree.cons s tree.nil)) all
