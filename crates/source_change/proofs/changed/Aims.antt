-- What is done to places, step by step.
use Rattle.std.proofs.Common.{◌≡◌, ℕ, Option, Some, None, Ok, refl, sym, subst}
use Rattle.source_grammar.specs.Tokens as g
use Rattle.source_grammar.specs.Tokens.{Name}
use Rattle.source_grammar.specs.Grammar.{Expr, Index, no_index, index, place, Effect, assigns, steps}
use Rattle.source_tree.specs.Expressions.{Expression, Operation, variable, joined, none, more, plus, minus, times, over, remainder}
use Rattle.source_tree.specs.Statements.{sets, evaluates}
use Rattle.source_meaning.specs.Results.{◌>>=◌}
use Rattle.source_meaning.specs.Names.{State, variable_of}
use Rattle.source_meaning.specs.Expressions.{read, ranged, behind_number}
use Rattle.source_meaning.specs.Changes.{changed, read_element, stepped}
use Rattle.source_change.specs.Changed.{Aim, a_variable, an_element, old_of, aim, done_to, change_to, joined_by}
use Rattle.source_change.proofs.results.Binds.{bind_assoc, bind_left}
use Rattle.base_integers.specs.declared.integers.Integers.{Integers}

-- a place is resolved before anything is done to it
pub changed_so : (integers : Integers) (n line : ℕ) (st : State) (x : Name) (a : ℕ) (i : Index) (f : Effect)
    → changed integers n line st (place x a i) f ≡ (aim integers n line st x a i >>= λ t. done_to integers n line st t f)
changed_so integers n line st x a no_index f = sym (bind_assoc (variable_of x a st) (λ i. Ok (a_variable i a))
    (λ t. done_to integers n line st t f))
changed_so integers n line st x a (index is) f = sym (bind_assoc (read_element integers n line st x a is) (λ old. Ok (an_element old))
    (λ t. done_to integers n line st t f))

-- a step
pub steps_so : (integers : Integers) (n line : ℕ) (st : State) (t : Aim) (d : g.Direction) (sign : ℕ)
    → done_to integers n line st t (steps d sign) ≡ (ranged integers line sign n (stepped d sign (old_of t)) >>= λ x. Ok
    (change_to t x line))
steps_so integers n line st (a_variable i a) d sign = refl
steps_so integers n line st (an_element old) d sign = refl

-- an assignment by this operation, if there is one
abbrev AssignsBy : (integers : Integers) (n line : ℕ) (st : State) (t : Aim) (c : g.Change) (sign : ℕ) (e : Expr) → Option Operation
    → Type 0
AssignsBy integers n line st t c sign e None = Unit {0}
AssignsBy integers n line st t c sign e (Some o) = done_to integers n line st t (assigns c sign e)
    ≡ (read integers line st e (behind_number integers line (old_of t) n) >>= λ x. ranged integers line sign n (joined o sign
    (old_of t) x) >>= λ y. Ok
    (change_to t y line))

module _ (integers : Integers) (n line : ℕ) (st : State) (sign : ℕ) (e : Expr) where
  to_variable : (i a : ℕ) (o : Operation)
      → ((read integers line st e n >>= λ x. ranged integers line sign n (joined o sign (variable i a) x)) >>= λ y. Ok (sets i y line))
      ≡ (read integers line st e n >>= λ x. ranged integers line sign n (joined o sign (variable i a) x) >>= λ y. Ok (sets i y line))
  to_variable i a o = bind_assoc (read integers line st e n) (λ x. ranged integers line sign n (joined o sign (variable i a) x))
      (λ y. Ok (sets i y line))

  to_element : (old : Expression) (o : Operation)
      → ((read integers line st e (behind_number integers line old n) >>= λ x. ranged integers line sign n
      (joined o sign old x) >>= λ y. Ok (more y none))
      >>= λ es. Ok (evaluates es line))
      ≡ (read integers line st e (behind_number integers line old n) >>= λ x. ranged integers line sign n
      (joined o sign old x) >>= λ y. Ok (evaluates
      (more y none) line))
  to_element old o = bind_left (read integers line st e (behind_number integers line old n))
      (λ x. ranged integers line sign n (joined o sign old x) >>= λ y. Ok (more y none)) (λ es. Ok (evaluates es line))
      (λ x. ranged integers line sign n (joined o sign old x) >>= λ y. Ok (evaluates (more y none) line))
      (λ x. bind_assoc (ranged integers line sign n (joined o sign old x)) (λ y. Ok (more y none)) (λ es. Ok (evaluates es line)))

  assigns_by : (t : Aim) (c : g.Change) → AssignsBy integers n line st t c sign e (joined_by c)
  assigns_by (a_variable i a) g.replaces = tt
  assigns_by (a_variable i a) g.adds = to_variable i a plus
  assigns_by (a_variable i a) g.subtracts = to_variable i a minus
  assigns_by (a_variable i a) g.multiplies = to_variable i a times
  assigns_by (a_variable i a) g.divides = to_variable i a over
  assigns_by (a_variable i a) g.remains = to_variable i a remainder
  assigns_by (an_element old) g.replaces = tt
  assigns_by (an_element old) g.adds = to_element old plus
  assigns_by (an_element old) g.subtracts = to_element old minus
  assigns_by (an_element old) g.multiplies = to_element old times
  assigns_by (an_element old) g.divides = to_element old over
  assigns_by (an_element old) g.remains = to_element old remainder

  -- an assignment by an operation
  pub assigns_so : (t : Aim) (c : g.Change) (o : Operation) → Some o ≡ joined_by c
      → done_to integers n line st t (assigns c sign e)
      ≡ (read integers line st e (behind_number integers line (old_of t) n) >>= λ x. ranged integers line sign n (joined o sign
      (old_of t) x)
      >>= λ y. Ok (change_to t y line))
  assigns_so t c o h = let P : Option Operation → Type 0 = λ p. AssignsBy integers n line st t c sign e p in subst P (sym h)
      (assigns_by t c)
