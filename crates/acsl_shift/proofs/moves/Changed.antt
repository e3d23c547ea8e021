-- What is read of a change at one place is what is read of it, without its places.
use Rattle.std.proofs.Common.{◌≡◌, ℕ, pos, List, [], length, Ok, refl}
use Rattle.source_grammar.specs.Tokens as g
use Rattle.source_grammar.specs.Tokens.{Token}
use Rattle.source_grammar.specs.Expressions.{Expr, Place, place, no_index, index, Effect, assigns, steps, Update, update, step_before}
use Rattle.source_grammar.specs.Expressions.{spell_update}
use Rattle.source_grammar.specs.Expressions as tree
use Rattle.source_tree.specs.Expressions.{Operation, Expression, number, variable, joined, none, more, plus, minus}
use Rattle.source_tree.specs.Expressions.{times, over, remainder}
use Rattle.source_tree.specs.Statements.{Change}
use Rattle.source_core.specs.Core.{change_deeds}
use Rattle.source_meaning.specs.Results.{◌>>=◌}
use Rattle.source_meaning.specs.Names.{State, variable_of, among}
use Rattle.source_meaning.specs.Limits.{counted}
use Rattle.source_meaning.specs.Expressions.{read, ranged, behind, behind_number}
use Rattle.source_meaning.specs.Changes.{stepped, few, behind_change, right_side, written, affected, evaluated_by, read_element, changed}
use Rattle.source_meaning.specs.Changes.{first_place, read_update}
use Rattle.acsl_shift.specs.Sources.{expression_without, expressions_without, change_without}
use Rattle.acsl_shift.specs.Moves.{moved}
use Rattle.acsl_shift.proofs.moves.Trees.{move_expr, move_subscripts, move_place, move_effect, move_update}
use Rattle.acsl_shift.proofs.moves.Twice.{nowhere}
use Rattle.acsl_shift.proofs.moves.Seen.{Seen, seen_then, seen_limited, seen_counted, from_hidden}
use Rattle.acsl_shift.proofs.moves.Around.{state_without, from_around}
use Rattle.acsl_shift.proofs.moves.Spelled.{spelled_update}
use Rattle.acsl_shift.proofs.moves.Read.{seen_variable, seen_ranged, seen_read, behind_same, behind_number_same}
use Rattle.acsl_shift.proofs.moves.Cores.{behind_change_same, deeds_small, deeds_length}
use Rattle.base_integers.specs.declared.integers.Integers.{Integers}

-- what has been met, and a part by a view
abbrev pub beside : {A B : Type 0} → (A → B) → State × A → State × B
beside view r = (r.0, view r.1)

module _ (integers : Integers) (n line : ℕ) where
  -- the limits of a change
  pub seen_few : {A B : Type 0} (view : A → B) (at : ℕ) (g : Change) (x : A)
      → Seen view (few integers n line at g x) (few integers n 0 0 (change_without g) (view x))
  seen_few view at g x =
      seen_limited view n at (behind_change integers n line g) (behind_change integers n 0 (change_without g)) (change_deeds integers n g)
      (change_deeds integers n (change_without g)) [] [] x (behind_change_same integers n line g) (deeds_small integers n g) refl

  -- a place with 1 more or less
  seen_stepped : (d : g.Direction) (sign h : ℕ) (old : Expression)
      → Seen expression_without (ranged integers line sign h (stepped d sign old))
      (ranged integers 0 0 h (stepped d 0 (expression_without old)))
  seen_stepped g.up sign h old = seen_ranged integers line sign h (joined plus sign old (number (pos 1) sign))
  seen_stepped g.down sign h old = seen_ranged integers line sign h (joined minus sign old (number (pos 1) sign))

  -- an old value and a right side
  seen_joined : (st : State) (o : Operation) (sign : ℕ) (old : Expression) (e : Expr)
      → Seen expression_without (read integers line st e n >>= λ x. ranged integers line sign n (joined o sign old x))
      (read integers 0 (state_without st) (move_expr nowhere e) n >>= λ x. ranged integers 0 0 n (joined o 0 (expression_without old) x))
  seen_joined st o sign old e =
      seen_then expression_without expression_without (read integers line st e n)
      (read integers 0 (state_without st) (move_expr nowhere e) n) _ _
      (seen_read integers line st e n) (λ x. seen_ranged integers line sign n (joined o sign old x))

  -- the right side of an assignment
  seen_right : (st : State) (c : g.Change) (sign : ℕ) (old : Expression) (e : Expr)
      → Seen expression_without (right_side integers n line st c sign old e)
      (right_side integers n 0 (state_without st) c 0 (expression_without old) (move_expr nowhere e))
  seen_right st g.replaces sign old e = seen_read integers line st e n
  seen_right st g.adds sign old e = seen_joined st plus sign old e
  seen_right st g.subtracts sign old e = seen_joined st minus sign old e
  seen_right st g.multiplies sign old e = seen_joined st times sign old e
  seen_right st g.divides sign old e = seen_joined st over sign old e
  seen_right st g.remains sign old e = seen_joined st remainder sign old e

  -- an old value of an element and a right side
  seen_joined_behind : (st : State) (o : Operation) (sign : ℕ) (old : Expression) (e : Expr)
      → Seen expressions_without
      (read integers line st e (behind_number integers line old n) >>= λ x. ranged integers line sign n (joined o sign old x)
      >>= λ y. Ok (more y none))
      (read integers 0 (state_without st) (move_expr nowhere e) (behind_number integers 0 (expression_without old) n)
      >>= λ x. ranged integers 0 0 n (joined o 0 (expression_without old) x) >>= λ y. Ok (more y none))
  seen_joined_behind st o sign old e =
      let k = behind_number integers line old n in
      let l = behind_number integers 0 (expression_without old) n in
      seen_then expression_without expressions_without (read integers line st e k)
      (read integers 0 (state_without st) (move_expr nowhere e) l) _ _
      (from_hidden expression_without (read integers line st e k) (λ z. read integers 0 (state_without st) (move_expr nowhere e) z) k l
      (behind_number_same integers line old n)
      (seen_read integers line st e k)) (λ x.
      seen_then expression_without expressions_without (ranged integers line sign n (joined o sign old x))
      (ranged integers 0 0 n (joined o 0 (expression_without old) (expression_without x))) _ _
      (seen_ranged integers line sign n (joined o sign old x)) (λ y. record { same = refl }))

  -- what is evaluated where an element is written
  seen_written : (st : State) (c : g.Change) (sign : ℕ) (old : Expression) (e : Expr)
      → Seen expressions_without (written integers n line st c sign old e)
      (written integers n 0 (state_without st) c 0 (expression_without old) (move_expr nowhere e))
  seen_written st g.replaces sign old e =
      let k = behind integers line old n in
      let l = behind integers 0 (expression_without old) n in
      seen_then expression_without expressions_without (read integers line st e k)
      (read integers 0 (state_without st) (move_expr nowhere e) l) _ _
      (from_hidden expression_without (read integers line st e k) (λ z. read integers 0 (state_without st) (move_expr nowhere e) z) k l
      (behind_same integers line old n)
      (seen_read integers line st e k)) (λ x. record { same = refl })
  seen_written st g.adds sign old e = seen_joined_behind st plus sign old e
  seen_written st g.subtracts sign old e = seen_joined_behind st minus sign old e
  seen_written st g.multiplies sign old e = seen_joined_behind st times sign old e
  seen_written st g.divides sign old e = seen_joined_behind st over sign old e
  seen_written st g.remains sign old e = seen_joined_behind st remainder sign old e

  -- what is done to a variable
  seen_affected : (st : State) (i at : ℕ) (f : Effect)
      → Seen change_without (affected integers n line st i at f) (affected integers n 0 (state_without st) i 0 (move_effect nowhere f))
  seen_affected st i at (assigns c sign e) =
      seen_then expression_without change_without (right_side integers n line st c sign (variable i at) e)
      (right_side integers n 0 (state_without st) c 0 (variable i 0) (move_expr nowhere e)) _ _ (seen_right st c sign (variable i at) e)
      (λ x. record { same = refl })
  seen_affected st i at (steps d sign) =
      seen_then expression_without change_without (ranged integers line sign n (stepped d sign (variable i at)))
      (ranged integers 0 0 n (stepped d 0 (variable i 0))) _ _ (seen_stepped d sign n (variable i at)) (λ x. record { same = refl })

  -- what is done to an element
  seen_evaluated : (st : State) (old : Expression) (f : Effect)
      → Seen change_without (evaluated_by integers n line st old f)
      (evaluated_by integers n 0 (state_without st) (expression_without old) (move_effect nowhere f))
  seen_evaluated st old (assigns c sign e) =
      seen_then expressions_without change_without (written integers n line st c sign old e)
      (written integers n 0 (state_without st) c 0 (expression_without old) (move_expr nowhere e)) _ _ (seen_written st c sign old e)
      (λ x. record { same = refl })
  seen_evaluated st old (steps d sign) =
      seen_then expression_without change_without (ranged integers line sign n (stepped d sign old))
      (ranged integers 0 0 n (stepped d 0 (expression_without old))) _ _ (seen_stepped d sign n old) (λ x. record { same = refl })

  -- what is done to a place
  pub seen_changed : (st : State) (p : Place) (f : Effect)
      → Seen change_without (changed integers n line st p f)
      (changed integers n 0 (state_without st) (move_place nowhere p) (move_effect nowhere f))
  seen_changed st (place x a no_index) f =
      seen_then (λ i. i) change_without (variable_of x a st) (variable_of x 0 st) _ _ (seen_variable x a st) (λ i. seen_affected st i a f)
  seen_changed st (place x a (index is)) f =
      seen_then expression_without change_without (read_element integers n line st x a is)
      (read_element integers n 0 (state_without st) x 0 (move_subscripts nowhere is)) _ _
      (seen_read integers line st (tree.element x a is) n) (λ old. seen_evaluated st old f)

  -- what is done to a place, among these tokens
  seen_among : (st : State) (ts now : List Token) (p : Place) (f : Effect) → now ≡ moved nowhere ts
      → Seen change_without (changed integers n line (among ts st) p f)
      (changed integers n 0 (among now st) (move_place nowhere p) (move_effect nowhere f))
  seen_among st ts now p f e =
      from_around change_without (changed integers n line (among ts st) p f)
      (λ z. changed integers n 0 z (move_place nowhere p) (move_effect nowhere f)) ts now st e (seen_changed (among ts st) p f)

-- A place's first token is at that one place.
first_is_nowhere : (p : Place) → first_place (move_place nowhere p) ≡ 0
first_is_nowhere (place x a i) = refl

module _ (integers : Integers) (line : ℕ → ℕ) (n : ℕ) where
  -- a change that is read, behind its limits
  seen_counted_change : (st : State) (at : ℕ) (g : Change)
      → Seen (beside change_without)
      (few integers n (line at) at g g >>= λ g. counted at (length (change_deeds integers n g)) st >>= λ st. Ok (st, g))
      (few integers n 0 0 (change_without g) (change_without g) >>= λ g. counted 0 (length (change_deeds integers n g)) st
      >>= λ st. Ok (st, g))
  seen_counted_change st at g =
      seen_then change_without (beside change_without) (few integers n (line at) at g g)
      (few integers n 0 0 (change_without g) (change_without g)) _ _
      (seen_few integers n (line at) change_without at g g) (λ g.
      seen_then (λ x. x) (beside change_without) (counted at (length (change_deeds integers n g)) st)
      (counted 0 (length (change_deeds integers n (change_without g))) st) _ _ (seen_counted at _ _ st (deeds_length integers n g))
      (λ st. record { same = refl }))

  -- a change
  pub seen_update : (st : State) (u : Update)
      → Seen (beside change_without) (read_update integers line n st u) (read_update integers nowhere n st (move_update nowhere u))
  seen_update st (update (place x a i) f) =
      let ts = spell_update (update (place x a i) f) in
      let now = spell_update (move_update nowhere (update (place x a i) f)) in
      seen_then change_without (beside change_without) (changed integers n (line a) (among ts st) (place x a i) f)
      (changed integers n 0 (among now st) (move_place nowhere (place x a i)) (move_effect nowhere f)) _ _
      (seen_among integers n (line a) st ts now (place x a i) f (spelled_update nowhere (update (place x a i) f)).same)
      (λ g. seen_counted_change st a g)
  seen_update st (step_before d at p) =
      let ts = spell_update (step_before d at p) in
      let now = spell_update (move_update nowhere (step_before d at p)) in
      seen_then change_without (beside change_without) (changed integers n (line at) (among ts st) p (steps d at))
      (changed integers n 0 (among now st) (move_place nowhere p) (steps d 0)) _ _
      (seen_among integers n (line at) st ts now p (steps d at) (spelled_update nowhere (step_before d at p)).same)
      (λ g. seen_counted_change st at g)
