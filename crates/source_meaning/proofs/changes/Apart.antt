-- Steps in a change that is read stand apart.
use Rattle.std.proofs.Common.{◌≤◌, ◌++◌, ℕ, true, IsTrue, List, ◌∷◌, Ok, refl, arith}
use Rattle.std.proofs.lemmas.Bool.{and_from}
use Rattle.source_grammar.specs.Tokens as g
use Rattle.source_grammar.specs.Tokens.{Name, Token, token, a_name, change_sign}
use Rattle.source_grammar.specs.Grammar as tree
use Rattle.source_grammar.specs.Grammar.{Expr, Place, place, no_index, index, Effect, assigns, steps, spell_expr, spell_place, spell_effect}
use Rattle.source_tree.specs.Expressions.{Operation, Expression, Expressions, variable, joined, none, more, plus, minus, times, over}
use Rattle.source_tree.specs.Expressions.{remainder}
use Rattle.source_tree.specs.Statements.{Change, sets}
use Rattle.source_core.specs.Laws.{all_steps, are_steps_certain}
use Rattle.source_core.specs.RunLaws.{is_change_apart}
use Rattle.source_meaning.specs.Results.{◌>>=◌}
use Rattle.source_meaning.specs.Names.{State, among, variable_of}
use Rattle.source_meaning.specs.Expressions.{read, ranged, behind, behind_number}
use Rattle.source_meaning.specs.Changes.{stepped, right_side, written, affected, evaluated_by, read_element, changed}
use Rattle.source_meaning.proofs.results.Values.{OnValue, on_bind, on_weaker}
use Rattle.source_meaning.proofs.names.Sound.{Sound, IsVariable, variable_named, among_sound}
use Rattle.source_meaning.proofs.names.Counted.{standing, standing_then, counted_name}
use Rattle.source_meaning.proofs.expressions.Over.{ranged_has}
use Rattle.source_meaning.proofs.expressions.Apart.{Apart, ApartIn, may_step, stands_more, stands_then, read_apart}
use Rattle.source_meaning.proofs.expressions.Whole.{apart_beside, stands_within, one_apart, apart_together, apart_set, apart_changed}
use Rattle.base_integers.specs.declared.integers.Integers.{Integers}

-- an old value and 1
stepped_apart : (st : State) (us : List Token) (d : g.Direction) (sign : ℕ) (old : Expression) → Apart st us old
    → Apart st us (stepped d sign old)
stepped_apart st us d sign old p = by d where
  by : (d : g.Direction) → Apart st us (stepped d sign old)
  by g.up = record {
    counted = λ i x k. let l = p.counted i x k in omega (arith, l);
    single = and_from (all_steps (may_step st) old) true p.single refl;
    sure = and_from (are_steps_certain old) true p.sure refl;
  }
  by g.down = record {
    counted = λ i x k. let l = p.counted i x k in omega (arith, l);
    single = and_from (all_steps (may_step st) old) true p.single refl;
    sure = and_from (are_steps_certain old) true p.sure refl;
  }

module _ (integers : Integers) (n line : ℕ) (st : State) (s : Sound st) (ts : List Token) where
  abbrev ChangeApart : Change → Type 0
  ChangeApart g = IsTrue (is_change_apart g)

  expression_apart : (e : Expr) (h : ℕ) → OnValue (Apart (among ts st) (spell_expr e)) (read integers line (among ts st) e h)
  expression_apart e h = read_apart integers line (among ts st) (among_sound ts st s) e h

  -- the tokens of the change have room for these
  abbrev HasRoom : List Token → Type 0
  HasRoom us = (x : List ℕ) → standing x us ≤ standing x ts

  -- ---- a variable
  module _ (x : Name) (a var : ℕ) (k : IsVariable x st.variables var) where
    abbrev SetsApart : Expression → Type 0
    SetsApart e = IsTrue (is_change_apart (sets var e line))

    operation : (o : Operation) (c : g.Change) (sign : ℕ) (e : Expr)
        → HasRoom (token (a_name x) a ∷ token (change_sign c) sign ∷ spell_expr e)
        → OnValue SetsApart
        (read integers line (among ts st) e n >>= λ y. ranged integers line sign n (joined o sign (variable var a) y))
    operation o c sign e w =
        on_bind (Apart (among ts st) (spell_expr e)) SetsApart (read integers line (among ts st) e n) _ (expression_apart e n)
        (λ y p. ranged_has integers line SetsApart sign n (joined o sign (variable var a) y)
        (apart_changed st ts var o sign a y line (stands_within ts
        (apart_beside (among ts st) (token (a_name x) a) (token (change_sign c) sign) (spell_expr e) var y
        (counted_name st.variables x a var k) p) w)))

    right_apart : (c : g.Change) (sign : ℕ) (e : Expr) → HasRoom (token (a_name x) a ∷ token (change_sign c) sign ∷ spell_expr e)
        → OnValue SetsApart (right_side integers n line (among ts st) c sign (variable var a) e)
    right_apart g.replaces sign e w =
        on_weaker (Apart (among ts st) (spell_expr e)) SetsApart (read integers line (among ts st) e n) (expression_apart e n)
        (λ y p. apart_set st ts var y line (stands_within ts
        (apart_beside (among ts st) (token (a_name x) a) (token (change_sign g.replaces) sign) (spell_expr e) var y
        (counted_name st.variables x a var k) p) w))
    right_apart g.adds sign e w = operation plus g.adds sign e w
    right_apart g.subtracts sign e w = operation minus g.subtracts sign e w
    right_apart g.multiplies sign e w = operation times g.multiplies sign e w
    right_apart g.divides sign e w = operation over g.divides sign e w
    right_apart g.remains sign e w = operation remainder g.remains sign e w

    stepped_alone : (d : g.Direction) (sign : ℕ) → SetsApart (stepped d sign (variable var a))
    stepped_alone g.up sign = refl
    stepped_alone g.down sign = refl

    affected_apart : (f : Effect) → HasRoom (token (a_name x) a ∷ spell_effect f)
        → OnValue ChangeApart (affected integers n line (among ts st) var a f)
    affected_apart (assigns c sign e) w =
        on_bind SetsApart ChangeApart (right_side integers n line (among ts st) c sign (variable var a) e) _ (right_apart c sign e w)
        (λ y p. p)
    affected_apart (steps d sign) w = on_bind SetsApart ChangeApart (ranged integers line sign n (stepped d sign (variable var a))) _
        (ranged_has integers line SetsApart sign n (stepped d sign (variable var a)) (stepped_alone d sign)) (λ y p. p)

  -- ---- an element, whose old value was read from these tokens
  module _ (us : List Token) (old : Expression) (o : Apart (among ts st) us old) where
    with : (make : Operation) (c : g.Change) (sign : ℕ) (e : Expr)
        → OnValue (ApartIn (among ts st) (us ++ token (change_sign c) sign ∷ spell_expr e))
        (read integers line (among ts st) e (behind_number integers line old n)
        >>= λ y. ranged integers line sign n (joined make sign old y) >>= λ z. Ok (more z none))
    with make c sign e =
        let vs : List Token = us ++ token (change_sign c) sign ∷ spell_expr e in
        let P : Expressions → Type 0 = ApartIn (among ts st) vs in
        on_bind (Apart (among ts st) (spell_expr e)) P (read integers line (among ts st) e (behind_number integers line old n)) _
        (expression_apart e (behind_number integers line old n))
        (λ y p. on_bind (Apart (among ts st) vs) P (ranged integers line sign n (joined make sign old y)) _
        (ranged_has integers line (Apart (among ts st) vs) sign n (joined make sign old y)
        (stands_then o (stands_more (token (change_sign c) sign) p)))
        (λ z q. one_apart (among ts st) vs z q))

    written_apart : (c : g.Change) (sign : ℕ) (e : Expr)
        → OnValue (ApartIn (among ts st) (us ++ token (change_sign c) sign ∷ spell_expr e))
        (written integers n line (among ts st) c sign old e)
    written_apart g.replaces sign e =
        on_bind (Apart (among ts st) (spell_expr e)) (ApartIn (among ts st) (us ++ token (change_sign g.replaces) sign ∷ spell_expr e))
        (read integers line (among ts st) e (behind integers line old n)) _ (expression_apart e (behind integers line old n))
        (λ y p. stands_then o (stands_more (token (change_sign g.replaces) sign) (one_apart (among ts st) (spell_expr e) y p)))
    written_apart g.adds sign e = with plus g.adds sign e
    written_apart g.subtracts sign e = with minus g.subtracts sign e
    written_apart g.multiplies sign e = with times g.multiplies sign e
    written_apart g.divides sign e = with over g.divides sign e
    written_apart g.remains sign e = with remainder g.remains sign e

    evaluated_apart : (f : Effect) → HasRoom (us ++ spell_effect f)
        → OnValue ChangeApart (evaluated_by integers n line (among ts st) old f)
    evaluated_apart (assigns c sign e) w =
        on_bind (ApartIn (among ts st) (us ++ token (change_sign c) sign ∷ spell_expr e)) ChangeApart
        (written integers n line (among ts st) c sign old e) _ (written_apart c sign e)
        (λ xs p. apart_together st ts xs line (stands_within ts p w))
    evaluated_apart (steps d sign) w =
        on_bind (Apart (among ts st) us) ChangeApart (ranged integers line sign n (stepped d sign old)) _
        (ranged_has integers line (Apart (among ts st) us) sign n (stepped d sign old) (stepped_apart (among ts st) us d sign old o))
        (λ y p. apart_together st ts (more y none) line (stands_within ts (one_apart (among ts st) us y p)
        (λ x. let l = standing_then x us (spell_effect (steps d sign)) in let m = w x in omega (arith, l, m))))

  -- the change of a place, among tokens with room for its own
  pub changed_apart : (p : Place) (f : Effect) → ((x : List ℕ) → standing x (spell_place p ++ spell_effect f) ≤ standing x ts)
      → OnValue (λ g. IsTrue (is_change_apart g)) (changed integers n line (among ts st) p f)
  changed_apart (place x a no_index) f w =
      on_bind (IsVariable x st.variables) ChangeApart (variable_of x a (among ts st)) _
      (variable_named x a (among ts st) (among_sound ts st s)) (λ i k. affected_apart x a i k f w)
  changed_apart (place x a (index is)) f w =
      on_bind (Apart (among ts st) (spell_expr (tree.element x a is))) ChangeApart (read_element integers n line (among ts st) x a is) _
      (expression_apart (tree.element x a is) n)
      (λ old o. evaluated_apart (spell_expr (tree.element x a is)) old o f w)
