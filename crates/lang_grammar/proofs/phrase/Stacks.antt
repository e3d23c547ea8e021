-- The stacks of the machine at an expression: at the bottom what goes on with it or ends it, above that parts of operands alone.
use Rattle.std.specs.Prelude.{not}
use Rattle.std.proofs.Common.{◌≡◌, ◌∙◌, ◌++◌, ℕ, List, [], ◌∷◌, Option, Some, None, refl, sym, ap, Bool, true, false, subst}
use Rattle.lang_grammar.specs.Grammar.{Kind, Op, plus_op, minus_op, infix_sign, a_name, a_number, bang, left_paren, right_paren, semicolon}
use Rattle.lang_grammar.specs.Grammar.{nondet_word}
use Rattle.lang_grammar.specs.Machine.{until_paren, until_semicolon, opening, closing, Goal, operand, more, only, Entry, takes, skips}
use Rattle.lang_grammar.specs.Machine.{stops, prefix_entry}
use Rattle.lang_grammar.specs.Machine.{operand_entry, more_entry, only_entry, entry, step}
use Rattle.lang_grammar.specs.Reaches.{expression_start, is_infix, ends_before}

-- a part of an operand
abbrev pub IsInner : Goal → Type 0
IsInner (operand d) = Unit {0}
IsInner (more until_paren d) = Unit {0}
IsInner (only opening) = Unit {0}
IsInner (only closing) = Unit {0}
IsInner _ = ⊥

-- each goal is a part of an operand
abbrev pub AllInner : List Goal → Type 0
AllInner [] = Unit {0}
AllInner (g ∷ gs) = IsInner g × AllInner gs

-- a stack at an expression: its end at the bottom, and parts of operands above it
abbrev pub IsPending : List Goal → Type 0
IsPending [] = ⊥
IsPending (g ∷ []) = g ≡ more until_semicolon 0
IsPending (g ∷ h ∷ gs) = IsInner g × IsPending (h ∷ gs)

abbrev EntersInner : Entry → Type 0
EntersInner (takes next) = AllInner next
EntersInner skips = ⊥
EntersInner stops = Unit {0}

prefix_inner : (o : Op) (d : ℕ) → EntersInner (prefix_entry o d)
prefix_inner plus_op d = (tt, tt)
prefix_inner minus_op d = (tt, tt)
prefix_inner _ d = tt

operand_inner : (d : ℕ) (k : Kind) → EntersInner (operand_entry d k)
operand_inner d (a_name x) = tt
operand_inner d (a_number n) = tt
operand_inner d (infix_sign o) = prefix_inner o d
operand_inner d bang = (tt, tt)
operand_inner d left_paren = (tt, (tt, tt))
operand_inner d nondet_word = (tt, (tt, tt))
operand_inner d _ = tt

more_inner : (d : ℕ) (k : Kind) → EntersInner (more_entry until_paren d k)
more_inner d (infix_sign o) = (tt, (tt, tt))
more_inner d right_paren = tt
more_inner d _ = tt

opening_inner : (k : Kind) → EntersInner (only_entry opening k)
opening_inner left_paren = tt
opening_inner _ = tt

closing_inner : (k : Kind) → EntersInner (only_entry closing k)
closing_inner right_paren = tt
closing_inner _ = tt

inner : (g : Goal) (k : Kind) → IsInner g → EntersInner (entry g k)
inner (operand d) k h = operand_inner d k
inner (more until_paren d) k h = more_inner d k
inner (only opening) k h = opening_inner k
inner (only closing) k h = closing_inner k
inner _ k h = absurd h

pending_over : (ns : List Goal) (h : Goal) (gs : List Goal) → AllInner ns → IsPending (h ∷ gs) → IsPending (ns ++ h ∷ gs)
pending_over [] h gs i p = p
pending_over (n ∷ []) h gs i p = (i.0, p)
pending_over (n ∷ m ∷ ns) h gs i p = (i.0, pending_over (m ∷ ns) h gs i.1 p)

-- what follows a sign behind a whole expression
infix_step : (k : Kind) (next : List Goal) → is_infix k ≡ true → step (more until_semicolon 0 ∷ []) k ≡ Some next → next ≡ expression_start
infix_step (infix_sign o) next h e = cc
infix_step _ next h e = cc

-- what else may stand there leaves nothing
pub end_step : (k : Kind) (next : List Goal) → is_infix k ≡ false → step (more until_semicolon 0 ∷ []) k ≡ Some next → next ≡ []
end_step (infix_sign o) next h e = cc
end_step semicolon next h e = cc
end_step _ next h e = cc

-- a sign after a whole expression leaves an operand and its end to come
pub sign_steps : (k : Kind) → is_infix k ≡ true → step (more until_semicolon 0 ∷ []) k ≡ Some expression_start
sign_steps (infix_sign o) h = refl
sign_steps _ h = cc

not_false : (b : Bool) → not b ≡ false → b ≡ true
not_false true e = refl
not_false false e = cc

-- A token that does not end the expression leaves such a stack again.
pub pending_step : (gs next : List Goal) (k : Kind) → IsPending gs → ends_before gs k ≡ false → step gs k ≡ Some next → IsPending next
pending_step [] next k p e h = absurd p
pending_step (g ∷ []) next k p e h =
    let i : next ≡ expression_start = infix_step k next (not_false (is_infix k) e) (ap (λ (x : Goal). step (x ∷ []) k) (sym p) ∙ h) in
    subst IsPending (sym i) (tt, refl)
pending_step (g ∷ f ∷ gs) next k p e h = on_entry (entry g k) (inner g k p.0) h where
  on_entry : (x : Entry) → EntersInner x → elim x as (λ x. Option (List Goal))
      [ takes ns ↦ Some (ns ++ f ∷ gs) | skips ↦ step (f ∷ gs) k | stops ↦ None ] ≡ Some next → IsPending next
  on_entry (takes ns) i q = let j : ns ++ f ∷ gs ≡ next = cc in subst IsPending j (pending_over ns f gs i p.1)
  on_entry skips i q = absurd i
  on_entry stops i q = cc

-- Where one goal is left, it is that of the end.
pub left_alone : (g : Goal) → IsPending (g ∷ []) → g ≡ more until_semicolon 0
left_alone g p = p

-- the stack at the start of an expression is such a one
pub start_pending : IsPending expression_start
start_pending = (tt, refl)
