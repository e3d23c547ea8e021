-- What is met in the tokens of an expression is what its shape's marks give.
use Rattle.std.proofs.Common.{◌≡◌, ◌∙◌, ◌++◌, ℕ, List, [], ◌∷◌, Option, Some, None, refl, sym, ap}
use Rattle.lang_grammar.specs.Grammar.{Op, or_op, and_op, compare_op, plus_op, minus_op, times_op}
use Rattle.lang_grammar.specs.Grammar.{Prefix, negative, positive, negation, sign_of, infix_sign, right_paren, Token, token}
use Rattle.lang_grammar.specs.Grammar.{Expr, number, variable, free, grouped, prefixed, joined, spell_expr}
use Rattle.lang_meaning.specs.Names.{place_of}
use Rattle.lang_groups.specs.declared.mark.Mark.{Mark}
use Rattle.lang_groups.specs.declared.mark.Mark.TheVariants.{Opens, Closes, Compares, Parts}
use Rattle.lang_groups.specs.Shapes.{Shape, marks_of}
use Rattle.lang_groups.specs.Machine.{State, taken_all}
use Rattle.lang_groups.proofs.runs.Takes.{taken_append}
use Rattle.flow_transitions.specs.declared.grouping.Walk.{Walk}
use Rattle.flow_transitions.specs.declared.grouping.turn.Turn.TheVariants.{Takes}
use Rattle.flow_transitions.specs.AutoGroups.{at_place, joined_by, shape_of}
use Rattle.flow_transitions.specs.AutoWalk.{named, op_turn, turn_of, turned, walked}

-- tokens behind others
pub walked_append : (names : List (List ℕ)) (ts us : List Token) (w : Walk)
    → walked names (ts ++ us) w ≡ walked names us (walked names ts w)
walked_append names [] us w = refl
walked_append names (token k a ∷ ts) us w = walked_append names ts us (turned (turn_of names k) w)

-- what has been met behind marks of an expression
abbrev pub with_marks : List Mark → Walk → Walk
with_marks ms w = record w { collector = taken_all ms w.collector }

marks_append : (ms ns : List Mark) (w : Walk) → with_marks (ms ++ ns) w ≡ with_marks ns (with_marks ms w)
marks_append ms ns w = ap (λ (c : State). record w { collector = c }) (taken_append ms ns w.collector)

-- a name, a sign before one side, and a sign between two
name_marks : (o : Option ℕ) (w : Walk) → turned (named o) w ≡ with_marks (marks_of (at_place o)) w
name_marks (Some x) w = refl
name_marks None w = refl

prefix_passes : (names : List (List ℕ)) (p : Prefix) (w : Walk) → turned (turn_of names (sign_of p)) w ≡ w
prefix_passes names negative w = refl
prefix_passes names positive w = refl
prefix_passes names negation w = refl

joins : (o : Op) (s t : Shape) (w : Walk)
    → with_marks (marks_of t) (turned (op_turn o) (with_marks (marks_of s) w)) ≡ with_marks (marks_of (joined_by o s t)) w
joins or_op s t w = sym (marks_append (marks_of s) (Parts ∷ marks_of t) w)
joins and_op s t w = sym (marks_append (marks_of s) (Parts ∷ marks_of t) w)
joins (compare_op r) s t w = sym (marks_append (marks_of s) (Compares ∷ marks_of t) w)
joins plus_op s t w = sym (marks_append (marks_of s) (marks_of t) w)
joins minus_op s t w = sym (marks_append (marks_of s) (marks_of t) w)
joins times_op s t w = sym (marks_append (marks_of s) (marks_of t) w)

-- the tokens of an expression
pub spells : (names : List (List ℕ)) (e : Expr) (w : Walk)
    → walked names (spell_expr e) w ≡ with_marks (marks_of (shape_of names e)) w
spells names (number n a) w = refl
spells names (variable x a) w = name_marks (place_of x names) w
spells names (free a b c) w = refl
spells names (grouped a e b) w =
    let opened : Walk = turned (Takes Opens) w in
    walked_append names (spell_expr e) (token right_paren b ∷ []) opened
    ∙ ap (turned (Takes Closes)) (spells names e opened)
    ∙ sym (marks_append (marks_of (shape_of names e)) (Closes ∷ []) opened)
spells names (prefixed p a e) w = ap (walked names (spell_expr e)) (prefix_passes names p w) ∙ spells names e w
spells names (joined e o a f) w =
    walked_append names (spell_expr e) (token (infix_sign o) a ∷ spell_expr f) w
    ∙ ap (walked names (token (infix_sign o) a ∷ spell_expr f)) (spells names e w)
    ∙ spells names f (turned (op_turn o) (with_marks (marks_of (shape_of names e)) w))
    ∙ joins o (shape_of names e) (shape_of names f) w
