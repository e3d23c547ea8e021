-- What comes first of an expression, and what it goes on with.
use Rattle.std.proofs.Common.{◌≡◌, ◌∙◌, ◌≤◌, ◌++◌, ℕ, suc, true, false, List, Option, Some, None, refl, ap₂, subst}
use Rattle.std.proofs.Common.{arith, append_assoc}
use Rattle.std.specs.Prelude.{nat_le}
use Rattle.std.proofs.lemmas.Bool.{le-leb, lt-leb, leb-false}
use Rattle.source_grammar.specs.Tokens as g
use Rattle.source_grammar.specs.Tokens.{Name, Direction, Op, Relation, Kind, Token, token, level, relation_level}
use Rattle.source_grammar.specs.View.{plain_kind}
use Rattle.source_grammar.specs.Symbols.{nameless}
use Rattle.source_grammar.specs.Grammar as tree
use Rattle.source_grammar.specs.Grammar.{Expr, Arguments, Subscripts, spell_expr, spell_subscripts, Groups, GoodArguments, GoodSubscripts}
use Rattle.source_grammar.proofs.grammar.Follow.{AfterExpr}
use Rattle.source_meaning.specs.Expressions.{first_of}
use Rattle.source_reader.specs.Reading.{first_kind, first_place, behind_first}
use Rattle.source_expression.specs.declared.signs.Prefix.TheVariants.{Negative, Positive, Negation}
use Rattle.source_expression.specs.declared.signs.Opening.{Opening}
use Rattle.source_expression.specs.declared.signs.Opening.TheVariants as opening
use Rattle.source_expression.specs.Signs.{prefix_of, direction_in, goes_on, is_question, sign_in, opening_in}
use Rattle.source_expression.specs.Joins.{Stops}

-- ---- levels
relation_between : (r : Relation) → (1 ≤ relation_level r) × (relation_level r ≤ 6)
relation_between g.equal = (omega arith, omega arith)
relation_between g.unequal = (omega arith, omega arith)
relation_between g.less = (omega arith, omega arith)
relation_between g.at_most = (omega arith, omega arith)
relation_between g.greater = (omega arith, omega arith)
relation_between g.at_least = (omega arith, omega arith)

-- a sign between two sides has a level from 1 to 6
pub level_between : (o : Op) → (1 ≤ level o) × (level o ≤ 6)
level_between g.or_op = (omega arith, omega arith)
level_between g.and_op = (omega arith, omega arith)
level_between (g.compare_op r) = relation_between r
level_between g.plus_op = (omega arith, omega arith)
level_between g.minus_op = (omega arith, omega arith)
level_between g.times_op = (omega arith, omega arith)
level_between g.over_op = (omega arith, omega arith)
level_between g.remainder_op = (omega arith, omega arith)

-- no sign between two sides is as tight as one before an operand
pub no_operand : {A : Type 0} (o : Op) → 7 ≤ level o → A
no_operand o h = let k = (level_between o).1 in absurd (omega (arith, h, k))

-- ---- what an expression goes on with
-- names and numbers don't count
pub goes_plain : (l : ℕ) (k : Kind) → goes_on l (plain_kind k) ≡ goes_on l k
goes_plain l (g.a_name x) = refl
goes_plain l (g.a_number n) = refl
goes_plain l _ = refl

-- nor for a `?`
pub question_plain : (k : Kind) → is_question (plain_kind k) ≡ is_question k
question_plain (g.a_name x) = refl
question_plain (g.a_number n) = refl
question_plain _ = refl

-- nor for signs
pub sign_plain : (l : ℕ) (k : Kind) → sign_in l (plain_kind k) ≡ sign_in l k
sign_plain l (g.a_name x) = refl
sign_plain l (g.a_number n) = refl
sign_plain l _ = refl

-- nor for where a step goes
pub direction_plain : (k : Kind) → direction_in (plain_kind k) ≡ direction_in k
direction_plain (g.a_name x) = refl
direction_plain (g.a_number n) = refl
direction_plain _ = refl

-- with nothing that stands behind a whole expression
pub after_stops : (l : ℕ) (k : Kind) → AfterExpr k → goes_on l k ≡ false
after_stops l g.semicolon h = refl
after_stops l g.right_paren h = refl
after_stops l g.right_brace h = refl
after_stops l g.right_bracket h = refl
after_stops l g.colon h = refl
after_stops l g.comma h = refl
after_stops l _ h = absurd h

leb_more : (l m n : ℕ) → l ≤ m → nat_le l n ≡ false → nat_le m n ≡ false
leb_more l m n h e = let k = leb-false l n e in lt-leb m n (omega (arith, h, k))

-- a tighter one goes on with less
pub stops_more : (l m : ℕ) (k : Kind) → l ≤ m → goes_on l k ≡ false → goes_on m k ≡ false
stops_more l m (g.infix_sign o) h e = leb_more l m (level o) h e
stops_more l m g.left_paren h e = e
stops_more l m g.left_bracket h e = e
stops_more l m (g.step_sign d) h e = e
stops_more l m _ h e = refl

-- the tightest goes on with no more than any other
pub stops_seven : (l : ℕ) (k : Kind) → goes_on l k ≡ false → goes_on 7 k ≡ false
stops_seven l (g.infix_sign o) e = let m = (level_between o).1 in lt-leb 7 (level o) (omega (arith, m))
stops_seven l g.left_paren e = e
stops_seven l g.left_bracket e = e
stops_seven l (g.step_sign d) e = e
stops_seven l _ e = refl

-- with no sign that is none of its own
pub stops_looser : (l : ℕ) (o : Op) → suc (level o) ≤ l → goes_on l (g.infix_sign o) ≡ false
stops_looser l o h = lt-leb l (level o) (omega (arith, h))

-- where it stops no sign is found
pub stops_signs : (l : ℕ) (k : Kind) → goes_on l k ≡ false → sign_in l k ≡ None
stops_signs l (g.infix_sign o) e = rw e refl
stops_signs l _ e = refl

-- a sign is found that is no looser
pub sign_found : (l : ℕ) (o : Op) → l ≤ level o → sign_in l (g.infix_sign o) ≡ Some o
sign_found l o h = let t : nat_le l (level o) ≡ true = le-leb l (level o) h in rw t refl

-- ---- what comes first
-- the first place of what is spelled
pub first_place_of : (e : Expr) (w : List Token) → first_place (spell_expr e ++ w) ≡ first_of e
first_place_of (tree.joined e o a f) w = rw append_assoc (first_place_of e _)
first_place_of (tree.chosen c a e b f) w = rw append_assoc (first_place_of c _)
first_place_of _ w = refl

-- an expression with no sign above that is looser than 0 has none looser than 1, or is a choice
pub choice_or : (M : Expr → Type 0) (e : Expr) → Groups 0 e → (Groups 1 e → M e)
    → ((c : Expr) (a : ℕ) (f : Expr) (b : ℕ) (h : Expr) → Groups 1 c → Groups 0 f → Groups 0 h → M (tree.chosen c a f b h)) → M e
choice_or M (tree.number v a) q m n = m q
choice_or M (tree.variable x a) q m n = m q
choice_or M (tree.element x a is) q m n = m q
choice_or M (tree.call x a b es c) q m n = m q
choice_or M (tree.stepped_behind x a d b) q m n = m q
choice_or M (tree.stepped_before d a x b) q m n = m q
choice_or M (tree.free a b c) q m n = m q
choice_or M (tree.grouped a e b) q m n = m q
choice_or M (tree.prefixed p a e) q m n = m q
choice_or M (tree.joined e o a f) q m n = m ((level_between o).0, q.1, q.2)
choice_or M (tree.chosen c a e b f) q m n = n c a e b f q.1 q.2 q.3

-- ---- operands
-- how an operand begins; other expressions are none
abbrev pub opening_of : Expr → Opening
opening_of (tree.number v a) = opening.Number
opening_of (tree.variable x a) = opening.Variable
opening_of (tree.element x a is) = opening.Element
opening_of (tree.call x a b es c) = opening.Call
opening_of (tree.stepped_behind x a d b) = opening.SteppedBehind
opening_of (tree.stepped_before d a x b) = opening.SteppedBefore
opening_of (tree.free a b c) = opening.Unknown
opening_of (tree.grouped a e b) = opening.Grouped
opening_of (tree.prefixed g.negative a e) = opening.Prefixed Negative
opening_of (tree.prefixed g.positive a e) = opening.Prefixed Positive
opening_of (tree.prefixed g.negation a e) = opening.Prefixed Negation
opening_of (tree.joined e o a f) = opening.Grouped
opening_of (tree.chosen c a e b f) = opening.Grouped

variable_opens : (x : Name) (k : Kind) → goes_on 7 k ≡ false → opening_in (g.a_name x) (plain_kind k) ≡ Some opening.Variable
variable_opens x g.left_paren h = cc
variable_opens x g.left_bracket h = cc
variable_opens x (g.step_sign d) h = cc
variable_opens x _ h = refl

-- an element has a bracket behind its name
element_opens : (x : Name) (is : Subscripts) (w : List Token)
    → opening_in (g.a_name x) (plain_kind (first_kind (spell_subscripts is ++ w))) ≡ Some opening.Element
element_opens x (tree.last_subscript a e b) w = refl
element_opens x (tree.next_subscript a e b is) w = refl

-- the first two tokens tell how an operand begins
pub opens : (e : Expr) (w : List Token) → Groups 7 e → Stops 7 w
    → opening_in (plain_kind (first_kind (spell_expr e ++ w))) (plain_kind (first_kind (behind_first (spell_expr e ++ w))))
    ≡ Some (opening_of e)
opens (tree.number v a) w h s = refl
opens (tree.variable x a) w h s = variable_opens nameless (first_kind w) s
opens (tree.element x a is) w h s = element_opens nameless is w
opens (tree.call x a b es c) w h s = refl
opens (tree.stepped_behind x a d b) w h s = refl
opens (tree.stepped_before d a x b) w h s = refl
opens (tree.free a b c) w h s = refl
opens (tree.grouped a e b) w h s = refl
opens (tree.prefixed g.negative a e) w h s = refl
opens (tree.prefixed g.positive a e) w h s = refl
opens (tree.prefixed g.negation a e) w h s = refl
opens (tree.joined e o a f) w h s = no_operand o h.0
opens (tree.chosen c a e b f) w h s = absurd (omega (arith, h.0))

-- what has to be shown of the operands that begin so
abbrev pub Case : (Expr → Type 0) → Opening → Type 0
Case M opening.Number = (v a : ℕ) → M (tree.number v a)
Case M opening.Variable = (x : Name) (a : ℕ) → M (tree.variable x a)
Case M opening.Element = (x : Name) (a : ℕ) (is : Subscripts) → GoodSubscripts is → M (tree.element x a is)
Case M opening.SteppedBehind = (x : Name) (a : ℕ) (d : Direction) (b : ℕ) → M (tree.stepped_behind x a d b)
Case M opening.SteppedBefore = (d : Direction) (a : ℕ) (x : Name) (b : ℕ) → M (tree.stepped_before d a x b)
Case M opening.Call = (x : Name) (a b : ℕ) (es : Arguments) (c : ℕ) → GoodArguments es → M (tree.call x a b es c)
Case M opening.Unknown = (a b c : ℕ) → M (tree.free a b c)
Case M opening.Grouped = (a : ℕ) (e : Expr) (b : ℕ) → Groups 0 e → M (tree.grouped a e b)
Case M (opening.Prefixed p) = (a : ℕ) (e : Expr) → Groups 7 e → M (tree.prefixed (prefix_of p) a e)

case_of : (M : Expr → Type 0) (e : Expr) → Groups 7 e → Case M (opening_of e) → M e
case_of M (tree.number v a) h m = m v a
case_of M (tree.variable x a) h m = m x a
case_of M (tree.element x a is) h m = m x a is h
case_of M (tree.call x a b es c) h m = m x a b es c h
case_of M (tree.stepped_behind x a d b) h m = m x a d b
case_of M (tree.stepped_before d a x b) h m = m d a x b
case_of M (tree.free a b c) h m = m a b c
case_of M (tree.grouped a e b) h m = m a e b h
case_of M (tree.prefixed g.negative a e) h m = m a e h
case_of M (tree.prefixed g.positive a e) h m = m a e h
case_of M (tree.prefixed g.negation a e) h m = m a e h
case_of M (tree.joined e o a f) h m = no_operand o h.0
case_of M (tree.chosen c a e b f) h m = absurd (omega (arith, h.0))

-- an operand whose first two tokens are these is one of those that begin so
pub operand_by : (M : Expr → Type 0) (e : Expr) (w : List Token) (j k : Kind) (o : Opening) → Groups 7 e → Stops 7 w
    → j ≡ plain_kind (first_kind (spell_expr e ++ w)) → k ≡ plain_kind (first_kind (behind_first (spell_expr e ++ w)))
    → Some o ≡ opening_in j k → Case M o → M e
operand_by M e w j k o h s p q r m =
    let a : Some o ≡ Some (opening_of e) = r ∙ ap₂ opening_in p q ∙ opens e w h s in
    let b : o ≡ opening_of e = cc in
    case_of M e h (subst (Case M) b m)

-- tokens that begin no operand are none's
pub no_opening : {A : Type 0} (e : Expr) (w : List Token) (j k : Kind) → Groups 7 e → Stops 7 w
    → j ≡ plain_kind (first_kind (spell_expr e ++ w)) → k ≡ plain_kind (first_kind (behind_first (spell_expr e ++ w)))
    → None ≡ opening_in j k → A
no_opening e w j k h s p q r =
    let n : Option Opening = None in
    let a : n ≡ Some (opening_of e) = r ∙ ap₂ opening_in p q ∙ opens e w h s in
    absurd cc
