-- Steps in an expression that is read stand apart.
use Rattle.std.proofs.Common.{ℕ, pos, Bool, true, IsTrue, List, [], ◌∷◌, ◌++◌, ◌+◌, Ok, Option, Some, None}
use Rattle.std.proofs.Common.{refl}
use Rattle.std.specs.Prelude.{◌&&◌}
use Rattle.std.proofs.lemmas.Bool.{and_from}
use Rattle.source_grammar.specs.Tokens as g
use Rattle.source_grammar.specs.Tokens.{Name, Token, token, a_name, a_number, infix_sign, sign_of, left_paren, right_paren, left_bracket}
use Rattle.source_grammar.specs.Tokens.{right_bracket, left_brace, right_brace, comma, question, colon, step_sign}
use Rattle.source_grammar.specs.Grammar.{Expr, Arguments, MoreArguments, no_arguments, arguments, last_argument, next_argument}
use Rattle.source_grammar.specs.Grammar.{last_subscript, next_subscript, Value, one_value, braced, Values, no_values, values, MoreValues}
use Rattle.source_grammar.specs.Grammar.{last_value, last_comma, next_value, spell_expr, spell_arguments, spell_more_arguments}
use Rattle.source_grammar.specs.Grammar.{spell_subscripts, spell_value, spell_values, spell_more_values}
use Rattle.source_grammar.specs.Grammar as tree
use Rattle.source_tree.specs.Expressions.{Expression, Expressions, number, element, negative, more}
use Rattle.source_tree.specs.Expressions.{Extent, Subscripts, no_subscript, subscript}
use Rattle.source_tree.specs.Expressions.{joined, compared, chosen, plus, minus, times, over, remainder}
use Rattle.source_core.specs.Laws.{occurrences, occurrences_in, occurrences_of_indexes, all_steps, all_steps_in, all_steps_of_indexes}
use Rattle.source_core.specs.Laws.{has_no_step, are_steps_certain, are_steps_certain_in, are_steps_certain_of_indexes}
use Rattle.source_core.proofs.expressions.Apart.{occurs_in, passes-none}
use Rattle.source_meaning.specs.Results.{◌>>=◌}
use Rattle.source_meaning.specs.Names.{Thing, State, thing_of, array_of, as_called, passable, stands_once, stepped_of}
use Rattle.source_meaning.specs.Names as names
use Rattle.source_meaning.specs.Expressions.{first_of, rel_of, ranged, as_condition, behind, behind_number, operated}
use Rattle.source_meaning.specs.Expressions.{side, joins_conditions, right_of}
use Rattle.source_meaning.specs.Expressions.{behind_side, prefixed, operand, read, read_subscripts, read_arguments, read_more}
use Rattle.source_meaning.specs.Expressions.{is_array_name, subscript_count, read_value, read_values, read_more_values}
use Rattle.source_meaning.proofs.results.Values.{OnValue, on_bind, on_weaker}
use Rattle.source_meaning.proofs.names.Sound.{Sound, OnFound, IsThing, IsVariable, thing_named, stepped_named, passable_sound}
use Rattle.source_meaning.proofs.names.Counted.{Counted, counted_none, counted_more, counted_then, counted_first, counted_behind}
use Rattle.source_meaning.proofs.names.Counted.{counted_name, is_single, single_named}
use Rattle.source_meaning.proofs.expressions.Over.{anything, either_has, ranged_has, condition_has, side_has, right_has}
use Rattle.base_integers.specs.declared.integers.Integers.{Integers}

-- what is read in a state from these tokens: its variables are counted there, each step is of a variable that stands once around it, and
-- steps are certain
pub record Stands (st : State) (ts : List Token) (counts : ℕ → ℕ) (steps certain : Bool) : Type 0 where
  -- a variable occurs at most as often as its name stands among the tokens
  pub counted : Counted st.variables ts counts
  -- the name of a variable that is stepped stands once around the step
  pub single : IsTrue steps
  -- C comes to each step
  pub sure : IsTrue certain

-- a variable may be stepped
abbrev pub may_step : State → ℕ → Bool
may_step st = λ i. is_single st.variables st.around i

-- an expression
abbrev pub Apart : State → List Token → Expression → Type 0
Apart st ts e = Stands st ts (λ i. occurrences i e) (all_steps (may_step st) e) (are_steps_certain e)

-- expressions together
abbrev pub ApartIn : State → List Token → Expressions → Type 0
ApartIn st ts es = Stands st ts (λ i. occurrences_in i es) (all_steps_in (may_step st) es) (are_steps_certain_in es)

-- indexes together
abbrev pub ApartAt : State → List Token → Subscripts → Type 0
ApartAt st ts is = Stands st ts (λ i. occurrences_of_indexes i is) (all_steps_of_indexes (may_step st) is) (are_steps_certain_of_indexes is)

-- nothing that is counted
pub stands_none : (st : State) (ts : List Token) → Stands st ts (λ i. 0) true true
stands_none st ts = record { counted = counted_none st.variables ts; single = refl; sure = refl }

-- with a token more before it
pub stands_more : {st : State} {ts : List Token} {c : ℕ → ℕ} {s a : Bool} → (t : Token) → Stands st ts c s a → Stands st (t ∷ ts) c s a
stands_more {st = st} {ts = ts} {c = c} t p = record {
  counted = counted_more st.variables t ts c p.counted;
  single = p.single;
  sure = p.sure;
}

-- two parts, one behind the other
pub stands_then : {st : State} {ts us : List Token} {c d : ℕ → ℕ} {s r a b : Bool} → Stands st ts c s a → Stands st us d r b
    → Stands st (ts ++ us) (λ i. c i + d i) (s && r) (a && b)
stands_then {st = st} {ts = ts} {us = us} {c = c} {d = d} {s = s} {r = r} {a = a} {b = b} p q = record {
  counted = counted_then st.variables ts us c d p.counted q.counted;
  single = and_from s r p.single q.single;
  sure = and_from a b p.sure q.sure;
}

-- with tokens behind it
pub stands_first : {st : State} {ts : List Token} {c : ℕ → ℕ} {s a : Bool} → (us : List Token) → Stands st ts c s a
    → Stands st (ts ++ us) c s a
stands_first {st = st} {ts = ts} {c = c} us p = record {
  counted = counted_first st.variables ts us c p.counted;
  single = p.single;
  sure = p.sure;
}

-- or before it
pub stands_behind : {st : State} {ts : List Token} {c : ℕ → ℕ} {s a : Bool} → (us : List Token) → Stands st ts c s a
    → Stands st (us ++ ts) c s a
stands_behind {st = st} {ts = ts} {c = c} us p = record {
  counted = counted_behind st.variables ts us c p.counted;
  single = p.single;
  sure = p.sure;
}

-- what C may pass over has no step
pub stands_passed : (st : State) (ts : List Token) (e : Expression) → Apart (passable st) ts e
    → Stands st ts (λ i. occurrences i e) (all_steps (may_step st) e) (has_no_step e)
stands_passed st ts e p = record { counted = p.counted; single = passes-none (may_step st) e p.single; sure = p.single }

-- a name that is stepped
stands_stepped : (st : State) (x : Name) (at : ℕ) (i : ℕ) → IsVariable x st.variables i → IsTrue (stands_once x.text st.around)
    → Stands st (token (a_name x) at ∷ []) (λ j. occurs_in j i) (may_step st i) true
stands_stepped st x at i k t = record {
  counted = counted_name st.variables x at i k;
  single = single_named st.variables x.text st.around i k.1 t;
  sure = refl;
}

module _ (integers : Integers) (line : ℕ) (st : State) where
  operated_apart : (o : g.Op) (sign h : ℕ) (ts us : List Token) (e f : Expression) → Apart st ts e
      → Apart (right_of (joins_conditions integers line o) st) us f
      → OnValue (Apart st (ts ++ us)) (operated integers line o sign h e f)
  operated_apart g.or_op sign h ts us e f p q = stands_then p (stands_passed st us f q)
  operated_apart g.and_op sign h ts us e f p q = stands_then p (stands_passed st us f q)
  operated_apart (g.compare_op r) sign h ts us e f p q =
      ranged_has integers line (Apart st (ts ++ us)) sign h (compared (rel_of r) sign e f) (stands_then p q)
  operated_apart g.plus_op sign h ts us e f p q =
      ranged_has integers line (Apart st (ts ++ us)) sign h (joined plus sign e f) (stands_then p q)
  operated_apart g.minus_op sign h ts us e f p q =
      ranged_has integers line (Apart st (ts ++ us)) sign h (joined minus sign e f) (stands_then p q)
  operated_apart g.times_op sign h ts us e f p q =
      ranged_has integers line (Apart st (ts ++ us)) sign h (joined times sign e f) (stands_then p q)
  operated_apart g.over_op sign h ts us e f p q =
      ranged_has integers line (Apart st (ts ++ us)) sign h (joined over sign e f) (stands_then p q)
  operated_apart g.remainder_op sign h ts us e f p q =
      ranged_has integers line (Apart st (ts ++ us)) sign h (joined remainder sign e f) (stands_then p q)

  prefixed_apart : (p : g.Prefix) (sign first h : ℕ) (ts : List Token) (e : Expression) → Apart st ts e
      → OnValue (Apart st ts) (prefixed integers line p sign first h e)
  prefixed_apart g.negative sign first h ts e o = ranged_has integers line (Apart st ts) sign h (negative sign e) o
  prefixed_apart g.positive sign first h ts e o = o
  prefixed_apart g.negation sign first h ts e o = on_bind (Apart st ts) (Apart st ts) (as_condition integers line first h e) _
      (condition_has integers line (Apart st ts) first h e o) (λ x p. p)

  operand_apart : (x : Name) (at h : ℕ) (o : Option Thing) → OnFound (IsThing x st.variables) o
      → OnValue (Apart st (token (a_name x) at ∷ [])) (operand integers line at h o)
  operand_apart x at h None k = tt
  operand_apart x at h (Some (names.variable i)) k =
      record { counted = counted_name st.variables x at i k; single = refl; sure = refl }
  operand_apart x at h (Some (names.array extents)) k = tt
  operand_apart x at h (Some (names.constant v)) k =
      ranged_has integers line (Apart st (token (a_name x) at ∷ [])) at h (number v at) (stands_none st (token (a_name x) at ∷ []))

  -- an argument that is read, and those behind it
  one_more_apart : (e : Expr) (es : MoreArguments) (h : ℕ) → OnValue (Apart st (spell_expr e)) (read integers line st e h)
      → ((k : ℕ) → OnValue (ApartIn st (spell_more_arguments es)) (read_more integers line st es k))
      → OnValue (ApartIn st (spell_expr e ++ spell_more_arguments es))
      (read integers line st e h >>= λ x. read_more integers line st es (behind integers line x h) >>= λ xs. Ok (more x xs))
  one_more_apart e es h r q =
      let P : Expressions → Type 0 = ApartIn st (spell_expr e ++ spell_more_arguments es) in
      on_bind (Apart st (spell_expr e)) P (read integers line st e h) _ r
      (λ x o. on_bind (ApartIn st (spell_more_arguments es)) P (read_more integers line st es (behind integers line x h)) _
      (q (behind integers line x h)) (λ xs p. stands_then o p))

  -- an argument that is the name of an array, and those behind it
  passed_apart : (e : Expr) (es : MoreArguments) (h : ℕ) → OnValue (ApartIn st (spell_more_arguments es)) (read_more integers line st es h)
      → OnValue (ApartIn st (spell_expr e ++ spell_more_arguments es)) (read_more integers line st es h)
  passed_apart e es h q =
      on_weaker (ApartIn st (spell_more_arguments es)) (ApartIn st (spell_expr e ++ spell_more_arguments es))
      (read_more integers line st es h) q (λ xs p. stands_behind (spell_expr e) p)

module _ (integers : Integers) (line : ℕ) where
  mutual
    -- the expression that is read
    pub read_apart : (st : State) → Sound st → (e : Expr) (h : ℕ) → OnValue (Apart st (spell_expr e)) (read integers line st e h)
    read_apart st s (tree.number v a) h =
        ranged_has integers line (Apart st (token (a_number v) a ∷ [])) a h (number (pos v) a) (stands_none st (token (a_number v) a ∷ []))
    read_apart st s (tree.variable x a) h = operand_apart integers line st x a h (thing_of x st) (thing_named x st s)
    read_apart st s (tree.element x a is) h =
        let P : Expression → Type 0 = Apart st (token (a_name x) a ∷ spell_subscripts is) in
        on_bind (λ extents. Unit {0}) P (array_of x a (subscript_count is) st) _ (anything (array_of x a (subscript_count is) st))
        (λ extents u. on_bind (ApartAt st (spell_subscripts is)) P (read_subscripts integers line st a extents is h) _
        (subscripts_apart st s a extents is h) (λ ys o. stands_more (token (a_name x) a) o))
    read_apart st s (tree.stepped_behind x a d b) h =
        let P : Expression → Type 0 = Apart st (token (a_name x) a ∷ token (step_sign d) b ∷ []) in
        on_bind (λ i. IsVariable x st.variables i × IsTrue (stands_once x.text st.around)) P (stepped_of x a b st) _
        (stepped_named x a b st s) (λ i k. stands_first (token (step_sign d) b ∷ []) (stands_stepped st x a i k.0 k.1))
    read_apart st s (tree.stepped_before d a x b) h =
        let P : Expression → Type 0 = Apart st (token (step_sign d) a ∷ token (a_name x) b ∷ []) in
        on_bind (λ i. IsVariable x st.variables i × IsTrue (stands_once x.text st.around)) P (stepped_of x b a st) _
        (stepped_named x b a st s) (λ i k. stands_more (token (step_sign d) a) (stands_stepped st x b i k.0 k.1))
    read_apart st s (tree.call x a b es c) h =
        let P : Expression → Type 0 = Apart st (spell_expr (tree.call x a b es c)) in
        on_bind (λ y. Unit {0}) P (as_called a (thing_of x st) a) _ (anything (as_called a (thing_of x st) a))
        (λ y u. on_bind (ApartIn st (spell_arguments es)) P (read_arguments integers line st es h) _ (arguments_apart st s es h)
        (λ xs o. stands_more (token (a_name x) a) (stands_more (token left_paren b) (stands_first (token right_paren c ∷ []) o))))
    read_apart st s (tree.free a b c) h = stands_none st (spell_expr (tree.free a b c))
    read_apart st s (tree.grouped a e b) h =
        on_bind (Apart st (spell_expr e)) (Apart st (spell_expr (tree.grouped a e b))) (read integers line st e h) _
        (read_apart st s e h) (λ x o. stands_more (token left_paren a) (stands_first (token right_paren b ∷ []) o))
    read_apart st s (tree.prefixed p a e) h =
        on_bind (Apart st (spell_expr e)) (Apart st (token (sign_of p) a ∷ spell_expr e)) (read integers line st e h) _
        (read_apart st s e h)
        (λ x o. prefixed_apart integers line st p a (first_of e) h (token (sign_of p) a ∷ spell_expr e) x
        (stands_more (token (sign_of p) a) o))
    read_apart st s (tree.joined e o a f) h =
        let b = joins_conditions integers line o in
        let us : List Token = token (infix_sign o) a ∷ spell_expr f in
        let P : Expression → Type 0 = Apart st (spell_expr e ++ us) in
        let E : Expression → Type 0 = Apart st (spell_expr e) in
        let F : Expression → Type 0 = Apart (right_of b st) (spell_expr f) in
        on_bind E P (read integers line st e h) _ (read_apart st s e h)
        (λ x p. on_bind E P (side integers line b (first_of e) h x) _ (side_has integers line E b (first_of e) h x p)
        (λ x p. on_bind F P (read integers line (right_of b st) f (behind_side integers line b x h)) _
        (right_has (λ t. OnValue (Apart t (spell_expr f)) (read integers line t f (behind_side integers line b x h))) b st
        (read_apart (passable st) (passable_sound st s) f (behind_side integers line b x h))
        (read_apart st s f (behind_side integers line b x h)))
        (λ y q. on_bind F P (side integers line b (first_of f) (behind_side integers line b x h) y) _
        (side_has integers line F b (first_of f) (behind_side integers line b x h) y q)
        (λ y q. operated_apart integers line st o a h (spell_expr e) us x y p (stands_more (token (infix_sign o) a) q)))))
    read_apart st s (tree.chosen c a e b f) h =
        let P : Expression → Type 0 = Apart st (spell_expr (tree.chosen c a e b f)) in
        let C : Expression → Type 0 = Apart st (spell_expr c) in
        on_bind C P (read integers line st c h) _ (read_apart st s c h)
        (λ x p. on_bind C P (as_condition integers line (first_of c) h x) _ (condition_has integers line C (first_of c) h x p)
        (λ x p. on_bind (Apart (passable st) (spell_expr e)) P (read integers line (passable st) e (behind integers line x h)) _
        (read_apart (passable st) (passable_sound st s) e (behind integers line x h))
        (λ y q. on_bind (Apart (passable st) (spell_expr f)) P
        (read integers line (passable st) f (behind_number integers line y (behind integers line x h))) _
        (read_apart (passable st) (passable_sound st s) f (behind_number integers line y (behind integers line x h)))
        (λ z r. ranged_has integers line P a h (chosen a x y z)
        (stands_then p (stands_more (token question a)
        (stands_then (stands_passed st (spell_expr e) y q)
        (stands_more (token colon b) (stands_passed st (spell_expr f) z r)))))))))

    -- the indexes that are read
    subscripts_apart : (st : State) → Sound st → (a : ℕ) (extents : List Extent) (is : tree.Subscripts) (h : ℕ)
        → OnValue (ApartAt st (spell_subscripts is)) (read_subscripts integers line st a extents is h)
    subscripts_apart st s a [] is h = tt
    subscripts_apart st s a (x ∷ xs) (last_subscript b e c) h =
        let P : Subscripts → Type 0 = ApartAt st (spell_subscripts (last_subscript b e c)) in
        on_bind (Apart st (spell_expr e)) P (read integers line st e h) _ (read_apart st s e h)
        (λ i o. on_bind (λ y. Unit {0}) P (ranged integers line b h (element (subscript x b i no_subscript) a)) _
        (anything (ranged integers line b h (element (subscript x b i no_subscript) a)))
        (λ y u. stands_more (token left_bracket b) (stands_then o (stands_none st (token right_bracket c ∷ [])))))
    subscripts_apart st s a (x ∷ xs) (next_subscript b e c is) h =
        let P : Subscripts → Type 0 = ApartAt st (spell_subscripts (next_subscript b e c is)) in
        on_bind (Apart st (spell_expr e)) P (read integers line st e h) _ (read_apart st s e h)
        (λ i o. on_bind (λ y. Unit {0}) P (ranged integers line b h (element (subscript x b i no_subscript) a)) _
        (anything (ranged integers line b h (element (subscript x b i no_subscript) a)))
        (λ y u. on_bind (ApartAt st (spell_subscripts is)) P (read_subscripts integers line st a xs is (behind_number integers line i h)) _
        (subscripts_apart st s a xs is (behind_number integers line i h))
        (λ ys p. stands_more (token left_bracket b) (stands_then o (stands_more (token right_bracket c) p)))))

    -- the arguments that are read
    pub arguments_apart : (st : State) → Sound st → (es : Arguments) (h : ℕ)
        → OnValue (ApartIn st (spell_arguments es)) (read_arguments integers line st es h)
    arguments_apart st s no_arguments h = stands_none st []
    arguments_apart st s (arguments e es) h =
        either_has (ApartIn st (spell_arguments (arguments e es))) (is_array_name st e) _ _
        (passed_apart integers line st e es h (more_apart st s es h))
        (one_more_apart integers line st e es h (read_apart st s e h) (λ k. more_apart st s es k))

    -- and those behind the first
    pub more_apart : (st : State) → Sound st → (es : MoreArguments) (h : ℕ)
        → OnValue (ApartIn st (spell_more_arguments es)) (read_more integers line st es h)
    more_apart st s last_argument h = stands_none st []
    more_apart st s (next_argument a e es) h =
        on_weaker (ApartIn st (spell_expr e ++ spell_more_arguments es)) (ApartIn st (spell_more_arguments (next_argument a e es)))
        (read_more integers line st (next_argument a e es) h)
        (either_has (ApartIn st (spell_expr e ++ spell_more_arguments es)) (is_array_name st e) _ _
        (passed_apart integers line st e es h (more_apart st s es h))
        (one_more_apart integers line st e es h (read_apart st s e h) (λ k. more_apart st s es k)))
        (λ xs p. stands_more (token comma a) p)

  mutual
    -- a value that is read
    value_apart : (st : State) → Sound st → (v : Value) (h : ℕ) → OnValue (Apart st (spell_value v)) (read_value integers line st v h)
    value_apart st s (one_value e) h = read_apart st s e h
    value_apart st s (braced a vs b) h =
        on_bind (ApartIn st (spell_values vs)) (Apart st (spell_value (braced a vs b))) (read_values integers line st vs h) _
        (values_apart st s vs h) (λ xs o. stands_more (token left_brace a) (stands_first (token right_brace b ∷ []) o))

    -- the values that are read
    pub values_apart : (st : State) → Sound st → (vs : Values) (h : ℕ)
        → OnValue (ApartIn st (spell_values vs)) (read_values integers line st vs h)
    values_apart st s no_values h = stands_none st []
    values_apart st s (values v vs) h =
        let P : Expressions → Type 0 = ApartIn st (spell_value v ++ spell_more_values vs) in
        on_bind (Apart st (spell_value v)) P (read_value integers line st v h) _ (value_apart st s v h)
        (λ x o. on_bind (ApartIn st (spell_more_values vs)) P (read_more_values integers line st vs (behind integers line x h)) _
        (more_values_apart st s vs (behind integers line x h)) (λ xs p. stands_then o p))

    -- and those behind the first
    more_values_apart : (st : State) → Sound st → (vs : MoreValues) (h : ℕ)
        → OnValue (ApartIn st (spell_more_values vs)) (read_more_values integers line st vs h)
    more_values_apart st s last_value h = stands_none st []
    more_values_apart st s (last_comma a) h = stands_none st (token comma a ∷ [])
    more_values_apart st s (next_value a v vs) h =
        let P : Expressions → Type 0 = ApartIn st (spell_more_values (next_value a v vs)) in
        on_bind (Apart st (spell_value v)) P (read_value integers line st v h) _ (value_apart st s v h)
        (λ x o. on_bind (ApartIn st (spell_more_values vs)) P (read_more_values integers line st vs (behind integers line x h)) _
        (more_values_apart st s vs (behind integers line x h)) (λ xs p. stands_more (token comma a) (stands_then o p)))
