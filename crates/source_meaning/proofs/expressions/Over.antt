-- The variables of an expression that is read are those of the function.
use Rattle.std.proofs.Common.{◌≤◌, ◌<◌, ℕ, pos, Bool, true, false, cond, IsTrue, List, [], ◌∷◌, length, Result, Ok, Err, Option, Some, None}
use Rattle.std.proofs.Common.{refl, arith}
use Rattle.std.specs.Prelude.{◌&&◌}
use Rattle.std.proofs.lemmas.Bool.{lt-ltb, and_from}
use Rattle.source_grammar.specs.Tokens as g
use Rattle.source_grammar.specs.Tokens.{Name}
use Rattle.source_grammar.specs.Grammar.{Expr, Arguments, MoreArguments, no_arguments, arguments, last_argument, next_argument}
use Rattle.source_grammar.specs.Grammar.{last_subscript, next_subscript, Value, one_value, braced, Values, no_values, values, MoreValues}
use Rattle.source_grammar.specs.Grammar.{last_value, last_comma, next_value}
use Rattle.source_grammar.specs.Grammar as tree
use Rattle.source_tree.specs.Expressions.{Expression, number, element, negative, more}
use Rattle.source_tree.specs.Expressions.{Extent, no_subscript, subscript}
use Rattle.source_tree.specs.Expressions.{joined, compared, chosen, plus, minus, times, over, remainder}
use Rattle.source_core.specs.Laws.{is_over, are_over, are_indexes_over}
use Rattle.source_core.specs.Elaborated.{elaborated, tested}
use Rattle.source_core.specs.Fits.{fits, tested_fits}
use Rattle.source_meaning.specs.declared.fault.FunctionFault.{FunctionFault}
use Rattle.source_meaning.specs.declared.fault.FunctionFault.TheVariants.{BigNumber}
use Rattle.source_meaning.specs.Results.{◌>>=◌}
use Rattle.source_meaning.specs.Names.{Thing, State, thing_of, stepped_of, array_of, as_called, passable}
use Rattle.source_meaning.specs.Names as names
use Rattle.source_meaning.specs.Expressions.{first_of, rel_of, ranged, as_condition, behind, behind_number, operated, joins_conditions}
use Rattle.source_meaning.specs.Expressions.{side, right_of}
use Rattle.source_meaning.specs.Expressions.{behind_side, prefixed, operand, read, read_subscripts, read_arguments, read_more}
use Rattle.source_meaning.specs.Expressions.{is_array_name, subscript_count, read_value, read_values, read_more_values}
use Rattle.source_meaning.proofs.results.Values.{OnValue, on_bind, on_provided}
use Rattle.source_meaning.proofs.names.Sound.{Sound, IsBelow, OnFound, thing_below, stepped_below, passable_sound}
use Rattle.base_integers.specs.declared.integers.Integers.{Integers}

-- what is read has any value
pub anything : {A : Type 0} (r : Result A FunctionFault) → OnValue (λ x. Unit {0}) r
anything (Ok x) = tt
anything (Err e) = tt

-- either of two readings has what holds of both
pub either_has : {A : Type 0} (P : A → Type 0) (b : Bool) (r q : Result A FunctionFault) → OnValue P r → OnValue P q
    → OnValue P (cond b r q)
either_has P true r q h k = h
either_has P false r q h k = k

-- the right side of an operation has what holds where C may pass over it and where it doesn't
pub right_has : (P : State → Type 0) (b : Bool) (st : State) → P (passable st) → P st → P (right_of b st)
right_has P true st p q = p
right_has P false st p q = q

module _ (integers : Integers) (line : ℕ) where
  -- an expression whose numbers are in their ranges has what holds of it
  pub ranged_has : (P : Expression → Type 0) (sign h : ℕ) (e : Expression) → P e → OnValue P (ranged integers line sign h e)
  ranged_has P sign h e p = on_provided P (fits (elaborated integers line e h)) (BigNumber sign) e (λ t. p)

  -- so has one that may be a condition
  pub condition_has : (P : Expression → Type 0) (first h : ℕ) (e : Expression) → P e → OnValue P (as_condition integers line first h e)
  condition_has P first h e p = on_provided P (tested_fits (tested (elaborated integers line e h))) (BigNumber first) e (λ t. p)

  -- and a side of an operation
  pub side_has : (P : Expression → Type 0) (b : Bool) (first h : ℕ) (e : Expression) → P e → OnValue P (side integers line b first h e)
  side_has P true first h e p = condition_has P first h e p
  side_has P false first h e p = p

-- no variables but the first n
abbrev Over : ℕ → Expression → Type 0
Over n e = IsTrue (is_over n e)

module _ (integers : Integers) (n line : ℕ) where
  operated_over : (o : g.Op) (sign h : ℕ) (e f : Expression) → Over n e → Over n f → OnValue (Over n) (operated integers line o sign h e f)
  operated_over o sign h e f p q = by o (and_from (is_over n e) (is_over n f) p q) where
    by : (o : g.Op) → IsTrue (is_over n e && is_over n f) → OnValue (Over n) (operated integers line o sign h e f)
    by g.or_op t = t
    by g.and_op t = t
    by (g.compare_op r) t = ranged_has integers line (Over n) sign h (compared (rel_of r) sign e f) t
    by g.plus_op t = ranged_has integers line (Over n) sign h (joined plus sign e f) t
    by g.minus_op t = ranged_has integers line (Over n) sign h (joined minus sign e f) t
    by g.times_op t = ranged_has integers line (Over n) sign h (joined times sign e f) t
    by g.over_op t = ranged_has integers line (Over n) sign h (joined over sign e f) t
    by g.remainder_op t = ranged_has integers line (Over n) sign h (joined remainder sign e f) t

  prefixed_over : (p : g.Prefix) (sign first h : ℕ) (e : Expression) → Over n e → OnValue (Over n) (prefixed integers line p sign first h e)
  prefixed_over g.negative sign first h e o = ranged_has integers line (Over n) sign h (negative sign e) o
  prefixed_over g.positive sign first h e o = o
  prefixed_over g.negation sign first h e o = on_bind (Over n) (Over n) (as_condition integers line first h e) _
      (condition_has integers line (Over n) first h e o)
      (λ x p. p)

module _ (integers : Integers) (n line : ℕ) where
  operand_over : (at h m : ℕ) (o : Option Thing) → m ≤ n → OnFound (IsBelow m) o → OnValue (Over n) (operand integers line at h o)
  operand_over at h m None l b = tt
  operand_over at h m (Some (names.variable i)) l b = lt-ltb i n (omega (arith, l, b))
  operand_over at h m (Some (names.array extents)) l b = tt
  operand_over at h m (Some (names.constant v)) l b = ranged_has integers line (Over n) at h (number v at) refl

module _ (integers : Integers) (n line : ℕ) where
  -- an argument that is read, and those behind it
  one_more_over : (st : State) (e : Expr) (es : MoreArguments) (h : ℕ) → OnValue (Over n) (read integers line st e h)
      → ((k : ℕ) → OnValue (λ xs. IsTrue (are_over n xs)) (read_more integers line st es k))
      → OnValue (λ xs. IsTrue (are_over n xs))
      (read integers line st e h >>= λ x. read_more integers line st es (behind integers line x h) >>= λ xs. Ok (more x xs))
  one_more_over st e es h r q = on_bind (Over n) (λ xs. IsTrue (are_over n xs)) (read integers line st e h) _ r
      (λ x o. on_bind (λ xs. IsTrue (are_over n xs)) (λ xs. IsTrue (are_over n xs))
      (read_more integers line st es (behind integers line x h)) _
      (q (behind integers line x h)) (λ xs p. and_from (is_over n x) (are_over n xs) o p))

  mutual
    -- the expression that is read
    pub read_over : (st : State) → Sound st → length st.variables ≤ n → (e : Expr) (h : ℕ)
        → OnValue (λ x. IsTrue (is_over n x)) (read integers line st e h)
    read_over st s few (tree.number v a) h = ranged_has integers line (Over n) a h (number (pos v) a) refl
    read_over st s few (tree.variable x a) h = operand_over integers n line a h (length st.variables) (thing_of x st) few
        (thing_below x st s)
    read_over st s few (tree.element x a is) h =
        on_bind (λ extents. Unit {0}) (Over n) (array_of x a (subscript_count is) st) _ (anything (array_of x a (subscript_count is) st))
        (λ extents u. on_bind (λ ys. IsTrue (are_indexes_over n ys)) (Over n) (read_subscripts integers line st a extents is h) _
        (subscripts_over st s few a extents is h) (λ ys o. o))
    read_over st s few (tree.stepped_behind x a d b) h =
        on_bind (λ i. i < length st.variables) (Over n) (stepped_of x a b st) _ (stepped_below x a b st s)
        (λ i l. lt-ltb i n (omega (arith, l, few)))
    read_over st s few (tree.stepped_before d a x b) h =
        on_bind (λ i. i < length st.variables) (Over n) (stepped_of x b a st) _ (stepped_below x b a st s)
        (λ i l. lt-ltb i n (omega (arith, l, few)))
    read_over st s few (tree.call x a b es c) h = on_bind (λ y. Unit {0}) (Over n) (as_called a (thing_of x st) a) _
        (anything (as_called a (thing_of x st) a))
        (λ y u. on_bind (λ xs. IsTrue (are_over n xs)) (Over n) (read_arguments integers line st es h) _
        (arguments_over st s few es h) (λ xs o. o))
    read_over st s few (tree.free a b c) h = refl
    read_over st s few (tree.grouped a e b) h = on_bind (Over n) (Over n) (read integers line st e h) _ (read_over st s few e h) (λ x o. o)
    read_over st s few (tree.prefixed p a e) h = on_bind (Over n) (Over n) (read integers line st e h) _ (read_over st s few e h)
        (λ x o. prefixed_over integers n line p a (first_of e) h x o)
    read_over st s few (tree.joined e o a f) h =
        let b = joins_conditions integers line o in
        on_bind (Over n) (Over n) (read integers line st e h) _ (read_over st s few e h)
        (λ x p. on_bind (Over n) (Over n) (side integers line b (first_of e) h x) _ (side_has integers line (Over n) b (first_of e) h x p)
        (λ x p. on_bind (Over n) (Over n) (read integers line (right_of b st) f (behind_side integers line b x h)) _
        (right_has (λ t. OnValue (Over n) (read integers line t f (behind_side integers line b x h))) b st
        (read_over (passable st) (passable_sound st s) few f (behind_side integers line b x h))
        (read_over st s few f (behind_side integers line b x h)))
        (λ y q. on_bind (Over n) (Over n) (side integers line b (first_of f) (behind_side integers line b x h) y) _
        (side_has integers line (Over n) b (first_of f) (behind_side integers line b x h) y q)
        (λ y q. operated_over integers n line o a h x y p q))))
    read_over st s few (tree.chosen c a e b f) h =
        on_bind (Over n) (Over n) (read integers line st c h) _ (read_over st s few c h)
        (λ x p. on_bind (Over n) (Over n) (as_condition integers line (first_of c) h x) _
        (condition_has integers line (Over n) (first_of c) h x p)
        (λ x p. on_bind (Over n) (Over n) (read integers line (passable st) e (behind integers line x h)) _
        (read_over (passable st) (passable_sound st s) few e (behind integers line x h))
        (λ y q. on_bind (Over n) (Over n) (read integers line (passable st) f (behind_number integers line y (behind integers line x h))) _
        (read_over (passable st) (passable_sound st s) few f (behind_number integers line y (behind integers line x h)))
        (λ z r. ranged_has integers line (Over n) a h (chosen a x y z)
        (and_from (is_over n x) (is_over n y && is_over n z) p (and_from (is_over n y) (is_over n z) q r))))))

    -- the indexes that are read
    subscripts_over : (st : State) → Sound st → length st.variables ≤ n → (a : ℕ) (extents : List Extent) (is : tree.Subscripts) (h : ℕ)
        → OnValue (λ ys. IsTrue (are_indexes_over n ys)) (read_subscripts integers line st a extents is h)
    subscripts_over st s few a [] is h = tt
    subscripts_over st s few a (x ∷ xs) (last_subscript b e c) h =
        on_bind (Over n) (λ ys. IsTrue (are_indexes_over n ys)) (read integers line st e h) _ (read_over st s few e h)
        (λ i o. on_bind (λ y. Unit {0}) (λ ys. IsTrue (are_indexes_over n ys))
        (ranged integers line b h (element (subscript x b i no_subscript) a)) _
        (anything (ranged integers line b h (element (subscript x b i no_subscript) a))) (λ y u. and_from (is_over n i) true o refl))
    subscripts_over st s few a (x ∷ xs) (next_subscript b e c is) h =
        on_bind (Over n) (λ ys. IsTrue (are_indexes_over n ys)) (read integers line st e h) _ (read_over st s few e h)
        (λ i o. on_bind (λ y. Unit {0}) (λ ys. IsTrue (are_indexes_over n ys))
        (ranged integers line b h (element (subscript x b i no_subscript) a)) _
        (anything (ranged integers line b h (element (subscript x b i no_subscript) a)))
        (λ y u. on_bind (λ ys. IsTrue (are_indexes_over n ys)) (λ ys. IsTrue (are_indexes_over n ys))
        (read_subscripts integers line st a xs is (behind_number integers line i h)) _
        (subscripts_over st s few a xs is (behind_number integers line i h)) (λ ys p. and_from (is_over n i) (are_indexes_over n ys) o p)))

    -- the arguments that are read
    pub arguments_over : (st : State) → Sound st → length st.variables ≤ n → (es : Arguments) (h : ℕ)
        → OnValue (λ xs. IsTrue (are_over n xs)) (read_arguments integers line st es h)
    arguments_over st s few no_arguments h = refl
    arguments_over st s few (arguments e es) h =
        either_has (λ xs. IsTrue (are_over n xs)) (is_array_name st e) _ _ (more_over st s few es h)
        (one_more_over st e es h (read_over st s few e h) (λ k. more_over st s few es k))

    -- and those behind the first
    pub more_over : (st : State) → Sound st → length st.variables ≤ n → (es : MoreArguments) (h : ℕ)
        → OnValue (λ xs. IsTrue (are_over n xs)) (read_more integers line st es h)
    more_over st s few last_argument h = refl
    more_over st s few (next_argument a e es) h =
        either_has (λ xs. IsTrue (are_over n xs)) (is_array_name st e) _ _ (more_over st s few es h)
        (one_more_over st e es h (read_over st s few e h) (λ k. more_over st s few es k))

  mutual
    -- a value that is read
    value_over : (st : State) → Sound st → length st.variables ≤ n → (v : Value) (h : ℕ)
        → OnValue (λ x. IsTrue (is_over n x)) (read_value integers line st v h)
    value_over st s few (one_value e) h = read_over st s few e h
    value_over st s few (braced a vs b) h = on_bind (λ xs. IsTrue (are_over n xs)) (Over n) (read_values integers line st vs h) _
        (values_over st s few vs h) (λ xs o. o)

    -- the values that are read
    pub values_over : (st : State) → Sound st → length st.variables ≤ n → (vs : Values) (h : ℕ)
        → OnValue (λ xs. IsTrue (are_over n xs)) (read_values integers line st vs h)
    values_over st s few no_values h = refl
    values_over st s few (values v vs) h =
        on_bind (Over n) (λ xs. IsTrue (are_over n xs)) (read_value integers line st v h) _ (value_over st s few v h)
        (λ x o. on_bind (λ xs. IsTrue (are_over n xs)) (λ xs. IsTrue (are_over n xs))
        (read_more_values integers line st vs (behind integers line x h)) _
        (more_values_over st s few vs (behind integers line x h)) (λ xs p. and_from (is_over n x) (are_over n xs) o p))

    -- and those behind the first
    more_values_over : (st : State) → Sound st → length st.variables ≤ n → (vs : MoreValues) (h : ℕ)
        → OnValue (λ xs. IsTrue (are_over n xs)) (read_more_values integers line st vs h)
    more_values_over st s few last_value h = refl
    more_values_over st s few (last_comma a) h = refl
    more_values_over st s few (next_value a v vs) h =
        on_bind (Over n) (λ xs. IsTrue (are_over n xs)) (read_value integers line st v h) _ (value_over st s few v h)
        (λ x o. on_bind (λ xs. IsTrue (are_over n xs)) (λ xs. IsTrue (are_over n xs))
        (read_more_values integers line st vs (behind integers line x h)) _
        (more_values_over st s few vs (behind integers line x h)) (λ xs p. and_from (is_over n x) (are_over n xs) o p))
