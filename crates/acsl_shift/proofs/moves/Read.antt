-- What is read of an expression at one place is what is read of it, without its places.
use Rattle.std.proofs.Common.{◌≡◌, ◌∙◌, ◌&&◌, Bool, true, false, ℕ, suc, pos, List, [], ◌∷◌, length, nat_eq, Option, Some, None, Ok, refl}
use Rattle.std.proofs.Common.{sym}
use Rattle.std.proofs.Common.{ap, subst}
use Rattle.source_grammar.specs.Tokens as g
use Rattle.source_grammar.specs.Tokens.{Name, Op, Prefix, Token}
use Rattle.source_grammar.specs.Expressions.{Expr, Arguments, MoreArguments, no_arguments, arguments, last_argument, next_argument}
use Rattle.source_grammar.specs.Expressions.{last_subscript, next_subscript}
use Rattle.source_grammar.specs.Grammar.{Value, one_value, braced, Values, no_values, values, MoreValues}
use Rattle.source_grammar.specs.Grammar.{last_value, last_comma, next_value}
use Rattle.source_grammar.specs.Expressions as tree
use Rattle.source_tree.specs.Expressions.{Expression, number, element, negative, more}
use Rattle.source_tree.specs.Expressions.{joined, compared, chosen, plus, minus, times, over}
use Rattle.source_tree.specs.Expressions.{remainder, Extent, no_subscript, subscript}
use Rattle.source_core.specs.Elaborated.{Elaborated, Numbered, elaborated, tested}
use Rattle.source_core.specs.Fits.{fits, tested_fits, result_fits, condition_fits}
use Rattle.source_meaning.specs.declared.fault.FunctionFault.TheVariants as fault
use Rattle.source_meaning.specs.Results.{◌>>=◌}
use Rattle.source_meaning.specs.Names.{State, Thing, thing_of, as_variable, as_array, as_called, variable_of, array_of, passable}
use Rattle.source_meaning.specs.Names.{stands_once, stepped_of, among}
use Rattle.source_meaning.specs.Names as names
use Rattle.source_meaning.specs.Expressions.{first_of, rel_of, ranged, as_condition, behind, behind_number, operated, joins_conditions}
use Rattle.source_meaning.specs.Expressions.{side, subscript_count, is_array_name, operand, read_subscripts, read_value, read_values}
use Rattle.source_meaning.specs.Expressions.{read_more_values, right_of}
use Rattle.source_meaning.specs.Expressions.{behind_side, prefixed, read, read_arguments, read_more}
use Rattle.acsl_shift.specs.Sources.{expression_without, expressions_without, subscripts_without}
use Rattle.acsl_shift.specs.Moves.{moved}
use Rattle.acsl_shift.proofs.moves.Trees.{move_expr, move_arguments, move_more_arguments, move_subscripts, move_value, move_values}
use Rattle.acsl_shift.proofs.moves.Trees.{move_more_values}
use Rattle.acsl_shift.proofs.moves.Twice.{nowhere}
use Rattle.acsl_shift.proofs.moves.Deeds.{bare_fit}
use Rattle.acsl_shift.proofs.moves.Elaborated.{elaborated_bare, numbered_bare}
use Rattle.acsl_shift.proofs.moves.Seen.{Seen, Same, seen_then, seen_provided, seen_if, from_hidden}
use Rattle.acsl_shift.proofs.moves.Around.{around_without, state_without, once_same, from_around}
use Rattle.base_integers.specs.declared.integers.Integers.{Integers}

-- ---- names
-- the variable of a name
pub seen_variable : (x : Name) (at : ℕ) (st : State) → Same (variable_of x at st) (variable_of x 0 st)
seen_variable x at st = by_thing (thing_of x st) where
  by_thing : (t : Option Thing) → Same (as_variable at t) (as_variable 0 t)
  by_thing None = record { same = refl }
  by_thing (Some (names.variable i)) = record { same = refl }
  by_thing (Some (names.array extents)) = record { same = refl }
  by_thing (Some (names.constant v)) = record { same = refl }

-- the variable of a name that is stepped
pub seen_stepped : (x : Name) (at sign : ℕ) (st : State) → Same (stepped_of x at sign st) (stepped_of x 0 0 (state_without st))
seen_stepped x at sign st =
    seen_then (λ i. i) (λ i. i) (variable_of x at st) (variable_of x 0 st) _ _ (seen_variable x at st) (λ i.
    seen_provided (λ i. i) (stands_once x.text st.around) (stands_once x.text (around_without st.around)) (fault.SideEffect sign) i
    (sym (once_same x.text st.around)))

-- the extents of an array
pub seen_array : (x : Name) (at count : ℕ) (st : State) → Same (array_of x at count st) (array_of x 0 count st)
seen_array x at count st = by_thing (thing_of x st) where
  by_thing : (t : Option Thing) → Same (as_array at count t) (as_array 0 count t)
  by_thing None = record { same = refl }
  by_thing (Some (names.variable i)) = record { same = refl }
  by_thing (Some (names.array extents)) =
      seen_provided (λ x. x) (nat_eq (length extents) count) (nat_eq (length extents) count) (fault.WrongKind at) extents refl
  by_thing (Some (names.constant v)) = record { same = refl }

-- a name that is called
pub seen_called : {A B : Type 0} (view : A → B) (at : ℕ) (t : Option Thing) (x : A) → Seen view (as_called at t x) (as_called 0 t (view x))
seen_called view at None x = record { same = refl }
seen_called view at (Some t) x = record { same = refl }

-- The first token of an expression is at that one place.
pub first_nowhere : (e : Expr) → first_of (move_expr nowhere e) ≡ 0
first_nowhere (tree.number v a) = refl
first_nowhere (tree.variable x a) = refl
first_nowhere (tree.element x a is) = refl
first_nowhere (tree.call x a b es c) = refl
first_nowhere (tree.stepped_behind x a g b) = refl
first_nowhere (tree.stepped_before g a x b) = refl
first_nowhere (tree.free a b c) = refl
first_nowhere (tree.grouped a e b) = refl
first_nowhere (tree.prefixed p a e) = refl
first_nowhere (tree.joined e o a f) = first_nowhere e
first_nowhere (tree.chosen c a e b f) = first_nowhere c

-- An element has as many indexes there.
count_nowhere : (is : tree.Subscripts) → subscript_count (move_subscripts nowhere is) ≡ subscript_count is
count_nowhere (last_subscript a e b) = refl
count_nowhere (next_subscript a e b is) = ap suc (count_nowhere is)

-- An expression is the name of an array alone there where it is here.
array_nowhere : (st : State) (e : Expr) → is_array_name (state_without st) (move_expr nowhere e) ≡ is_array_name st e
array_nowhere st (tree.number v a) = refl
array_nowhere st (tree.variable x a) = refl
array_nowhere st (tree.element x a is) = refl
array_nowhere st (tree.call x a b es c) = refl
array_nowhere st (tree.stepped_behind x a g b) = refl
array_nowhere st (tree.stepped_before g a x b) = refl
array_nowhere st (tree.free a b c) = refl
array_nowhere st (tree.grouped a e b) = refl
array_nowhere st (tree.prefixed p a e) = refl
array_nowhere st (tree.joined e o a f) = refl
array_nowhere st (tree.chosen c a e b f) = refl

module _ (integers : Integers) (line : ℕ) where
  -- ---- ranges
  -- the numbers of an expression
  fits_same : (e : Expression) (h : ℕ) → fits (elaborated integers line e h) ≡ fits (elaborated integers 0 (expression_without e) h)
  fits_same e h =
      ap (λ (t : Bool). t && result_fits (elaborated integers line e h).result) (sym (bare_fit (elaborated integers line e h).prelude))
      ∙ ap (λ (x : Elaborated). fits x) (elaborated_bare integers line e h)

  -- those of an expression as a condition
  tested_same : (e : Expression) (h : ℕ) → tested_fits (tested (elaborated integers line e h)) ≡ tested_fits
      (tested (elaborated integers 0 (expression_without e) h))
  tested_same e h =
      ap (λ (t : Bool). t && condition_fits (tested (elaborated integers line e h)).condition)
      (sym (bare_fit (elaborated integers line e h).prelude))
      ∙ ap (λ (x : Elaborated). tested_fits (tested x)) (elaborated_bare integers line e h)

  -- an operation
  pub seen_ranged : (sign h : ℕ) (e : Expression)
      → Seen expression_without (ranged integers line sign h e) (ranged integers 0 0 h (expression_without e))
  seen_ranged sign h e = seen_provided expression_without _ _ (fault.BigNumber sign) e (fits_same e h)

  -- a condition whose first token is at one place
  pub seen_condition : (first now h : ℕ) (e : Expression) → now ≡ 0
      → Seen expression_without (as_condition integers line first h e) (as_condition integers 0 now h (expression_without e))
  seen_condition first now h e i =
      let P : ℕ → Type 0 = λ z. Seen expression_without (as_condition integers line first h e)
      (as_condition integers 0 z h (expression_without e)) in
      subst P (sym i) (seen_provided expression_without _ _ (fault.BigNumber first) e (tested_same e h))

  -- ---- hidden variables
  -- behind an expression
  pub behind_same : (e : Expression) (h : ℕ) → behind integers line e h ≡ behind integers 0 (expression_without e) h
  behind_same e h = ap (λ (x : Elaborated). x.next) (elaborated_bare integers line e h)

  -- as a number
  pub behind_number_same : (e : Expression) (h : ℕ) → behind_number integers line e h ≡ behind_number integers 0 (expression_without e) h
  behind_number_same e h = ap (λ (x : Numbered). x.next) (numbered_bare integers line _ _ (elaborated_bare integers line e h))

  -- as a side
  behind_side_same : (c : Bool) (e : Expression) (h : ℕ)
      → behind_side integers line c e h ≡ behind_side integers 0 c (expression_without e) h
  behind_side_same true e h = behind_same e h
  behind_side_same false e h = behind_number_same e h

  -- ---- signs
  -- a side
  seen_side : (c : Bool) (first now h : ℕ) (e : Expression) → now ≡ 0
      → Seen expression_without (side integers line c first h e) (side integers 0 c now h (expression_without e))
  seen_side true first now h e i = seen_condition first now h e i
  seen_side false first now h e i = record { same = refl }

  -- a sign between two
  seen_operated : (o : Op) (sign h : ℕ) (e f : Expression)
      → Seen expression_without (operated integers line o sign h e f)
      (operated integers 0 o 0 h (expression_without e) (expression_without f))
  seen_operated g.or_op sign h e f = record { same = refl }
  seen_operated g.and_op sign h e f = record { same = refl }
  seen_operated (g.compare_op r) sign h e f = seen_ranged sign h (compared (rel_of r) sign e f)
  seen_operated g.plus_op sign h e f = seen_ranged sign h (joined plus sign e f)
  seen_operated g.minus_op sign h e f = seen_ranged sign h (joined minus sign e f)
  seen_operated g.times_op sign h e f = seen_ranged sign h (joined times sign e f)
  seen_operated g.over_op sign h e f = seen_ranged sign h (joined over sign e f)
  seen_operated g.remainder_op sign h e f = seen_ranged sign h (joined remainder sign e f)

  -- a sign before one
  seen_prefixed : (p : Prefix) (sign first now h : ℕ) (e : Expression) → now ≡ 0
      → Seen expression_without (prefixed integers line p sign first h e) (prefixed integers 0 p 0 now h (expression_without e))
  seen_prefixed g.negative sign first now h e i = seen_ranged sign h (negative sign e)
  seen_prefixed g.positive sign first now h e i = record { same = refl }
  seen_prefixed g.negation sign first now h e i =
      seen_then expression_without expression_without (as_condition integers line first h e)
      (as_condition integers 0 now h (expression_without e)) _ _
      (seen_condition first now h e i) (λ x. record { same = refl })

  -- ---- operands
  -- a name as one
  seen_operand : (at h : ℕ) (t : Option Thing)
      → Seen expression_without (operand integers line at h t) (operand integers 0 0 h t)
  seen_operand at h None = record { same = refl }
  seen_operand at h (Some (names.variable i)) = record { same = refl }
  seen_operand at h (Some (names.array extents)) = record { same = refl }
  seen_operand at h (Some (names.constant v)) = seen_ranged at h (number v at)

  -- the right side of a sign between two
  from_right : (c : Bool) (st : State) (f : Expr) (h : ℕ)
      → ((now : State) → Seen expression_without (read integers line now f h) (read integers 0 (state_without now) (move_expr nowhere f) h))
      → Seen expression_without (read integers line (right_of c st) f h)
      (read integers 0 (right_of c (state_without st)) (move_expr nowhere f) h)
  from_right true st f h same = same (passable st)
  from_right false st f h same = same st

  -- an argument that is evaluated, and those behind it
  argument_then : (st : State) (e : Expr) (es : MoreArguments) (h : ℕ)
      → Seen expression_without (read integers line st e h) (read integers 0 (state_without st) (move_expr nowhere e) h)
      → ((k : ℕ) → Seen expressions_without (read_more integers line st es k)
      (read_more integers 0 (state_without st) (move_more_arguments nowhere es) k))
      → Seen expressions_without
      (read integers line st e h >>= λ x. read_more integers line st es (behind integers line x h) >>= λ xs. Ok (more x xs))
      (read integers 0 (state_without st) (move_expr nowhere e) h
      >>= λ x. read_more integers 0 (state_without st) (move_more_arguments nowhere es) (behind integers 0 x h) >>= λ xs. Ok (more x xs))
  argument_then st e es h same rest =
      seen_then expression_without expressions_without (read integers line st e h)
      (read integers 0 (state_without st) (move_expr nowhere e) h) _ _ same
      (λ x. let k = behind integers line x h in
      let l = behind integers 0 (expression_without x) h in
      seen_then expressions_without expressions_without (read_more integers line st es k)
      (read_more integers 0 (state_without st) (move_more_arguments nowhere es) l) _ _
      (from_hidden expressions_without (read_more integers line st es k)
      (λ z. read_more integers 0 (state_without st) (move_more_arguments nowhere es) z) k l (behind_same x h) (rest k))
      (λ xs. record { same = refl }))

  mutual
    -- an expression
    pub seen_read : (st : State) (e : Expr) (h : ℕ)
        → Seen expression_without (read integers line st e h) (read integers 0 (state_without st) (move_expr nowhere e) h)
    seen_read st (tree.number v a) h = seen_ranged a h (number (pos v) a)
    seen_read st (tree.variable x a) h = seen_operand a h (thing_of x st)
    seen_read st (tree.element x a is) h =
        let n = subscript_count is in
        let m = subscript_count (move_subscripts nowhere is) in
        seen_then (λ i. i) expression_without (array_of x a n st) (array_of x 0 m st) _ _
        (from_hidden (λ i. i) (array_of x a n st) (λ k. array_of x 0 k st) n m (sym (count_nowhere is)) (seen_array x a n st)) (λ extents.
        seen_then subscripts_without expression_without (read_subscripts integers line st a extents is h)
        (read_subscripts integers 0 (state_without st) 0 extents (move_subscripts nowhere is) h) _ _ (seen_subscripts st a extents is h)
        (λ is. record { same = refl }))
    seen_read st (tree.stepped_behind x a d b) h =
        seen_then (λ i. i) expression_without (stepped_of x a b st) (stepped_of x 0 0 (state_without st)) _ _ (seen_stepped x a b st)
        (λ i. record { same = refl })
    seen_read st (tree.stepped_before d a x b) h =
        seen_then (λ i. i) expression_without (stepped_of x b a st) (stepped_of x 0 0 (state_without st)) _ _ (seen_stepped x b a st)
        (λ i. record { same = refl })
    seen_read st (tree.call x a b es c) h =
        seen_then nowhere expression_without (as_called a (thing_of x st) a) (as_called 0 (thing_of x st) 0) _ _
        (seen_called nowhere a (thing_of x st) a) (λ at.
        seen_then expressions_without expression_without (read_arguments integers line st es h)
        (read_arguments integers 0 (state_without st) (move_arguments nowhere es) h) _ _
        (seen_arguments st es h) (λ es. record { same = refl }))
    seen_read st (tree.free a b c) h = record { same = refl }
    seen_read st (tree.grouped a e b) h =
        seen_then expression_without expression_without (read integers line st e h)
        (read integers 0 (state_without st) (move_expr nowhere e) h) _ _
        (seen_read st e h)
        (λ x. record { same = refl })
    seen_read st (tree.prefixed p a e) h =
        seen_then expression_without expression_without (read integers line st e h)
        (read integers 0 (state_without st) (move_expr nowhere e) h) _ _
        (seen_read st e h)
        (λ x. seen_prefixed p a (first_of e) (first_of (move_expr nowhere e)) h x (first_nowhere e))
    seen_read st (tree.joined e o a f) h =
        let c = joins_conditions integers line o in
        seen_then expression_without expression_without (read integers line st e h)
        (read integers 0 (state_without st) (move_expr nowhere e) h) _ _
        (seen_read st e h) (λ x.
        seen_then expression_without expression_without (side integers line c (first_of e) h x)
        (side integers 0 c (first_of (move_expr nowhere e)) h (expression_without x)) _ _
        (seen_side c (first_of e) (first_of (move_expr nowhere e)) h x (first_nowhere e)) (λ x.
        let k = behind_side integers line c x h in
        let l = behind_side integers 0 c (expression_without x) h in
        seen_then expression_without expression_without (read integers line (right_of c st) f k)
        (read integers 0 (right_of c (state_without st)) (move_expr nowhere f) l) _ _
        (from_hidden expression_without (read integers line (right_of c st) f k)
        (λ z. read integers 0 (right_of c (state_without st)) (move_expr nowhere f) z) k l (behind_side_same c x h)
        (from_right c st f k (λ now. seen_read now f k))) (λ y.
        seen_then expression_without expression_without (side integers line c (first_of f) k y)
        (side integers 0 c (first_of (move_expr nowhere f)) l (expression_without y)) _ _
        (from_hidden expression_without (side integers line c (first_of f) k y)
        (λ z. side integers 0 c (first_of (move_expr nowhere f)) z (expression_without y)) k l (behind_side_same c x h)
        (seen_side c (first_of f) (first_of (move_expr nowhere f)) k y (first_nowhere f))) (λ y.
        seen_operated o a h x y))))
    seen_read st (tree.chosen c a e b f) h =
        seen_then expression_without expression_without (read integers line st c h)
        (read integers 0 (state_without st) (move_expr nowhere c) h) _ _
        (seen_read st c h) (λ x.
        seen_then expression_without expression_without (as_condition integers line (first_of c) h x)
        (as_condition integers 0 (first_of (move_expr nowhere c)) h (expression_without x)) _ _
        (seen_condition (first_of c) (first_of (move_expr nowhere c)) h x (first_nowhere c)) (λ x.
        let k = behind integers line x h in
        let l = behind integers 0 (expression_without x) h in
        seen_then expression_without expression_without (read integers line (passable st) e k)
        (read integers 0 (passable st) (move_expr nowhere e) l) _ _
        (from_hidden expression_without (read integers line (passable st) e k)
        (λ z. read integers 0 (passable st) (move_expr nowhere e) z) k l (behind_same x h)
        (seen_read (passable st) e k)) (λ y.
        seen_then expression_without expression_without (read integers line (passable st) f (behind_number integers line y k))
        (read integers 0 (passable st) (move_expr nowhere f) (behind_number integers 0 (expression_without y) l)) _ _
        (from_hidden expression_without (read integers line (passable st) f (behind_number integers line y k))
        (λ z. read integers 0 (passable st) (move_expr nowhere f) z)
        (behind_number integers line y k) (behind_number integers 0 (expression_without y) l)
        (behind_number_same y k ∙ ap (λ (z : ℕ). behind_number integers 0 (expression_without y) z) (behind_same x h))
        (seen_read (passable st) f (behind_number integers line y k))) (λ z.
        seen_ranged a h (chosen a x y z)))))

    -- the indexes of an element
    seen_subscripts : (st : State) (at : ℕ) (extents : List Extent) (is : tree.Subscripts) (h : ℕ)
        → Seen subscripts_without (read_subscripts integers line st at extents is h)
        (read_subscripts integers 0 (state_without st) 0 extents (move_subscripts nowhere is) h)
    seen_subscripts st at [] is h = record { same = refl }
    seen_subscripts st at (x ∷ xs) (last_subscript a e b) h =
        seen_then expression_without subscripts_without (read integers line st e h)
        (read integers 0 (state_without st) (move_expr nowhere e) h) _ _
        (seen_read st e h) (λ i.
        seen_then expression_without subscripts_without (ranged integers line a h (element (subscript x a i no_subscript) at))
        (ranged integers 0 0 h (element (subscript x 0 (expression_without i) no_subscript) 0)) _ _
        (seen_ranged a h (element (subscript x a i no_subscript) at)) (λ y. record { same = refl }))
    seen_subscripts st at (x ∷ xs) (next_subscript a e b is) h =
        seen_then expression_without subscripts_without (read integers line st e h)
        (read integers 0 (state_without st) (move_expr nowhere e) h) _ _
        (seen_read st e h) (λ i.
        seen_then expression_without subscripts_without (ranged integers line a h (element (subscript x a i no_subscript) at))
        (ranged integers 0 0 h (element (subscript x 0 (expression_without i) no_subscript) 0)) _ _
        (seen_ranged a h (element (subscript x a i no_subscript) at)) (λ y.
        let k = behind_number integers line i h in
        let l = behind_number integers 0 (expression_without i) h in
        seen_then subscripts_without subscripts_without (read_subscripts integers line st at xs is k)
        (read_subscripts integers 0 (state_without st) 0 xs (move_subscripts nowhere is) l) _ _
        (from_hidden subscripts_without (read_subscripts integers line st at xs is k)
        (λ z. read_subscripts integers 0 (state_without st) 0 xs (move_subscripts nowhere is) z) k l (behind_number_same i h)
        (seen_subscripts st at xs is k)) (λ ys. record { same = refl })))

    -- the arguments of a call
    pub seen_arguments : (st : State) (es : Arguments) (h : ℕ)
        → Seen expressions_without (read_arguments integers line st es h)
        (read_arguments integers 0 (state_without st) (move_arguments nowhere es) h)
    seen_arguments st no_arguments h = record { same = refl }
    seen_arguments st (arguments e es) h =
        seen_if expressions_without (is_array_name st e) (is_array_name (state_without st) (move_expr nowhere e))
        _ _ _ _ (array_nowhere st e)
        (seen_more st es h) (argument_then st e es h (seen_read st e h) (λ k. seen_more st es k))

    -- those behind the first
    seen_more : (st : State) (es : MoreArguments) (h : ℕ)
        → Seen expressions_without (read_more integers line st es h)
        (read_more integers 0 (state_without st) (move_more_arguments nowhere es) h)
    seen_more st last_argument h = record { same = refl }
    seen_more st (next_argument a e es) h =
        seen_if expressions_without (is_array_name st e) (is_array_name (state_without st) (move_expr nowhere e))
        _ _ _ _ (array_nowhere st e)
        (seen_more st es h) (argument_then st e es h (seen_read st e h) (λ k. seen_more st es k))

  -- ---- values of arrays
  -- the values behind one
  values_then : (st : State) (vs : MoreValues) (h : ℕ) (x : Expression)
      → ((k : ℕ) → Seen expressions_without (read_more_values integers line st vs k)
      (read_more_values integers 0 (state_without st) (move_more_values nowhere vs) k))
      → Seen expressions_without (read_more_values integers line st vs (behind integers line x h) >>= λ xs. Ok (more x xs))
      (read_more_values integers 0 (state_without st) (move_more_values nowhere vs) (behind integers 0 (expression_without x) h)
      >>= λ xs. Ok (more (expression_without x) xs))
  values_then st vs h x rest =
      let k = behind integers line x h in
      let l = behind integers 0 (expression_without x) h in
      seen_then expressions_without expressions_without (read_more_values integers line st vs k)
      (read_more_values integers 0 (state_without st) (move_more_values nowhere vs) l) _ _
      (from_hidden expressions_without (read_more_values integers line st vs k)
      (λ z. read_more_values integers 0 (state_without st) (move_more_values nowhere vs) z) k l (behind_same x h) (rest k))
      (λ xs. record { same = refl })

  mutual
    -- a value
    seen_element : (st : State) (v : Value) (h : ℕ)
        → Seen expression_without (read_value integers line st v h) (read_value integers 0 (state_without st) (move_value nowhere v) h)
    seen_element st (one_value e) h = seen_read st e h
    seen_element st (braced a vs b) h =
        seen_then expressions_without expression_without (read_values integers line st vs h)
        (read_values integers 0 (state_without st) (move_values nowhere vs) h) _ _ (seen_values st vs h) (λ es. record { same = refl })

    -- values
    pub seen_values : (st : State) (vs : Values) (h : ℕ)
        → Seen expressions_without (read_values integers line st vs h)
        (read_values integers 0 (state_without st) (move_values nowhere vs) h)
    seen_values st no_values h = record { same = refl }
    seen_values st (values v vs) h =
        seen_then expression_without expressions_without (read_value integers line st v h)
        (read_value integers 0 (state_without st) (move_value nowhere v) h) _ _ (seen_element st v h)
        (λ x. values_then st vs h x (λ k. seen_more_values st vs k))

    -- those behind the first
    seen_more_values : (st : State) (vs : MoreValues) (h : ℕ)
        → Seen expressions_without (read_more_values integers line st vs h)
        (read_more_values integers 0 (state_without st) (move_more_values nowhere vs) h)
    seen_more_values st last_value h = record { same = refl }
    seen_more_values st (last_comma a) h = record { same = refl }
    seen_more_values st (next_value a v vs) h =
        seen_then expression_without expressions_without (read_value integers line st v h)
        (read_value integers 0 (state_without st) (move_value nowhere v) h) _ _ (seen_element st v h)
        (λ x. values_then st vs h x (λ k. seen_more_values st vs k))

  -- an expression among tokens
  pub seen_read_among : (st : State) (ts now : List Token) (e : Expr) (h : ℕ) → now ≡ moved nowhere ts
      → Seen expression_without (read integers line (among ts st) e h) (read integers 0 (among now st) (move_expr nowhere e) h)
  seen_read_among st ts now e h same =
      from_around expression_without (read integers line (among ts st) e h) (λ z. read integers 0 z (move_expr nowhere e) h) ts now st same
      (seen_read (among ts st) e h)
