-- What the grammar groups fits as a shape: no sign holds looser than the level says.
use Rattle.std.proofs.Common.{◌≡◌, ◌≤◌, ℕ, zero, suc, List, Option, Some, None, refl, arith}
use Rattle.source_grammar.specs.Tokens.{Relation, equal, unequal, less, at_most, greater, at_least, or_op, and_op, compare_op, plus_op}
use Rattle.source_grammar.specs.Tokens.{minus_op, times_op, over_op, remainder_op, relation_level}
use Rattle.source_grammar.specs.Expressions.{Expr, number, variable, element, call, stepped_behind, stepped_before, free, grouped}
use Rattle.source_grammar.specs.Expressions.{prefixed, joined, chosen, Arguments, no_arguments, arguments, MoreArguments, last_argument}
use Rattle.source_grammar.specs.Expressions.{next_argument, Subscripts, last_subscript, next_subscript, Optional, absent, present}
use Rattle.source_grammar.specs.Expressions.{no_index, index, Place, place, assigns, steps, Update, update, step_before, Groups}
use Rattle.source_grammar.specs.Expressions.{GoodArguments, GoodMoreArguments, GoodSubscripts, GoodOptional, GoodPlace, GoodUpdate}
use Rattle.source_grammar.specs.Grammar.{number_size, name_size, Sizes, last_size, next_size, Value, one_value, braced, Values}
use Rattle.source_grammar.specs.Grammar.{no_values, values, MoreValues, last_value, last_comma, next_value, Initialiser, bare, given}
use Rattle.source_grammar.specs.Grammar.{sized, filled, GoodValue, GoodValues, GoodMoreValues, GoodInitialiser}
use Rattle.source_grammar.specs.Tokens.{Name}
use Rattle.lang_groups.specs.Shapes.{Shape, Fits}
use Rattle.source_packs.specs.Shapes.{variable_number, number_shape, shape, arguments_shape, more_shape, subscripts_shape, optional_shape}
use Rattle.source_packs.specs.Shapes.{place_shape, update_shape, sizes_shape, value_shape, values_shape, more_values_shape}
use Rattle.source_packs.specs.Shapes.{declared_shape}

-- a name
number_fits : (o : Option ℕ) (m : ℕ) → Fits m (number_shape o)
number_fits None m = tt
number_fits (Some i) m = tt

-- the level of a comparison
least_level : (r : Relation) → 3 ≤ relation_level r
least_level equal = omega arith
least_level unequal = omega arith
least_level less = omega arith
least_level at_most = omega arith
least_level greater = omega arith
least_level at_least = omega arith

greatest_level : (r : Relation) → relation_level r ≤ 4
greatest_level equal = omega arith
greatest_level unequal = omega arith
greatest_level less = omega arith
greatest_level at_most = omega arith
greatest_level greater = omega arith
greatest_level at_least = omega arith

-- no level below 3 allows what is looser than a comparison, none below 5 a comparison
no_looser : (l m n : ℕ) → (1 ≤ m → 3 ≤ l) → l ≤ n → n ≤ 2 → m ≡ 0
no_looser l zero n h i j = refl
no_looser l (suc m) n h i j = let k : 3 ≤ l = h (omega arith) in absurd (omega (arith, k, i, j))

no_comparison : (l m n : ℕ) → (2 ≤ m → 5 ≤ l) → l ≤ n → n ≤ 4 → m ≤ 1
no_comparison l zero n h i j = omega arith
no_comparison l (suc zero) n h i j = omega arith
no_comparison l (suc (suc m)) n h i j = let k : 5 ≤ l = h (omega arith) in absurd (omega (arith, k, i, j))

first_three : (l : ℕ) → 1 ≤ 0 → 3 ≤ l
first_three l h = absurd (omega (arith, h))

second_five : (l : ℕ) → 2 ≤ 0 → 5 ≤ l
second_five l h = absurd (omega (arith, h))

none_five : (l : ℕ) → 2 ≤ 1 → 5 ≤ l
none_five l h = absurd (omega (arith, h))

module _ (names : List (List ℕ)) where
  mutual
    -- An expression fits where the levels of its signs are allowed,
    fits : (e : Expr) (l m : ℕ) → (1 ≤ m → 3 ≤ l) → (2 ≤ m → 5 ≤ l) → Groups l e → Fits m (shape names e)
    fits (number n a) l m h i g = tt
    fits (variable x a) l m h i g = number_fits (variable_number names x) m
    fits (element x a is) l m h i g = subscripts_fit is m g
    fits (call x a b es c) l m h i g = arguments_fit es g
    fits (stepped_behind x a d b) l m h i g = number_fits (variable_number names x) m
    fits (stepped_before d a x b) l m h i g = number_fits (variable_number names x) m
    fits (free a b c) l m h i g = tt
    fits (grouped a e b) l m h i g = fits e 0 0 (first_three 0) (second_five 0) g
    fits (prefixed p a e) l m h i g = fits e 7 m (λ j. omega arith) (λ j. omega arith) g
    fits (joined e or_op a f) l m h i g = (
      no_looser l m 1 h g.0 (omega arith),
      fits e 1 0 (first_three 1) (second_five 1) g.1,
      fits f 2 0 (first_three 2) (second_five 2) g.2,
    )
    fits (joined e and_op a f) l m h i g = (
      no_looser l m 2 h g.0 (omega arith),
      fits e 2 0 (first_three 2) (second_five 2) g.1,
      fits f 3 0 (first_three 3) (second_five 3) g.2,
    )
    fits (joined e (compare_op r) a f) l m h i g = (
      no_comparison l m (relation_level r) i g.0 (greatest_level r),
      fits e (relation_level r) 1 (λ j. least_level r) (none_five (relation_level r)) g.1,
      fits f (suc (relation_level r)) 1 (λ j. let k = least_level r in omega arith) (none_five (suc (relation_level r))) g.2,
    )
    fits (joined e plus_op a f) l m h i g = (
      fits e 5 2 (λ j. omega arith) (λ j. omega arith) g.1,
      fits f 6 2 (λ j. omega arith) (λ j. omega arith) g.2,
    )
    fits (joined e minus_op a f) l m h i g = (
      fits e 5 2 (λ j. omega arith) (λ j. omega arith) g.1,
      fits f 6 2 (λ j. omega arith) (λ j. omega arith) g.2,
    )
    fits (joined e times_op a f) l m h i g = (
      fits e 6 2 (λ j. omega arith) (λ j. omega arith) g.1,
      fits f 7 2 (λ j. omega arith) (λ j. omega arith) g.2,
    )
    fits (joined e over_op a f) l m h i g = (
      fits e 6 2 (λ j. omega arith) (λ j. omega arith) g.1,
      fits f 7 2 (λ j. omega arith) (λ j. omega arith) g.2,
    )
    fits (joined e remainder_op a f) l m h i g = (
      fits e 6 2 (λ j. omega arith) (λ j. omega arith) g.1,
      fits f 7 2 (λ j. omega arith) (λ j. omega arith) g.2,
    )
    fits (chosen c a e b f) l m h i g = (
      no_looser l m 0 h (omega (arith, g.0)) (omega arith),
      fits c 1 0 (first_three 1) (second_five 1) g.1,
      (refl, fits e 0 0 (first_three 0) (second_five 0) g.2, fits f 0 0 (first_three 0) (second_five 0) g.3),
    )

    -- so do arguments,
    arguments_fit : (es : Arguments) → GoodArguments es → Fits 0 (arguments_shape names es)
    arguments_fit no_arguments g = tt
    arguments_fit (arguments e es) g = more_fit es (shape names e) (fits e 0 0 (first_three 0) (second_five 0) g.0) g.1

    more_fit : (es : MoreArguments) (s : Shape) → Fits 0 s → GoodMoreArguments es → Fits 0 (more_shape names s es)
    more_fit last_argument s h g = h
    more_fit (next_argument a e es) s h g = (refl, h, more_fit es (shape names e) (fits e 0 0 (first_three 0) (second_five 0) g.0) g.1)

    -- and indexes.
    subscripts_fit : (is : Subscripts) (m : ℕ) → GoodSubscripts is → Fits m (subscripts_shape names is)
    subscripts_fit (last_subscript a e b) m g = fits e 0 0 (first_three 0) (second_five 0) g
    subscripts_fit (next_subscript a e b is) m g = (fits e 0 0 (first_three 0) (second_five 0) g.0, subscripts_fit is 2 g.1)

  -- So does each expression,
  pub expr_fits : (e : Expr) → Groups 0 e → Fits 0 (shape names e)
  expr_fits e g = fits e 0 0 (first_three 0) (second_five 0) g

  -- what a call's parentheses hold,
  pub call_fits : (es : Arguments) → GoodArguments es → Fits 0 (arguments_shape names es)
  call_fits es g = arguments_fit es g

  -- and an expression that may be absent.
  pub optional_fits : (t : Optional) → GoodOptional t → Fits 0 (optional_shape names t)
  optional_fits absent g = tt
  optional_fits (present e) g = fits e 0 0 (first_three 0) (second_five 0) g

  -- Changes do.
  place_fits : (p : Place) → GoodPlace p → Fits 0 (place_shape names p)
  place_fits (place x a no_index) g = number_fits (variable_number names x) 0
  place_fits (place x a (index is)) g = subscripts_fit is 0 g

  -- and so does the whole of one.
  pub update_fits : (u : Update) → GoodUpdate u → Fits 0 (update_shape names u)
  update_fits (update p (assigns c a e)) g = (refl, place_fits p g.0, fits e 0 0 (first_three 0) (second_five 0) g.1)
  update_fits (update p (steps d a)) g = place_fits p g.0
  update_fits (step_before d a p) g = place_fits p g

  -- ---- declarations
  sizes_fit : (ss : Sizes) (m : ℕ) → Fits m (sizes_shape names ss)
  sizes_fit (last_size a (number_size n b) c) m = tt
  sizes_fit (last_size a (name_size x b) c) m = number_fits (variable_number names x) 0
  sizes_fit (next_size a (number_size n b) c ss) m = (tt, sizes_fit ss 2)
  sizes_fit (next_size a (name_size x b) c ss) m = (number_fits (variable_number names x) 0, sizes_fit ss 2)

  mutual
    value_fits : (v : Value) → GoodValue v → Fits 0 (value_shape names v)
    value_fits (one_value e) g = fits e 0 0 (first_three 0) (second_five 0) g
    value_fits (braced a vs b) g = values_fit vs g

    values_fit : (vs : Values) → GoodValues vs → Fits 0 (values_shape names vs)
    values_fit no_values g = tt
    values_fit (values v vs) g = more_values_fit vs (value_shape names v) (value_fits v g.0) g.1

    more_values_fit : (vs : MoreValues) (s : Shape) → Fits 0 s → GoodMoreValues vs → Fits 0 (more_values_shape names s vs)
    more_values_fit last_value s h g = h
    more_values_fit (last_comma a) s h g = (refl, h, tt)
    more_values_fit (next_value a v vs) s h g = (refl, h, more_values_fit vs (value_shape names v) (value_fits v g.0) g.1)

  -- So does a name that is declared, with its value.
  pub declared_fits : (x : Name) (i : Initialiser) → GoodInitialiser i → Fits 0 (declared_shape names x i)
  declared_fits x bare g = number_fits (variable_number names x) 0
  declared_fits x (given a e) g = (refl, number_fits (variable_number names x) 0, fits e 0 0 (first_three 0) (second_five 0) g)
  declared_fits x (sized ss) g = sizes_fit ss 0
  declared_fits x (filled ss a b vs c) g = (refl, sizes_fit ss 0, values_fit vs g)
