-- Each entry of the machine, read backwards: declarations and the values of arrays.
use Rattle.std.proofs.Common.{◌≡◌, ◌∙◌, ◌++◌, ℕ, suc, List, [], ◌∷◌, refl, sym, ap, append_assoc, Option, Some, None}
use Rattle.source_grammar.specs.Tokens.{plus_op, minus_op, Kind, a_name, a_number, infix_sign, bang, left_paren, left_bracket}
use Rattle.source_grammar.specs.Tokens.{right_bracket, comma, change_sign, step_sign, replaces, nondet_word, Token, token, left_brace}
use Rattle.source_grammar.specs.Tokens.{right_brace}
use Rattle.source_grammar.specs.Grammar.{spell_expr, bare, given, sized, declarator, spell_declarator, last_declarator, next_declarator}
use Rattle.source_grammar.specs.Grammar.{spell_more_declarators, Size, Sizes, braced, filled, last_comma, last_size, last_value, next_size}
use Rattle.source_grammar.specs.Grammar.{next_value, no_values, one_value, spell_more_values, spell_size, spell_sizes, spell_values, values}
use Rattle.source_grammar.specs.Machine.{Goal, operand, more, declaring, initialising, more_declarators, only, declaring_entry}
use Rattle.source_grammar.specs.Machine.{initialising_entry, more_declarators_entry, bracket_closing, brace_closing, filling, filling_entry}
use Rattle.source_grammar.specs.Machine.{maybe_values, maybe_values_entry, more_values, more_values_entry, sizing, sizing_entry, some_size}
use Rattle.source_grammar.proofs.grammar.Sound.{Holds, Fill, GoodFill, fill, no_fill, spell_fill, spell_later}
use Rattle.source_grammar.proofs.machine.BackPieces.{Back, ExprThen, back_operand, end_text, expr_then, two_text}

-- the goal of a declarator, read backwards
pub back_declaring : (d : ℕ) (k : Kind) (gs : List Goal) (a : ℕ) (w : List Token) → Back (declaring_entry d k) (declaring d) gs k a w
back_declaring d (a_name x) gs a w = λ h. (declarator x a h.0, h.1, ap (λ y. token (a_name x) a ∷ y) h.2, h.3, h.4)
back_declaring d _ gs a w = tt

-- the brackets of a declared array, its values, and what these goals ask
abbrev SizesThen : List Goal → List Token → Type 0
SizesThen gs w = (ss : Sizes) × (f : Fill) × (v : List Token) × (w ≡ spell_sizes ss ++ (spell_fill f ++ v)) × GoodFill f × Holds gs v

-- a size in brackets, and further ones, are the brackets of an array
pub one_size : (a b : ℕ) (s : Size) (ss : Option Sizes) (w u y v : List Token) → w ≡ spell_size s ++ u → u ≡ token right_bracket b ∷ y
    → y ≡ spell_later ss ++ v → (ts : Sizes) × (token left_bracket a ∷ w ≡ spell_sizes ts ++ v)
one_size a b s None w u y v h i j = (
  last_size a s b,
  ap (λ x. token left_bracket a ∷ x)
      (two_text (spell_size s) (token right_bracket b ∷ []) w u v h (i ∙ ap (λ x. token right_bracket b ∷ x) j)),
)
one_size a b s (Some ss) w u y v h i j = (
  next_size a s b ss,
  ap (λ x. token left_bracket a ∷ x)
      (two_text (spell_size s) (token right_bracket b ∷ spell_sizes ss) w u v h (i ∙ ap (λ x. token right_bracket b ∷ x) j)),
)

some_sizes : (a d : ℕ) (gs : List Goal) (w : List Token) → Holds (some_size ∷ only bracket_closing ∷ sizing d ∷ gs) w
    → SizesThen gs (token left_bracket a ∷ w)
some_sizes a d gs w (s, u, q, (b, y, r, (ss, f, v, t, k, rest))) =
    let h = one_size a b s ss w u y (spell_fill f ++ v) q r t in (h.0, f, v, h.1, k, rest)

array_declared : (d : ℕ) (gs : List Goal) (w : List Token) → SizesThen gs w → Holds (initialising d ∷ gs) w
array_declared d gs w (ss, no_fill, v, q, g, rest) = (sized ss, v, q, tt, rest)
array_declared d gs w (ss, fill a b vs c, v, q, g, rest) =
    (filled ss a b vs c, v, q ∙ sym (append_assoc (spell_sizes ss) (spell_fill (fill a b vs c)) v), g, rest)

-- the goal of what may follow a declared name, read backwards
pub back_initialising : (d : ℕ) (k : Kind) (gs : List Goal) (a : ℕ) (w : List Token)
    → Back (initialising_entry d k) (initialising d) gs k a w
back_initialising d (change_sign replaces) gs a w = λ h. on (expr_then d d gs w h) where
  on : ExprThen gs w → Holds (initialising d ∷ gs) (token (change_sign replaces) a ∷ w)
  on (e, v, q, i, rest) = (given a e, v, ap (λ x. token (change_sign replaces) a ∷ x) q, i, rest)
back_initialising d left_bracket gs a w = λ h. array_declared d gs _ (some_sizes a d gs w h)
back_initialising d k gs a w = λ h. (bare, token k a ∷ w, refl, tt, h)

further_sizes : (d : ℕ) (gs : List Goal) (w : List Token) → SizesThen gs w → Holds (sizing d ∷ gs) w
further_sizes d gs w (ss, f, v, q, g, rest) = (Some ss, f, v, q, g, rest)

array_filled : (a d : ℕ) (gs : List Goal) (w : List Token) → Holds (filling d ∷ gs) w
    → Holds (sizing d ∷ gs) (token (change_sign replaces) a ∷ w)
array_filled a d gs w (b, vs, c, v, q, g, rest) = (
  None,
  fill a b vs c,
  v,
  ap (λ x. token (change_sign replaces) a ∷ x)
      (q ∙ ap (λ x. token left_brace b ∷ x) (sym (append_assoc (spell_values vs) (token right_brace c ∷ []) v))),
  g,
  rest,
)

-- the goal of what may follow brackets of a declared array, read backwards
pub back_sizing : (d : ℕ) (k : Kind) (gs : List Goal) (a : ℕ) (w : List Token) → Back (sizing_entry d k) (sizing d) gs k a w
back_sizing d (change_sign replaces) gs a w = λ h. array_filled a d gs w h
back_sizing d left_bracket gs a w = λ h. further_sizes d gs _ (some_sizes a d gs w h)
back_sizing d k gs a w = λ h. (None, no_fill, token k a ∷ w, refl, tt, h)

values_between : (a d : ℕ) (gs : List Goal) (w : List Token) → Holds (maybe_values (suc d) ∷ only brace_closing ∷ gs) w
    → Holds (filling d ∷ gs) (token left_brace a ∷ w)
values_between a d gs w (vs, u, q, g, (b, v, r, rest)) =
    (a, vs, b, v, ap (λ x. token left_brace a ∷ x) (q ∙ ap (λ x. spell_values vs ++ x) r), g, rest)

-- the goal of values in braces, read backwards
pub back_filling : (d : ℕ) (k : Kind) (gs : List Goal) (a : ℕ) (w : List Token) → Back (filling_entry d k) (filling d) gs k a w
back_filling d left_brace gs a w = λ h. values_between a d gs w h
back_filling d _ gs a w = tt

value_braced : (a d : ℕ) (gs : List Goal) (w : List Token)
    → Holds (maybe_values (suc d) ∷ only brace_closing ∷ more_values d ∷ gs) w → Holds (maybe_values d ∷ gs) (token left_brace a ∷ w)
value_braced a d gs w (vs, u, q, g, (b, y, r, (us, v, s, k, rest))) = (
  values (braced a vs b) us,
  v,
  ap (λ x. token left_brace a ∷ x) (two_text (spell_values vs ++ token right_brace b ∷ []) (spell_more_values us) w y v
      (end_text (spell_values vs) (token right_brace b) w u y q r) s),
  (g, k),
  rest,
)

some_values : (d : ℕ) (gs : List Goal) (w : List Token) → Holds (operand d ∷ more d ∷ more_values d ∷ gs) w
    → Holds (maybe_values d ∷ gs) w
some_values d gs w h = on (expr_then d d (more_values d ∷ gs) w h) where
  on : ExprThen (more_values d ∷ gs) w → Holds (maybe_values d ∷ gs) w
  on (e, u, q, g, (vs, v, r, k, rest)) =
      (values (one_value e) vs, v, two_text (spell_expr e) (spell_more_values vs) w u v q r, (g, k), rest)

-- the goal of values, read backwards
pub back_maybe_values : (d : ℕ) (k : Kind) (gs : List Goal) (a : ℕ) (w : List Token)
    → Back (maybe_values_entry d k) (maybe_values d) gs k a w
back_maybe_values d left_brace gs a w = λ h. value_braced a d gs w h
back_maybe_values d (a_name x) gs a w = λ h. some_values d gs _ (back_operand d (a_name x) (more d ∷ more_values d ∷ gs) a w h)
back_maybe_values d (a_number n) gs a w = λ h. some_values d gs _ (back_operand d (a_number n) (more d ∷ more_values d ∷ gs) a w h)
back_maybe_values d (infix_sign plus_op) gs a w =
    λ h. some_values d gs _ (back_operand d (infix_sign plus_op) (more d ∷ more_values d ∷ gs) a w h)
back_maybe_values d (infix_sign minus_op) gs a w =
    λ h. some_values d gs _ (back_operand d (infix_sign minus_op) (more d ∷ more_values d ∷ gs) a w h)
back_maybe_values d bang gs a w = λ h. some_values d gs _ (back_operand d bang (more d ∷ more_values d ∷ gs) a w h)
back_maybe_values d left_paren gs a w = λ h. some_values d gs _ (back_operand d left_paren (more d ∷ more_values d ∷ gs) a w h)
back_maybe_values d (step_sign s) gs a w = λ h. some_values d gs _ (back_operand d (step_sign s) (more d ∷ more_values d ∷ gs) a w h)
back_maybe_values d nondet_word gs a w = λ h. some_values d gs _ (back_operand d nondet_word (more d ∷ more_values d ∷ gs) a w h)
back_maybe_values d k gs a w = λ h. (no_values, token k a ∷ w, refl, tt, h)

value_next : (a d : ℕ) (gs : List Goal) (w : List Token) → Holds (maybe_values d ∷ gs) w → Holds (more_values d ∷ gs) (token comma a ∷ w)
value_next a d gs w (no_values, v, q, g, rest) = (last_comma a, v, ap (λ x. token comma a ∷ x) q, tt, rest)
value_next a d gs w (values u us, v, q, g, rest) = (next_value a u us, v, ap (λ x. token comma a ∷ x) q, g, rest)

-- the goal of what follows a value, read backwards
pub back_more_values : (d : ℕ) (k : Kind) (gs : List Goal) (a : ℕ) (w : List Token)
    → Back (more_values_entry d k) (more_values d) gs k a w
back_more_values d comma gs a w = λ h. value_next a d gs w h
back_more_values d k gs a w = λ h. (last_value, token k a ∷ w, refl, tt, h)

-- the goal of what follows a declarator, read backwards
pub back_more_declarators : (d : ℕ) (k : Kind) (gs : List Goal) (a : ℕ) (w : List Token)
    → Back (more_declarators_entry d k) (more_declarators d) gs k a w
back_more_declarators d comma gs a w = λ h. (
  next_declarator a h.0 h.4.0,
  h.4.1,
  ap (λ y. token comma a ∷ y) (two_text (spell_declarator h.0) (spell_more_declarators h.4.0) w h.1 h.4.1 h.2 h.4.2),
  (h.3, h.4.3),
  h.4.4,
)
back_more_declarators d k gs a w = λ h. (last_declarator, token k a ∷ w, refl, tt, h)
