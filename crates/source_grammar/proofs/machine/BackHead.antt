-- Each entry of the machine, read backwards: the head of a function, and single tokens.
use Rattle.std.proofs.Common.{◌≡◌, ◌∙◌, ◌++◌, ℕ, List, [], ◌∷◌, Option, Some, None, refl, sym, ap, subst}
use Rattle.source_grammar.specs.Tokens.{Kind, a_name, a_number, left_paren, right_paren, left_brace, right_brace, left_bracket}
use Rattle.source_grammar.specs.Tokens.{right_bracket, comma, semicolon, colon, int_word, void_word, main_word, storage_word, Token, token}
use Rattle.source_grammar.specs.Tokens.{Name, Op, const_word, infix_sign, times_op}
use Rattle.source_grammar.specs.Grammar.{gives_int, gives_void, storage, called, called_main, last_parameter, next_parameter, no_parameters}
use Rattle.source_grammar.specs.Grammar.{void_parameters, Bounds, IntType, MoreParameters, Parameter, Sizes, array_parameter, const_int}
use Rattle.source_grammar.specs.Grammar.{name_size, number_parameter, number_size, open_bound, open_bounds, plain_int, pointer_parameter}
use Rattle.source_grammar.specs.Grammar.{sized_bounds, some_parameters, spell_bounds, spell_more_parameters, spell_parameter, spell_sizes}
use Rattle.source_grammar.specs.Grammar.{spell_type}
use Rattle.source_grammar.specs.Machine.{Goal, specifiers, function_name, parameters, more_parameters, some_name, only, Mark, opening}
use Rattle.source_grammar.specs.Machine.{closing, brace_opening, bracket_closing, colon_mark, statement_end, int_type, specifiers_entry}
use Rattle.source_grammar.specs.Machine.{function_name_entry, parameters_entry, more_parameters_entry, some_name_entry, only_entry}
use Rattle.source_grammar.specs.Machine.{bounding, bounding_entry, brace_closing, maybe_size, maybe_size_entry, more_sizes}
use Rattle.source_grammar.specs.Machine.{more_sizes_entry, parameter_name, parameter_name_entry, pointer_entry, some_size, some_size_entry}
use Rattle.source_grammar.specs.Machine.{some_type, some_type_entry}
use Rattle.source_grammar.proofs.grammar.Sound.{Holds, spell_later}
use Rattle.source_grammar.proofs.machine.BackPieces.{Back, two_text}
use Rattle.source_grammar.proofs.machine.BackDeclared.{one_size}

-- the goal of what stands before a function's name, read backwards
pub back_specifiers : (k : Kind) (gs : List Goal) (a : ℕ) (w : List Token) → Back (specifiers_entry k) specifiers gs k a w
back_specifiers storage_word gs a w = λ h. (storage a h.0, h.1, ap (λ x. token storage_word a ∷ x) h.2, h.3)
back_specifiers int_word gs a w = λ h. (gives_int a, w, refl, h)
back_specifiers void_word gs a w = λ h. (gives_void a, w, refl, h)
back_specifiers _ gs a w = tt

-- the goal of a function's name, read backwards
pub back_function_name : (k : Kind) (gs : List Goal) (a : ℕ) (w : List Token) → Back (function_name_entry k) function_name gs k a w
back_function_name (a_name x) gs a w = λ h. (called x a, w, refl, h)
back_function_name main_word gs a w = λ h. (called_main a, w, refl, h)
back_function_name _ gs a w = tt

-- a parameter of this type, and further ones
abbrev TypedThen : List Goal → List Token → Type 0
TypedThen gs w = (t : IntType) → (p : Parameter) × (v : List Token) × (spell_type t ++ w ≡ spell_parameter p ++ v)
    × Holds (more_parameters ∷ gs) v

-- a parameter, and further ones
abbrev ParametersThen : List Goal → List Token → Type 0
ParametersThen gs w = (p : Parameter) × (ps : MoreParameters) × (v : List Token)
    × (w ≡ (spell_parameter p ++ spell_more_parameters ps) ++ v) × Holds gs v

parameter_then : (t : IntType) (gs : List Goal) (w : List Token) → TypedThen gs w → ParametersThen gs (spell_type t ++ w)
parameter_then t gs w f = on (f t) where
  on : (p : Parameter) × (v : List Token) × (spell_type t ++ w ≡ spell_parameter p ++ v) × Holds (more_parameters ∷ gs) v
      → ParametersThen gs (spell_type t ++ w)
  on (p, u, q, (ps, v, r, rest)) = (p, ps, v, two_text (spell_parameter p) (spell_more_parameters ps) _ u v q r, rest)

const_parameter : (a : ℕ) (gs : List Goal) (w : List Token) → Holds (only int_type ∷ parameter_name ∷ more_parameters ∷ gs) w
    → ParametersThen gs (token const_word a ∷ w)
const_parameter a gs w (b, v, q, f) =
    subst (λ x. ParametersThen gs (token const_word a ∷ x)) (sym q) (parameter_then (const_int a b) gs v f)

first_parameter : (gs : List Goal) (w : List Token) → ParametersThen gs w → Holds (parameters ∷ gs) w
first_parameter gs w (p, ps, v, q, rest) = (some_parameters p ps, v, q, rest)

-- the goal of what stands between a function's parentheses, read backwards
pub back_parameters : (k : Kind) (gs : List Goal) (a : ℕ) (w : List Token) → Back (parameters_entry k) parameters gs k a w
back_parameters void_word gs a w = λ h. (void_parameters a, w, refl, h)
back_parameters int_word gs a w = λ h. first_parameter gs _ (parameter_then (plain_int a) gs w h)
back_parameters const_word gs a w = λ h. first_parameter gs _ (const_parameter a gs w h)
back_parameters k gs a w = λ h. (no_parameters, token k a ∷ w, refl, h)

further_parameter : (a : ℕ) (gs : List Goal) (w : List Token) → Holds (some_type ∷ parameter_name ∷ more_parameters ∷ gs) w
    → Holds (more_parameters ∷ gs) (token comma a ∷ w)
further_parameter a gs w (t, u, q, f) = on (parameter_then t gs u f) where
  on : ParametersThen gs (spell_type t ++ u) → Holds (more_parameters ∷ gs) (token comma a ∷ w)
  on (p, ps, v, r, rest) = (next_parameter a p ps, v, ap (λ x. token comma a ∷ x) (q ∙ r), rest)

-- the goal of what follows a parameter, read backwards
pub back_more_parameters : (k : Kind) (gs : List Goal) (a : ℕ) (w : List Token)
    → Back (more_parameters_entry k) more_parameters gs k a w
back_more_parameters comma gs a w = λ h. further_parameter a gs w h
back_more_parameters k gs a w = λ h. (last_parameter, token k a ∷ w, refl, h)

-- the goal of the type of a parameter, read backwards
pub back_some_type : (k : Kind) (gs : List Goal) (a : ℕ) (w : List Token) → Back (some_type_entry k) some_type gs k a w
back_some_type int_word gs a w = λ h. (plain_int a, w, refl, h)
back_some_type const_word gs a w = λ h. (const_int a h.0, h.1, ap (λ x. token const_word a ∷ x) h.2, h.3)
back_some_type _ gs a w = tt

named_parameter : (x : Name) (a : ℕ) (gs : List Goal) (w : List Token) → Holds (bounding ∷ gs) w
    → Holds (parameter_name ∷ gs) (token (a_name x) a ∷ w)
named_parameter x a gs w (None, v, q, rest) t = (
  number_parameter t x a,
  v,
  two_text (spell_type t) (token (a_name x) a ∷ []) _ (token (a_name x) a ∷ w) v refl (ap (λ y. token (a_name x) a ∷ y) q),
  rest,
)
named_parameter x a gs w (Some bs, v, q, rest) t = (
  array_parameter t x a bs,
  v,
  two_text (spell_type t) (token (a_name x) a ∷ spell_bounds bs) _ (token (a_name x) a ∷ w) v refl
      (ap (λ y. token (a_name x) a ∷ y) q),
  rest,
)

pointed : (a : ℕ) (gs : List Goal) (w : List Token) → Holds (some_name ∷ gs) w
    → Holds (parameter_name ∷ gs) (token (infix_sign times_op) a ∷ w)
pointed a gs w (x, b, v, q, rest) t = (
  pointer_parameter t a x b,
  v,
  two_text (spell_type t) (token (infix_sign times_op) a ∷ token (a_name x) b ∷ []) _ (token (infix_sign times_op) a ∷ w) v refl
      (ap (λ y. token (infix_sign times_op) a ∷ y) q),
  rest,
)

back_pointer : (o : Op) (gs : List Goal) (a : ℕ) (w : List Token) → Back (pointer_entry o) parameter_name gs (infix_sign o) a w
back_pointer times_op gs a w = λ h. pointed a gs w h
back_pointer _ gs a w = tt

-- the goal of a parameter without its type, read backwards
pub back_parameter_name : (k : Kind) (gs : List Goal) (a : ℕ) (w : List Token) → Back (parameter_name_entry k) parameter_name gs k a w
back_parameter_name (a_name x) gs a w = λ h. named_parameter x a gs w h
back_parameter_name (infix_sign o) gs a w = back_pointer o gs a w
back_parameter_name _ gs a w = tt

more_of : (a : ℕ) (gs : List Goal) (w : List Token) → Holds (some_size ∷ only bracket_closing ∷ more_sizes ∷ gs) w
    → (ss : Sizes) × (v : List Token) × (token left_bracket a ∷ w ≡ spell_sizes ss ++ v) × Holds gs v
more_of a gs w (s, u, q, (b, y, r, (ss, v, t, rest))) = let h = one_size a b s ss w u y v q r t in (h.0, v, h.1, rest)

-- the goal of further brackets of a parameter, read backwards
pub back_more_sizes : (k : Kind) (gs : List Goal) (a : ℕ) (w : List Token) → Back (more_sizes_entry k) more_sizes gs k a w
back_more_sizes left_bracket gs a w = λ h. on (more_of a gs w h) where
  on : (ss : Sizes) × (v : List Token) × (token left_bracket a ∷ w ≡ spell_sizes ss ++ v) × Holds gs v
      → Holds (more_sizes ∷ gs) (token left_bracket a ∷ w)
  on (ss, v, q, rest) = (Some ss, v, q, rest)
back_more_sizes k gs a w = λ h. (None, token k a ∷ w, refl, h)

open_text : (a b : ℕ) (ss : Option Sizes) (w y v : List Token) → w ≡ token right_bracket b ∷ y → y ≡ spell_later ss ++ v
    → (bs : Bounds) × (token left_bracket a ∷ w ≡ spell_bounds bs ++ v)
open_text a b None w y v h i = (open_bound a b, ap (λ x. token left_bracket a ∷ x) (h ∙ ap (λ x. token right_bracket b ∷ x) i))
open_text a b (Some ss) w y v h i =
    (open_bounds a b ss, ap (λ x. token left_bracket a ∷ x) (h ∙ ap (λ x. token right_bracket b ∷ x) i))

bounded : (a : ℕ) (gs : List Goal) (w : List Token) → Holds (maybe_size ∷ only bracket_closing ∷ more_sizes ∷ gs) w
    → Holds (bounding ∷ gs) (token left_bracket a ∷ w)
bounded a gs w (None, u, q, (b, y, r, (ss, v, t, rest))) =
    let h = open_text a b ss w y v (q ∙ r) t in (Some h.0, v, h.1, rest)
bounded a gs w (Some s, u, q, (b, y, r, (ss, v, t, rest))) =
    let h = one_size a b s ss w u y v q r t in (Some (sized_bounds h.0), v, h.1, rest)

-- the goal of the brackets of a parameter, read backwards
pub back_bounding : (k : Kind) (gs : List Goal) (a : ℕ) (w : List Token) → Back (bounding_entry k) bounding gs k a w
back_bounding left_bracket gs a w = λ h. bounded a gs w h
back_bounding k gs a w = λ h. (None, token k a ∷ w, refl, h)

-- the goal of a name, read backwards
pub back_some_name : (k : Kind) (gs : List Goal) (a : ℕ) (w : List Token) → Back (some_name_entry k) some_name gs k a w
back_some_name (a_name x) gs a w = λ h. (x, a, w, refl, h)
back_some_name _ gs a w = tt

-- the goal of a size, read backwards
pub back_some_size : (k : Kind) (gs : List Goal) (a : ℕ) (w : List Token) → Back (some_size_entry k) some_size gs k a w
back_some_size (a_number n) gs a w = λ h. (number_size n a, w, refl, h)
back_some_size (a_name x) gs a w = λ h. (name_size x a, w, refl, h)
back_some_size _ gs a w = tt

-- the goal of a size that may be absent, read backwards
pub back_maybe_size : (k : Kind) (gs : List Goal) (a : ℕ) (w : List Token) → Back (maybe_size_entry k) maybe_size gs k a w
back_maybe_size (a_number n) gs a w = λ h. (Some (number_size n a), w, refl, h)
back_maybe_size (a_name x) gs a w = λ h. (Some (name_size x a), w, refl, h)
back_maybe_size k gs a w = λ h. (None, token k a ∷ w, refl, h)

-- the goal of one token alone, read backwards
pub back_only : (m : Mark) (k : Kind) (gs : List Goal) (a : ℕ) (w : List Token) → Back (only_entry m k) (only m) gs k a w
back_only opening left_paren gs a w = λ h. (a, w, refl, h)
back_only closing right_paren gs a w = λ h. (a, w, refl, h)
back_only brace_opening left_brace gs a w = λ h. (a, w, refl, h)
back_only brace_closing right_brace gs a w = λ h. (a, w, refl, h)
back_only bracket_closing right_bracket gs a w = λ h. (a, w, refl, h)
back_only colon_mark colon gs a w = λ h. (a, w, refl, h)
back_only statement_end semicolon gs a w = λ h. (a, w, refl, h)
back_only int_type int_word gs a w = λ h. (a, w, refl, h)
back_only m _ gs a w = tt
