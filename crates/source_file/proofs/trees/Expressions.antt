-- The tokens of expressions, of sizes and of values read one by one, where what is read depends on open brackets alone.
use Rattle.std.proofs.Common.{◌≡◌, ◌∙◌, ◌++◌, ℕ, List, [], ◌∷◌, refl, ap, append_assoc}
use Rattle.source_grammar.specs.Tokens.{Kind, Prefix, negative, positive, negation, sign_of, a_name, a_number, infix_sign, question}
use Rattle.source_grammar.specs.Tokens.{colon, left_paren, right_paren, left_brace, right_brace, left_bracket, right_bracket, comma}
use Rattle.source_grammar.specs.Tokens.{semicolon, step_sign, int_word, nondet_word, Token, token}
use Rattle.source_grammar.specs.Grammar.{Expr, number, variable, element, call, stepped_behind, stepped_before, free, grouped, prefixed}
use Rattle.source_grammar.specs.Grammar.{joined, chosen, spell_expr, Arguments, no_arguments, arguments, spell_arguments}
use Rattle.source_grammar.specs.Grammar.{MoreArguments, last_argument, next_argument, spell_more_arguments}
use Rattle.source_grammar.specs.Grammar.{Subscripts, last_subscript, next_subscript, spell_subscripts, Size, number_size, name_size}
use Rattle.source_grammar.specs.Grammar.{spell_size, Sizes, last_size, next_size, spell_sizes, Value, one_value, braced, spell_value}
use Rattle.source_grammar.specs.Grammar.{Values, no_values, values, spell_values, MoreValues, last_value, last_comma, next_value}
use Rattle.source_grammar.specs.Grammar.{spell_more_values}

-- a token that is no bracket, no `,`, no `;` and no `int`
abbrev pub IsPlain : Kind → Type 0
IsPlain left_paren = ⊥
IsPlain right_paren = ⊥
IsPlain left_bracket = ⊥
IsPlain right_bracket = ⊥
IsPlain left_brace = ⊥
IsPlain right_brace = ⊥
IsPlain comma = ⊥
IsPlain semicolon = ⊥
IsPlain int_word = ⊥
IsPlain k = Unit {0}

-- a bracket that opens
abbrev pub IsOpening : Kind → Type 0
IsOpening left_paren = Unit {0}
IsOpening left_bracket = Unit {0}
IsOpening left_brace = Unit {0}
IsOpening k = ⊥

-- and one that closes
abbrev pub IsClosing : Kind → Type 0
IsClosing right_paren = Unit {0}
IsClosing right_bracket = Unit {0}
IsClosing right_brace = Unit {0}
IsClosing k = ⊥

-- In a calm state plain tokens change nothing, nor do brackets with what they hold.
pub record IsReader {S R : Type 0} (run : S → List Token → R) (inside : S → S) (Calm : S → Type 0) : Type 0 where
  -- a bracket more is calm, too
  pub calm_inside : (s : S) → Calm s → Calm (inside s)
  -- any other token changes nothing
  pub plain : (s : S) → Calm s → (k : Kind) → IsPlain k → (a : ℕ) (ts : List Token) → run s (token k a ∷ ts) ≡ run s ts
  -- a bracket opens
  pub opens : (s : S) → Calm s → (k : Kind) → IsOpening k → (a : ℕ) (ts : List Token) → run s (token k a ∷ ts) ≡ run (inside s) ts
  -- and closes
  pub closes : (s : S) → Calm s → (k : Kind) → IsClosing k → (a : ℕ) (ts : List Token) → run (inside s) (token k a ∷ ts) ≡ run s ts
  -- in a bracket a comma changes nothing
  pub at_comma : (s : S) → Calm s → (a : ℕ) (ts : List Token) → run (inside s) (token comma a ∷ ts) ≡ run (inside s) ts

sign_plain : (p : Prefix) → IsPlain (sign_of p)
sign_plain negative = tt
sign_plain positive = tt
sign_plain negation = tt

module _ {S R : Type 0} (run : S → List Token → R) (inside : S → S) (Calm : S → Type 0) (r : IsReader run inside Calm) where
  mutual
    -- an expression changes nothing
    pub expr_read : (e : Expr) (s : S) → Calm s → (ts : List Token) → run s (spell_expr e ++ ts) ≡ run s ts
    expr_read (number n a) s h ts = r.plain s h (a_number n) tt a ts
    expr_read (variable x a) s h ts = r.plain s h (a_name x) tt a ts
    expr_read (element x a is) s h ts = r.plain s h (a_name x) tt a _ ∙ subscripts_read is s h ts
    expr_read (call x a b es c) s h ts =
        r.plain s h (a_name x) tt a _ ∙ r.opens s h left_paren tt b _
        ∙ ap (run (inside s)) (append_assoc (spell_arguments es) (token right_paren c ∷ []) ts)
        ∙ arguments_read es s h (token right_paren c ∷ ts) ∙ r.closes s h right_paren tt c ts
    expr_read (stepped_behind x a g b) s h ts = r.plain s h (a_name x) tt a _ ∙ r.plain s h (step_sign g) tt b ts
    expr_read (stepped_before g a x b) s h ts = r.plain s h (step_sign g) tt a _ ∙ r.plain s h (a_name x) tt b ts
    expr_read (free a b c) s h ts =
        r.plain s h nondet_word tt a _ ∙ r.opens s h left_paren tt b _ ∙ r.closes s h right_paren tt c ts
    expr_read (grouped a e b) s h ts =
        r.opens s h left_paren tt a _ ∙ ap (run (inside s)) (append_assoc (spell_expr e) (token right_paren b ∷ []) ts)
        ∙ expr_read e (inside s) (r.calm_inside s h) (token right_paren b ∷ ts) ∙ r.closes s h right_paren tt b ts
    expr_read (prefixed p a e) s h ts = r.plain s h (sign_of p) (sign_plain p) a _ ∙ expr_read e s h ts
    expr_read (joined e o a f) s h ts =
        ap (run s) (append_assoc (spell_expr e) (token (infix_sign o) a ∷ spell_expr f) ts)
        ∙ expr_read e s h (token (infix_sign o) a ∷ (spell_expr f ++ ts)) ∙ r.plain s h (infix_sign o) tt a _ ∙ expr_read f s h ts
    expr_read (chosen c a e b f) s h ts =
        ap (run s) (append_assoc (spell_expr c) (token question a ∷ (spell_expr e ++ token colon b ∷ spell_expr f)) ts)
        ∙ expr_read c s h (token question a ∷ ((spell_expr e ++ token colon b ∷ spell_expr f) ++ ts)) ∙ r.plain s h question tt a _
        ∙ ap (run s) (append_assoc (spell_expr e) (token colon b ∷ spell_expr f) ts)
        ∙ expr_read e s h (token colon b ∷ (spell_expr f ++ ts)) ∙ r.plain s h colon tt b _ ∙ expr_read f s h ts

    -- nor do arguments
    pub arguments_read : (es : Arguments) (s : S) → Calm s → (ts : List Token)
        → run (inside s) (spell_arguments es ++ ts) ≡ run (inside s) ts
    arguments_read no_arguments s h ts = refl
    arguments_read (arguments e es) s h ts =
        ap (run (inside s)) (append_assoc (spell_expr e) (spell_more_arguments es) ts)
        ∙ expr_read e (inside s) (r.calm_inside s h) (spell_more_arguments es ++ ts) ∙ more_read es s h ts

    -- nor do those behind the first
    pub more_read : (es : MoreArguments) (s : S) → Calm s → (ts : List Token)
        → run (inside s) (spell_more_arguments es ++ ts) ≡ run (inside s) ts
    more_read last_argument s h ts = refl
    more_read (next_argument a e es) s h ts =
        r.at_comma s h a _ ∙ ap (run (inside s)) (append_assoc (spell_expr e) (spell_more_arguments es) ts)
        ∙ expr_read e (inside s) (r.calm_inside s h) (spell_more_arguments es ++ ts) ∙ more_read es s h ts

    -- nor do indexes
    pub subscripts_read : (is : Subscripts) (s : S) → Calm s → (ts : List Token) → run s (spell_subscripts is ++ ts) ≡ run s ts
    subscripts_read (last_subscript a e b) s h ts =
        r.opens s h left_bracket tt a _ ∙ ap (run (inside s)) (append_assoc (spell_expr e) (token right_bracket b ∷ []) ts)
        ∙ expr_read e (inside s) (r.calm_inside s h) (token right_bracket b ∷ ts) ∙ r.closes s h right_bracket tt b ts
    subscripts_read (next_subscript a e b is) s h ts =
        r.opens s h left_bracket tt a _ ∙ ap (run (inside s)) (append_assoc (spell_expr e) (token right_bracket b ∷ spell_subscripts is) ts)
        ∙ expr_read e (inside s) (r.calm_inside s h) (token right_bracket b ∷ (spell_subscripts is ++ ts))
        ∙ r.closes s h right_bracket tt b _ ∙ subscripts_read is s h ts

  -- nor does a size
  pub size_read : (z : Size) (s : S) → Calm s → (ts : List Token) → run s (spell_size z ++ ts) ≡ run s ts
  size_read (number_size n a) s h ts = r.plain s h (a_number n) tt a ts
  size_read (name_size x a) s h ts = r.plain s h (a_name x) tt a ts

  -- nor do sizes
  pub sizes_read : (zs : Sizes) (s : S) → Calm s → (ts : List Token) → run s (spell_sizes zs ++ ts) ≡ run s ts
  sizes_read (last_size a z b) s h ts =
      r.opens s h left_bracket tt a _ ∙ ap (run (inside s)) (append_assoc (spell_size z) (token right_bracket b ∷ []) ts)
      ∙ size_read z (inside s) (r.calm_inside s h) (token right_bracket b ∷ ts) ∙ r.closes s h right_bracket tt b ts
  sizes_read (next_size a z b zs) s h ts =
      r.opens s h left_bracket tt a _ ∙ ap (run (inside s)) (append_assoc (spell_size z) (token right_bracket b ∷ spell_sizes zs) ts)
      ∙ size_read z (inside s) (r.calm_inside s h) (token right_bracket b ∷ (spell_sizes zs ++ ts))
      ∙ r.closes s h right_bracket tt b _ ∙ sizes_read zs s h ts

  mutual
    -- nor does a value inside of braces
    pub value_read : (v : Value) (s : S) → Calm s → (ts : List Token) → run (inside s) (spell_value v ++ ts) ≡ run (inside s) ts
    value_read (one_value e) s h ts = expr_read e (inside s) (r.calm_inside s h) ts
    value_read (braced a vs b) s h ts =
        r.opens (inside s) (r.calm_inside s h) left_brace tt a _
        ∙ ap (run (inside (inside s))) (append_assoc (spell_values vs) (token right_brace b ∷ []) ts)
        ∙ values_read vs (inside s) (r.calm_inside s h) (token right_brace b ∷ ts)
        ∙ r.closes (inside s) (r.calm_inside s h) right_brace tt b ts

    -- nor do these values
    pub values_read : (vs : Values) (s : S) → Calm s → (ts : List Token) → run (inside s) (spell_values vs ++ ts) ≡ run (inside s) ts
    values_read no_values s h ts = refl
    values_read (values v vs) s h ts =
        ap (run (inside s)) (append_assoc (spell_value v) (spell_more_values vs) ts)
        ∙ value_read v s h (spell_more_values vs ++ ts) ∙ more_values_read vs s h ts

    -- nor do those behind the first
    pub more_values_read : (vs : MoreValues) (s : S) → Calm s → (ts : List Token)
        → run (inside s) (spell_more_values vs ++ ts) ≡ run (inside s) ts
    more_values_read last_value s h ts = refl
    more_values_read (last_comma a) s h ts = r.at_comma s h a ts
    more_values_read (next_value a v vs) s h ts =
        r.at_comma s h a _ ∙ ap (run (inside s)) (append_assoc (spell_value v) (spell_more_values vs) ts)
        ∙ value_read v s h (spell_more_values vs ++ ts) ∙ more_values_read vs s h ts

  -- nor do values in braces
  pub braced_read : (a : ℕ) (vs : Values) (b : ℕ) (s : S) → Calm s → (ts : List Token)
      → run s (token left_brace a ∷ ((spell_values vs ++ token right_brace b ∷ []) ++ ts)) ≡ run s ts
  braced_read a vs b s h ts =
      r.opens s h left_brace tt a _ ∙ ap (run (inside s)) (append_assoc (spell_values vs) (token right_brace b ∷ []) ts)
      ∙ values_read vs s h (token right_brace b ∷ ts) ∙ r.closes s h right_brace tt b ts
