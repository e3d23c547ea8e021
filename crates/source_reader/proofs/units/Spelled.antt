-- Changes, declarators and expressions are units: their brackets match, and outside of these no token in them parts.
use Rattle.std.proofs.Common.{◌≡◌, ◌∙◌, ◌+◌, ℕ, zero, suc, true, List, [], ◌∷◌, ◌++◌, length, map, take, refl, sym, ap}
use Rattle.std.proofs.Common.{append_assoc, arith}
use Rattle.std.proofs.lemmas.List.{length-append, take-map}
use Rattle.lang_tokens.specs.declared.token.Token as lex_token
use Rattle.source_tokens.specs.declared.definition.Definition.{Definition}
use Rattle.source_tokens.specs.View.{token_of, tokens_of}
use Rattle.std.proofs.Math.Seq.{take-append_seam}
use Rattle.source_grammar.specs.Tokens.{Kind, Token, token, Prefix, negative, positive, negation, sign_of, right_paren, right_bracket}
use Rattle.source_grammar.specs.Tokens.{right_brace}
use Rattle.source_grammar.specs.Grammar.{Expr, Arguments, MoreArguments, Subscripts, number, variable, element, call, stepped_behind}
use Rattle.source_grammar.specs.Grammar.{stepped_before, free, grouped, prefixed, joined, chosen, no_arguments, arguments, last_argument}
use Rattle.source_grammar.specs.Grammar.{next_argument, last_subscript, next_subscript, spell_expr, spell_arguments}
use Rattle.source_grammar.specs.Grammar.{spell_more_arguments, spell_subscripts, Index, no_index, index, spell_index, Place, place}
use Rattle.source_grammar.specs.Grammar.{spell_place}
use Rattle.source_grammar.specs.Grammar.{Effect, assigns, steps, spell_effect, Update, update, step_before, spell_update}
use Rattle.source_grammar.specs.Grammar.{Size, number_size, name_size, spell_size, Sizes, last_size, next_size, spell_sizes}
use Rattle.source_grammar.specs.Grammar.{Value, one_value, braced, Values, no_values, values, MoreValues, last_value, last_comma}
use Rattle.source_grammar.specs.Grammar.{next_value}
use Rattle.source_grammar.specs.Grammar.{spell_value, spell_values, spell_more_values, Initialiser, bare, given, sized, filled}
use Rattle.source_grammar.specs.Grammar.{spell_initialiser, Declarator, declarator, spell_declarator}
use Rattle.source_reader.specs.Reading.{first_kind}
use Rattle.source_reader.specs.Units.{turn_in, turn_of, code_turn, ends_turn, ends_unit, unit_length}
use Rattle.source_reader.proofs.units.Ending.{code_turns}
use Rattle.source_reader.specs.declared.units.Turn.{Turn}
use Rattle.source_reader.specs.declared.units.Turn.TheVariants.{Opens, Closes, Parts, Stays}

-- how many tokens stand before the first that ends the unit, at this depth
abbrev ahead : ℕ → List Token → ℕ
ahead depth ts = unit_length depth (map turn_of ts)

-- these tokens are passed at each depth
pub record Whole (xs : List Token) : Type 0 where
  on : (depth : ℕ) (ts : List Token) → ahead depth (xs ++ ts) ≡ length xs + ahead depth ts

-- they are within a bracket
record Inside (xs : List Token) : Type 0 where
  on : (depth : ℕ) (ts : List Token) → ahead (suc depth) (xs ++ ts) ≡ length xs + ahead (suc depth) ts

opens_at : (depth : ℕ) (ts : List Turn) → unit_length depth (Opens ∷ ts) ≡ suc (unit_length (suc depth) ts)
opens_at zero ts = refl
opens_at (suc depth) ts = refl

stays_at : (depth : ℕ) (ts : List Turn) → unit_length depth (Stays ∷ ts) ≡ suc (unit_length depth ts)
stays_at zero ts = refl
stays_at (suc depth) ts = refl

inside : {xs : List Token} → Whole xs → Inside xs
inside w = record { on = λ depth ts. w.on (suc depth) ts }

nothing : Whole []
nothing = record { on = λ depth ts. omega arith }

none_inside : Inside []
none_inside = inside nothing

-- one part behind another
both : {xs ys : List Token} → Whole xs → Whole ys → Whole (xs ++ ys)
both {xs} {ys} v w = record {
  on = λ depth ts.
      let e = ap (ahead depth) (append_assoc xs ys ts) in
      let f = v.on depth (ys ++ ts) in
      let g = w.on depth ts in
      let l = length-append xs ys in omega (arith, e, f, g, l);
}

-- likewise within a bracket
both_inside : {xs ys : List Token} → Inside xs → Inside ys → Inside (xs ++ ys)
both_inside {xs} {ys} v w = record {
  on = λ depth ts.
      let e = ap (ahead (suc depth)) (append_assoc xs ys ts) in
      let f = v.on depth (ys ++ ts) in
      let g = w.on depth ts in
      let l = length-append xs ys in omega (arith, e, f, g, l);
}

-- a token that is no bracket and parts nothing, before others
stays : {k : Kind} {a : ℕ} {xs : List Token} → turn_in k ≡ Stays → Whole xs → Whole (token k a ∷ xs)
stays {xs} e w = record {
  on = λ depth ts.
      let p = ap (λ t. unit_length depth (t ∷ map turn_of (xs ++ ts))) e in
      let q = stays_at depth (map turn_of (xs ++ ts)) in
      let r = w.on depth ts in omega (arith, p, q, r);
}

-- a comma within a bracket, before others
parts : {k : Kind} {a : ℕ} {xs : List Token} → turn_in k ≡ Parts → Inside xs → Inside (token k a ∷ xs)
parts {xs} e w = record {
  on = λ depth ts.
      let p = ap (λ t. unit_length (suc depth) (t ∷ map turn_of (xs ++ ts))) e in
      let r = w.on depth ts in omega (arith, p, r);
}

-- tokens in brackets, before others
closed : {k : Kind} {a : ℕ} {xs ys : List Token} (c : Kind) (b : ℕ) → turn_in k ≡ Opens → turn_in c ≡ Closes → Inside xs → Whole ys
    → Whole (token k a ∷ (xs ++ token c b ∷ ys))
closed {xs} {ys} c b e f v w = record {
  on = λ depth ts.
      let p = ap (λ t. unit_length depth (t ∷ map turn_of ((xs ++ token c b ∷ ys) ++ ts))) e in
      let q = opens_at depth (map turn_of ((xs ++ token c b ∷ ys) ++ ts)) in
      let r = ap (ahead (suc depth)) (append_assoc xs (token c b ∷ ys) ts) in
      let s = v.on depth (token c b ∷ (ys ++ ts)) in
      let t = ap (λ t. unit_length (suc depth) (t ∷ map turn_of (ys ++ ts))) f in
      let u = w.on depth ts in
      let l = length-append xs (token c b ∷ ys) in omega (arith, p, q, r, s, t, u, l);
}

sign_stays : (p : Prefix) → turn_in (sign_of p) ≡ Stays
sign_stays negative = refl
sign_stays positive = refl
sign_stays negation = refl

mutual
  -- an expression
  pub whole_expr : (e : Expr) → Whole (spell_expr e)
  whole_expr (number n a) = stays refl nothing
  whole_expr (variable x a) = stays refl nothing
  whole_expr (element x a is) = stays refl (whole_subscripts is)
  whole_expr (call x a b es c) = stays refl (closed right_paren c refl refl (inside_arguments es) nothing)
  whole_expr (stepped_behind x a g b) = stays refl (stays refl nothing)
  whole_expr (stepped_before g a x b) = stays refl (stays refl nothing)
  whole_expr (free a b c) = stays refl (closed right_paren c refl refl none_inside nothing)
  whole_expr (grouped a e b) = closed right_paren b refl refl (inside (whole_expr e)) nothing
  whole_expr (prefixed p a e) = stays (sign_stays p) (whole_expr e)
  whole_expr (joined e o a f) = both (whole_expr e) (stays refl (whole_expr f))
  whole_expr (chosen c a e b f) = both (whole_expr c) (stays refl (both (whole_expr e) (stays refl (whole_expr f))))

  -- arguments in their brackets
  inside_arguments : (es : Arguments) → Inside (spell_arguments es)
  inside_arguments no_arguments = none_inside
  inside_arguments (arguments e es) = both_inside (inside (whole_expr e)) (inside_more es)

  inside_more : (es : MoreArguments) → Inside (spell_more_arguments es)
  inside_more last_argument = none_inside
  inside_more (next_argument a e es) = parts refl (both_inside (inside (whole_expr e)) (inside_more es))

  -- indexes with their brackets
  whole_subscripts : (is : Subscripts) → Whole (spell_subscripts is)
  whole_subscripts (last_subscript a e b) = closed right_bracket b refl refl (inside (whole_expr e)) nothing
  whole_subscripts (next_subscript a e b is) = closed right_bracket b refl refl (inside (whole_expr e)) (whole_subscripts is)

whole_index : (i : Index) → Whole (spell_index i)
whole_index no_index = nothing
whole_index (index is) = whole_subscripts is

whole_place : (p : Place) → Whole (spell_place p)
whole_place (place x a i) = stays refl (whole_index i)

whole_effect : (f : Effect) → Whole (spell_effect f)
whole_effect (assigns g a e) = stays refl (whole_expr e)
whole_effect (steps g a) = stays refl nothing

-- a change
pub whole_update : (u : Update) → Whole (spell_update u)
whole_update (update p f) = both (whole_place p) (whole_effect f)
whole_update (step_before g a p) = stays refl (whole_place p)

inside_size : (s : Size) → Inside (spell_size s)
inside_size (number_size n a) = inside (stays refl nothing)
inside_size (name_size x a) = inside (stays refl nothing)

whole_sizes : (ss : Sizes) → Whole (spell_sizes ss)
whole_sizes (last_size a s b) = closed right_bracket b refl refl (inside_size s) nothing
whole_sizes (next_size a s b ss) = closed right_bracket b refl refl (inside_size s) (whole_sizes ss)

mutual
  whole_value : (v : Value) → Whole (spell_value v)
  whole_value (one_value e) = whole_expr e
  whole_value (braced a vs b) = closed right_brace b refl refl (inside_values vs) nothing

  inside_values : (vs : Values) → Inside (spell_values vs)
  inside_values no_values = none_inside
  inside_values (values v vs) = both_inside (inside (whole_value v)) (inside_more_values vs)

  inside_more_values : (vs : MoreValues) → Inside (spell_more_values vs)
  inside_more_values last_value = none_inside
  inside_more_values (last_comma a) = parts refl none_inside
  inside_more_values (next_value a v vs) = parts refl (both_inside (inside (whole_value v)) (inside_more_values vs))

whole_initialiser : (i : Initialiser) → Whole (spell_initialiser i)
whole_initialiser bare = nothing
whole_initialiser (given a e) = stays refl (whole_expr e)
whole_initialiser (sized ss) = whole_sizes ss
whole_initialiser (filled ss a b vs c) = both (whole_sizes ss) (stays refl (closed right_brace c refl refl (inside_values vs) nothing))

-- a declarator
pub whole_declarator : (x : Declarator) → Whole (spell_declarator x)
whole_declarator (declarator x a i) = stays refl (whole_initialiser i)

-- ---- where a unit ends
ends_there : (ts : List Token) → ends_unit (first_kind ts) ≡ true → ahead 0 ts ≡ 0
ends_there [] e = refl
ends_there (token k a ∷ ts) e = by (turn_in k) e where
  by : (t : Turn) → ends_turn t ≡ true → unit_length 0 (t ∷ map turn_of ts) ≡ 0
  by Opens h = absurd cc
  by Closes h = refl
  by Parts h = refl
  by Stays h = absurd cc

-- a unit is as long as the tokens before the first that ends it
pub taken_unit : (xs ts all : List Token) (n : ℕ) → Whole xs → all ≡ xs ++ ts → ends_unit (first_kind ts) ≡ true
    → n ≡ unit_length 0 (map turn_of all) → take n all ≡ xs
taken_unit xs ts all n w e h m =
    let p = ap (ahead 0) e in
    let q = w.on 0 ts in
    let r = ends_there ts h in
    let s : n ≡ length xs = omega (arith, m, p, q, r) in
    ap (λ k. take k all) s ∙ ap (take (length xs)) e ∙ take-append_seam xs ts

-- likewise of the code's tokens, of which the first so many are its
pub unit_tokens : (constants : List Definition) (text : List ℕ) (rest : List lex_token.Token) (n : ℕ) (xs ts : List Token) → Whole xs
    → tokens_of constants text rest ≡ xs ++ ts → ends_unit (first_kind ts) ≡ true → n ≡ unit_length 0 (map code_turn rest)
    → tokens_of constants text (take n rest) ≡ xs
unit_tokens constants text rest n xs ts w e h m =
    sym (take-map (token_of constants text) n rest)
    ∙ taken_unit xs ts (tokens_of constants text rest) n w e h (m ∙ ap (unit_length 0) (code_turns constants text rest))
