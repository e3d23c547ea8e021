-- Tokens that the machine passes over.
use Rattle.std.proofs.Common.{◌≡◌, ◌∙◌, ◌++◌, ◌∷◌, ℕ, List, [], refl, ap, append_assoc}
use Rattle.source_grammar.specs.Tokens.{negative, positive, negation, replaces, Kind, infix_sign, left_paren, right_paren, left_brace}
use Rattle.source_grammar.specs.Tokens.{right_brace, right_bracket, semicolon, change_sign}
use Rattle.source_grammar.specs.Tokens.{comma, colon, Token, token}
use Rattle.source_grammar.specs.Expressions.{Expr, number, variable, element, call, free, grouped, prefixed, joined, chosen, Arguments}
use Rattle.source_grammar.specs.Expressions.{no_arguments, arguments, MoreArguments, last_argument, next_argument, Optional, absent}
use Rattle.source_grammar.specs.Expressions.{present}
use Rattle.source_grammar.specs.Expressions.{Index, no_index, index, place, Effect, assigns, steps, Update, update, step_before}
use Rattle.source_grammar.specs.Expressions.{MoreUpdates, last_update, next_update, Updates, no_updates, some_updates}
use Rattle.source_grammar.specs.Grammar.{bare, given}
use Rattle.source_grammar.specs.Grammar.{sized, Declarator, declarator, MoreDeclarators, last_declarator, next_declarator, Declarators}
use Rattle.source_grammar.specs.Grammar.{declares, ForFirst, declared_first, updated_first, spell_expr, spell_arguments}
use Rattle.source_grammar.specs.Expressions.{stepped_behind, stepped_before, Subscripts, last_subscript, next_subscript}
use Rattle.source_grammar.specs.Grammar.{spell_more_arguments}
use Rattle.source_grammar.specs.Grammar.{spell_subscripts, number_size, name_size, Sizes, last_size, next_size, spell_sizes, Value}
use Rattle.source_grammar.specs.Grammar.{one_value}
use Rattle.source_grammar.specs.Grammar.{braced, Values, no_values, values, MoreValues, last_value, last_comma, next_value, spell_value}
use Rattle.source_grammar.specs.Grammar.{spell_values, spell_more_values, filled, plain_int, const_int}
use Rattle.source_grammar.specs.Expressions.{spell_optional, spell_index, spell_effect, spell_update, spell_more_updates, spell_updates}
use Rattle.source_grammar.specs.Grammar.{spell_declarator, spell_more_declarators, spell_declarators, spell_first}
use Rattle.acsl_anchors.specs.Anchors.{Scope, scope_by, scope_declarator, scope_more_declarators, scope_declarators, scope_first}
use Rattle.acsl_anchors.specs.Parts.{part_of}
use Rattle.acsl_anchors.specs.Machine.{State, state, step, run}
use Rattle.acsl_anchors.specs.declared.anchor.Anchor.{Anchor}
use Rattle.acsl_anchors.specs.declared.anchor.What.TheVariants as what
use Rattle.acsl_anchors.specs.declared.goal.Goal.{Goal}
use Rattle.acsl_anchors.specs.declared.goal.Goal.TheVariants as goal

-- a token that doesn't end a statement
abbrev pub IsInner : Kind → Type 0
IsInner semicolon = ⊥
IsInner _ = Unit {0}

-- each of the tokens is one
abbrev pub AreInner : List Token → Type 0
AreInner [] = Unit {0}
AreInner (token k a ∷ ts) = IsInner k × AreInner ts

-- tokens in a row
pub inner_append : (xs ys : List Token) → AreInner xs → AreInner ys → AreInner (xs ++ ys)
inner_append [] ys h i = i
inner_append (token k a ∷ xs) ys h i = (h.0, inner_append xs ys h.1 i)

mutual
  -- All tokens of an expression are inner ones.
  pub inner_expr : (e : Expr) → AreInner (spell_expr e)
  inner_expr (number n a) = (tt, tt)
  inner_expr (variable x a) = (tt, tt)
  inner_expr (element x a is) = (tt, inner_subscripts is)
  inner_expr (call x a b es c) = (tt, (tt, inner_append (spell_arguments es) (token right_paren c ∷ []) (inner_arguments es) (tt, tt)))
  inner_expr (stepped_behind x a g b) = (tt, (tt, tt))
  inner_expr (stepped_before g a x b) = (tt, (tt, tt))
  inner_expr (free a b c) = (tt, (tt, (tt, tt)))
  inner_expr (grouped a e b) = (tt, inner_append (spell_expr e) (token right_paren b ∷ []) (inner_expr e) (tt, tt))
  inner_expr (prefixed negative a e) = (tt, inner_expr e)
  inner_expr (prefixed positive a e) = (tt, inner_expr e)
  inner_expr (prefixed negation a e) = (tt, inner_expr e)
  inner_expr (joined e o a f) = inner_append (spell_expr e) (token (infix_sign o) a ∷ spell_expr f) (inner_expr e) (tt, inner_expr f)
  inner_expr (chosen c a e b f) =
      inner_append (spell_expr c) _ (inner_expr c)
      (tt, inner_append (spell_expr e) (token colon b ∷ spell_expr f) (inner_expr e) (tt, inner_expr f))

  -- so are those of arguments,
  pub inner_arguments : (es : Arguments) → AreInner (spell_arguments es)
  inner_arguments no_arguments = tt
  inner_arguments (arguments e es) = inner_append (spell_expr e) (spell_more_arguments es) (inner_expr e) (inner_more_arguments es)

  -- of those behind the first,
  inner_more_arguments : (es : MoreArguments) → AreInner (spell_more_arguments es)
  inner_more_arguments last_argument = tt
  inner_more_arguments (next_argument a e es) =
      (tt, inner_append (spell_expr e) (spell_more_arguments es) (inner_expr e) (inner_more_arguments es))

  -- of an element's brackets,
  pub inner_subscripts : (is : Subscripts) → AreInner (spell_subscripts is)
  inner_subscripts (last_subscript a e b) = (tt, inner_append (spell_expr e) (token right_bracket b ∷ []) (inner_expr e) (tt, tt))
  inner_subscripts (next_subscript a e b is) =
      (tt, inner_append (spell_expr e) (token right_bracket b ∷ spell_subscripts is) (inner_expr e) (tt, inner_subscripts is))

-- of an expression that may be absent,
pub inner_optional : (t : Optional) → AreInner (spell_optional t)
inner_optional absent = tt
inner_optional (present e) = inner_expr e

-- of an index,
pub inner_index : (i : Index) → AreInner (spell_index i)
inner_index no_index = tt
inner_index (index is) = inner_subscripts is

-- of what is done to a place,
pub inner_effect : (f : Effect) → AreInner (spell_effect f)
inner_effect (assigns g a e) = (tt, inner_expr e)
inner_effect (steps g a) = (tt, tt)

-- of a change,
pub inner_update : (u : Update) → AreInner (spell_update u)
inner_update (update (place x a i) f) = (tt, inner_append (spell_index i) (spell_effect f) (inner_index i) (inner_effect f))
inner_update (step_before g a (place x b i)) = (tt, (tt, inner_index i))

-- and of those behind the first.
pub inner_more_updates : (us : MoreUpdates) → AreInner (spell_more_updates us)
inner_more_updates last_update = tt
inner_more_updates (next_update a u us) =
    (tt, inner_append (spell_update u) (spell_more_updates us) (inner_update u) (inner_more_updates us))

-- The goal stays at each such token, and nothing else changes.
abbrev pub Stays : Goal → Type 0
Stays g = (k : Kind) → IsInner k → (a : ℕ) (gs : List Goal) (s : Scope) (found : List Anchor)
    → step (g ∷ gs) (part_of k) a s found ≡ state (g ∷ gs) s found

-- The goals that pass over them: the rest of a statement,
pub rest_stays : (k : Kind) → IsInner k → (a : ℕ) (gs : List Goal) (s : Scope) (found : List Anchor)
    → step (goal.Rest ∷ gs) (part_of k) a s found ≡ state (goal.Rest ∷ gs) s found
rest_stays semicolon h a gs s found = absurd h
rest_stays _ h a gs s found = refl

-- and the condition of a `for`.
test_stays : (start : ℕ) (k : Kind) → IsInner k → (a : ℕ) (gs : List Goal) (s : Scope) (found : List Anchor)
    → step (goal.Test start ∷ gs) (part_of k) a s found ≡ state (goal.Test start ∷ gs) s found
test_stays start semicolon h a gs s found = absurd h
test_stays start _ h a gs s found = refl

-- Such a goal stays over all of them.
pub passes : (g : Goal) → Stays g → (ts : List Token) → AreInner ts → (gs : List Goal) (s : Scope) (found : List Anchor) (w : List Token)
    → run (state (g ∷ gs) s found) (ts ++ w) ≡ run (state (g ∷ gs) s found) w
passes g stays [] h gs s found w = refl
passes g stays (token k a ∷ ts) h gs s found w = ap (λ (st : State). run st (ts ++ w)) (stays k h.0 a gs s found)
    ∙ passes g stays ts h.1 gs s found w

-- ---- what parentheses hold
mutual
  -- An expression closes what it opens.
  paren_expr : (e : Expr) (gs : List Goal) (s : Scope) (found : List Anchor) (w : List Token)
      → run (state (goal.Paren ∷ gs) s found) (spell_expr e ++ w) ≡ run (state (goal.Paren ∷ gs) s found) w
  paren_expr (number m a) gs s found w = refl
  paren_expr (variable x a) gs s found w = refl
  paren_expr (element x a is) gs s found w = paren_subscripts is gs s found w
  paren_expr (call x a b es c) gs s found w = rw append_assoc (paren_arguments es (goal.Paren ∷ gs) s found (token right_paren c ∷ w))
  paren_expr (stepped_behind x a g b) gs s found w = refl
  paren_expr (stepped_before g a x b) gs s found w = refl
  paren_expr (free i j k) gs s found w = refl
  paren_expr (grouped a e b) gs s found w = rw append_assoc (paren_expr e (goal.Paren ∷ gs) s found (token right_paren b ∷ w))
  paren_expr (prefixed negative a e) gs s found w = paren_expr e gs s found w
  paren_expr (prefixed positive a e) gs s found w = paren_expr e gs s found w
  paren_expr (prefixed negation a e) gs s found w = paren_expr e gs s found w
  paren_expr (joined e o a f) gs s found w = rw append_assoc (paren_expr e gs s found _ ∙ paren_expr f gs s found w)
  paren_expr (chosen c a e b f) gs s found w =
      rw (append_assoc (spell_expr c) _ w, append_assoc (spell_expr e) _ w)
      (paren_expr c gs s found _ ∙ (paren_expr e gs s found _ ∙ paren_expr f gs s found w))

  -- So do arguments.
  paren_arguments : (es : Arguments) (gs : List Goal) (s : Scope) (found : List Anchor) (w : List Token)
      → run (state (goal.Paren ∷ gs) s found) (spell_arguments es ++ w) ≡ run (state (goal.Paren ∷ gs) s found) w
  paren_arguments no_arguments gs s found w = refl
  paren_arguments (arguments e es) gs s found w =
      rw append_assoc (paren_expr e gs s found _ ∙ paren_more_arguments es gs s found w)

  -- So do those behind the first.
  paren_more_arguments : (es : MoreArguments) (gs : List Goal) (s : Scope) (found : List Anchor) (w : List Token)
      → run (state (goal.Paren ∷ gs) s found) (spell_more_arguments es ++ w) ≡ run (state (goal.Paren ∷ gs) s found) w
  paren_more_arguments last_argument gs s found w = refl
  paren_more_arguments (next_argument a e es) gs s found w =
      rw append_assoc (paren_expr e gs s found _ ∙ paren_more_arguments es gs s found w)

  -- So do an element's brackets.
  paren_subscripts : (is : Subscripts) (gs : List Goal) (s : Scope) (found : List Anchor) (w : List Token)
      → run (state (goal.Paren ∷ gs) s found) (spell_subscripts is ++ w) ≡ run (state (goal.Paren ∷ gs) s found) w
  paren_subscripts (last_subscript a e b) gs s found w = rw append_assoc (paren_expr e gs s found (token right_bracket b ∷ w))
  paren_subscripts (next_subscript a e b is) gs s found w =
      rw append_assoc (paren_expr e gs s found _ ∙ paren_subscripts is gs s found w)

-- So does an index,
paren_index : (i : Index) (gs : List Goal) (s : Scope) (found : List Anchor) (w : List Token)
    → run (state (goal.Paren ∷ gs) s found) (spell_index i ++ w) ≡ run (state (goal.Paren ∷ gs) s found) w
paren_index no_index gs s found w = refl
paren_index (index is) gs s found w = paren_subscripts is gs s found w

-- what is done to a place,
paren_effect : (f : Effect) (gs : List Goal) (s : Scope) (found : List Anchor) (w : List Token)
    → run (state (goal.Paren ∷ gs) s found) (spell_effect f ++ w) ≡ run (state (goal.Paren ∷ gs) s found) w
paren_effect (assigns g a e) gs s found w = paren_expr e gs s found w
paren_effect (steps g a) gs s found w = refl

-- a change,
paren_update : (u : Update) (gs : List Goal) (s : Scope) (found : List Anchor) (w : List Token)
    → run (state (goal.Paren ∷ gs) s found) (spell_update u ++ w) ≡ run (state (goal.Paren ∷ gs) s found) w
paren_update (update (place x a i) f) gs s found w = rw append_assoc (paren_index i gs s found _ ∙ paren_effect f gs s found w)
paren_update (step_before g a (place x b i)) gs s found w = paren_index i gs s found w

-- those behind it,
paren_more_updates : (us : MoreUpdates) (gs : List Goal) (s : Scope) (found : List Anchor) (w : List Token)
    → run (state (goal.Paren ∷ gs) s found) (spell_more_updates us ++ w) ≡ run (state (goal.Paren ∷ gs) s found) w
paren_more_updates last_update gs s found w = refl
paren_more_updates (next_update a u us) gs s found w =
    rw append_assoc (paren_update u gs s found _ ∙ paren_more_updates us gs s found w)

-- and changes in order.
paren_updates : (us : Updates) (gs : List Goal) (s : Scope) (found : List Anchor) (w : List Token)
    → run (state (goal.Paren ∷ gs) s found) (spell_updates us ++ w) ≡ run (state (goal.Paren ∷ gs) s found) w
paren_updates no_updates gs s found w = refl
paren_updates (some_updates u us) gs s found w =
    rw append_assoc (paren_update u gs s found _ ∙ paren_more_updates us gs s found w)

-- A condition is passed over.
pub condition_run : (b : ℕ) (e : Expr) (c : ℕ) (gs : List Goal) (s : Scope) (found : List Anchor) (w : List Token)
    → run (state (goal.Condition ∷ gs) s found) (token left_paren b ∷ (spell_expr e ++ token right_paren c ∷ w)) ≡ run (state gs s found) w
condition_run b e c gs s found w = paren_expr e gs s found (token right_paren c ∷ w)

-- ---- declarations
mutual
  -- The value of a declared name is passed over.
  declared_expr : (e : Expr) (gs : List Goal) (s : Scope) (found : List Anchor) (w : List Token)
      → run (state (goal.Declared ∷ gs) s found) (spell_expr e ++ w) ≡ run (state (goal.Declared ∷ gs) s found) w
  declared_expr (number m a) gs s found w = refl
  declared_expr (variable x a) gs s found w = refl
  declared_expr (element x a is) gs s found w = declared_subscripts is gs s found w
  declared_expr (call x a b es c) gs s found w =
      rw append_assoc (paren_arguments es (goal.Declared ∷ gs) s found (token right_paren c ∷ w))
  declared_expr (stepped_behind x a g b) gs s found w = refl
  declared_expr (stepped_before g a x b) gs s found w = refl
  declared_expr (free i j k) gs s found w = refl
  declared_expr (grouped a e b) gs s found w = rw append_assoc (paren_expr e (goal.Declared ∷ gs) s found (token right_paren b ∷ w))
  declared_expr (prefixed negative a e) gs s found w = declared_expr e gs s found w
  declared_expr (prefixed positive a e) gs s found w = declared_expr e gs s found w
  declared_expr (prefixed negation a e) gs s found w = declared_expr e gs s found w
  declared_expr (joined e o a f) gs s found w = rw append_assoc (declared_expr e gs s found _ ∙ declared_expr f gs s found w)
  declared_expr (chosen c a e b f) gs s found w =
      rw (append_assoc (spell_expr c) _ w, append_assoc (spell_expr e) _ w)
      (declared_expr c gs s found _ ∙ (declared_expr e gs s found _ ∙ declared_expr f gs s found w))

  -- So are an element's brackets in it.
  declared_subscripts : (is : Subscripts) (gs : List Goal) (s : Scope) (found : List Anchor) (w : List Token)
      → run (state (goal.Declared ∷ gs) s found) (spell_subscripts is ++ w) ≡ run (state (goal.Declared ∷ gs) s found) w
  declared_subscripts (last_subscript a e b) gs s found w = rw append_assoc (declared_expr e gs s found (token right_bracket b ∷ w))
  declared_subscripts (next_subscript a e b is) gs s found w =
      rw append_assoc (declared_expr e gs s found _ ∙ declared_subscripts is gs s found w)

mutual
  -- Braces pass over an expression,
  brace_expr : (e : Expr) (gs : List Goal) (s : Scope) (found : List Anchor) (w : List Token)
      → run (state (goal.Brace ∷ gs) s found) (spell_expr e ++ w) ≡ run (state (goal.Brace ∷ gs) s found) w
  brace_expr (number m a) gs s found w = refl
  brace_expr (variable x a) gs s found w = refl
  brace_expr (element x a is) gs s found w = brace_subscripts is gs s found w
  brace_expr (call x a b es c) gs s found w = rw append_assoc (brace_arguments es gs s found (token right_paren c ∷ w))
  brace_expr (stepped_behind x a g b) gs s found w = refl
  brace_expr (stepped_before g a x b) gs s found w = refl
  brace_expr (free i j k) gs s found w = refl
  brace_expr (grouped a e b) gs s found w = rw append_assoc (brace_expr e gs s found (token right_paren b ∷ w))
  brace_expr (prefixed negative a e) gs s found w = brace_expr e gs s found w
  brace_expr (prefixed positive a e) gs s found w = brace_expr e gs s found w
  brace_expr (prefixed negation a e) gs s found w = brace_expr e gs s found w
  brace_expr (joined e o a f) gs s found w = rw append_assoc (brace_expr e gs s found _ ∙ brace_expr f gs s found w)
  brace_expr (chosen c a e b f) gs s found w =
      rw (append_assoc (spell_expr c) _ w, append_assoc (spell_expr e) _ w)
      (brace_expr c gs s found _ ∙ (brace_expr e gs s found _ ∙ brace_expr f gs s found w))

  -- over arguments,
  brace_arguments : (es : Arguments) (gs : List Goal) (s : Scope) (found : List Anchor) (w : List Token)
      → run (state (goal.Brace ∷ gs) s found) (spell_arguments es ++ w) ≡ run (state (goal.Brace ∷ gs) s found) w
  brace_arguments no_arguments gs s found w = refl
  brace_arguments (arguments e es) gs s found w =
      rw append_assoc (brace_expr e gs s found _ ∙ brace_more_arguments es gs s found w)

  -- over those behind the first,
  brace_more_arguments : (es : MoreArguments) (gs : List Goal) (s : Scope) (found : List Anchor) (w : List Token)
      → run (state (goal.Brace ∷ gs) s found) (spell_more_arguments es ++ w) ≡ run (state (goal.Brace ∷ gs) s found) w
  brace_more_arguments last_argument gs s found w = refl
  brace_more_arguments (next_argument a e es) gs s found w =
      rw append_assoc (brace_expr e gs s found _ ∙ brace_more_arguments es gs s found w)

  -- and over an element's brackets.
  brace_subscripts : (is : Subscripts) (gs : List Goal) (s : Scope) (found : List Anchor) (w : List Token)
      → run (state (goal.Brace ∷ gs) s found) (spell_subscripts is ++ w) ≡ run (state (goal.Brace ∷ gs) s found) w
  brace_subscripts (last_subscript a e b) gs s found w = rw append_assoc (brace_expr e gs s found (token right_bracket b ∷ w))
  brace_subscripts (next_subscript a e b is) gs s found w =
      rw append_assoc (brace_expr e gs s found _ ∙ brace_subscripts is gs s found w)

mutual
  -- They pass over a value,
  brace_value : (v : Value) (gs : List Goal) (s : Scope) (found : List Anchor) (w : List Token)
      → run (state (goal.Brace ∷ gs) s found) (spell_value v ++ w) ≡ run (state (goal.Brace ∷ gs) s found) w
  brace_value (one_value e) gs s found w = brace_expr e gs s found w
  brace_value (braced a vs b) gs s found w = rw append_assoc (brace_values vs (goal.Brace ∷ gs) s found (token right_brace b ∷ w))

  -- over values,
  brace_values : (vs : Values) (gs : List Goal) (s : Scope) (found : List Anchor) (w : List Token)
      → run (state (goal.Brace ∷ gs) s found) (spell_values vs ++ w) ≡ run (state (goal.Brace ∷ gs) s found) w
  brace_values no_values gs s found w = refl
  brace_values (values v vs) gs s found w = rw append_assoc (brace_value v gs s found _ ∙ brace_more_values vs gs s found w)

  -- and over those behind the first.
  brace_more_values : (vs : MoreValues) (gs : List Goal) (s : Scope) (found : List Anchor) (w : List Token)
      → run (state (goal.Brace ∷ gs) s found) (spell_more_values vs ++ w) ≡ run (state (goal.Brace ∷ gs) s found) w
  brace_more_values last_value gs s found w = refl
  brace_more_values (last_comma a) gs s found w = refl
  brace_more_values (next_value a v vs) gs s found w =
      rw append_assoc (brace_value v gs s found _ ∙ brace_more_values vs gs s found w)

-- The sizes of an array behind the first are passed over,
declared_sizes : (ss : Sizes) (gs : List Goal) (s : Scope) (found : List Anchor) (w : List Token)
    → run (state (goal.Declared ∷ gs) s found) (spell_sizes ss ++ w) ≡ run (state (goal.Declared ∷ gs) s found) w
declared_sizes (last_size a (number_size m b) c) gs s found w = refl
declared_sizes (last_size a (name_size x b) c) gs s found w = refl
declared_sizes (next_size a (number_size m b) c ss) gs s found w = declared_sizes ss gs s found w
declared_sizes (next_size a (name_size x b) c ss) gs s found w = declared_sizes ss gs s found w

-- and the first of them tells that the name is no variable.
named_sizes : (y : List ℕ) (ss : Sizes) (gs : List Goal) (s : Scope) (found : List Anchor) (w : List Token)
    → run (state (goal.Named y ∷ gs) s found) (spell_sizes ss ++ w) ≡ run (state (goal.Declared ∷ gs) s found) w
named_sizes y (last_size a (number_size m b) c) gs s found w = refl
named_sizes y (last_size a (name_size x b) c) gs s found w = refl
named_sizes y (next_size a (number_size m b) c ss) gs s found w = declared_sizes ss gs s found w
named_sizes y (next_size a (name_size x b) c ss) gs s found w = declared_sizes ss gs s found w

-- what stands behind a declarator that is not the last one
abbrev Follows : List Token → Type 0
Follows [] = ⊥
Follows (token comma a ∷ ts) = Unit {0}
Follows (token semicolon a ∷ ts) = Unit {0}
Follows (token k a ∷ ts) = ⊥

-- A declarator is declared.
declarator_run : (x : Declarator) (gs : List Goal) (s : Scope) (found : List Anchor) (w : List Token) → Follows w
    → run (state (goal.Declaring ∷ gs) s found) (spell_declarator x ++ w)
    ≡ run (state (goal.Declared ∷ gs) (scope_declarator x s) found) w
declarator_run (declarator x a bare) gs s found [] h = absurd h
declarator_run (declarator x a bare) gs s found (token comma b ∷ ts) h = refl
declarator_run (declarator x a bare) gs s found (token semicolon b ∷ ts) h = refl
declarator_run (declarator x a bare) gs s found (token _ b ∷ ts) h = absurd h
declarator_run (declarator x a (given b e)) gs s found w h = declared_expr e gs (scope_by x.text (given b e) s) found w
declarator_run (declarator x a (sized ss)) gs s found w h = named_sizes x.text ss gs s found w
declarator_run (declarator x a (filled ss b c vs d)) gs s found w h =
    rw (
      append_assoc (spell_sizes ss) (token (change_sign replaces) b ∷ token left_brace c ∷ (spell_values vs ++ token right_brace d ∷ [])) w,
      append_assoc (spell_values vs) (token right_brace d ∷ []) w,
    ) (named_sizes x.text ss gs s found _ ∙ brace_values vs (goal.Declared ∷ gs) s found (token right_brace d ∷ w))

-- So are those behind the first, up to the end of the declaration.
more_declarators_run : (xs : MoreDeclarators) (c : ℕ) (gs : List Goal) (s : Scope) (found : List Anchor) (w : List Token)
    → run (state (goal.Declared ∷ gs) s found) (spell_more_declarators xs ++ token semicolon c ∷ w)
    ≡ run (state gs (scope_more_declarators xs s) found) w
more_declarators_run last_declarator c gs s found w = refl
more_declarators_run (next_declarator a x xs) c gs s found w =
    rw append_assoc (declarator_run x gs s found _ (follows xs) ∙ more_declarators_run xs c gs (scope_declarator x s) found w) where
      follows : (ys : MoreDeclarators) → Follows (spell_more_declarators ys ++ token semicolon c ∷ w)
      follows last_declarator = tt
      follows (next_declarator b y ys) = tt

-- The declarators behind `int` are declared.
pub declarators_run : (xs : Declarators) (c : ℕ) (gs : List Goal) (s : Scope) (found : List Anchor) (w : List Token)
    → run (state (goal.Declaring ∷ gs) s found) (spell_declarators xs ++ token semicolon c ∷ w)
    ≡ run (state gs (scope_declarators xs s) found) w
declarators_run (declares x xs) c gs s found w =
    rw append_assoc (declarator_run x gs s found _ (follows xs) ∙ more_declarators_run xs c gs (scope_declarator x s) found w) where
      follows : (ys : MoreDeclarators) → Follows (spell_more_declarators ys ++ token semicolon c ∷ w)
      follows last_declarator = tt
      follows (next_declarator b y ys) = tt

-- ---- the head of a `for`
-- What the first part declares is known at the condition.
pub first_run : (x : ForFirst) (start c : ℕ) (gs : List Goal) (s : Scope) (found : List Anchor) (w : List Token)
    → run (state (goal.First start ∷ gs) s found) (spell_first x ++ token semicolon c ∷ w)
    ≡ run (state (goal.Test start ∷ gs) (scope_first x s) found) w
first_run (declared_first (plain_int a) xs) start c gs s found w = declarators_run xs c (goal.Test start ∷ gs) s found w
first_run (declared_first (const_int a b) xs) start c gs s found w = declarators_run xs c (goal.Test start ∷ gs) s found w
first_run (updated_first no_updates) start c gs s found w = refl
first_run (updated_first (some_updates (update (place x a i) f) us)) start c gs s found w =
    passes goal.Rest rest_stays ((spell_index i ++ spell_effect f) ++ spell_more_updates us)
    (inner_append (spell_index i ++ spell_effect f) (spell_more_updates us)
    (inner_append (spell_index i) (spell_effect f) (inner_index i) (inner_effect f)) (inner_more_updates us))
    (goal.Test start ∷ gs) s found (token semicolon c ∷ w)
first_run (updated_first (some_updates (step_before g a (place x b i)) us)) start c gs s found w =
    passes goal.Rest rest_stays (spell_index i ++ spell_more_updates us)
    (inner_append (spell_index i) (spell_more_updates us) (inner_index i) (inner_more_updates us))
    (goal.Test start ∷ gs) s found (token semicolon c ∷ w)

-- a loop that is found here
abbrev pub with_loop : ℕ → Scope → List Anchor → List Anchor
with_loop a s found = found ++ record { what = what.Loop; first = a; place = a; known = s.known } ∷ []

-- The loop is found at the end of its condition.
pub test_run : (t : Optional) (start c : ℕ) (gs : List Goal) (s : Scope) (found : List Anchor) (w : List Token)
    → run (state (goal.Test start ∷ gs) s found) (spell_optional t ++ token semicolon c ∷ w)
    ≡ run (state (goal.Paren ∷ gs) s (with_loop start s found)) w
test_run t start c gs s found w =
    passes (goal.Test start) (test_stays start) (spell_optional t) (inner_optional t) gs s found (token semicolon c ∷ w)

-- The last part is passed over.
pub last_run : (us : Updates) (c : ℕ) (gs : List Goal) (s : Scope) (found : List Anchor) (w : List Token)
    → run (state (goal.Paren ∷ gs) s found) (spell_updates us ++ token right_paren c ∷ w) ≡ run (state gs s found) w
last_run us c gs s found w = paren_updates us gs s found (token right_paren c ∷ w)
