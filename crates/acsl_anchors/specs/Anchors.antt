-- The loops, the labels and the end of a function in the order of its text, and the variables that are known there.
use Rattle.std.specs.Prelude.{◌+◌, ◌++◌, ℕ, suc, Bool, true, false, List, [], ◌∷◌, if◌then◌else◌}
use Rattle.std.specs.List.{list_any}
use Rattle.std.specs.Str.{bytes_eq}
use Rattle.source_grammar.specs.Tokens.{Name, Token, token, step_sign}
use Rattle.source_grammar.specs.Grammar.{Initialiser, bare, given, sized, filled, Declarator, declarator, MoreDeclarators, last_declarator}
use Rattle.source_grammar.specs.Grammar.{next_declarator, Declarators, declares, ForFirst, declared_first, updated_first}
use Rattle.source_grammar.specs.Grammar.{Core, empty, block, if_alone, if_else, repeat, repeat_after, repeat_for, jumps, returns, demands}
use Rattle.source_grammar.specs.Grammar.{calls, updates, Sub, labelled, plain, Items, no_items, label, declaration, item}
use Rattle.source_grammar.specs.Grammar.{MoreParameters, last_parameter, next_parameter, Parameters, no_parameters, void_parameters}
use Rattle.source_grammar.specs.Grammar.{some_parameters, Parameter, number_parameter, pointer_parameter, array_parameter, Function}
use Rattle.source_grammar.specs.Grammar.{function, Optional, spell_optional}

-- what stands at an anchor
pub data What : Type 0 where
  a_loop : What
  a_label : (name : List ℕ) → What
  the_end : What

-- what it is, the place of its first token, the place at which something is said of it, and the numbers of the variables that are known
-- there
pub record Anchor : Type 0 where
  pub what : What
  pub first : ℕ
  pub place : ℕ
  pub known : List ℕ

-- the variables in the order of their first declarations, and the numbers of those that are known
pub record Scope : Type 0 where
  pub variables : List (List ℕ)
  pub known : List ℕ

-- the number of the variable with this name, or of the next one where none has it
abbrev pub number_among : List ℕ → List (List ℕ) → ℕ
number_among x [] = 0
number_among x (y ∷ ys) = if bytes_eq x y then 0 else suc (number_among x ys)

-- the variables, with this one behind them where it is none of them
abbrev pub with_one : List ℕ → List (List ℕ) → List (List ℕ)
with_one x [] = x ∷ []
with_one x (y ∷ ys) = if bytes_eq x y then y ∷ ys else y ∷ with_one x ys

-- a variable is declared: one that was declared before is known again
abbrev pub declared : List ℕ → Scope → Scope
declared x s = record { variables = with_one x s.variables; known = s.known ++ number_among x s.variables ∷ [] }

-- the scope after a name that is declared: an array is no variable
abbrev pub scope_by : List ℕ → Initialiser → Scope → Scope
scope_by x bare s = declared x s
scope_by x (given a e) s = declared x s
scope_by x (sized ss) s = s
scope_by x (filled ss a b vs c) s = s

-- the scope after a declarator
abbrev pub scope_declarator : Declarator → Scope → Scope
scope_declarator (declarator x a i) s = scope_by x.text i s

-- the scope after the declarators behind the first
abbrev pub scope_more_declarators : MoreDeclarators → Scope → Scope
scope_more_declarators last_declarator s = s
scope_more_declarators (next_declarator a x xs) s = scope_more_declarators xs (scope_declarator x s)

-- the scope after declarators
abbrev pub scope_declarators : Declarators → Scope → Scope
scope_declarators (declares x xs) s = scope_more_declarators xs (scope_declarator x s)

-- the scope after the first part of a `for`'s head
abbrev pub scope_first : ForFirst → Scope → Scope
scope_first (declared_first t xs) s = scope_declarators xs s
scope_first (updated_first us) s = s

-- behind a block what was known before it is known
abbrev pub closing : Scope → Scope → Scope
closing before behind = record { variables = behind.variables; known = before.known }

abbrev mutual
  -- the scope behind a statement; a loop with a declaration in its head is a block
  pub scope_core : Core → Scope → Scope
  scope_core (empty a) s = s
  scope_core (block a is b) s = closing s (scope_items is s)
  scope_core (if_alone a b e c body) s = scope_sub body s
  scope_core (if_else a b e c first d second) s = scope_sub second (scope_sub first s)
  scope_core (repeat a b e c body) s = scope_sub body s
  scope_core (repeat_after a body b c e d i) s = scope_sub body s
  scope_core (repeat_for a b f c t d us i body) s = closing s (scope_sub body (scope_first f s))
  scope_core (jumps j a b) s = s
  scope_core (returns a t b) s = s
  scope_core (demands k a b e c d) s = s
  scope_core (calls x a b es c d) s = s
  scope_core (updates u c) s = s

  -- the scope after a statement with its labels
  pub scope_sub : Sub → Scope → Scope
  scope_sub (labelled x a b body) s = scope_sub body s
  scope_sub (plain c) s = scope_core c s

  -- the scope after statements in a row
  pub scope_items : Items → Scope → Scope
  scope_items no_items s = s
  scope_items (label x a b is) s = scope_items is s
  scope_items (declaration t xs b is) s = scope_items is (scope_declarators xs s)
  scope_items (item c is) s = scope_items is (scope_core c s)

-- the anchor of a loop stands before its first token
abbrev pub loop_at : ℕ → Scope → Anchor
loop_at first s = record { what = a_loop; first = first; place = first; known = s.known }

-- that of a label stands behind its colon
abbrev pub label_at : Name → (first colon : ℕ) → Scope → Anchor
label_at name first colon s = record { what = a_label name.text; first = first; place = colon + 1; known = s.known }

abbrev mutual
  -- the anchors in a statement; what is declared in the head of a `for` is known at the loop
  pub anchors_core : Core → Scope → List Anchor
  anchors_core (empty a) s = []
  anchors_core (block a is b) s = anchors_items is s
  anchors_core (if_alone a b e c body) s = anchors_sub body s
  anchors_core (if_else a b e c first d second) s = anchors_sub first s ++ anchors_sub second (scope_sub first s)
  anchors_core (repeat a b e c body) s = loop_at a s ∷ anchors_sub body s
  anchors_core (repeat_after a body b c e d i) s = loop_at a s ∷ anchors_sub body s
  anchors_core (repeat_for a b f c t d us i body) s = loop_at a (scope_first f s) ∷ anchors_sub body (scope_first f s)
  anchors_core (jumps j a b) s = []
  anchors_core (returns a t b) s = []
  anchors_core (demands k a b e c d) s = []
  anchors_core (calls x a b es c d) s = []
  anchors_core (updates u c) s = []

  -- the anchors in a statement with its labels
  pub anchors_sub : Sub → Scope → List Anchor
  anchors_sub (labelled x a b body) s = label_at x a b s ∷ anchors_sub body s
  anchors_sub (plain c) s = anchors_core c s

  -- the anchors in statements in a row
  pub anchors_items : Items → Scope → List Anchor
  anchors_items no_items s = []
  anchors_items (label x a b is) s = label_at x a b s ∷ anchors_items is s
  anchors_items (declaration t xs b is) s = anchors_items is (scope_declarators xs s)
  anchors_items (item c is) s = anchors_core c s ++ anchors_items is (scope_core c s)

-- nothing has been declared
abbrev pub no_scope : Scope
no_scope = record { variables = []; known = [] }

-- the scope after a parameter: an array is no variable
abbrev pub scope_parameter : Parameter → Scope → Scope
scope_parameter (number_parameter t x a) s = declared x.text s
scope_parameter (pointer_parameter t a x b) s = s
scope_parameter (array_parameter t x a bs) s = s

-- the scope after the parameters behind the first
abbrev pub scope_more_parameters : MoreParameters → Scope → Scope
scope_more_parameters last_parameter s = s
scope_more_parameters (next_parameter a p ps) s = scope_more_parameters ps (scope_parameter p s)

-- the scope after parameters
abbrev pub scope_parameters : Parameters → Scope → Scope
scope_parameters no_parameters s = s
scope_parameters (void_parameters a) s = s
scope_parameters (some_parameters p ps) s = scope_more_parameters ps (scope_parameter p s)

-- a token is `++` or `--`
abbrev pub is_step : Token → Bool
is_step (token (step_sign g) a) = true
is_step (token k a) = false

-- what is returned has a step, so that the state behind it isn't the one before it
abbrev pub has_step : Optional → Bool
has_step t = list_any is_step (spell_optional t)

-- the place of the end where a statement is the last one: that of a `return` that leaves the state as it is, or of the brace
abbrev pub core_end : Core → (brace : ℕ) → ℕ
core_end (returns a t b) brace = if has_step t then brace else a
core_end _ brace = brace

-- the place of the end behind this statement, where these follow
abbrev pub end_behind : (last : ℕ) → Items → (brace : ℕ) → ℕ
end_behind last no_items brace = last
end_behind last (label x a b is) brace = end_behind brace is brace
end_behind last (declaration t xs b is) brace = end_behind brace is brace
end_behind last (item c is) brace = end_behind (core_end c brace) is brace

-- the end stands before a `return` without a step that is the last item of the body, or else before the brace
abbrev pub end_place : Items → (brace : ℕ) → ℕ
end_place is brace = end_behind brace is brace

-- the anchor of the end of a function
abbrev pub end_at : ℕ → Scope → Anchor
end_at place s = record { what = the_end; first = place; place = place; known = s.known }

-- the anchors of a body, in the order of its text
abbrev pub anchors_in : Items → (brace : ℕ) → Scope → List Anchor
anchors_in is brace s = anchors_items is s ++ end_at (end_place is brace) (scope_items is s) ∷ []

-- all anchors of a function, in the order of its text
abbrev pub anchors_of : Function → List Anchor
anchors_of (function ss f a ps b c is d) = anchors_in is d (scope_parameters ps no_scope)
