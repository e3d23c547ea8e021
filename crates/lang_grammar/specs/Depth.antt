-- Which tokens open a construct, and how many are open there.
use Rattle.std.specs.Prelude.{◌++◌, ℕ, suc, List, [], ◌∷◌, Option, Some, None}
use Rattle.lang_grammar.specs.Grammar.{Expr, number, variable, free, grouped, prefixed, joined, Declarator, bare, given, Declarators}
use Rattle.lang_grammar.specs.Grammar.{declares, declares_more, Core, empty, block, if_alone, if_else, Update, set, step_after, step_before}
use Rattle.lang_grammar.specs.Grammar.{ForFirst, no_first, declared_first, updated_first, ForTest, no_test, given_test, ForLast, no_last}
use Rattle.lang_grammar.specs.Grammar.{updated_last, repeat, repeat_after, repeat_for, jumps, demands, updates, Sub, labelled, plain, Items}
use Rattle.lang_grammar.specs.Grammar.{no_items, label, declaration, item, Parameters, nothing, void_at, Return, no_return, returns}
use Rattle.lang_grammar.specs.Grammar.{returns_minus, Program, program}

-- For each token of the spelling: whether it opens a construct, and how many are open at it.
abbrev pub opens_expr : ℕ → Expr → List (Option ℕ)
opens_expr d (number n a) = None ∷ []
opens_expr d (variable x a) = None ∷ []
opens_expr d (free a b c) = None ∷ None ∷ None ∷ []
opens_expr d (grouped a e b) = Some d ∷ (opens_expr (suc d) e ++ None ∷ [])
opens_expr d (prefixed p a e) = Some d ∷ opens_expr (suc d) e
opens_expr d (joined e o a f) = opens_expr d e ++ None ∷ opens_expr d f

-- what the tokens of a declarator open
abbrev pub opens_declarator : ℕ → Declarator → List (Option ℕ)
opens_declarator d (bare x a) = None ∷ []
opens_declarator d (given x a b e) = None ∷ None ∷ opens_expr d e

-- what the tokens of declarators open
abbrev pub opens_declarators : ℕ → Declarators → List (Option ℕ)
opens_declarators d (declares x a) = opens_declarator d x ++ None ∷ []
opens_declarators d (declares_more x a xs) = opens_declarator d x ++ None ∷ opens_declarators d xs

-- what the tokens of an assignment or a step open
abbrev pub opens_update : ℕ → Update → List (Option ℕ)
opens_update d (set x a g b e) = None ∷ None ∷ opens_expr d e
opens_update d (step_after x a g b) = None ∷ None ∷ []
opens_update d (step_before g a x b) = None ∷ None ∷ []

-- what the tokens of the first part of a `for`'s head open
abbrev pub opens_first : ℕ → ForFirst → List (Option ℕ)
opens_first d (no_first a) = None ∷ []
opens_first d (declared_first a xs) = None ∷ opens_declarators d xs
opens_first d (updated_first u a) = opens_update d u ++ None ∷ []

-- what the tokens of its condition open
abbrev pub opens_test : ℕ → ForTest → List (Option ℕ)
opens_test d (no_test a) = None ∷ []
opens_test d (given_test e a) = opens_expr d e ++ None ∷ []

-- what the tokens of its change open
abbrev pub opens_last : ℕ → ForLast → List (Option ℕ)
opens_last d (no_last a) = None ∷ []
opens_last d (updated_last u a) = opens_update d u ++ None ∷ []

abbrev mutual
  -- what the tokens of a statement without labels open
  pub opens_core : ℕ → Core → List (Option ℕ)
  opens_core d (empty a) = None ∷ []
  opens_core d (block a is b) = Some d ∷ (opens_items (suc d) is ++ None ∷ [])
  opens_core d (if_alone a b e c s) = Some d ∷ None ∷ (opens_expr (suc d) e ++ None ∷ opens_sub (suc d) s)
  opens_core d (if_else a b e c s i t) = Some d ∷ None ∷ (opens_expr (suc d) e ++ None
      ∷ (opens_sub (suc d) s ++ None ∷ opens_sub (suc d) t))
  opens_core d (repeat a b e c s) = Some d ∷ None ∷ (opens_expr (suc d) e ++ None ∷ opens_sub (suc d) s)
  opens_core d (repeat_after a s b c e i j) = Some d ∷ (opens_sub (suc d) s ++ None ∷ None ∷ (opens_expr (suc d) e ++ None ∷ None ∷ []))
  opens_core d (repeat_for a b f t l s) =
      Some d ∷ None ∷ (opens_first (suc d) f ++ (opens_test (suc d) t ++ (opens_last (suc d) l ++ opens_sub (suc d) s)))
  opens_core d (jumps j a b) = None ∷ None ∷ []
  opens_core d (demands k a b e c i) = None ∷ None ∷ (opens_expr d e ++ None ∷ None ∷ [])
  opens_core d (updates u c) = opens_update d u ++ None ∷ []

  -- what the tokens of a statement with its labels open
  pub opens_sub : ℕ → Sub → List (Option ℕ)
  opens_sub d (labelled x a b s) = None ∷ None ∷ opens_sub d s
  opens_sub d (plain c) = opens_core d c

  -- what the tokens of the statements of a block open
  pub opens_items : ℕ → Items → List (Option ℕ)
  opens_items d no_items = []
  opens_items d (label x a b is) = None ∷ None ∷ opens_items d is
  opens_items d (declaration a xs is) = None ∷ (opens_declarators d xs ++ opens_items d is)
  opens_items d (item c is) = opens_core d c ++ opens_items d is

-- what the tokens between the parentheses of `main` open
abbrev pub opens_parameters : Parameters → List (Option ℕ)
opens_parameters nothing = []
opens_parameters (void_at a) = None ∷ []

-- what the tokens of the end of `main` open
abbrev pub opens_return : Return → List (Option ℕ)
opens_return no_return = []
opens_return (returns a n b c) = None ∷ None ∷ None ∷ []
opens_return (returns_minus a b n c d) = None ∷ None ∷ None ∷ None ∷ []

-- what the tokens of a program open
abbrev pub opens : Program → List (Option ℕ)
opens (program a b c ps d e is r f g) = None ∷ None ∷ None ∷ (opens_parameters ps ++ None ∷ None
    ∷ (opens_items 0 is ++ (opens_return r ++ None ∷ None ∷ [])))
