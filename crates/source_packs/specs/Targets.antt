-- The variables that are changed, by a loop's body and by its own change.
use Rattle.std.specs.Prelude.{◌++◌, ℕ, List, [], ◌∷◌, Option, Some, None}
use Rattle.source_grammar.specs.Tokens.{Name}
use Rattle.source_grammar.specs.Expressions.{Expr, number, variable, element, call, stepped_behind, stepped_before, free, grouped}
use Rattle.source_grammar.specs.Expressions.{prefixed, joined, chosen, Arguments, no_arguments, arguments, MoreArguments, last_argument}
use Rattle.source_grammar.specs.Expressions.{next_argument, Subscripts, last_subscript, next_subscript, Optional, absent, present}
use Rattle.source_grammar.specs.Expressions.{no_index, index, Place, place, assigns, steps, Update, update, step_before}
use Rattle.source_grammar.specs.Expressions.{MoreUpdates, last_update, next_update, Updates, no_updates, some_updates}
use Rattle.source_grammar.specs.Grammar.{Value, one_value, braced, Values, no_values, values, MoreValues, last_value, last_comma}
use Rattle.source_grammar.specs.Grammar.{next_value, Initialiser, bare, given, sized, filled, Declarator, declarator, MoreDeclarators}
use Rattle.source_grammar.specs.Grammar.{last_declarator, next_declarator, Declarators, declares, ForFirst, declared_first, updated_first}
use Rattle.source_grammar.specs.Grammar.{Core, empty, block, if_alone, if_else, repeat, repeat_after, repeat_for, jumps, returns, demands}
use Rattle.source_grammar.specs.Grammar.{calls, updates, Sub, labelled, plain, Items, no_items, label, declaration, item}
use Rattle.source_packs.specs.Shapes.{variable_number}

-- a variable, or none
abbrev pub at_most_one : Option ℕ → List ℕ
at_most_one None = []
at_most_one (Some i) = i ∷ []

-- of the variables with these names
module _ (names : List (List ℕ)) where
  -- the variable of a name
  abbrev pub name_target : Name → List ℕ
  name_target x = at_most_one (variable_number names x)

  abbrev mutual
    -- those that an expression steps
    pub stepped : Expr → List ℕ
    stepped (number n a) = []
    stepped (variable x a) = []
    stepped (element x a is) = subscripts_stepped is
    stepped (call x a b es c) = arguments_stepped es
    stepped (stepped_behind x a g b) = name_target x
    stepped (stepped_before g a x b) = name_target x
    stepped (free a b c) = []
    stepped (grouped a e b) = stepped e
    stepped (prefixed p a e) = stepped e
    stepped (joined e o a f) = stepped e ++ stepped f
    stepped (chosen c a e b f) = stepped c ++ (stepped e ++ stepped f)

    -- that arguments step
    pub arguments_stepped : Arguments → List ℕ
    arguments_stepped no_arguments = []
    arguments_stepped (arguments e es) = stepped e ++ more_stepped es

    -- that those behind the first step
    pub more_stepped : MoreArguments → List ℕ
    more_stepped last_argument = []
    more_stepped (next_argument a e es) = stepped e ++ more_stepped es

    -- that indexes step
    pub subscripts_stepped : Subscripts → List ℕ
    subscripts_stepped (last_subscript a e b) = stepped e
    subscripts_stepped (next_subscript a e b is) = stepped e ++ subscripts_stepped is

  -- that an expression steps that may be absent
  abbrev pub optional_stepped : Optional → List ℕ
  optional_stepped absent = []
  optional_stepped (present e) = stepped e

  -- the target of a change, and what its index steps
  abbrev pub place_targets : Place → List ℕ
  place_targets (place x a no_index) = name_target x
  place_targets (place x a (index is)) = subscripts_stepped is

  -- the targets of a change
  abbrev pub update_targets : Update → List ℕ
  update_targets (update p (assigns g a e)) = place_targets p ++ stepped e
  update_targets (update p (steps g a)) = place_targets p
  update_targets (step_before g a p) = place_targets p

  -- of the changes behind the first
  abbrev pub more_updates_targets : MoreUpdates → List ℕ
  more_updates_targets last_update = []
  more_updates_targets (next_update a u us) = update_targets u ++ more_updates_targets us

  -- of changes
  abbrev pub updates_targets : Updates → List ℕ
  updates_targets no_updates = []
  updates_targets (some_updates u us) = update_targets u ++ more_updates_targets us

  abbrev mutual
    -- those that a value of an array steps
    pub value_stepped : Value → List ℕ
    value_stepped (one_value e) = stepped e
    value_stepped (braced a vs b) = values_stepped vs

    -- that values step
    pub values_stepped : Values → List ℕ
    values_stepped no_values = []
    values_stepped (values v vs) = value_stepped v ++ more_values_stepped vs

    -- that those behind the first step
    pub more_values_stepped : MoreValues → List ℕ
    more_values_stepped last_value = []
    more_values_stepped (last_comma a) = []
    more_values_stepped (next_value a v vs) = value_stepped v ++ more_values_stepped vs

  -- a name that is declared with a value, and what that steps
  abbrev pub declared_targets : Name → Initialiser → List ℕ
  declared_targets x bare = []
  declared_targets x (given a e) = name_target x ++ stepped e
  declared_targets x (sized ss) = []
  declared_targets x (filled ss a b vs c) = values_stepped vs

  -- the targets of a declarator
  abbrev pub declarator_targets : Declarator → List ℕ
  declarator_targets (declarator x a i) = declared_targets x i

  -- of those behind the first
  abbrev pub more_declarators_targets : MoreDeclarators → List ℕ
  more_declarators_targets last_declarator = []
  more_declarators_targets (next_declarator a x xs) = declarator_targets x ++ more_declarators_targets xs

  -- of declarators
  abbrev pub declarators_targets : Declarators → List ℕ
  declarators_targets (declares x xs) = declarator_targets x ++ more_declarators_targets xs

  -- of the first part of a `for`'s head
  abbrev pub first_targets : ForFirst → List ℕ
  first_targets (declared_first t xs) = declarators_targets xs
  first_targets (updated_first us) = updates_targets us

  abbrev mutual
    -- The targets of a statement: of a loop, its first part's alone.
    pub core_targets : Core → List ℕ
    core_targets (empty a) = []
    core_targets (block a is b) = items_targets is
    core_targets (if_alone a b e c s) = stepped e ++ sub_targets s
    core_targets (if_else a b e c s d t) = stepped e ++ (sub_targets s ++ sub_targets t)
    core_targets (repeat a b e c s) = []
    core_targets (repeat_after a s b c e d i) = []
    core_targets (repeat_for a b f c t d us i s) = first_targets f
    core_targets (jumps j a b) = []
    core_targets (returns a t b) = optional_stepped t
    core_targets (demands k a b e c d) = stepped e
    core_targets (calls x a b es c d) = arguments_stepped es
    core_targets (updates u c) = update_targets u

    -- of a statement with its labels
    pub sub_targets : Sub → List ℕ
    sub_targets (labelled x a b s) = sub_targets s
    sub_targets (plain c) = core_targets c

    -- of the statements of a block
    pub items_targets : Items → List ℕ
    items_targets no_items = []
    items_targets (label x a b is) = items_targets is
    items_targets (declaration t xs b is) = declarators_targets xs ++ items_targets is
    items_targets (item c is) = core_targets c ++ items_targets is
