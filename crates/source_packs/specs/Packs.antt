-- The groups of a function: which of its variables stand together. Each comparison has a group, each change and each declarator with a
-- value, and each loop.
use Rattle.std.specs.Prelude.{◌++◌, ℕ, List, [], ◌∷◌}
use Rattle.source_grammar.specs.Tokens.{Name}
use Rattle.source_grammar.specs.Expressions.{Update, MoreUpdates, last_update, next_update, Updates, no_updates}
use Rattle.source_grammar.specs.Expressions.{some_updates}
use Rattle.source_grammar.specs.Grammar.{Initialiser, bare, given, sized, filled, Declarator, declarator, MoreDeclarators}
use Rattle.source_grammar.specs.Grammar.{last_declarator, next_declarator, Declarators, declares, ForFirst, declared_first, updated_first}
use Rattle.source_grammar.specs.Grammar.{Core, empty, block, if_alone, if_else, repeat, repeat_after, repeat_for, jumps, returns, demands}
use Rattle.source_grammar.specs.Grammar.{calls, updates, Sub, labelled, plain, Items, no_items, label, declaration, item, Function}
use Rattle.source_grammar.specs.Grammar.{function}
use Rattle.lang_groups.specs.Shapes.{Shape, occurring}
use Rattle.lang_groups.specs.Shapes as lang
use Rattle.source_packs.specs.Shapes.{shape, arguments_shape, optional_shape, update_shape, declared_shape}
use Rattle.source_packs.specs.Targets.{sub_targets, updates_targets}

-- what is changed: all of its variables are a group, besides those of its comparisons
abbrev pub with_all : Shape → List (List ℕ)
with_all s = occurring s ∷ lang.groups_of s

-- of the variables with these names
module _ (names : List (List ℕ)) where
  -- the groups of a change
  abbrev pub update_groups : Update → List (List ℕ)
  update_groups u = with_all (update_shape names u)

  -- of the changes behind the first
  abbrev pub more_updates_groups : MoreUpdates → List (List ℕ)
  more_updates_groups last_update = []
  more_updates_groups (next_update a u us) = update_groups u ++ more_updates_groups us

  -- of changes
  abbrev pub updates_groups : Updates → List (List ℕ)
  updates_groups no_updates = []
  updates_groups (some_updates u us) = update_groups u ++ more_updates_groups us

  -- of a name that is declared, which has some if it has a value
  abbrev pub declared_groups : Name → Initialiser → List (List ℕ)
  declared_groups x bare = []
  declared_groups x (given a e) = with_all (declared_shape names x (given a e))
  declared_groups x (sized ss) = []
  declared_groups x (filled ss a b vs c) = with_all (declared_shape names x (filled ss a b vs c))

  -- of a declarator
  abbrev pub declarator_groups : Declarator → List (List ℕ)
  declarator_groups (declarator x a i) = declared_groups x i

  -- of those behind the first
  abbrev pub more_declarators_groups : MoreDeclarators → List (List ℕ)
  more_declarators_groups last_declarator = []
  more_declarators_groups (next_declarator a x xs) = declarator_groups x ++ more_declarators_groups xs

  -- of declarators
  abbrev pub declarators_groups : Declarators → List (List ℕ)
  declarators_groups (declares x xs) = declarator_groups x ++ more_declarators_groups xs

  -- of the first part of a `for`'s head
  abbrev pub first_groups : ForFirst → List (List ℕ)
  first_groups (declared_first t xs) = declarators_groups xs
  first_groups (updated_first us) = updates_groups us

  -- the group of a loop: the variables of its condition, and the targets of its own change and of its body
  abbrev pub loop_group : (condition : Shape) → Updates → Sub → List ℕ
  loop_group condition us s = occurring condition ++ (updates_targets names us ++ sub_targets names s)

  abbrev mutual
    -- the groups of a statement
    pub core_groups : Core → List (List ℕ)
    core_groups (empty a) = []
    core_groups (block a is b) = items_groups is
    core_groups (if_alone a b e c s) = lang.groups_of (shape names e) ++ sub_groups s
    core_groups (if_else a b e c s d t) = lang.groups_of (shape names e) ++ (sub_groups s ++ sub_groups t)
    core_groups (repeat a b e c s) =
        loop_group (shape names e) no_updates s ∷ (lang.groups_of (shape names e) ++ sub_groups s)
    core_groups (repeat_after a s b c e d i) =
        loop_group (shape names e) no_updates s ∷ (sub_groups s ++ lang.groups_of (shape names e))
    core_groups (repeat_for a b f c t d us i s) = loop_group (optional_shape names t) us s
        ∷ (first_groups f ++ (lang.groups_of (optional_shape names t) ++ (updates_groups us ++ sub_groups s)))
    core_groups (jumps j a b) = []
    core_groups (returns a t b) = lang.groups_of (optional_shape names t)
    core_groups (demands k a b e c d) = lang.groups_of (shape names e)
    core_groups (calls x a b es c d) = lang.groups_of (arguments_shape names es)
    core_groups (updates u c) = update_groups u

    -- of a statement with its labels
    pub sub_groups : Sub → List (List ℕ)
    sub_groups (labelled x a b s) = sub_groups s
    sub_groups (plain c) = core_groups c

    -- of the statements of a block
    pub items_groups : Items → List (List ℕ)
    items_groups no_items = []
    items_groups (label x a b is) = items_groups is
    items_groups (declaration t xs b is) = declarators_groups xs ++ items_groups is
    items_groups (item c is) = core_groups c ++ items_groups is

  -- of a function
  abbrev pub groups_of : Function → List (List ℕ)
  groups_of (function ss n a ps b c is d) = items_groups is
