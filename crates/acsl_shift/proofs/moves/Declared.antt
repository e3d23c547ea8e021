-- A tree declares the same variables at other places.
use Rattle.std.proofs.Common.{◌≡◌, ◌++◌, ℕ, List, [], min, refl, ap₂}
use Rattle.lang_tree.specs.declared.limits.TheConstants.{MOST_VARIABLES}
use Rattle.source_grammar.specs.Grammar.{Initialiser, bare, given, sized, Declarator, declarator, MoreDeclarators, last_declarator}
use Rattle.source_grammar.specs.Grammar.{next_declarator, Declarators, declares, ForFirst, declared_first, updated_first, Core, Sub, Items}
use Rattle.source_grammar.specs.Grammar.{empty, block, if_alone, if_else, repeat, repeat_after, repeat_for, jumps, returns, demands, calls}
use Rattle.source_grammar.specs.Grammar.{updates, labelled, plain, no_items, label, declaration, item, MoreParameters, last_parameter}
use Rattle.source_grammar.specs.Grammar.{next_parameter, Parameters, no_parameters, void_parameters, some_parameters, Function, function}
use Rattle.source_grammar.specs.Grammar.{filled, Parameter, number_parameter, pointer_parameter, array_parameter}
use Rattle.source_meaning.specs.Walk.{declared_by, declared_one, declared_more, declared_in, declared_before, declared_core, declared_sub}
use Rattle.source_meaning.specs.Walk.{declared_items, declared_parameter, declared_after, declared_parameters, distinct, width_of}
use Rattle.acsl_shift.proofs.moves.Trees.{move_initialiser, move_declarator, move_more_declarators, move_declarators, move_first, move_core}
use Rattle.acsl_shift.proofs.moves.Trees.{move_sub, move_items, move_parameter, move_more_parameters, move_parameters}
use Rattle.acsl_shift.proofs.moves.Trees.{move_function}

module _ (to : ℕ → ℕ) where
  -- what stands behind a declared name
  same_by : (x : List ℕ) (i : Initialiser) → declared_by x (move_initialiser to i) ≡ declared_by x i
  same_by x bare = refl
  same_by x (given a e) = refl
  same_by x (sized ss) = refl
  same_by x (filled ss a b vs c) = refl

  -- a name
  same_one : (x : Declarator) → declared_one (move_declarator to x) ≡ declared_one x
  same_one (declarator x a i) = same_by x.text i

  -- those behind the first
  same_more : (xs : MoreDeclarators) → declared_more (move_more_declarators to xs) ≡ declared_more xs
  same_more last_declarator = refl
  same_more (next_declarator a x xs) = ap₂ (λ (y z : List (List ℕ)). y ++ z) (same_one x) (same_more xs)

  -- names
  same_in : (xs : Declarators) → declared_in (move_declarators to xs) ≡ declared_in xs
  same_in (declares x xs) = ap₂ (λ (y z : List (List ℕ)). y ++ z) (same_one x) (same_more xs)

  -- the first part of a `for`'s head
  same_before : (f : ForFirst) → declared_before (move_first to f) ≡ declared_before f
  same_before (declared_first t xs) = same_in xs
  same_before (updated_first us) = refl

  mutual
    -- a statement without labels
    same_core : (c : Core) → declared_core (move_core to c) ≡ declared_core c
    same_core (empty a) = refl
    same_core (block a is b) = same_items is
    same_core (if_alone a b e c s) = same_sub s
    same_core (if_else a b e c s d t) = ap₂ (λ (y z : List (List ℕ)). y ++ z) (same_sub s) (same_sub t)
    same_core (repeat a b e c s) = same_sub s
    same_core (repeat_after a s b c e d i) = same_sub s
    same_core (repeat_for a b f c t d us i s) = ap₂ (λ (y z : List (List ℕ)). y ++ z) (same_before f) (same_sub s)
    same_core (jumps j a b) = refl
    same_core (returns a t b) = refl
    same_core (demands k a b e c d) = refl
    same_core (calls x a b es c d) = refl
    same_core (updates u c) = refl

    -- a statement with its labels
    same_sub : (s : Sub) → declared_sub (move_sub to s) ≡ declared_sub s
    same_sub (labelled x a b s) = same_sub s
    same_sub (plain c) = same_core c

    -- the statements of a block
    same_items : (is : Items) → declared_items (move_items to is) ≡ declared_items is
    same_items no_items = refl
    same_items (label x a b is) = same_items is
    same_items (declaration t xs b is) = ap₂ (λ (y z : List (List ℕ)). y ++ z) (same_in xs) (same_items is)
    same_items (item c is) = ap₂ (λ (y z : List (List ℕ)). y ++ z) (same_core c) (same_items is)

  -- a parameter
  same_parameter : (p : Parameter) → declared_parameter (move_parameter to p) ≡ declared_parameter p
  same_parameter (number_parameter t x a) = refl
  same_parameter (pointer_parameter t a x b) = refl
  same_parameter (array_parameter t x a bs) = refl

  -- the parameters behind the first
  same_after : (ps : MoreParameters) → declared_after (move_more_parameters to ps) ≡ declared_after ps
  same_after last_parameter = refl
  same_after (next_parameter a p ps) = ap₂ (λ (y z : List (List ℕ)). y ++ z) (same_parameter p) (same_after ps)

  -- parameters
  same_parameters : (ps : Parameters) → declared_parameters (move_parameters to ps) ≡ declared_parameters ps
  same_parameters no_parameters = refl
  same_parameters (void_parameters a) = refl
  same_parameters (some_parameters p ps) = ap₂ (λ (y z : List (List ℕ)). y ++ z) (same_parameter p) (same_after ps)

  -- a function
  pub same_width : (f : Function) → width_of (move_function to f) ≡ width_of f
  same_width (function ss f a ps b c is d) =
      ap₂ (λ (y z : List (List ℕ)). min MOST_VARIABLES (distinct [] (y ++ z))) (same_parameters ps) (same_items is)
