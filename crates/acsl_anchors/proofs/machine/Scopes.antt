-- What was known before a block is what its first names are behind it.
use Rattle.std.proofs.Common.{◌≡◌, ◌∙◌, ◌++◌, ◌∷◌, ℕ, List, [], length, take, refl, ap, append_assoc}
use Rattle.std.proofs.lemmas.List.{append-nil}
use Rattle.std.proofs.Math.Seq.{take-append_seam}
use Rattle.source_grammar.specs.Grammar.{Initialiser, bare, given, sized, filled, declarator, MoreDeclarators, last_declarator}
use Rattle.source_grammar.specs.Grammar.{next_declarator, Declarators, declares, ForFirst, declared_first, updated_first}
use Rattle.source_grammar.specs.Grammar.{Core, empty, block, if_alone, if_else, repeat, repeat_after, repeat_for, jumps, returns, demands}
use Rattle.source_grammar.specs.Grammar.{calls, updates, Sub, labelled, plain, Items, no_items, label, declaration, item}
use Rattle.acsl_anchors.specs.Anchors.{Scope, number_among, closing, scope_by, scope_more_declarators, scope_declarators}
use Rattle.acsl_anchors.specs.Anchors.{scope_first, scope_core, scope_sub, scope_items}
use Rattle.acsl_anchors.specs.Machine.{kept}

-- the numbers of the list come first in the other one
abbrev pub Extends : List ℕ → List ℕ → Type 0
Extends xs ys = (more : List ℕ) × (ys ≡ xs ++ more)

-- one list, a longer one and a still longer one
extends_once : (xs ys zs : List ℕ) → Extends xs ys → Extends ys zs → Extends xs zs
extends_once xs ys zs (ms, h) (ns, i) = (ms ++ ns, i ∙ ap (λ l. l ++ ns) h ∙ append_assoc xs ms ns)

-- a list and itself
none_more : (xs : List ℕ) → Extends xs xs
none_more xs = ([], rw append-nil refl)

-- A declaration makes more names known, or an array none,
by_extends : (x : List ℕ) (i : Initialiser) (s : Scope) → Extends s.known (scope_by x i s).known
by_extends x bare s = (number_among x s.variables ∷ [], refl)
by_extends x (given a e) s = (number_among x s.variables ∷ [], refl)
by_extends x (sized ss) s = none_more s.known
by_extends x (filled ss a b vs c) s = none_more s.known

-- so do declarators behind the first,
more_extend : (xs : MoreDeclarators) (s : Scope) → Extends s.known (scope_more_declarators xs s).known
more_extend last_declarator s = none_more s.known
more_extend (next_declarator a (declarator x b i) xs) s = extends_once s.known (scope_by x.text i s).known
    (scope_more_declarators xs (scope_by x.text i s)).known (by_extends x.text i s) (more_extend xs (scope_by x.text i s))

-- and all of them,
declarators_extend : (xs : Declarators) (s : Scope) → Extends s.known (scope_declarators xs s).known
declarators_extend (declares (declarator x b i) xs) s = extends_once s.known (scope_by x.text i s).known
    (scope_more_declarators xs (scope_by x.text i s)).known (by_extends x.text i s) (more_extend xs (scope_by x.text i s))

-- also those in the head of a `for`,
first_extends : (f : ForFirst) (s : Scope) → Extends s.known (scope_first f s).known
first_extends (declared_first t xs) s = declarators_extend xs s
first_extends (updated_first us) s = none_more s.known

mutual
  -- but behind a statement no more are known than before it.
  core_known : (c : Core) (s : Scope) → (scope_core c s).known ≡ s.known
  core_known (empty a) s = refl
  core_known (block a is b) s = refl
  core_known (if_alone a b e c body) s = sub_known body s
  core_known (if_else a b e c first d second) s = sub_known second (scope_sub first s) ∙ sub_known first s
  core_known (repeat a b e c body) s = sub_known body s
  core_known (repeat_after a body b c e d i) s = sub_known body s
  core_known (repeat_for a b f c t d us i body) s = refl
  core_known (jumps j a b) s = refl
  core_known (returns a t b) s = refl
  core_known (demands k a b e c d) s = refl
  core_known (calls x a b es c d) s = refl
  core_known (updates u c) s = refl

  -- the same under a loop, an `if` or a label
  sub_known : (b : Sub) (s : Scope) → (scope_sub b s).known ≡ s.known
  sub_known (labelled x a b body) s = sub_known body s
  sub_known (plain c) s = core_known c s

-- Statements of a block make more known inside it.
items_extend : (is : Items) (s : Scope) → Extends s.known (scope_items is s).known
items_extend no_items s = none_more s.known
items_extend (label x a b is) s = items_extend is s
items_extend (declaration t xs b is) s = extends_once s.known (scope_declarators xs s).known (scope_items is (scope_declarators xs s)).known
    (declarators_extend xs s) (items_extend is (scope_declarators xs s))
items_extend (item c is) s = let (more, h) = items_extend is (scope_core c s) in (more, h ∙ ap (λ l. l ++ more) (core_known c s))

-- the first names are those of before
taken_back : (xs ys : List ℕ) → Extends xs ys → take (length xs) ys ≡ xs
taken_back xs ys (more, h) = rw h (take-append_seam xs more)

-- So what is known behind a block is told by their number,
pub block_closed : (is : Items) (s : Scope) → kept (length s.known) (scope_items is s) ≡ closing s (scope_items is s)
block_closed is s = ap (λ (l : List ℕ). let t : Scope = record { variables = (scope_items is s).variables; known = l } in t)
    (taken_back s.known (scope_items is s).known (items_extend is s))

-- what is known at the end of the body of a `for`
for_extends : (f : ForFirst) (body : Sub) (s : Scope) → Extends s.known (scope_sub body (scope_first f s)).known
for_extends f body s = let (more, h) = first_extends f s in (more, sub_known body (scope_first f s) ∙ h)

-- and likewise behind a `for`.
pub for_closed : (f : ForFirst) (body : Sub) (s : Scope) → kept (length s.known) (scope_sub body (scope_first f s))
    ≡ closing s (scope_sub body (scope_first f s))
for_closed f body s =
    ap (λ (l : List ℕ). let t : Scope = record { variables = (scope_sub body (scope_first f s)).variables; known = l } in t)
    (taken_back s.known (scope_sub body (scope_first f s)).known (for_extends f body s))
