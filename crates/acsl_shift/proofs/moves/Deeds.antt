-- What deeds without their lines and places are: as many, as small, and in the same ranges.
use Rattle.std.proofs.Common.{◌≡◌, ◌++◌, ◌∷◌, ◌&&◌, ◌+◌, ℕ, Bool, List, [], map, length, refl, ap, ap₂}
use Rattle.std.specs.List.{list_all}
use Rattle.std.proofs.lemmas.List.{map-append, length-map}
use Rattle.lang_tree.specs.Tree as tree
use Rattle.lang_tree.specs.Tree.{Condition, Deed, sets, havocs, wheres, checks, Statement, Statements, node_count, nodes_in, kind_count}
use Rattle.lang_tree.specs.Tree.{statement_by}
use Rattle.source_core.specs.Preludes.{under, all_under}
use Rattle.source_core.specs.Fits.{deed_fits}
use Rattle.source_core.specs.Core.{followed_by, behind}
use Rattle.source_meaning.specs.Limits.{is_small_deed}
use Rattle.acsl_shift.specs.Moves.{deed_without_line, kind_without_line, without_line, without_lines}

-- deeds without their lines and places
abbrev pub bare_deeds : List Deed → List Deed
bare_deeds ds = map deed_without_line ds

-- one list and another
pub bare_append : (ds es : List Deed) → bare_deeds (ds ++ es) ≡ bare_deeds ds ++ bare_deeds es
bare_append ds es = map-append deed_without_line ds es

-- as many
pub bare_length : (ds : List Deed) → length (bare_deeds ds) ≡ length ds
bare_length ds = length-map ds deed_without_line

-- a test that doesn't ask for lines and places
all_bare : (p : Deed → Bool) → ((d : Deed) → p (deed_without_line d) ≡ p d) → (ds : List Deed) → list_all p (bare_deeds ds) ≡ list_all p ds
all_bare p h [] = refl
all_bare p h (d ∷ ds) = ap₂ (λ (x y : Bool). x && y) (h d) (all_bare p h ds)

-- in the same ranges
pub bare_fit : (ds : List Deed) → list_all deed_fits (bare_deeds ds) ≡ list_all deed_fits ds
bare_fit ds = all_bare deed_fits one ds where
  one : (d : Deed) → deed_fits (deed_without_line d) ≡ deed_fits d
  one (sets i f line) = refl
  one (havocs i line) = refl
  one (wheres c line) = refl
  one (checks about c line) = refl

-- as small
pub bare_small : (ds : List Deed) → list_all is_small_deed (bare_deeds ds) ≡ list_all is_small_deed ds
bare_small ds = all_bare is_small_deed one ds where
  one : (d : Deed) → is_small_deed (deed_without_line d) ≡ is_small_deed d
  one (sets i f line) = refl
  one (havocs i line) = refl
  one (wheres c line) = refl
  one (checks about c line) = refl

-- under a condition
pub bare_under : (c : Condition) (ds : List Deed) → bare_deeds (all_under c ds) ≡ all_under c (bare_deeds ds)
bare_under c [] = refl
bare_under c (d ∷ ds) = ap₂ (λ (x : Deed) (xs : List Deed). x ∷ xs) (one d) (bare_under c ds) where
  one : (d : Deed) → deed_without_line (under c d) ≡ under c (deed_without_line d)
  one (sets i f line) = refl
  one (havocs i line) = refl
  one (wheres d line) = refl
  one (checks about d line) = refl

-- ---- statements of the core
-- one list and then another
pub followed_bare : (ss rest : Statements) → without_lines (followed_by ss rest) ≡ followed_by (without_lines ss) (without_lines rest)
followed_bare tree.nil rest = refl
followed_bare (tree.cons s ss) rest = ap (λ (x : Statements). tree.cons (without_line s) x) (followed_bare ss rest)

-- deeds as statements before others
pub behind_bare : (ds : List Deed) (rest : Statements) → without_lines (behind ds rest) ≡ behind (bare_deeds ds) (without_lines rest)
behind_bare [] rest = refl
behind_bare (d ∷ ds) rest = ap₂ (λ (x : Statement) (xs : Statements). tree.cons x xs) (one d) (behind_bare ds rest) where
  one : (d : Deed) → without_line (statement_by d) ≡ statement_by (deed_without_line d)
  one (sets i f line) = refl
  one (havocs i line) = refl
  one (wheres d line) = refl
  one (checks about d line) = refl

-- the preludes of a loop
kind_same : (k : tree.LoopKind) → kind_count (kind_without_line k) ≡ kind_count k
kind_same (tree.while_loop p) = bare_length p
kind_same (tree.for_loop p g) = ap₂ (λ (x y : ℕ). x + y) (bare_length p) (bare_length g)
kind_same (tree.do_loop p) = bare_length p

mutual
  -- a statement of the core is as many
  node_same : (s : Statement) → node_count (without_line s) ≡ node_count s
  node_same (tree.set i f line) = refl
  node_same (tree.havoc i line) = refl
  node_same (tree.assume c line) = refl
  node_same (tree.only_where c line) = refl
  node_same (tree.check about c line) = refl
  node_same (tree.branch c first second line) = ap₂ (λ (x y : ℕ). 1 + x + y) (nodes_same first) (nodes_same second)
  node_same (tree.loop kind c body line) = ap₂ (λ (x y : ℕ). 1 + x + y) (kind_same kind) (nodes_same body)
  node_same (tree.jump kind line) = refl
  node_same (tree.label name line) = refl

  -- statements of the core are as many
  pub nodes_same : (ss : Statements) → nodes_in (without_lines ss) ≡ nodes_in ss
  nodes_same tree.nil = refl
  nodes_same (tree.cons s ss) = ap₂ (λ (x y : ℕ). x + y) (node_same s) (nodes_same ss)
