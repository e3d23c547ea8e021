-- Which of the points that the core of statements makes have anchors.
use Rattle.std.proofs.Common.{◌≡◌, ◌∙◌, ◌+◌, ◌++◌, ◌∷◌, ℕ, Bool, true, false, List, [], map, if◌then◌else◌, refl, sym, ap, append_assoc}
use Rattle.std.proofs.lemmas.List.{append-nil, map-append}
use Rattle.lang_tree.specs.Tree.{Condition, Deed, sets, havocs, wheres, checks, LoopKind, Statements, assume, branch, loop, nil, cons}
use Rattle.lang_tree.specs.PointNumbers.{splits, points_of, points_in, join_of}
use Rattle.flow_edges.specs.declared.point.Place.TheVariants.{Loop, Join, Assume}
use Rattle.flow_edges.specs.declared.point.Point.{Point}
use Rattle.flow_edges.specs.Points.{Made, made, made_by, made_in}
use Rattle.source_tree.specs.Statements as source
use Rattle.source_core.specs.Core.{followed_by, behind, one, core_of, core_in}
use Rattle.source_meaning.specs.Statements as read
use Rattle.acsl_anchors.specs.Laws.{is_anchored, anchored}
use Rattle.base_integers.specs.declared.integers.Integers.{Integers}

-- of the points that were made, those that have anchors
abbrev pub anchored_made : List Made → List Point
anchored_made made = anchored (map (λ m. m.point) made)

-- the same of statements of which the first has this number
abbrev pub anchored_in : Statements → ℕ → List Point
anchored_in nodes n = anchored_made (made_in nodes n)

-- a point that may stand before a list
if_append : (b : Bool) (x : Point) (xs ys : List Point) → (if b then x ∷ (xs ++ ys) else (xs ++ ys)) ≡ (if b then x ∷ xs else xs) ++ ys
if_append true x xs ys = refl
if_append false x xs ys = refl

-- Points in a row,
pub anchored_append : (xs ys : List Point) → anchored (xs ++ ys) ≡ anchored xs ++ anchored ys
anchored_append [] ys = refl
anchored_append (x ∷ xs) ys = ap (λ (l : List Point). if is_anchored x.place then x ∷ l else l) (anchored_append xs ys)
    ∙ if_append (is_anchored x.place) x (anchored xs) (anchored ys)

-- and what statements in a row make.
made_append : (xs ys : List Made) → anchored_made (xs ++ ys) ≡ anchored_made xs ++ anchored_made ys
made_append xs ys = ap anchored (map-append (λ (m : Made). m.point) xs ys) ∙ anchored_append (map (λ m. m.point) xs) (map (λ m. m.point) ys)

-- Statements behind others have some number.
pub followed : (ns ms : Statements) (n : ℕ) → (m : ℕ) × (anchored_in (followed_by ns ms) n ≡ anchored_in ns n ++ anchored_in ms m)
followed nil ms n = (n, refl)
followed (cons x ns) ms n =
    let (m, h) = followed ns ms (n + points_of x) in (
      m,
      made_append (made_by x n) (made_in (followed_by ns ms) (n + points_of x))
          ∙ ap (λ l. anchored_made (made_by x n) ++ l) h
          ∙ sym (append_assoc (anchored_made (made_by x n)) (anchored_in ns (n + points_of x)) (anchored_in ms m))
          ∙ ap (λ l. l ++ anchored_in ms m) (sym (made_append (made_by x n) (made_in ns (n + points_of x)))),
    )

-- So have those behind deeds, which make no points.
pub behind_deeds : (ds : List Deed) (rest : Statements) (n : ℕ) → (m : ℕ) × (anchored_in (behind ds rest) n ≡ anchored_in rest m)
behind_deeds [] rest n = (n, refl)
behind_deeds (sets i f line ∷ ds) rest n = behind_deeds ds rest (n + 0)
behind_deeds (havocs i line ∷ ds) rest n = behind_deeds ds rest (n + 0)
behind_deeds (wheres c line ∷ ds) rest n = behind_deeds ds rest (n + 0)
behind_deeds (checks about c line ∷ ds) rest n = behind_deeds ds rest (n + 0)

-- The join of an `if` has none.
pub branch_anchored : (c : Condition) (first second : Statements) (line n : ℕ)
    → anchored_in (one (branch c first second line)) n ≡ anchored_in first n ++ anchored_in second (n + points_in first)
branch_anchored c first second line n =
    ap anchored_made (append-nil (made_by (branch c first second line) n))
    ∙ made_append (made_in first n) (made_in second (n + points_in first) ++ made (join_of first second n) Join line ∷ [])
    ∙ ap (λ l. anchored_in first n ++ l) (made_append (made_in second (n + points_in first)) (made (join_of first second n) Join line ∷ [])
    ∙ append-nil (anchored_in second (n + points_in first)))

-- The head of a loop has one, before those in its body.
pub loop_anchored : (kind : LoopKind) (c : Condition) (body : Statements) (line n : ℕ)
    → anchored_in (one (loop kind c body line)) n ≡ record { place = Loop; line = line } ∷ anchored_in body (n + 1)
loop_anchored kind c body line n = ap anchored_made (append-nil (made_by (loop kind c body line) n))

-- A point behind an assumption has none.
pub assume_anchored : (c : Condition) (line n : ℕ) → anchored_in (one (assume c line)) n ≡ []
assume_anchored c line n = by_test (splits c) where
  by_test : (b : Bool) → anchored_made ((if b then made n Assume line ∷ [] else []) ++ []) ≡ []
  by_test true = refl
  by_test false = refl

-- ---- the core of statements in a row
-- nothing behind
pub followed_nil : (ss : Statements) → followed_by ss nil ≡ ss
followed_nil nil = refl
followed_nil (cons s ss) = ap (λ (x : Statements). cons s x) (followed_nil ss)

-- one list, another and a third
followed_assoc : (a b c : Statements) → followed_by (followed_by a b) c ≡ followed_by a (followed_by b c)
followed_assoc nil b c = refl
followed_assoc (cons s ss) b c = ap (λ (x : Statements). cons s x) (followed_assoc ss b c)

module _ (integers : Integers) (n : ℕ) where
  -- one list and then another
  pub core_followed : (ss rest : source.Statements)
      → core_in integers n (read.followed_by ss rest) ≡ followed_by (core_in integers n ss) (core_in integers n rest)
  core_followed source.nil rest = refl
  core_followed (source.cons s ss) rest = ap (λ (x : Statements). followed_by (core_of integers n s) x) (core_followed ss rest)
      ∙ sym (followed_assoc (core_of integers n s) (core_in integers n ss) (core_in integers n rest))

  -- one statement
  pub core_one : (s : source.Statement) → core_in integers n (read.one s) ≡ core_of integers n s
  core_one s = followed_nil (core_of integers n s)

  -- those of one list and those of another
  pub anchored_followed : (ss rest : source.Statements) (m : ℕ)
      → (k : ℕ) × (anchored_in (core_in integers n (read.followed_by ss rest)) m
      ≡ anchored_in (core_in integers n ss) m ++ anchored_in (core_in integers n rest) k)
  anchored_followed ss rest m =
      let (k, h) = followed (core_in integers n ss) (core_in integers n rest) m in
      (k, ap (λ (x : Statements). anchored_in x m) (core_followed ss rest) ∙ h)

  -- those of one statement
  pub anchored_one : (s : source.Statement) (m : ℕ) → anchored_in (core_in integers n (read.one s)) m ≡ anchored_in (core_of integers n s) m
  anchored_one s m = ap (λ (x : Statements). anchored_in x m) (core_one s)
