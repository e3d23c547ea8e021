-- The comments of the points from one on.
use Rattle.std.proofs.Common.{◌≡◌, ◌≤◌, ◌++◌, ℕ, suc, ℤ, Bool, true, false, List, [], ◌∷◌, drop, length, map, refl, ap, ap₂}
use Rattle.std.specs.Prelude.{if◌then◌else◌}
use Rattle.std.proofs.lemmas.List.{drop_all}
use Rattle.flow_systems.specs.Equations.{Vector}
use Rattle.flow_edges.specs.declared.point.Point.{Point}
use Rattle.acsl_anchors.specs.Anchors.{Anchor, What, a_loop, a_label, the_end}
use Rattle.acsl_anchors.specs.Laws.{is_anchored}
use Rattle.acsl_anchors.specs.View.{plain_what, plain_anchor, plain_anchors}
use Rattle.acsl_notes.specs.Clauses.{Clause, clauses}
use Rattle.acsl_notes.specs.Texts.{comment_at, comment_text, comment_unless_silent, comments_from, indentation}
use Rattle.acsl_notes.specs.View.{anchor_of, what_of}

module _ (text : List ℕ) (names : List (List ℕ)) (template : List (List ℤ)) (v : Vector) where
  -- where there are no more anchors there are no more comments
  pub none_left : (p : ℕ) (points : List Point) → comments_from text names template v p points [] ≡ []
  none_left p [] = refl
  none_left p (point ∷ points) = refl

  -- behind the last point there are none
  pub none_behind : (p k : ℕ) (points : List Point) (anchors : List Anchor) → length points ≤ k
      → comments_from text names template v p (drop k points) anchors ≡ []
  none_behind p k points anchors h = ap (λ ps. comments_from text names template v p ps anchors) (drop_all k points h)

  -- what the code keeps of an anchor gives the same text
  what_plain : (what : What) → comment_text names (what_of (plain_what what)) ≡ comment_text names what
  what_plain a_loop = refl
  what_plain (a_label name) = refl
  what_plain the_end = refl

  -- and the same comment
  unless_plain : (anchor : Anchor) (said : List Clause) → comment_unless_silent text names (anchor_of (plain_anchor anchor)) said
      ≡ comment_unless_silent text names anchor said
  unless_plain anchor [] = refl
  unless_plain anchor (clause ∷ said) =
      ap (λ (written : _). (record { place = anchor.place; bytes = written (indentation text anchor.place) (clause ∷ said) }) ∷ [])
      (what_plain anchor.what)

  -- a label's name makes no difference
  pub plain_comments : (p : ℕ) (points : List Point) (anchors : List Anchor)
      → comments_from text names template v p points (map anchor_of (plain_anchors anchors))
      ≡ comments_from text names template v p points anchors
  plain_comments p [] anchors = refl
  plain_comments p (point ∷ points) [] = refl
  plain_comments p (point ∷ points) (anchor ∷ anchors) =
      by (unless_plain anchor (clauses anchor.known template (v p))) (plain_comments (suc p) points anchors)
      (plain_comments (suc p) points (anchor ∷ anchors)) (is_anchored point.place)
    where
      by : comment_at text names template v p (anchor_of (plain_anchor anchor)) ≡ comment_at text names template v p anchor
          → comments_from text names template v (suc p) points (map anchor_of (plain_anchors anchors))
          ≡ comments_from text names template v (suc p) points anchors
          → comments_from text names template v (suc p) points (map anchor_of (plain_anchors (anchor ∷ anchors)))
          ≡ comments_from text names template v (suc p) points (anchor ∷ anchors)
          → (b : Bool) → (if b then comment_at text names template v p (anchor_of (plain_anchor anchor))
          ++ comments_from text names template v (suc p) points (map anchor_of (plain_anchors anchors))
          else comments_from text names template v (suc p) points (map anchor_of (plain_anchors (anchor ∷ anchors))))
          ≡ (if b then comment_at text names template v p anchor ++ comments_from text names template v (suc p) points anchors
          else comments_from text names template v (suc p) points (anchor ∷ anchors))
      by here on same true = ap₂ (λ xs ys. xs ++ ys) here on
      by here on same false = same
