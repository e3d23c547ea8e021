-- Comments stand where their anchors do.
use Rattle.std.proofs.Common.{◌≤◌, ◌++◌, ℕ, suc, ℤ, Bool, true, false, List, [], ◌∷◌, IsTrue, length, map, le_trans}
use Rattle.std.specs.Prelude.{if◌then◌else◌}
use Rattle.std.specs.List.{All}
use Rattle.std.proofs.lemmas.List.Elements.{All-nil, All-cons, All-head, All-tail}
use Rattle.flow_systems.specs.Equations.{Vector}
use Rattle.flow_edges.specs.declared.point.Point.{Point}
use Rattle.lang_tokens.specs.declared.token.Token.{Token}
use Rattle.lang_tree.specs.Word.{is_word}
use Rattle.acsl_comments.specs.Places.{Ascend, IsEdge, IsGap, IsBehindNoSlash}
use Rattle.acsl_comments.specs.declared.comment.Comment.{Comment}
use Rattle.acsl_anchors.specs.Anchors.{Anchor, anchors_of}
use Rattle.acsl_anchors.specs.Laws.{AnchorsStand, is_anchored}
use Rattle.acsl_notes.specs.Clauses.{Clause, clauses}
use Rattle.acsl_notes.specs.Laws.{CommentsMayStand}
use Rattle.acsl_notes.specs.Texts.{comment_unless_silent, comment_at, comments_from, indentation}
use Rattle.acsl_notes.proofs.standing.Plain.{ArePlain, word_plain}
use Rattle.acsl_notes.proofs.standing.Said.{comment_gap, indented}

-- ---- order
-- the places of comments
abbrev places : List Comment → List ℕ
places comments = map (λ c. c.place) comments

-- the places of anchors
abbrev anchor_places : List Anchor → List ℕ
anchor_places anchors = map (λ a. a.place) anchors

-- where places are in order, the last is not below the first
ascend_ends : (from to : ℕ) (xs : List ℕ) → Ascend from to xs → from ≤ to
ascend_ends from to [] h = h
ascend_ends from to (x ∷ xs) h = le_trans h.0 (ascend_ends x to xs h.1)

-- places in order are in order from an earlier one on
ascend_sooner : (sooner from to : ℕ) (xs : List ℕ) → sooner ≤ from → Ascend from to xs → Ascend sooner to xs
ascend_sooner sooner from to [] l h = le_trans l h
ascend_sooner sooner from to (x ∷ xs) l h = (le_trans l h.0, h.1)

module _ (text : List ℕ) (names : List (List ℕ)) (template : List (List ℤ)) (v : Vector) where
  -- the comment of an anchor comes before those of the later ones
  unless_order : (anchor : Anchor) (said : List Clause) (comments : List Comment) (from to : ℕ) → from ≤ anchor.place
      → Ascend anchor.place to (places comments) → Ascend from to (places (comment_unless_silent text names anchor said ++ comments))
  unless_order anchor [] comments from to l h = ascend_sooner from anchor.place to (places comments) l h
  unless_order anchor (clause ∷ said) comments from to l h = (l, h)

  -- places of some anchors, in their order, are in order
  comments_order : (p : ℕ) (points : List Point) (anchors : List Anchor) (from to : ℕ) → Ascend from to (anchor_places anchors)
      → Ascend from to (places (comments_from text names template v p points anchors))
  comments_order p [] anchors from to h = ascend_ends from to (anchor_places anchors) h
  comments_order p (point ∷ points) [] from to h = h
  comments_order p (point ∷ points) (anchor ∷ anchors) from to h =
      by (comments_order (suc p) points anchors anchor.place to h.1) (comments_order (suc p) points (anchor ∷ anchors) from to h)
      (is_anchored point.place)
    where
      by : Ascend anchor.place to (places (comments_from text names template v (suc p) points anchors))
          → Ascend from to (places (comments_from text names template v (suc p) points (anchor ∷ anchors)))
          → (b : Bool) → Ascend from to (places (if b
          then comment_at text names template v p anchor ++ comments_from text names template v (suc p) points anchors
          else comments_from text names template v (suc p) points (anchor ∷ anchors)))
      by here on true = unless_order anchor (clauses anchor.known template (v p))
          (comments_from text names template v (suc p) points anchors) from to h.0 here
      by here on false = on

  -- ---- what is so of the comment of each anchor is so of all comments
  module _ (Q : Anchor → Type 0) (P : Comment → Type 0)
      (each : (anchor : Anchor) (said : List Clause) (comments : List Comment) → Q anchor → All P comments
      → All P (comment_unless_silent text names anchor said ++ comments)) where
    -- over all points
    comments_all : (p : ℕ) (points : List Point) (anchors : List Anchor) → All Q anchors
        → All P (comments_from text names template v p points anchors)
    comments_all p [] anchors h = All-nil P
    comments_all p (point ∷ points) [] h = All-nil P
    comments_all p (point ∷ points) (anchor ∷ anchors) h =
        by (comments_all (suc p) points anchors (All-tail Q anchor anchors h)) (comments_all (suc p) points (anchor ∷ anchors) h)
        (is_anchored point.place)
      where
        by : All P (comments_from text names template v (suc p) points anchors)
            → All P (comments_from text names template v (suc p) points (anchor ∷ anchors)) → (b : Bool) → All P (if b
            then comment_at text names template v p anchor ++ comments_from text names template v (suc p) points anchors
            else comments_from text names template v (suc p) points (anchor ∷ anchors))
        by here on true = each anchor (clauses anchor.known template (v p)) (comments_from text names template v (suc p) points anchors)
            (All-head Q anchor anchors h) here
        by here on false = on

  -- it stands where a token begins or ends, as the anchor does
  unless_edges : (tokens : List Token) (anchor : Anchor) (said : List Clause) (comments : List Comment) → IsEdge tokens anchor.place
      → All (λ c. IsEdge tokens c.place) comments → All (λ c. IsEdge tokens c.place)
      (comment_unless_silent text names anchor said ++ comments)
  unless_edges tokens anchor [] comments e h = h
  unless_edges tokens anchor (clause ∷ said) comments e h = All-cons (λ c. IsEdge tokens c.place) _ comments e h

  -- none stands right behind a `/`, as the anchor doesn't
  unless_apart : (tokens : List Token) (anchor : Anchor) (said : List Clause) (comments : List Comment)
      → IsBehindNoSlash tokens anchor.place → All (λ c. IsBehindNoSlash tokens c.place) comments
      → All (λ c. IsBehindNoSlash tokens c.place) (comment_unless_silent text names anchor said ++ comments)
  unless_apart tokens anchor [] comments e h = h
  unless_apart tokens anchor (clause ∷ said) comments e h = All-cons (λ c. IsBehindNoSlash tokens c.place) _ comments e h

  -- its bytes are a gap
  unless_gaps : ArePlain names → (anchor : Anchor) (said : List Clause) (comments : List Comment) → Unit {0}
      → All (λ c. IsGap c.bytes) comments → All (λ c. IsGap c.bytes) (comment_unless_silent text names anchor said ++ comments)
  unless_gaps plain anchor [] comments e h = h
  unless_gaps plain anchor (clause ∷ said) comments e h =
      All-cons (λ c. IsGap c.bytes) _ comments
      (comment_gap names anchor.what (indentation text anchor.place) (clause ∷ said) plain (indented text anchor.place)) h

-- names are words, and words have no `/`
words_plain : (names : List (List ℕ)) → All (λ name. IsTrue (is_word name)) names → ArePlain names
words_plain [] h = tt
words_plain (name ∷ names) h =
    (word_plain name (All-head (λ n. IsTrue (is_word n)) name names h), words_plain names (All-tail (λ n. IsTrue (is_word n)) name names h))

-- where anchors stand, comments may
pub comments_stand : AnchorsStand → CommentsMayStand
comments_stand stand constants text tokens front first end f names points template v reads ended means words =
    let s = stand constants text tokens front first end f reads ended means in
    record {
      order = comments_order text names template v 0 points (anchors_of f) 0 (length text) s.order;
      edges = comments_all text names template v (λ a. IsEdge tokens a.place) (λ c. IsEdge tokens c.place)
          (unless_edges text names template v tokens) 0 points (anchors_of f) s.edges;
      gaps = comments_all text names template v (λ a. Unit {0}) (λ c. IsGap c.bytes)
          (unless_gaps text names template v (words_plain names words)) 0 points (anchors_of f) (λ k d lt. tt);
      apart = comments_all text names template v (λ a. IsBehindNoSlash tokens a.place) (λ c. IsBehindNoSlash tokens c.place)
          (unless_apart text names template v tokens) 0 points (anchors_of f) s.apart;
    }
