-- Places in order, and where what stood at a place stands then.
use Rattle.std.proofs.Common.{◌≡◌, ◌≤◌, ◌<◌, ◌+◌, ◌-◌, ⊎_elim, ℕ, Bool, true, false, cond, nat_le, nat_lt, List, [], ◌∷◌, ◌++◌, length}
use Rattle.std.proofs.Common.{map, take, drop, refl, sym, ap, ◌∙◌, arith}
use Rattle.std.proofs.lemmas.Bool.{le-leb, lt-leb, leb-true, leb-false, lt-ltb, le-ltb, cases_lt}
use Rattle.std.proofs.lemmas.List.{append_assoc, length-append, length-drop, length-take-le}
use Rattle.std.proofs.Math.Seq.{take-append-add, drop-append-add}
use Rattle.acsl_comments.specs.Places.{Ascend}
use Rattle.acsl_comments.specs.Texts.{moved_by, with_comments}
use Rattle.acsl_comments.specs.declared.comment.Comment.{Comment}

-- the places of comments
abbrev pub places : List Comment → List ℕ
places comments = map (λ c. c.place) comments

-- places in order stand between their bounds
pub ascend_within : (from to : ℕ) (ps : List ℕ) → Ascend from to ps → from ≤ to
ascend_within from to [] h = h
ascend_within from to (p ∷ ps) h = omega (arith, h.0, ascend_within p to ps h.1)

-- what stands before all comments stays where it is
pub moved_before : (comments : List Comment) (from to place : ℕ) → Ascend from to (places comments) → place < from
    → moved_by comments place ≡ place
moved_before [] from to place h before = refl
moved_before (c ∷ cs) from to place h before =
    let past : place < c.place = omega (arith, h.0) in
    rw (lt-leb c.place place past) (moved_before cs c.place to place h.1 past)

-- what stands behind the first comment is moved by it
pub moved_behind : (c : Comment) (cs : List Comment) (place : ℕ) → c.place ≤ place
    → moved_by (c ∷ cs) place ≡ length c.bytes + moved_by cs place
moved_behind c cs place h = rw (le-leb c.place place h) refl

-- a front before all comments stays
pub with_after : (at to : ℕ) (front rest : List ℕ) (comments : List Comment) → Ascend (at + length front) to (places comments)
    → front ++ with_comments (at + length front) rest comments ≡ with_comments at (front ++ rest) comments
with_after at to front rest [] h = refl
with_after at to front rest (c ∷ cs) h =
    let n : c.place - at ≡ length front + (c.place - (at + length front)) = omega (arith, h.0) in
    rw (n, take-append-add front rest (c.place - (at + length front)), drop-append-add front rest (c.place - (at + length front)))
    (sym (append_assoc front (take (c.place - (at + length front)) rest)
    (c.bytes ++ with_comments c.place (drop (c.place - (at + length front)) rest) cs)))

-- the length of what is written
pub length-with_comments : (at to : ℕ) (rest : List ℕ) (comments : List Comment) → Ascend at to (places comments) → at + length rest ≡ to
    → at + length (with_comments at rest comments) ≡ moved_by comments to
length-with_comments at to rest [] h e = e
length-with_comments at to rest (c ∷ cs) h e =
    let low : at ≤ c.place = h.0 in
    let high : c.place ≤ to = ascend_within c.place to (places cs) h.1 in
    let more = length-with_comments c.place to (drop (c.place - at) rest) cs h.1 (omega (arith, length-drop (c.place - at) rest)) in
    let within : c.place - at ≤ length rest = omega arith in
    let back = c.bytes ++ with_comments c.place (drop (c.place - at) rest) cs in
    omega (
      arith,
      more,
      moved_behind c cs to high,
      length-append (take (c.place - at) rest) back,
      length-append c.bytes (with_comments c.place (drop (c.place - at) rest) cs),
      length-take-le (c.place - at) rest within,
    )

-- ---- the order of places
-- what stands before another place does so then
pub moved_less : (comments : List Comment) (p q : ℕ) → p < q → moved_by comments p < moved_by comments q
moved_less [] p q h = h
moved_less (c ∷ cs) p q h = by_places (nat_le c.place p) (nat_le c.place q) refl refl (moved_less cs p q h) where
  by_places : (s t : Bool) → nat_le c.place p ≡ s → nat_le c.place q ≡ t → moved_by cs p < moved_by cs q
      → cond s (length c.bytes + moved_by cs p) (moved_by cs p) < cond t (length c.bytes + moved_by cs q) (moved_by cs q)
  by_places true true e f more = omega (arith, more)
  by_places false true e f more = omega (arith, more)
  by_places false false e f more = more
  by_places true false e f more = absurd (omega (arith, leb-true c.place p e, leb-false c.place q f, h))

-- and what doesn't, doesn't
pub moved_at_most : (comments : List Comment) (p q : ℕ) → p ≤ q → moved_by comments p ≤ moved_by comments q
moved_at_most comments p q h = ⊎_elim
    (λ (less : p < q). omega (arith, moved_less comments p q less))
    (λ (same : q ≤ p). let e : p ≡ q = omega (arith, same, h) in omega (arith, ap (λ (n : ℕ). moved_by comments n) e))
    (cases_lt p q)

-- so the order is told as before
pub moved_order : (comments : List Comment) (p q : ℕ) → nat_lt (moved_by comments p) (moved_by comments q) ≡ nat_lt p q
moved_order comments p q = ⊎_elim
    (λ (less : p < q). lt-ltb _ _ (moved_less comments p q less) ∙ sym (lt-ltb p q less))
    (λ (most : q ≤ p). le-ltb _ _ (moved_at_most comments q p most) ∙ sym (le-ltb p q most))
    (cases_lt p q)
