-- Where a comment starts a piece or a fault stands.
use Rattle.std.proofs.Common.{◌≡◌, ◌≤◌, ◌<◌, ◌+◌, ℕ, suc, zero, true, List, [], ◌∷◌, length, take, drop, get_or, refl, subst, arith}
use Rattle.std.proofs.Common.{Option, Some, None, inl, inr, ⊎_elim}
use Rattle.std.proofs.lemmas.Bool.{cases_eq, cases_lt}
use Rattle.std.proofs.lemmas.List.Sums.{prefix_len-le-length}
use Rattle.std.specs.List.{prefix_len}
use Rattle.lang_tokens.specs.declared.lexicon.Lexicon.{Lexicon}
use Rattle.lang_tokens.specs.declared.before.Before.{Before}
use Rattle.lang_tokens.specs.declared.fault.LexFault.{LexFault}
use Rattle.lang_tokens.specs.declared.fault.LexFault.TheVariants.{BadByte, OpenComment}
use Rattle.lang_tokens.specs.declared.found.Found.{Found}
use Rattle.lang_tokens.specs.Bytes.{is_on_line}
use Rattle.lang_tokens.specs.Directives.{starts_comment}
use Rattle.lang_tokens.specs.Faults.{Stands}
use Rattle.lang_tokens.specs.Steps.{ClosesAt, IsFirstClose, IsFirstJoint, IsLastBackslash, StandsFirst}
use Rattle.lang_tokens.proofs.comment.Ends.{comment_starts, first_two, last_line_comment, plain_line_comment, joined_line_comment}
use Rattle.lang_tokens.proofs.comment.Ends.{closed_body, open_body, block_comment_from, joined_block_comment, open_comment}
use Rattle.lang_tokens.proofs.joint.Joints.{first_joint}
use Rattle.lang_tokens.proofs.comment.Backslashes.{LastBackslash, last_backslash}

-- the first `*/` of a text, or none
record FirstClose (text : List ℕ) : Type 0 where
  answer : Option ℕ
  first : IsFirstClose text answer

close_later : (x : ℕ) (text : List ℕ) → (ClosesAt (x ∷ text) 0 → ⊥) → FirstClose text → FirstClose (x ∷ text)
close_later x text here later = from later.answer later.first
  where
    back : (place : ℕ) → ClosesAt (x ∷ text) (suc place) → ClosesAt text place
    back place h = let one : suc place + 1 ≡ suc (place + 1) = omega arith in (h.0, rw one at h.1)

    forth : (place : ℕ) → ClosesAt text place → ClosesAt (x ∷ text) (suc place)
    forth place h = let one : suc place + 1 ≡ suc (place + 1) = omega arith in (h.0, rw one h.1)

    before : (place : ℕ) → ((other : ℕ) → other < place → ClosesAt text other → ⊥) → (other : ℕ) → other < suc place
        → ClosesAt (x ∷ text) other → ⊥
    before place none zero low h = here h
    before place none (suc other) low h = none other (omega arith) (back other h)

    from : (o : Option ℕ) → IsFirstClose text o → FirstClose (x ∷ text)
    from None none = record { answer = None; first = never none }
      where
        never : ((place : ℕ) → ClosesAt text place → ⊥) → (place : ℕ) → ClosesAt (x ∷ text) place → ⊥
        never none zero h = here h
        never none (suc place) h = none place (back place h)
    from (Some place) found = record { answer = Some (suc place); first = (forth place found.0, before place found.1) }

first_close : (text : List ℕ) → FirstClose text
first_close [] = record { answer = None; first = λ place h. absurd (omega (arith, h.0)) }
first_close (x ∷ text) = ⊎_elim
    (λ (a : x ≡ 42). ⊎_elim
    (λ (b : get_or text 0 0 ≡ 47). record { answer = Some 0; first = ((a, b), λ other low h. absurd (omega arith)) })
    (λ (b : get_or text 0 0 ≡ 47 → ⊥). close_later x text (λ h. b h.1) (first_close text))
    (cases_eq (get_or text 0 0) 47))
    (λ (a : x ≡ 42 → ⊥). close_later x text (λ h. a h.0) (first_close text))
    (cases_eq x 42)

-- what stands at a place, behind what stands before it in its line
pub data AtPlace (lexicon : Lexicon) (before : Before) (place : ℕ) (rest : List ℕ) : Type 0 where
  a_piece : (found : Found) → StandsFirst lexicon before rest found → AtPlace lexicon before place rest
  a_fault : (fault : LexFault) → Stands lexicon fault before place rest → AtPlace lexicon before place rest

at_line : (lexicon : Lexicon) (before : Before) (place : ℕ) (body : List ℕ) → AtPlace lexicon before place (47 ∷ 47 ∷ body)
at_line lexicon before place body = ⊎_elim
    (λ (more : len < length body). from more (last_backslash (take len body)))
    (λ (end : length body ≤ len).
    a_piece _ (last_line_comment lexicon before body len refl (omega (arith, end, prefix_len-le-length is_on_line body))))
    (cases_lt len (length body))
  where
    len : ℕ
    len = prefix_len is_on_line body

    by_answer : len < length body → (o : Option ℕ) → IsLastBackslash (take len body) o → AtPlace lexicon before place (47 ∷ 47 ∷ body)
    by_answer more (Some k) h = a_fault (BadByte (place + 2 + k)) (inr (k, refl, inl (joined_line_comment body len k refl more h)))
    by_answer more None h = a_piece _ (plain_line_comment lexicon before body len refl h)

    from : len < length body → LastBackslash (take len body) → AtPlace lexicon before place (47 ∷ 47 ∷ body)
    from more last = by_answer more last.answer last.last

at_block : (lexicon : Lexicon) (before : Before) (place : ℕ) (body : List ℕ) → AtPlace lexicon before place (47 ∷ 42 ∷ body)
at_block lexicon before place body = let close = first_close body in from close.answer close.first
  where
    closed : (k : ℕ) → IsFirstClose body (Some k) → (o : Option ℕ) → IsFirstJoint (42 ∷ take k body) o
        → AtPlace lexicon before place (47 ∷ 42 ∷ body)
    closed k first (Some star) h = a_fault (BadByte (place + 2 + star))
        (inr (star, refl, inr (joined_block_comment body (take k body) star (closed_body body k first) h)))
    closed k first None h = a_piece _ (block_comment_from lexicon before body k first h)

    unclosed : IsFirstClose body None → (o : Option ℕ) → IsFirstJoint (42 ∷ body) o → AtPlace lexicon before place (47 ∷ 42 ∷ body)
    unclosed none (Some star) h = a_fault (BadByte (place + 2 + star))
        (inr (star, refl, inr (joined_block_comment body body star (open_body body none) h)))
    unclosed none None h = a_fault (OpenComment place) (refl, open_comment body none h)

    from : (o : Option ℕ) → IsFirstClose body o → AtPlace lexicon before place (47 ∷ 42 ∷ body)
    from (Some k) first = let joint = first_joint (42 ∷ take k body) in closed k first joint.answer joint.first
    from None none = let joint = first_joint (42 ∷ body) in unclosed none joint.answer joint.first

-- where a comment starts a piece or a fault stands
pub at_comment : (lexicon : Lexicon) (before : Before) (place : ℕ) (rest : List ℕ) → starts_comment rest ≡ true
    → AtPlace lexicon before place rest
at_comment lexicon before place rest starts =
    let first = comment_starts rest starts in
    ⊎_elim
    (λ (e : get_or rest 1 0 ≡ 47). subst (AtPlace lexicon before place) (first_two rest 47 47 first.some first.slash e)
    (at_line lexicon before place (drop 2 rest)))
    (λ (e : get_or rest 1 0 ≡ 42). subst (AtPlace lexicon before place) (first_two rest 47 42 first.some first.slash e)
    (at_block lexicon before place (drop 2 rest)))
    first.second
