-- Where comments end.
use Rattle.std.proofs.Common.{◌≡◌, ◌≤◌, ◌<◌, ◌+◌, ◌-◌, ℕ, suc, zero, true, not, eqb, List, [], ◌∷◌, ◌++◌, length, take, drop, get_or, refl}
use Rattle.std.proofs.Common.{ap, subst, ◌∙◌}
use Rattle.std.proofs.Common.{arith, None, Some, ⊎_elim, Result, ◌⊎◌, inl, inr, false}
use Rattle.std.proofs.lemmas.List.{take-append-drop, length-take-le, length-take, length-append, take_rest, get_or_at, append_assoc}
use Rattle.std.proofs.lemmas.List.{get_or_past, length-drop, drop_all}
use Rattle.std.proofs.lemmas.List.Sums.{prefix_len-le-length}
use Rattle.std.proofs.lemmas.Bool.{not-true, not-false, cases_lt, eqb-true, and_parts, or_cases}
use Rattle.std.specs.List.{prefix_len}
use Rattle.lang_tokens.specs.Bytes.{is_on_line}
use Rattle.lang_tokens.specs.declared.lexicon.Lexicon.{Lexicon}
use Rattle.lang_tokens.specs.declared.fault.LexFault.{LexFault}
use Rattle.lang_tokens.specs.declared.found.Found.{Found}
use Rattle.lang_tokens.specs.declared.before.Before.{Before}
use Rattle.lang_tokens.specs.Directives.{starts_comment, goes_on_as_comment}
use Rattle.lang_tokens.specs.Reading.{line_comment, block_comment, IsClosed, ends_line, EndsInBackslash, IsUnjoined, behind_comment}
use Rattle.lang_tokens.specs.Faults.{IsOpen, IsUnclosed, IsBody, closed, unclosed, IsJoinedLine, IsJoinedBlock}
use Rattle.lang_tokens.specs.Steps.{StandsFirst, Finds, ClosesAt, IsFirstClose, IsFirstJoint, IsLastBackslash}
use Rattle.lang_tokens.proofs.words.Runs.{stops, all_run, stops_run}

-- a text by its first two bytes
pub first_two : (rest : List ℕ) (a b : ℕ) → 2 ≤ length rest → get_or rest 0 0 ≡ a → get_or rest 1 0 ≡ b → a ∷ b ∷ drop 2 rest ≡ rest
first_two [] a b some e f = absurd (omega arith)
first_two (x ∷ []) a b some e f = absurd (omega arith)
first_two (x ∷ y ∷ rest) a b some e f = cc

-- a text that starts a comment has a `/`, and then a second one or a `*`
pub record StartsComment (rest : List ℕ) : Type 0 where
  -- there are two bytes
  pub some : 2 ≤ length rest
  -- the first is `/`
  pub slash : get_or rest 0 0 ≡ 47
  -- the second is `/` or `*`
  pub second : (get_or rest 1 0 ≡ 47) ⊎ (get_or rest 1 0 ≡ 42)

-- the first two bytes of a text that starts a comment
pub comment_starts : (rest : List ℕ) → starts_comment rest ≡ true → StartsComment rest
comment_starts [] h = cc
comment_starts (b ∷ []) h = let no : false ≡ true = (and_parts (eqb b 47) false h).1 in cc
comment_starts (b ∷ c ∷ rest) h =
    let both = and_parts (eqb b 47) (goes_on_as_comment (c ∷ rest)) h in
    record {
      some = omega arith;
      slash = eqb-true b 47 both.0;
      second = ⊎_elim (λ (is : eqb c 47 ≡ true). inl (eqb-true c 47 is)) (λ (is : eqb c 42 ≡ true). inr (eqb-true c 42 is))
          (or_cases (eqb c 47) (eqb c 42) both.1);
    }

ends_from_stops : (xs : List ℕ) → stops is_on_line xs ≡ true → ends_line xs ≡ true
ends_from_stops [] h = refl
ends_from_stops (x ∷ xs) h = not-false (eqb x 10) (not-true (not (eqb x 10)) h)

-- what follows `//` up to the next line feed is a line comment, where nothing follows that it would be joined with
line_comment_from : (lexicon : Lexicon) (before : Before) (body : List ℕ) (n : ℕ) → n ≡ prefix_len is_on_line body
    → IsUnjoined (take n body) (drop n body)
    → StandsFirst lexicon before (47 ∷ 47 ∷ body) (record { kind = None; len = 2 + n; behind = behind_comment before })
line_comment_from lexicon before body n e unjoined = record {
  piece = line_comment (take n body);
  after = drop n body;
  split = ap (λ (xs : List ℕ). 47 ∷ 47 ∷ xs) (take-append-drop n body);
  fits = (rw e (all_run is_on_line body), ends_from_stops (drop n body) (rw e (stops_run is_on_line body)), unjoined);
  length_is = rw e (omega (arith, length-take-le _ body (prefix_len-le-length is_on_line body)));
  kind_is = refl;
  behind_is = refl;
}

-- what follows `//` is a line comment to the end of the text, where no line feed comes
pub last_line_comment : (lexicon : Lexicon) (before : Before) (body : List ℕ) (n : ℕ) → n ≡ prefix_len is_on_line body → n ≡ length body
    → StandsFirst lexicon before (47 ∷ 47 ∷ body) (record { kind = None; len = 2 + n; behind = behind_comment before })
last_line_comment lexicon before body n e end =
    line_comment_from lexicon before body n e (λ place ends. drop_all n body (omega (arith, end)))

-- what follows `//` is a line comment up to the next line feed, where it ends in no backslash
pub plain_line_comment : (lexicon : Lexicon) (before : Before) (body : List ℕ) (n : ℕ) → n ≡ prefix_len is_on_line body
    → IsLastBackslash (take n body) None
    → StandsFirst lexicon before (47 ∷ 47 ∷ body) (record { kind = None; len = 2 + n; behind = behind_comment before })
plain_line_comment lexicon before body n e none = line_comment_from lexicon before body n e (λ place ends. absurd (none place ends))

first_feed : (xs : List ℕ) → ends_line xs ≡ true → 0 < length xs → 10 ∷ drop 1 xs ≡ xs
first_feed [] h some = absurd (omega (arith, some))
first_feed (x ∷ xs) h some = let feed : x ≡ 10 = eqb-true x 10 h in cc

-- what follows `//` up to the next line feed is joined with what comes behind, where it ends in a backslash
pub joined_line_comment : (body : List ℕ) (n place : ℕ) → n ≡ prefix_len is_on_line body → n < length body
    → EndsInBackslash (take n body) place → IsJoinedLine (47 ∷ 47 ∷ body) place
joined_line_comment body n place e more ends = record {
  body = take n body;
  more = drop 1 (drop n body);
  split = ap (λ (xs : List ℕ). 47 ∷ 47 ∷ xs) (ap (λ (xs : List ℕ). take n body ++ xs) feed ∙ take-append-drop n body);
  on_line = rw e (all_run is_on_line body);
  ends = ends;
}
  where
    feed : 10 ∷ drop 1 (drop n body) ≡ drop n body
    feed = first_feed (drop n body) (ends_from_stops (drop n body) (rw e (stops_run is_on_line body)))
        (omega (arith, length-drop n body, more))

-- what is found where the text after `//` starts is found where the text starts
pub line_comment_finds : (lexicon : Lexicon) (before : Before) (rest : List ℕ) (place : ℕ) (result : Result Found LexFault)
    → 2 ≤ length rest
    → get_or rest 0 0 ≡ 47 → get_or rest 1 0 ≡ 47 → Finds lexicon before (47 ∷ 47 ∷ take (length rest - 2) (drop 2 rest)) place result
    → Finds lexicon before rest place result
line_comment_finds lexicon before rest place result some e f h =
    subst (λ (r : List ℕ). Finds lexicon before r place result) (first_two rest 47 47 some e f) (rw (take_rest rest 2) at h)

-- where `*/` is written it stands
close_at : (front after text : List ℕ) → front ++ 42 ∷ 47 ∷ after ≡ text → ClosesAt text (length front)
close_at front after text e = rw (← e) (get_or_at front 42 (47 ∷ after) 0 (length front) refl, second front after)
  where
    second : (front after : List ℕ) → get_or (front ++ 42 ∷ 47 ∷ after) (length front + 1) 0 ≡ 47
    second [] after = refl
    second (x ∷ front) after = let one : suc (length front) + 1 ≡ suc (length front + 1) = omega arith in rw one (second front after)

-- and where it stands it is written
close_split : (text : List ℕ) (k : ℕ) → ClosesAt text k → take k text ++ 42 ∷ 47 ∷ drop (k + 2) text ≡ text
close_split [] k h = absurd (omega (arith, h.0))
close_split (x ∷ []) zero h = absurd (omega (arith, h.1))
close_split (x ∷ y ∷ text) zero h = let one : x ≡ 42 = h.0 in let two : y ≡ 47 = h.1 in cc
close_split (x ∷ text) (suc k) h =
    let one : suc k + 1 ≡ suc (k + 1) = omega arith in
    let two : suc k + 2 ≡ suc (k + 2) = omega arith in
    rw two (ap (λ (xs : List ℕ). x ∷ xs) (close_split text k (h.0, rw one at h.1)))

-- and it stands within the text
pub close_within : (text : List ℕ) (k : ℕ) → ClosesAt text k → k + 2 ≤ length text
close_within text k h = ⊎_elim (λ (short : length text < k + 2). let past : get_or text (k + 1) 0 ≡ 0 =
    get_or_past text (k + 1) 0 (omega arith) in absurd (omega (arith, h.1))) (λ (long : k + 2 ≤ length text). long)
    (cases_lt (length text) (k + 2))

-- the bytes up to the first `*/`
close_body : (body : List ℕ) (k : ℕ) → IsFirstClose body (Some k) → IsClosed (take k body) (drop (k + 2) body)
close_body body k first other after e = ⊎_elim
    (λ (low : length other < k). absurd (first.1 (length other) low (close_at other after body (e ∙ close_split body k first.0))))
    (λ (high : k ≤ length other). omega (arith, length-take k body))
    (cases_lt (length other) k)

-- the body of a comment is what stands up to the first `*/`
pub closed_body : (body : List ℕ) (k : ℕ) → IsFirstClose body (Some k) → IsBody body (take k body)
closed_body body k first = closed (drop (k + 2) body) (close_split body k first.0) (close_body body k first)

-- where `*/` stands nowhere, it is written nowhere
unclosed_from : (body : List ℕ) → IsFirstClose body None → IsUnclosed body
unclosed_from body none front after whole = none (length front) (close_at front after body whole)

-- the body of a comment is everything where no `*/` stands
pub open_body : (body : List ℕ) → IsFirstClose body None → IsBody body body
open_body body none = unclosed refl (unclosed_from body none)

-- a comment ends at the first `*/`, where C joins no lines in it
pub block_comment_from : (lexicon : Lexicon) (before : Before) (body : List ℕ) (k : ℕ) → IsFirstClose body (Some k)
    → IsFirstJoint (42 ∷ take k body) None
    → StandsFirst lexicon before (47 ∷ 42 ∷ body) (record { kind = None; len = k + 4; behind = behind_comment before })
block_comment_from lexicon before body k first none = record {
  piece = block_comment (take k body);
  after = drop (k + 2) body;
  split = ap (λ (xs : List ℕ). 47 ∷ 42 ∷ xs) (append_assoc (take k body) (42 ∷ 47 ∷ []) (drop (k + 2) body) ∙ close_split body k first.0);
  fits = (close_body body k first, none);
  length_is = length_is;
  kind_is = refl;
  behind_is = refl;
}
  where
    within : k + 2 ≤ length body
    within = close_within body k first.0

    length_is : length (47 ∷ 42 ∷ (take k body ++ 42 ∷ 47 ∷ [])) ≡ k + 4
    length_is = omega (arith, length-append (take k body) (42 ∷ 47 ∷ []), length-take-le k body (omega (arith, within)))

-- a comment of this body is another one to C where it joins lines behind a `*`
pub joined_block_comment : (more body : List ℕ) (star : ℕ) → IsBody more body → IsFirstJoint (42 ∷ body) (Some star)
    → IsJoinedBlock (47 ∷ 42 ∷ more) star
joined_block_comment more body star is_body first = record {
  more = more;
  split = refl;
  body = body;
  is_body = is_body;
  joins = first.0;
  first = first.1;
}

-- a comment with no `*/` is open, where C joins no lines in it
pub open_comment : (more : List ℕ) → IsFirstClose more None → IsFirstJoint (42 ∷ more) None → IsOpen (47 ∷ 42 ∷ more)
open_comment more none unjoined = record { more = more; split = refl; unclosed = unclosed_from more none; unjoined = unjoined }

module _ (rest : List ℕ) (some : 2 ≤ length rest) (slash : get_or rest 0 0 ≡ 47) (star : get_or rest 1 0 ≡ 42) where
  body_is : take (length rest - 2) (drop 2 rest) ≡ drop 2 rest
  body_is = take_rest rest 2

  split_is : 47 ∷ 42 ∷ drop 2 rest ≡ rest
  split_is = first_two rest 47 42 some slash star

  -- the bytes from the `*` of `/*` to the first `*/`
  inside_is : (k : ℕ) → take (k + 2 - 1) (drop 1 rest) ≡ 42 ∷ take k (drop 2 rest)
  inside_is k =
      let one : k + 2 - 1 ≡ suc k = omega arith in
      rw one (subst (λ (r : List ℕ). take (suc k) (drop 1 r) ≡ 42 ∷ take k (drop 2 rest)) split_is refl)

  -- the bytes from the `*` of `/*` on
  all_is : take (length rest - 1) (drop 1 rest) ≡ 42 ∷ drop 2 rest
  all_is = take_rest rest 1 ∙ subst (λ (r : List ℕ). drop 1 r ≡ 42 ∷ drop 2 rest) split_is refl

  -- a text that starts with `/*` has a block comment first, up to the first `*/` that follows, where C joins no lines in it
  pub block_comment_stands : (lexicon : Lexicon) (before : Before) (k : ℕ) → IsFirstClose (take (length rest - 2) (drop 2 rest)) (Some k)
      → IsFirstJoint (take (k + 2 - 1) (drop 1 rest)) None
      → StandsFirst lexicon before rest (record { kind = None; len = k + 4; behind = behind_comment before })
  block_comment_stands lexicon before k first none =
      subst (λ (r : List ℕ). StandsFirst lexicon before r (record { kind = None; len = k + 4; behind = behind_comment before })) split_is
      (block_comment_from lexicon before (drop 2 rest) k (rw body_is at first) (rw (inside_is k) at none))

  -- it is another one to C where it joins lines behind a `*` of it
  pub joined_block_stands : (k star_at : ℕ) → IsFirstClose (take (length rest - 2) (drop 2 rest)) (Some k)
      → IsFirstJoint (take (k + 2 - 1) (drop 1 rest)) (Some star_at) → IsJoinedBlock rest star_at
  joined_block_stands k star_at first joint = subst (λ (r : List ℕ). IsJoinedBlock r star_at) split_is
      (joined_block_comment (drop 2 rest) (take k (drop 2 rest)) star_at (closed_body (drop 2 rest) k (rw body_is at first))
      (rw (inside_is k) at joint))

  -- so it is where no `*/` follows
  pub joined_open_stands : (star_at : ℕ) → IsFirstClose (take (length rest - 2) (drop 2 rest)) None
      → IsFirstJoint (take (length rest - 1) (drop 1 rest)) (Some star_at) → IsJoinedBlock rest star_at
  joined_open_stands star_at none joint = subst (λ (r : List ℕ). IsJoinedBlock r star_at) split_is
      (joined_block_comment (drop 2 rest) (drop 2 rest) star_at (open_body (drop 2 rest) (rw body_is at none)) (rw all_is at joint))

  -- a text that starts with `/*` and has no `*/` after it starts with an open comment, where C joins no lines in it
  pub open_comment_stands : IsFirstClose (take (length rest - 2) (drop 2 rest)) None
      → IsFirstJoint (take (length rest - 1) (drop 1 rest)) None → IsOpen rest
  open_comment_stands none unjoined = subst IsOpen split_is (open_comment (drop 2 rest) (rw body_is at none) (rw all_is at unjoined))
