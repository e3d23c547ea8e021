-- What is put in at an anchor is a gap.
use Rattle.std.proofs.Common.{◌≡◌, ◌==◌, ◌||◌, ℕ, ℤ, Bool, true, false, Option, Some, None, List, [], ◌∷◌, ◌++◌, refl, sym, subst}
use Rattle.std.proofs.Common.{append_assoc, codes, decimal, map, take}
use Rattle.std.specs.Prelude.{if◌then◌else◌}
use Rattle.std.specs.Fmt.{signed_decimal}
use Rattle.std.specs.List.{list_all}
use Rattle.std.proofs.lemmas.Bool.{and_parts, eqb-true}
use Rattle.lang_tokens.specs.Bytes.{is_blank}
use Rattle.acsl_comments.specs.Places.{IsGap}
use Rattle.flow_systems.specs.Report.{row_text}
use Rattle.acsl_anchors.specs.Anchors.{What, a_loop, a_label, the_end}
use Rattle.acsl_notes.specs.Clauses.{Clause, never, at_most, equals}
use Rattle.acsl_notes.specs.Texts.{side_text, clause_text, invariant_text, assertion_text, is_space, last_line, indentation, joined_on}
use Rattle.acsl_notes.specs.Texts.{joined, loop_comment, label_comment, end_comment, comment_text}
use Rattle.acsl_notes.proofs.standing.Gaps.{gap_append, gap_nil, gap_blank, gap_blanks, gap_comment}
use Rattle.acsl_notes.proofs.standing.Plain.{is_plain, IsPlain, ArePlain, plain_append, plain_cons, plain_if, decimal_plain, signed_plain}
use Rattle.acsl_notes.proofs.standing.Plain.{row_plain}

-- ---- conditions
-- three plain texts
plain_three : (xs ys zs : List ℕ) → IsPlain xs → IsPlain ys → IsPlain zs → IsPlain (xs ++ ys ++ zs)
plain_three xs ys zs h k l = plain_append (xs ++ ys) zs (plain_append xs ys h k) l

-- a row with its factor is plain
side_plain : (names : List (List ℕ)) (factor : ℕ) (row : List ℤ) → ArePlain names → IsPlain (side_text names factor row)
side_plain names factor row h =
    plain_if (factor == 1) (row_text names row) (decimal factor ++ codes " * (" ++ row_text names row ++ codes ")") (row_plain names row h)
    (plain_append (decimal factor ++ codes " * (" ++ row_text names row) (codes ")")
    (plain_three (decimal factor) (codes " * (") (row_text names row) (decimal_plain factor) refl (row_plain names row h)) refl)

-- a condition is plain
clause_plain : (names : List (List ℕ)) (clause : Clause) → ArePlain names → IsPlain (clause_text names clause)
clause_plain names never h = refl
clause_plain names (at_most factor row bound) h =
    plain_three (side_text names factor row) (codes " <= ") (signed_decimal bound) (side_plain names factor row h) refl (signed_plain bound)
clause_plain names (equals factor row bound) h =
    plain_three (side_text names factor row) (codes " == ") (signed_decimal bound) (side_plain names factor row h) refl (signed_plain bound)

-- an invariant is plain
invariant_plain : (names : List (List ℕ)) (clause : Clause) → ArePlain names → IsPlain (invariant_text names clause)
invariant_plain names clause h = plain_three (codes "loop invariant ") (clause_text names clause) (codes ";") refl
    (clause_plain names clause h) refl

-- invariants behind others are plain where what stands between them is
joined_on_plain : (names : List (List ℕ)) (between : List ℕ) (said : List Clause) → ArePlain names → IsPlain between
    → IsPlain (joined_on between (map (invariant_text names) said))
joined_on_plain names between [] h b = refl
joined_on_plain names between (clause ∷ said) h b =
    plain_three between (invariant_text names clause) (joined_on between (map (invariant_text names) said)) b
    (invariant_plain names clause h)
    (joined_on_plain names between said h b)

-- invariants are plain where what stands between them is
joined_plain : (names : List (List ℕ)) (between : List ℕ) (said : List Clause) → ArePlain names → IsPlain between
    → IsPlain (joined between (map (invariant_text names) said))
joined_plain names between [] h b = refl
joined_plain names between (clause ∷ said) h b =
    plain_append (invariant_text names clause) (joined_on between (map (invariant_text names) said)) (invariant_plain names clause h)
    (joined_on_plain names between said h b)

-- ---- blanks
-- a space or a tab is blank
space_blank : (b : ℕ) → is_space b ≡ true → is_blank b ≡ true
space_blank b h = by (b == 32) (b == 9) h
  where
    by : (one two : Bool) → (one || two) ≡ true → (one || two || (b == 13) || (b == 10)) ≡ true
    by true two h = refl
    by false true h = refl
    by false false h = cc

-- and is not `/`
space_plain : (b : ℕ) → is_space b ≡ true → is_plain b ≡ true
space_plain b h = by (b == 32) (b == 9) refl refl h
  where
    by : (one two : Bool) → (b == 32) ≡ one → (b == 9) ≡ two → (one || two) ≡ true → is_plain b ≡ true
    by true two e f h = subst (λ k. is_plain k ≡ true) (sym (eqb-true b 32 e)) refl
    by false true e f h = subst (λ k. is_plain k ≡ true) (sym (eqb-true b 9 f)) refl
    by false false e f h = cc

-- spaces are blank
spaces_blank : (bs : List ℕ) → list_all is_space bs ≡ true → list_all is_blank bs ≡ true
spaces_blank [] h = refl
spaces_blank (b ∷ bs) h =
    let parts = and_parts (is_space b) (list_all is_space bs) h in
    rw (space_blank b parts.0) (spaces_blank bs parts.1)

-- and plain
spaces_plain : (bs : List ℕ) → list_all is_space bs ≡ true → IsPlain bs
spaces_plain [] h = refl
spaces_plain (b ∷ bs) h =
    let parts = and_parts (is_space b) (list_all is_space bs) h in
    plain_cons b bs (space_plain b parts.0) (spaces_plain bs parts.1)

-- an indentation is of spaces
abbrev pub AreSpaces : Option (List ℕ) → Type 0
AreSpaces None = Unit {0}
AreSpaces (Some bs) = list_all is_space bs ≡ true

-- the indentation of a place is of spaces
pub indented : (text : List ℕ) (place : ℕ) → AreSpaces (indentation text place)
indented text place = by (list_all is_space (last_line [] (take place text))) refl
  where
    by : (b : Bool) → list_all is_space (last_line [] (take place text)) ≡ b
        → AreSpaces (if b then Some (last_line [] (take place text)) else None)
    by true e = e
    by false e = tt

-- the end of a line and spaces are a gap
line_gap : (blanks : List ℕ) → list_all is_space blanks ≡ true → IsGap (10 ∷ blanks)
line_gap blanks h = gap_append (10 ∷ []) blanks (gap_blank 10 refl) (gap_blanks blanks (spaces_blank blanks h))

-- ---- comments
-- a comment that begins with `@` and ends with a space
note_gap : (said : List ℕ) → IsPlain said → IsGap (47 ∷ 42 ∷ 64 ∷ 32 ∷ (said ++ 32 ∷ 42 ∷ 47 ∷ []))
note_gap said h =
    subst (λ (bytes : List ℕ). IsGap (47 ∷ 42 ∷ 64 ∷ 32 ∷ bytes)) (append_assoc said (32 ∷ []) (42 ∷ 47 ∷ []))
    (gap_comment (64 ∷ 32 ∷ (said ++ 32 ∷ [])) (plain_append (64 ∷ 32 ∷ said) (32 ∷ []) (plain_append (64 ∷ 32 ∷ []) said refl h) refl))

-- an assertion is a gap
assertion_gap : (names : List (List ℕ)) (clause : Clause) → ArePlain names → IsGap (assertion_text names clause)
assertion_gap names clause h =
    subst (λ (bytes : List ℕ). IsGap (codes "/*@ assert " ++ bytes)) (append_assoc (clause_text names clause) (codes ";") (codes " */"))
    (note_gap (codes "assert " ++ clause_text names clause ++ codes ";")
    (plain_three (codes "assert ") (clause_text names clause) (codes ";") refl (clause_plain names clause h) refl))

-- the comment of a loop is a gap
loop_gap : (names : List (List ℕ)) (blanks : Option (List ℕ)) (said : List Clause) → ArePlain names → AreSpaces blanks
    → IsGap (loop_comment names blanks said)
loop_gap names (Some blanks) said h s =
    let between : List ℕ = 10 ∷ (blanks ++ codes "    ") in
    let lines : List ℕ = joined between (map (invariant_text names) said) in
    let plain : IsPlain between = plain_append (10 ∷ blanks) (codes "    ") (plain_cons 10 blanks refl (spaces_plain blanks s)) refl in
    gap_append (codes "/*@ " ++ lines ++ codes " */") (10 ∷ blanks) (note_gap lines (joined_plain names between said h plain))
    (line_gap blanks s)
loop_gap names None said h s =
    let line : List ℕ = joined (codes " ") (map (invariant_text names) said) in
    subst (λ (bytes : List ℕ). IsGap (codes "/*@ " ++ bytes)) (append_assoc line (codes " */") (codes " "))
    (gap_append (codes "/*@ " ++ line ++ codes " */") (32 ∷ []) (note_gap line (joined_plain names (codes " ") said h refl))
    (gap_blank 32 refl))

-- the comment of a label is a gap
label_gap : (names : List (List ℕ)) (said : List Clause) → ArePlain names → IsGap (label_comment names said)
label_gap names [] h = gap_nil
label_gap names (clause ∷ said) h =
    gap_append (32 ∷ assertion_text names clause) (label_comment names said)
    (gap_append (32 ∷ []) (assertion_text names clause) (gap_blank 32 refl) (assertion_gap names clause h)) (label_gap names said h)

-- the comment of the end is a gap
end_gap : (names : List (List ℕ)) (blanks : Option (List ℕ)) (said : List Clause) → ArePlain names → AreSpaces blanks
    → IsGap (end_comment names blanks said)
end_gap names (Some blanks) [] h s = gap_nil
end_gap names (Some blanks) (clause ∷ said) h s =
    gap_append (assertion_text names clause ++ 10 ∷ blanks) (end_comment names (Some blanks) said)
    (gap_append (assertion_text names clause) (10 ∷ blanks) (assertion_gap names clause h) (line_gap blanks s))
    (end_gap names (Some blanks) said h s)
end_gap names None [] h s = gap_nil
end_gap names None (clause ∷ said) h s =
    gap_append (assertion_text names clause ++ 32 ∷ []) (end_comment names None said)
    (gap_append (assertion_text names clause) (32 ∷ []) (assertion_gap names clause h) (gap_blank 32 refl)) (end_gap names None said h s)

-- whatever is said, and where
pub comment_gap : (names : List (List ℕ)) (what : What) (blanks : Option (List ℕ)) (said : List Clause) → ArePlain names → AreSpaces blanks
    → IsGap (comment_text names what blanks said)
comment_gap names a_loop blanks said h s = loop_gap names blanks said h s
comment_gap names (a_label name) blanks said h s = label_gap names said h
comment_gap names the_end blanks said h s = end_gap names blanks said h s
