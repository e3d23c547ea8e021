-- At one place at most one piece stands, or one fault and no piece; so a text has one reading or one fault.
use Rattle.std.proofs.Common.{◌≡◌, ◌≤◌, ℕ, Bool, true, false, not, eqb, List, [], ◌∷◌, ◌++◌, length, take, refl, sym, ap, subst, ◌∙◌}
use Rattle.std.proofs.Common.{inl, inr, arith, ◌+◌, ◌<◌, ⊎_elim}
use Rattle.std.proofs.lemmas.List.{take_at, append_assoc, append_cancel_left, length-append}
use Rattle.std.proofs.lemmas.Bool.{and_parts, not_from_true, not_from_false, cases_lt}
use Rattle.std.specs.List.{list_all}
use Rattle.lang_tokens.specs.Bytes.{is_on_line}
use Rattle.lang_tokens.specs.Directives.{is_star_joint}
use Rattle.lang_tokens.specs.declared.lexicon.Lexicon.{Lexicon}
use Rattle.lang_tokens.specs.declared.lexicon.Lexicon.TheVariants.{Own, C}
use Rattle.lang_tokens.specs.declared.before.Before.{Before}
use Rattle.lang_tokens.specs.declared.before.Before.TheVariants.{Blanks}
use Rattle.lang_tokens.specs.declared.token.Kind.{Kind}
use Rattle.lang_tokens.specs.declared.token.Kind.TheVariants as kind
use Rattle.lang_tokens.specs.declared.token.Token.{Token}
use Rattle.lang_tokens.specs.declared.fault.LexFault.{LexFault}
use Rattle.lang_tokens.specs.declared.fault.LexFault.TheVariants.{BadByte, OpenComment, LongNumber, LongName, BadNumber, NoMemory}
use Rattle.lang_tokens.specs.Reading.{Piece, blank, line_comment, block_comment, token, piece_bytes, spelling, ends_line, IsClosed}
use Rattle.lang_tokens.specs.Reading.{IsLongest, IsWholeToken, is_own, is_outside, may_stand, Fits}
use Rattle.lang_tokens.specs.Reading.{AllFit, tokens_from, ReadsUpTo, end_at, Reads, behind, behind_all}
use Rattle.lang_tokens.specs.Faults.{NothingStarts, IsJoinedLine, IsJoinedBlock, IsJoined, IsBody, closed, unclosed, IsOpen, IsLongNumber}
use Rattle.lang_tokens.specs.Faults.{IsLongName, IsBadNumber, IsBadByte, Stands, HasFault}
use Rattle.lang_tokens.proofs.words.Runs.{stops}
use Rattle.lang_tokens.proofs.comment.Backslashes.{one_backslash}
use Rattle.lang_tokens.proofs.reading.Growth.{piece_some, lexeme_some}
use Rattle.lang_tokens.proofs.lexemes.Grades.{Grade, short_word, long_word, good_number, bad_number, great_number, plain_sign, grade}
use Rattle.lang_tokens.proofs.lexemes.Grades.{kind_grade, token_grade, one_kind}
use Rattle.lang_tokens.proofs.lexemes.Grades.{one_longest, one_rest, long_word_grade, great_number_grade, bad_number_grade}
use Rattle.lang_tokens.proofs.lexemes.CGrades.{c_one_kind}
use Rattle.lang_tokens.proofs.lexemes.Openings.{a_line_comment, a_block_comment, another, opening, piece_opening, fault_opening}
use Rattle.lang_tokens.proofs.lexemes.Openings.{opening_of_piece, joined_opens, lenient, opening_of_fault}

one_run : (p : ℕ → Bool) (xs r ys s : List ℕ) → list_all p xs ≡ true → stops p r ≡ true → list_all p ys ≡ true → stops p s ≡ true
    → xs ++ r ≡ ys ++ s → xs ≡ ys
one_run p [] r [] s a b c d e = refl
one_run p [] r (y ∷ ys) s a b c d e =
    let stop : not (p y) ≡ true = rw e at b in
    let pass : p y ≡ true = (and_parts (p y) (list_all p ys) c).0 in
    let no = not_from_true (p y) pass in
    cc
one_run p (x ∷ xs) r [] s a b c d e =
    let stop : not (p x) ≡ true = rw (← e) at d in
    let pass : p x ≡ true = (and_parts (p x) (list_all p xs) a).0 in
    let no = not_from_true (p x) pass in
    cc
one_run p (x ∷ xs) r (y ∷ ys) s a b c d e =
    let first : x ≡ y = cc in
    let more : xs ++ r ≡ ys ++ s = cc in
    let same : xs ≡ ys = one_run p xs r ys s (and_parts (p x) (list_all p xs) a).1 b (and_parts (p y) (list_all p ys) c).1 d more in
    cc

stops_from_ends : (xs : List ℕ) → ends_line xs ≡ true → stops is_on_line xs ≡ true
stops_from_ends [] h = refl
stops_from_ends (x ∷ xs) h = not_from_false (not (eqb x 10)) (not_from_true (eqb x 10) h)

one_close : (xs r ys s : List ℕ) → IsClosed xs r → IsClosed ys s → xs ++ 42 ∷ 47 ∷ r ≡ ys ++ 42 ∷ 47 ∷ s → xs ≡ ys
one_close xs r ys s a b e =
    let low : length xs ≤ length ys = a ys s (sym e) in
    let high : length ys ≤ length xs = b xs r e in
    sym (take_at xs (42 ∷ 47 ∷ r) (length xs) refl) ∙ (ap (take (length xs)) e ∙ take_at ys (42 ∷ 47 ∷ s) (length xs) (omega arith))

closed_text : (body rest : List ℕ) → (body ++ 42 ∷ 47 ∷ []) ++ rest ≡ body ++ 42 ∷ 47 ∷ rest
closed_text body rest = append_assoc body (42 ∷ 47 ∷ []) rest

kind_there : (lexicon : Lexicon) (before : Before) (k l : Kind) (bytes after : List ℕ) → may_stand lexicon before k ≡ true
    → may_stand lexicon before l ≡ true → IsWholeToken lexicon k bytes after → IsWholeToken lexicon l bytes after → k ≡ l
kind_there Own before k l bytes after m n s t =
    one_kind k l bytes after (and_parts (is_outside before) (is_own k) m).1 (and_parts (is_outside before) (is_own l) n).1 s t
kind_there C before k l bytes after m n s t = c_one_kind before k l bytes m n s.is_token t.is_token

one_token : (lexicon : Lexicon) (before : Before) (k l : Kind) (a x b y : List ℕ) → may_stand lexicon before k ≡ true
    → may_stand lexicon before l ≡ true → IsWholeToken lexicon k a x → IsWholeToken lexicon l b y → a ++ x ≡ b ++ y
    → token k a ≡ token l b
one_token lexicon before k l a x b y m n s t e =
    let bytes : a ≡ b = one_longest lexicon a x b y s.longest t.longest e in
    let rest : x ≡ y = one_rest a x b y bytes e in
    let kinds : k ≡ l = kind_there lexicon before k l b y m n (rw rest at (rw bytes at s)) t in
    cc

-- one piece stands at a place
pub one_piece : (lexicon : Lexicon) (before : Before) (p q : Piece) (r s : List ℕ) → Fits lexicon before p r → Fits lexicon before q s
    → piece_bytes p ++ r ≡ piece_bytes q ++ s → p ≡ q
one_piece lexicon before (blank b) (blank c) r s f g e = let same : b ≡ c = cc in ap blank same
one_piece lexicon before (line_comment x) (line_comment y) r s f g e =
    let text : x ++ r ≡ y ++ s = cc in
    ap line_comment (one_run is_on_line x r y s f.0 (stops_from_ends r f.1) g.0 (stops_from_ends s g.1) text)
one_piece lexicon before (block_comment x) (block_comment y) r s f g e =
    let text : (x ++ 42 ∷ 47 ∷ []) ++ r ≡ (y ++ 42 ∷ 47 ∷ []) ++ s = cc in
    ap block_comment (one_close x r y s f.0 g.0 (sym (closed_text x r) ∙ (text ∙ closed_text y s)))
one_piece lexicon before (token k a) (token l b) r s f g e = one_token lexicon before k l a r b s f.0 g.0 f.1 g.1 e
one_piece lexicon before p q r s f g e = let same : piece_opening p ≡ piece_opening q =
    sym (opening_of_piece lexicon before p r f) ∙ (ap (opening lexicon before) e ∙ opening_of_piece lexicon before q s g) in cc

-- The longest lexeme of a text has this grade.
record IsGraded (text : List ℕ) (of : Grade) : Type 0 where
  bytes : List ℕ
  after : List ℕ
  split : bytes ++ after ≡ text
  longest : IsLongest Own bytes after
  graded : grade bytes after ≡ of

one_grade : (text : List ℕ) (g h : Grade) → IsGraded text g → IsGraded text h → g ≡ h
one_grade text g h s t =
    let whole : s.bytes ++ s.after ≡ t.bytes ++ t.after = s.split ∙ sym t.split in
    let bytes = one_longest Own s.bytes s.after t.bytes t.after s.longest t.longest whole in
    let after = one_rest s.bytes s.after t.bytes t.after bytes whole in
    let graded : grade t.bytes t.after ≡ g = rw after at (rw bytes at s.graded) in
    sym graded ∙ t.graded

token_graded : (k : Kind) (a x : List ℕ) → is_own k ≡ true → IsWholeToken Own k a x → IsGraded (a ++ x) (kind_grade k)
token_graded k a x own t = record { bytes = a; after = x; split = refl; longest = t.longest; graded = token_grade k a x own t }

long_name_graded : (text : List ℕ) → IsLongName text → IsGraded text long_word
long_name_graded text t = record {
  bytes = t.bytes;
  after = t.after;
  split = t.split;
  longest = t.longest;
  graded =
      long_word_grade t.bytes t.after t.word t.long;
}

long_number_graded : (text : List ℕ) → IsLongNumber text → IsGraded text great_number
long_number_graded text t = record {
  bytes = t.bytes;
  after = t.after;
  split = t.split;
  longest = t.longest;
  graded =
      great_number_grade t.bytes t.after t.digits t.good t.great;
}

bad_number_graded : (text : List ℕ) → IsBadNumber text → IsGraded text bad_number
bad_number_graded text t = record {
  bytes = t.bytes;
  after = t.after;
  split = t.split;
  longest = t.longest;
  graded =
      bad_number_grade t.bytes t.after t.digits t.bad;
}

nothing_graded : (before : Before) (text : List ℕ) (g : Grade) → NothingStarts Own before text → IsGraded text g → ⊥
nothing_graded before text g n t = n.no_token t.bytes t.after t.split t.longest.lexeme

-- no kind of token has the grade of a fault
abbrev is_kind_grade : Grade → Bool
is_kind_grade short_word = true
is_kind_grade long_word = false
is_kind_grade good_number = true
is_kind_grade bad_number = false
is_kind_grade great_number = false
is_kind_grade plain_sign = true

kind_graded : (k : Kind) → is_kind_grade (kind_grade k) ≡ true
kind_graded (kind.Word word) = refl
kind_graded _ = refl

token_no_fault : (before : Before) (k : Kind) (a x : List ℕ) (g : Grade) → may_stand Own before k ≡ true → IsWholeToken Own k a x
    → IsGraded (a ++ x) g → is_kind_grade g ≡ true
token_no_fault before k a x g may t s = rw (one_grade (a ++ x) g (kind_grade k) s
    (token_graded k a x (and_parts (is_outside before) (is_own k) may).1 t)) (kind_graded k)

closed_or_open : (body rest : List ℕ) → IsOpen (piece_bytes (block_comment body) ++ rest) → ⊥
closed_or_open body rest o =
    let more : o.more ≡ (body ++ 42 ∷ 47 ∷ []) ++ rest = let e : 47 ∷ 42 ∷ o.more ≡ 47 ∷ 42 ∷ ((body ++ 42 ∷ 47 ∷ []) ++ rest) = o.split in
    cc in
    o.unclosed body rest (sym (closed_text body rest) ∙ sym more)

-- what stands behind `//`
joined_text : (body r : List ℕ) (backslash : ℕ) (j : IsJoinedLine (47 ∷ 47 ∷ (body ++ r)) backslash) → j.body ++ 10 ∷ j.more ≡ body ++ r
joined_text body r backslash j = let e : 47 ∷ 47 ∷ (j.body ++ 10 ∷ j.more) ≡ 47 ∷ 47 ∷ (body ++ r) = j.split in cc

-- a joined comment of `//` has the body that any comment at its place has
joined_body : (body r : List ℕ) (backslash : ℕ) (j : IsJoinedLine (47 ∷ 47 ∷ (body ++ r)) backslash) → list_all is_on_line body ≡ true
    → stops is_on_line r ≡ true → j.body ≡ body
joined_body body r backslash j line stop =
    one_run is_on_line j.body (10 ∷ j.more) body r j.on_line refl line stop (joined_text body r backslash j)

-- a comment of `//` is not joined with the next line
comment_or_joined : (lexicon : Lexicon) (before : Before) (body r : List ℕ) (backslash : ℕ) → Fits lexicon before (line_comment body) r
    → IsJoinedLine (47 ∷ 47 ∷ (body ++ r)) backslash → ⊥
comment_or_joined lexicon before body r backslash f j =
    let same : j.body ≡ body = joined_body body r backslash j f.0 (stops_from_ends r f.1) in
    let end : r ≡ [] = f.2 backslash (rw same at j.ends) in
    let feed : 10 ∷ j.more ≡ r = append_cancel_left body (10 ∷ j.more) r (rw same at (joined_text body r backslash j)) in
    cc

-- a joined comment of `//` ends in one backslash
one_joined_line : (rest : List ℕ) (place other : ℕ) → IsJoinedLine rest place → IsJoinedLine rest other → place ≡ other
one_joined_line rest place other a b =
    let j : IsJoinedLine (47 ∷ 47 ∷ (b.body ++ 10 ∷ b.more)) place = rw b.split a in
    let same : j.body ≡ b.body = joined_body b.body (10 ∷ b.more) place j b.on_line refl in
    one_backslash b.body place other (rw same at j.ends) b.ends

-- a comment of `/*` has one body
one_body : (more a b : List ℕ) → IsBody more a → IsBody more b → a ≡ b
one_body more a b (closed r e c) (closed s f d) = one_close a r b s c d (e ∙ sym f)
one_body more a b (closed r e c) (unclosed f u) = absurd (u a r e)
one_body more a b (unclosed e u) (closed s f d) = absurd (u b s f)
one_body more a b (unclosed e u) (unclosed f v) = e ∙ sym f

-- what stands behind `/*`
more_is : (rest xs ys : List ℕ) → 47 ∷ 42 ∷ xs ≡ rest → 47 ∷ 42 ∷ ys ≡ rest → xs ≡ ys
more_is rest xs ys e f = let whole : 47 ∷ 42 ∷ xs ≡ 47 ∷ 42 ∷ ys = e ∙ sym f in cc

-- a comment of `/*` that is one has no lines joined behind a `*`
block_or_joined : (lexicon : Lexicon) (before : Before) (body r : List ℕ) (backslash : ℕ) → Fits lexicon before (block_comment body) r
    → IsJoinedBlock (piece_bytes (block_comment body) ++ r) backslash → ⊥
block_or_joined lexicon before body r backslash f j =
    let more : body ++ 42 ∷ 47 ∷ r ≡ j.more = sym (closed_text body r)
    ∙ more_is (piece_bytes (block_comment body) ++ r) ((body ++ 42 ∷ 47 ∷ []) ++ r) j.more refl j.split in
    let same : j.body ≡ body = one_body j.more j.body body j.is_body (closed r more f.0) in
    let no : is_star_joint (42 ∷ body) backslash ≡ false = f.1 backslash in
    let yes : is_star_joint (42 ∷ body) backslash ≡ true = rw same at j.joins in
    cc

-- nor has one that is open
open_or_joined : (rest : List ℕ) (backslash : ℕ) → IsOpen rest → IsJoinedBlock rest backslash → ⊥
open_or_joined rest backslash o j =
    let more : o.more ≡ j.more = more_is rest o.more j.more o.split j.split in
    let same : j.body ≡ o.more = one_body j.more j.body o.more j.is_body (unclosed more (rw more at o.unclosed)) in
    let no : is_star_joint (42 ∷ o.more) backslash ≡ false = o.unjoined backslash in
    let yes : is_star_joint (42 ∷ o.more) backslash ≡ true = rw same at j.joins in
    cc

-- the first backslash behind a `*` at which C joins lines is one
first_joint : (rest : List ℕ) (place other : ℕ) → IsJoinedBlock rest place → IsJoinedBlock rest other → place < other → ⊥
first_joint rest place other a b low =
    let more : a.more ≡ b.more = more_is rest a.more b.more a.split b.split in
    let same : a.body ≡ b.body = one_body b.more a.body b.body (rw more at a.is_body) b.is_body in
    let no : is_star_joint (42 ∷ b.body) place ≡ false = b.first place low in
    let yes : is_star_joint (42 ∷ b.body) place ≡ true = rw same at a.joins in
    cc

one_joined_block : (rest : List ℕ) (place other : ℕ) → IsJoinedBlock rest place → IsJoinedBlock rest other → place ≡ other
one_joined_block rest place other a b = ⊎_elim
    (λ (low : place < other). absurd (first_joint rest place other a b low))
    (λ (high : other ≤ place). ⊎_elim
    (λ (low : other < place). absurd (first_joint rest other place b a low))
    (λ (same : place ≤ other). omega arith)
    (cases_lt other place))
    (cases_lt place other)

-- a joined comment has one backslash
one_joined : (lexicon : Lexicon) (before : Before) (rest : List ℕ) (place other : ℕ) → IsJoined rest place → IsJoined rest other
    → place ≡ other
one_joined lexicon before rest place other (inl a) (inl b) = one_joined_line rest place other a b
one_joined lexicon before rest place other (inr a) (inr b) = one_joined_block rest place other a b
one_joined lexicon before rest place other (inl a) (inr b) = let same : a_line_comment ≡ a_block_comment =
    sym (joined_opens lexicon before rest place (inl a)) ∙ joined_opens lexicon before rest other (inr b) in cc
one_joined lexicon before rest place other (inr a) (inl b) = let same : a_block_comment ≡ a_line_comment =
    sym (joined_opens lexicon before rest place (inr a)) ∙ joined_opens lexicon before rest other (inl b) in cc

-- no piece stands where a comment is joined
no_joined : (lexicon : Lexicon) (before : Before) (p : Piece) (r : List ℕ) (backslash : ℕ) → Fits lexicon before p r
    → IsJoined (piece_bytes p ++ r) backslash → ⊥
no_joined lexicon before (line_comment body) r backslash f (inl j) = comment_or_joined lexicon before body r backslash f j
no_joined lexicon before (block_comment body) r backslash f (inr j) = block_or_joined lexicon before body r backslash f j
no_joined lexicon before p r backslash f (inl j) = let same : piece_opening p ≡ a_line_comment =
    sym (opening_of_piece lexicon before p r f) ∙ joined_opens lexicon before (piece_bytes p ++ r) backslash (inl j) in cc
no_joined lexicon before p r backslash f (inr j) = let same : piece_opening p ≡ a_block_comment =
    sym (opening_of_piece lexicon before p r f) ∙ joined_opens lexicon before (piece_bytes p ++ r) backslash (inr j) in cc

-- no piece stands where a byte is bad
no_bad_byte : (lexicon : Lexicon) (before : Before) (p : Piece) (r : List ℕ) (at place : ℕ) → Fits lexicon before p r
    → IsBadByte lexicon at before place (piece_bytes p ++ r) → ⊥
no_bad_byte lexicon before p r at place f (inr s) = no_joined lexicon before p r s.0 f s.2
no_bad_byte Own before (token k a) r at place f (inl s) = s.1.no_token a r refl f.1.longest.lexeme
no_bad_byte C before (token k a) r at place f (inl s) = s.1.no_token k a r refl f.0 f.1
no_bad_byte lexicon before p r at place f (inl s) = let same : piece_opening p ≡ another =
    sym (opening_of_piece lexicon before p r f) ∙ opening_of_fault lexicon (BadByte at) before place (piece_bytes p ++ r) (inl s) in cc

-- no piece stands where a fault does
no_piece : (lexicon : Lexicon) (before : Before) (p : Piece) (r : List ℕ) (fault : LexFault) (place : ℕ) → Fits lexicon before p r
    → Stands lexicon fault before place (piece_bytes p ++ r) → ⊥
no_piece lexicon before p r NoMemory place f s = s
no_piece lexicon before (block_comment body) r (OpenComment at) place f s = closed_or_open body r s.1
no_piece lexicon before p r (BadByte at) place f s = no_bad_byte lexicon before p r at place f s
no_piece Own before (token k a) r (LongNumber at) place f s = let none : is_kind_grade great_number ≡ true =
    token_no_fault before k a r great_number f.0 f.1 (long_number_graded (a ++ r) s.2) in cc
no_piece Own before (token k a) r (LongName at) place f s = let none : is_kind_grade long_word ≡ true =
    token_no_fault before k a r long_word f.0 f.1 (long_name_graded (a ++ r) s.2) in cc
no_piece Own before (token k a) r (BadNumber at) place f s = let none : is_kind_grade bad_number ≡ true =
    token_no_fault before k a r bad_number f.0 f.1 (bad_number_graded (a ++ r) s.2) in cc
no_piece C before (token k a) r (LongNumber at) place f s = lenient before s.1
no_piece C before (token k a) r (LongName at) place f s = lenient before s.1
no_piece C before (token k a) r (BadNumber at) place f s = lenient before s.1
no_piece lexicon before p r fault place f s = let same : piece_opening p ≡ fault_opening lexicon fault before place (piece_bytes p ++ r) s =
    sym (opening_of_piece lexicon before p r f) ∙ opening_of_fault lexicon fault before place (piece_bytes p ++ r) s in cc

-- where a comment is joined, no other fault stands
one_joined_fault : (lexicon : Lexicon) (x : ℕ) (g : LexFault) (before : Before) (place : ℕ) (rest : List ℕ) (backslash : ℕ)
    → x ≡ place + 2 + backslash
    → IsJoined rest backslash → Stands lexicon g before place rest → BadByte x ≡ g
one_joined_fault lexicon x NoMemory before place rest n e j t = absurd t
one_joined_fault lexicon x (BadByte y) before place rest n e j (inr t) =
    let same : n ≡ t.0 = one_joined lexicon before rest n t.0 j t.2 in ap BadByte (omega (arith, e, t.1, same))
one_joined_fault lexicon x (OpenComment y) before place rest n e (inr j) t = absurd (open_or_joined rest n t.1 j)
one_joined_fault lexicon x g before place rest n e (inl j) t = let same : a_line_comment ≡ fault_opening lexicon g before place rest t =
    sym (joined_opens lexicon before rest n (inl j)) ∙ opening_of_fault lexicon g before place rest t in cc
one_joined_fault lexicon x g before place rest n e (inr j) t = let same : a_block_comment ≡ fault_opening lexicon g before place rest t =
    sym (joined_opens lexicon before rest n (inr j)) ∙ opening_of_fault lexicon g before place rest t in cc

-- where nothing starts, no other fault stands
one_nothing : (lexicon : Lexicon) (x : ℕ) (g : LexFault) (before : Before) (place : ℕ) (rest : List ℕ) → x ≡ place
    → NothingStarts lexicon before rest
    → Stands lexicon g before place rest → BadByte x ≡ g
one_nothing lexicon x NoMemory before place rest e n t = absurd t
one_nothing lexicon x (BadByte y) before place rest e n (inl t) = ap BadByte (e ∙ sym t.0)
one_nothing lexicon x (BadByte y) before place rest e n (inr t) =
    sym (one_joined_fault lexicon y (BadByte x) before place rest t.0 t.1 t.2 (inl (e, n)))
one_nothing Own x (LongNumber y) before place rest e n t = absurd (nothing_graded before rest great_number n (long_number_graded rest t.2))
one_nothing Own x (LongName y) before place rest e n t = absurd (nothing_graded before rest long_word n (long_name_graded rest t.2))
one_nothing Own x (BadNumber y) before place rest e n t = absurd (nothing_graded before rest bad_number n (bad_number_graded rest t.2))
one_nothing C x (LongNumber y) before place rest e n t = absurd (lenient before t.1)
one_nothing C x (LongName y) before place rest e n t = absurd (lenient before t.1)
one_nothing C x (BadNumber y) before place rest e n t = absurd (lenient before t.1)
one_nothing lexicon x g before place rest e n t = let same : another ≡ fault_opening lexicon g before place rest t =
    sym (opening_of_fault lexicon (BadByte x) before place rest (inl (e, n))) ∙ opening_of_fault lexicon g before place rest t in cc

-- no other fault stands where a byte is bad
one_bad_byte : (lexicon : Lexicon) (x : ℕ) (g : LexFault) (before : Before) (place : ℕ) (rest : List ℕ)
    → IsBadByte lexicon x before place rest
    → Stands lexicon g before place rest → BadByte x ≡ g
one_bad_byte lexicon x g before place rest (inl s) t = one_nothing lexicon x g before place rest s.0 s.1 t
one_bad_byte lexicon x g before place rest (inr s) t = one_joined_fault lexicon x g before place rest s.0 s.1 s.2 t

-- one fault stands at a place
one_fault : (lexicon : Lexicon) (f g : LexFault) (before : Before) (place : ℕ) (rest : List ℕ) → Stands lexicon f before place rest
    → Stands lexicon g before place rest → f ≡ g
one_fault lexicon NoMemory g before place rest s t = absurd s
one_fault lexicon f NoMemory before place rest s t = absurd t
one_fault lexicon (BadByte x) g before place rest s t = one_bad_byte lexicon x g before place rest s t
one_fault lexicon f (BadByte y) before place rest s t = sym (one_bad_byte lexicon y f before place rest t s)
one_fault lexicon (OpenComment x) (OpenComment y) before place rest s t = ap OpenComment (s.0 ∙ sym t.0)
one_fault lexicon (LongNumber x) (LongNumber y) before place rest s t = ap LongNumber (s.0 ∙ sym t.0)
one_fault lexicon (LongName x) (LongName y) before place rest s t = ap LongName (s.0 ∙ sym t.0)
one_fault lexicon (BadNumber x) (BadNumber y) before place rest s t = ap BadNumber (s.0 ∙ sym t.0)
one_fault lexicon (LongNumber x) (LongName y) before place rest s t =
    let no = one_grade rest great_number long_word (long_number_graded rest s.2)
    (long_name_graded rest t.2) in cc
one_fault lexicon (LongNumber x) (BadNumber y) before place rest s t =
    let no = one_grade rest great_number bad_number (long_number_graded rest s.2)
    (bad_number_graded rest t.2) in cc
one_fault lexicon (LongName x) (LongNumber y) before place rest s t =
    let no = one_grade rest long_word great_number (long_name_graded rest s.2)
    (long_number_graded rest t.2) in cc
one_fault lexicon (LongName x) (BadNumber y) before place rest s t =
    let no = one_grade rest long_word bad_number (long_name_graded rest s.2)
    (bad_number_graded rest t.2) in cc
one_fault lexicon (BadNumber x) (LongNumber y) before place rest s t =
    let no = one_grade rest bad_number great_number (bad_number_graded rest s.2)
    (long_number_graded rest t.2) in cc
one_fault lexicon (BadNumber x) (LongName y) before place rest s t =
    let no = one_grade rest bad_number long_word (bad_number_graded rest s.2)
    (long_name_graded rest t.2) in cc
one_fault lexicon f g before place rest s t =
    let same : fault_opening lexicon f before place rest s ≡ fault_opening lexicon g before place rest t =
    sym (opening_of_fault lexicon f before place rest s) ∙ opening_of_fault lexicon g before place rest t in cc

-- no piece starts here
abbrev IsLast : Lexicon → Before → List ℕ → Type 0
IsLast lexicon before rest = (p : Piece) (after : List ℕ) → Fits lexicon before p after → piece_bytes p ++ after ≡ rest → ⊥

end_last : (lexicon : Lexicon) (before : Before) → IsLast lexicon before []
end_last lexicon before p after f e = let none : length (piece_bytes p ++ after) ≡ 0 = ap length e in
    omega (arith, piece_some lexicon before p after f, length-append (piece_bytes p) after)

fault_last : (lexicon : Lexicon) (fault : LexFault) (before : Before) (place : ℕ) (rest : List ℕ)
    → Stands lexicon fault before place rest → IsLast lexicon before rest
fault_last lexicon fault before place rest stands p after f e =
    no_piece lexicon before p after fault place f (subst (Stands lexicon fault before place) (sym e) stands)

-- a text is these pieces, as far as pieces go
one_reading : (lexicon : Lexicon) (before : Before) (ps qs : List Piece) (r s : List ℕ) → AllFit lexicon before ps r
    → AllFit lexicon before qs s
    → IsLast lexicon (behind_all before ps) r → IsLast lexicon (behind_all before qs) s → spelling ps ++ r ≡ spelling qs ++ s → ps ≡ qs
one_reading lexicon before [] [] r s a b c d e = refl
one_reading lexicon before [] (q ∷ qs) r s a b c d e =
    absurd (c q (spelling qs ++ s) b.0 (sym (append_assoc (piece_bytes q) (spelling qs) s) ∙ sym e))
one_reading lexicon before (p ∷ ps) [] r s a b c d e =
    absurd (d p (spelling ps ++ r) a.0 (sym (append_assoc (piece_bytes p) (spelling ps) r) ∙ e))
one_reading lexicon before (p ∷ ps) (q ∷ qs) r s a b c d e =
    let whole : piece_bytes p ++ (spelling ps ++ r) ≡ piece_bytes q ++ (spelling qs ++ s) =
    sym (append_assoc (piece_bytes p) (spelling ps) r) ∙ (e ∙ append_assoc (piece_bytes q) (spelling qs) s) in
    let first : p ≡ q = one_piece lexicon before p q (spelling ps ++ r) (spelling qs ++ s) a.0 b.0 whole in
    let more : spelling ps ++ r ≡ spelling qs ++ s = append_cancel_left (piece_bytes q) (spelling ps ++ r) (spelling qs ++ s)
    (rw first at whole) in
    let fit : AllFit lexicon (behind before p) qs s = subst (λ (x : Piece). AllFit lexicon (behind before x) qs s) (sym first) b.1 in
    let last : IsLast lexicon (behind_all (behind before p) qs) s =
    subst (λ (x : Piece). IsLast lexicon (behind_all (behind before x) qs) s) (sym first) d in
    let same : ps ≡ qs = one_reading lexicon (behind before p) ps qs r s a.1 fit c last more in
    cc

-- what two readings of a text that go as far as they can have in common
record IsSame (lexicon : Lexicon) (text : List ℕ) (place other : ℕ) (tokens others : List Token) (rest after : List ℕ)
    (a : ReadsUpTo lexicon text place tokens rest)
    (b : ReadsUpTo lexicon text other others after) : Type 0 where
  places : place ≡ other
  lists : tokens ≡ others
  rests : rest ≡ after
  lines : behind_all Blanks a.pieces ≡ behind_all Blanks b.pieces

same_reading : (lexicon : Lexicon) (text : List ℕ) (place other : ℕ) (tokens others : List Token) (rest after : List ℕ)
    (a : ReadsUpTo lexicon text place tokens rest)
    (b : ReadsUpTo lexicon text other others after) → IsLast lexicon (behind_all Blanks a.pieces) rest
    → IsLast lexicon (behind_all Blanks b.pieces) after
    → IsSame lexicon text place other tokens others rest after a b
same_reading lexicon text place other tokens others rest after a b c d =
    let whole : spelling a.pieces ++ rest ≡ spelling b.pieces ++ after = a.spelled ∙ sym b.spelled in
    let pieces : a.pieces ≡ b.pieces = one_reading lexicon Blanks a.pieces b.pieces rest after a.fit b.fit c d whole in
    record {
      places = sym a.place ∙ (ap (λ (ps : List Piece). length (spelling ps)) pieces ∙ b.place);
      lists = sym a.told ∙ (ap (tokens_from 0) pieces ∙ b.told);
      rests = append_cancel_left (spelling b.pieces) rest after (rw pieces at whole);
      lines = ap (behind_all Blanks) pieces;
    }

-- a text has at most one list of tokens
pub one_token_list : (lexicon : Lexicon) (text : List ℕ) (tokens others : List Token) → Reads lexicon text tokens
    → Reads lexicon text others → tokens ≡ others
one_token_list lexicon text tokens others a b =
    let same = same_reading lexicon text (length text) (length text) a.front b.front [] [] a.whole b.whole
    (end_last lexicon (behind_all Blanks a.whole.pieces)) (end_last lexicon (behind_all Blanks b.whole.pieces)) in
    sym a.told ∙ (ap (λ (ts : List Token). ts ++ end_at (length text) ∷ []) same.lists ∙ b.told)

-- a text has at most one fault
pub one_text_fault : (lexicon : Lexicon) (text : List ℕ) (fault other : LexFault) → HasFault lexicon text fault
    → HasFault lexicon text other → fault ≡ other
one_text_fault lexicon text fault other a b =
    let same = same_reading lexicon text a.place b.place a.tokens b.tokens a.rest b.rest a.reads b.reads
    (fault_last lexicon fault (behind_all Blanks a.reads.pieces) a.place a.rest a.stands)
    (fault_last lexicon other (behind_all Blanks b.reads.pieces) b.place b.rest b.stands) in
    let before = behind_all Blanks b.reads.pieces in
    let here : Stands lexicon fault before b.place b.rest = rw same.lines at (rw same.rests at (rw same.places at a.stands)) in
    one_fault lexicon fault other before b.place b.rest here b.stands

lexeme_at_end : (bytes after : List ℕ) → bytes ++ after ≡ [] → IsLongest Own bytes after → ⊥
lexeme_at_end bytes after e l = let none : length (bytes ++ after) ≡ 0 = ap length e in
    omega (arith, lexeme_some Own bytes l.lexeme, length-append bytes after)

joined_at_end : (backslash : ℕ) → IsJoined [] backslash → ⊥
joined_at_end backslash (inl j) = let e : 47 ∷ 47 ∷ (j.body ++ 10 ∷ j.more) ≡ [] = j.split in cc
joined_at_end backslash (inr j) = let e : 47 ∷ 42 ∷ j.more ≡ [] = j.split in cc

nothing_at_end : (lexicon : Lexicon) (fault : LexFault) (before : Before) (place : ℕ) → Stands lexicon fault before place [] → ⊥
nothing_at_end lexicon (BadByte at) before place (inl s) = let e : s.1.first ∷ s.1.more ≡ [] = s.1.split in cc
nothing_at_end lexicon (BadByte at) before place (inr s) = joined_at_end s.0 s.2
nothing_at_end lexicon (OpenComment at) before place s = let e : 47 ∷ 42 ∷ s.1.more ≡ [] = s.1.split in cc
nothing_at_end lexicon (LongNumber at) before place s = lexeme_at_end s.2.bytes s.2.after s.2.split s.2.longest
nothing_at_end lexicon (LongName at) before place s = lexeme_at_end s.2.bytes s.2.after s.2.split s.2.longest
nothing_at_end lexicon (BadNumber at) before place s = lexeme_at_end s.2.bytes s.2.after s.2.split s.2.longest
nothing_at_end lexicon NoMemory before place s = s

-- a text with a reading has no fault
pub no_fault : (lexicon : Lexicon) (text : List ℕ) (tokens : List Token) (fault : LexFault) → Reads lexicon text tokens
    → HasFault lexicon text fault → ⊥
no_fault lexicon text tokens fault a b =
    let before = behind_all Blanks b.reads.pieces in
    let same = same_reading lexicon text (length text) b.place a.front b.tokens [] b.rest a.whole b.reads
    (end_last lexicon (behind_all Blanks a.whole.pieces)) (fault_last lexicon fault before b.place b.rest b.stands) in
    nothing_at_end lexicon fault before b.place (rw (← same.rests) at b.stands)
