-- A text is cut into lines behind each line feed.
use Rattle.std.proofs.Common.{◌≡◌, ◌∙◌, ◌<◌, ◌≤◌, ◌+◌, ◌==◌, ℕ, suc, Bool, true, false, not, cond, List, [], ◌∷◌, length, take, drop, refl}
use Rattle.std.proofs.Common.{sym, ap, ap₂, subst, if◌then◌else◌, None, Some, arith}
use Rattle.std.specs.Prelude.{nat_lt}
use Rattle.std.specs.List.{position, position_or_len}
use Rattle.std.proofs.lemmas.Bool.{ltb-true}
use Rattle.std.proofs.Math.Seq.{take-length}
use Rattle.top_run.specs.Lines.{lines_of, onto_first}

-- the number of bytes before the first line feed, or of all bytes
abbrev before : List ℕ → ℕ
before text = position_or_len (λ byte. byte == 10) text

-- the text is cut there
abbrev CutAt : ℕ → List ℕ → Type 0
CutAt n text = lines_of text ≡ take n text ∷ lines_of (drop n text)

shifted : (n byte : ℕ) (rest : List ℕ) → (byte ∷ take (n + 1) rest) ∷ lines_of (drop (n + 1) rest)
    ≡ take (1 + n + 1) (byte ∷ rest) ∷ lines_of (drop (1 + n + 1) (byte ∷ rest))
shifted n byte rest = let e : suc (n + 1) ≡ 1 + n + 1 = omega arith in ap (λ k. take k (byte ∷ rest) ∷ lines_of (drop k (byte ∷ rest))) e

by_test : (b : Bool) (byte : ℕ) (rest : List ℕ) → (before rest < length rest → CutAt (before rest + 1) rest)
    → cond (not b) (1 + before rest) 0 < suc (length rest)
    → (if b then (byte ∷ []) ∷ lines_of rest else onto_first byte (lines_of rest))
    ≡ take (cond (not b) (1 + before rest) 0 + 1) (byte ∷ rest) ∷ lines_of (drop (cond (not b) (1 + before rest) 0 + 1) (byte ∷ rest))
by_test true byte rest cut h = refl
by_test false byte rest cut h = ap (onto_first byte) (cut (omega arith)) ∙ shifted (before rest) byte rest

cut_behind : (text : List ℕ) → before text < length text → CutAt (before text + 1) text
cut_behind [] h = absurd (omega arith)
cut_behind (byte ∷ rest) h = by_test (byte == 10) byte rest (cut_behind rest) h

by_no_test : (b : Bool) (byte : ℕ) (rest : List ℕ) → (0 < length rest → length rest ≤ before rest → lines_of rest ≡ rest ∷ [])
    → suc (length rest) ≤ cond (not b) (1 + before rest) 0
    → (if b then (byte ∷ []) ∷ lines_of rest else onto_first byte (lines_of rest)) ≡ (byte ∷ rest) ∷ []
by_no_test true byte rest one h = absurd (omega arith)
by_no_test false byte [] one h = refl
by_no_test false byte (other ∷ rest) one h = ap (onto_first byte) (one (omega arith) (omega arith))

one_line : (text : List ℕ) → 0 < length text → length text ≤ before text → lines_of text ≡ text ∷ []
one_line [] some h = absurd (omega arith)
one_line (byte ∷ rest) some h = by_no_test (byte == 10) byte rest (one_line rest) h

some_place : (b : Bool) (k n : ℕ) → cond b (Some k) None ≡ Some n → (b ≡ true) × (k ≡ n)
some_place true k n e = (refl, let f : k ≡ n = cc in f)
some_place false k n e = let f : ⊥ = cc in absurd f

no_place : (b : Bool) (k : ℕ) → cond b (Some k) None ≡ None → b ≡ false
no_place true k e = let f : ⊥ = cc in absurd f
no_place false k e = refl

-- the first line ends with the first line feed
pub first_line : (text : List ℕ) (n : ℕ) → position (λ byte. byte == 10) text ≡ Some n
    → lines_of text ≡ take (n + 1) text ∷ lines_of (drop (n + 1) text)
first_line text n e =
    let p = some_place (nat_lt (before text) (length text)) (before text) n e in
    subst (λ m. CutAt (m + 1) text) p.1 (cut_behind text (ltb-true (before text) (length text) p.0))

-- without one the whole text is a line
pub last_line : (text : List ℕ) → 0 < length text → position (λ byte. byte == 10) text ≡ None
    → lines_of text ≡ take (length text) text ∷ lines_of (drop (length text) text)
last_line text h e =
    one_line text h (not_less (before text) (length text) (no_place (nat_lt (before text) (length text)) (before text) e))
    ∙ ap₂ (λ line rest. line ∷ lines_of rest) (sym (take-length text)) (sym (drop_length text))
  where
    not_less : (a b : ℕ) → nat_lt a b ≡ false → b ≤ a
    not_less a b f = grind arith

    drop_length : (xs : List ℕ) → drop (length xs) xs ≡ []
    drop_length [] = refl
    drop_length (x ∷ xs) = drop_length xs
