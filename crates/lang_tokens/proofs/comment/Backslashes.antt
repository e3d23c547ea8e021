-- The backslash that a line ends in.
use Rattle.std.proofs.Common.{◌≡◌, ◌≤◌, ◌<◌, ⊎_elim, ℕ, zero, suc, true, false, ◌&&◌, eqb, List, [], ◌∷◌, length, get_or, refl}
use Rattle.std.proofs.Common.{Option, Some, None, arith}
use Rattle.std.proofs.lemmas.Bool.{cases_lt, cases_Bool, and_from, and_parts, eqb-true}
use Rattle.std.proofs.lemmas.List.{get_or_past}
use Rattle.std.proofs.lemmas.List.Folds.{list_all_at}
use Rattle.std.specs.List.{list_all}
use Rattle.lang_tokens.specs.Bytes.{is_line_blank}
use Rattle.lang_tokens.specs.Reading.{EndsInBackslash}
use Rattle.lang_tokens.specs.Steps.{IsLastBackslash}

backslash_within : (line : List ℕ) (place : ℕ) → EndsInBackslash line place → place < length line
backslash_within line place ends = ⊎_elim (λ (within : place < length line). within)
    (λ (past : length line ≤ place). let none : get_or line place 0 ≡ 0 = get_or_past line place 0 past in
    absurd (omega (arith, ends.backslash)))
    (cases_lt place (length line))

none_behind : (line : List ℕ) (place other : ℕ) → EndsInBackslash line place → EndsInBackslash line other → place < other → ⊥
none_behind line place other a b low =
    let no : is_line_blank 92 ≡ true = rw b.backslash at (a.blank other low (backslash_within line other b)) in cc

-- a line ends in one backslash
pub one_backslash : (line : List ℕ) (place other : ℕ) → EndsInBackslash line place → EndsInBackslash line other → place ≡ other
one_backslash line place other a b = ⊎_elim (λ (low : place < other). absurd (none_behind line place other a b low))
    (λ (high : other ≤ place). ⊎_elim (λ (low : other < place). absurd (none_behind line other place b a low))
    (λ (same : place ≤ other). omega arith) (cases_lt other place))
    (cases_lt place other)

all_blank : (line : List ℕ) → ((other : ℕ) → other < length line → is_line_blank (get_or line other 0) ≡ true)
    → list_all is_line_blank line ≡ true
all_blank [] h = refl
all_blank (b ∷ line) h = and_from (is_line_blank b) (list_all is_line_blank line) (h 0 (omega arith))
    (all_blank line (λ other within. h (suc other) (omega (arith, within))))

blank_at : (line : List ℕ) (other : ℕ) → list_all is_line_blank line ≡ true → other < length line
    → is_line_blank (get_or line other 0) ≡ true
blank_at line other all within = ⊎_elim (λ (is : is_line_blank (get_or line other 0) ≡ true). is)
    (λ (no : is_line_blank (get_or line other 0) ≡ false). let none = list_all_at is_line_blank line other 0 within no in cc)
    (cases_Bool (is_line_blank (get_or line other 0)))

-- the backslash that a line ends in, or none
pub record LastBackslash (line : List ℕ) : Type 0 where
  -- its place
  pub answer : Option ℕ
  -- the line ends in it
  pub last : IsLastBackslash line answer

backslash_later : (b place : ℕ) (line : List ℕ) → EndsInBackslash line place → EndsInBackslash (b ∷ line) (suc place)
backslash_later b place line ends = record { backslash = ends.backslash; blank = blank }
  where
    blank : (other : ℕ) → suc place < other → other < length (b ∷ line) → is_line_blank (get_or (b ∷ line) other 0) ≡ true
    blank zero low within = absurd (omega (arith, low))
    blank (suc other) low within = ends.blank other (omega (arith, low)) (omega (arith, within))

backslash_earlier : (b place : ℕ) (line : List ℕ) → EndsInBackslash (b ∷ line) (suc place) → EndsInBackslash line place
backslash_earlier b place line ends = record {
  backslash = ends.backslash;
  blank = λ other low within. ends.blank (suc other) (omega (arith, low)) (omega (arith, within));
}

backslash_first : (b : ℕ) (line : List ℕ) → (eqb b 92 && list_all is_line_blank line) ≡ true → EndsInBackslash (b ∷ line) 0
backslash_first b line h = record { backslash = eqb-true b 92 both.0; blank = blank }
  where
    both : (eqb b 92 ≡ true) × (list_all is_line_blank line ≡ true)
    both = and_parts (eqb b 92) (list_all is_line_blank line) h

    blank : (other : ℕ) → 0 < other → other < length (b ∷ line) → is_line_blank (get_or (b ∷ line) other 0) ≡ true
    blank zero low within = absurd (omega (arith, low))
    blank (suc other) low within = blank_at line other both.1 (omega (arith, within))

first_backslash : (b : ℕ) (line : List ℕ) → EndsInBackslash (b ∷ line) 0 → (eqb b 92 && list_all is_line_blank line) ≡ true
first_backslash b line ends =
    let is : b ≡ 92 = ends.backslash in
    and_from (eqb b 92) (list_all is_line_blank line) (rw is refl)
    (all_blank line (λ other within. ends.blank (suc other) (omega arith) (omega (arith, within))))

-- a byte before a line
backslash_after : (b : ℕ) (line : List ℕ) (answer : Option ℕ) → IsLastBackslash line answer → LastBackslash (b ∷ line)
backslash_after b line (Some place) ends = record { answer = Some (suc place); last = backslash_later b place line ends }
backslash_after b line None none = ⊎_elim
    (λ (is : (eqb b 92 && list_all is_line_blank line) ≡ true). record { answer = Some 0; last = backslash_first b line is })
    (λ (no : (eqb b 92 && list_all is_line_blank line) ≡ false). record { answer = None; last = never no })
    (cases_Bool (eqb b 92 && list_all is_line_blank line))
  where
    never : (eqb b 92 && list_all is_line_blank line) ≡ false → (place : ℕ) → EndsInBackslash (b ∷ line) place → ⊥
    never differ zero ends = let yes = first_backslash b line ends in cc
    never differ (suc place) ends = none place (backslash_earlier b place line ends)

-- each line ends in a backslash or in none
pub last_backslash : (line : List ℕ) → LastBackslash line
last_backslash [] = record { answer = None; last = λ place ends. absurd (omega (arith, ends.backslash)) }
last_backslash (b ∷ line) = let later = last_backslash line in backslash_after b line later.answer later.last
