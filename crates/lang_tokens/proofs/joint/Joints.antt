-- Where C joins lines behind a star.
use Rattle.std.proofs.Common.{◌≡◌, ◌≤◌, ◌<◌, ◌+◌, ⊎_elim, ℕ, zero, suc, true, false, eqb, List, [], ◌∷◌, length, drop, get_or, arith}
use Rattle.std.proofs.Common.{Option, Some, None}
use Rattle.std.proofs.lemmas.Bool.{cases_lt, cases_Bool, and_parts, false_from_ne_true}
use Rattle.std.proofs.lemmas.List.{length-drop}
use Rattle.lang_tokens.specs.Directives.{is_joint, is_star_joint}
use Rattle.lang_tokens.specs.Steps.{IsFirstJoint}

joint_some : (text : List ℕ) → is_joint text ≡ true → 0 < length text
joint_some [] h = cc
joint_some (b ∷ text) h = omega arith

-- behind the star at which C joins lines another byte stands
pub joint_within : (text : List ℕ) (place : ℕ) → is_star_joint text place ≡ true → place + 1 < length text
joint_within text place h =
    let some : 0 < length (drop (place + 1) text) = joint_some (drop (place + 1) text)
    (and_parts (eqb (get_or text place 0) 42) (is_joint (drop (place + 1) text)) h).1 in
    omega (arith, some, length-drop (place + 1) text)

-- no such star stands past the end
pub no_joint_past : (text : List ℕ) (place : ℕ) → length text ≤ place → is_star_joint text place ≡ false
no_joint_past text place past = false_from_ne_true (is_star_joint text place) (λ h. absurd (omega (arith, joint_within text place h)))

-- the first such star before a place, or none
abbrev IsFirstBefore : List ℕ → ℕ → Option ℕ → Type 0
IsFirstBefore text n None = (place : ℕ) → place < n → is_star_joint text place ≡ false
IsFirstBefore text n (Some place) = IsFirstJoint text (Some place)

record FirstBefore (text : List ℕ) (n : ℕ) : Type 0 where
  answer : Option ℕ
  first : IsFirstBefore text n answer

one_more : (text : List ℕ) (n : ℕ) (answer : Option ℕ) → IsFirstBefore text n answer → FirstBefore text (suc n)
one_more text n (Some place) first = record { answer = Some place; first = first }
one_more text n None none = ⊎_elim
    (λ (is : is_star_joint text n ≡ true). record { answer = Some n; first = (is, none) })
    (λ (not_here : is_star_joint text n ≡ false). record { answer = None; first = all not_here })
    (cases_Bool (is_star_joint text n))
  where
    all : is_star_joint text n ≡ false → (place : ℕ) → place < suc n → is_star_joint text place ≡ false
    all not_here place low = ⊎_elim
        (λ (before : place < n). none place before)
        (λ (past : n ≤ place). let same : place ≡ n = omega arith in rw same not_here)
        (cases_lt place n)

first_before : (text : List ℕ) (n : ℕ) → FirstBefore text n
first_before text zero = record { answer = None; first = λ place low. absurd (omega (arith, low)) }
first_before text (suc n) = let before = first_before text n in one_more text n before.answer before.first

-- The first star of a text at which C joins lines, or none.
pub record FirstJoint (text : List ℕ) : Type 0 where
  -- its place
  pub answer : Option ℕ
  -- it is the first
  pub first : IsFirstJoint text answer

-- every text has a first such star, or none
pub first_joint : (text : List ℕ) → FirstJoint text
first_joint text = let before = first_before text (length text) in from before.answer before.first
  where
    from : (answer : Option ℕ) → IsFirstBefore text (length text) answer → FirstJoint text
    from (Some place) first = record { answer = Some place; first = first }
    from None none = record {
      answer = None;
      first = λ place. ⊎_elim (λ (low : place < length text). none place low)
          (λ (past : length text ≤ place). no_joint_past text place past) (cases_lt place (length text));
    }
