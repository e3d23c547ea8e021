-- A longest sign of those that start a text, or none.
use Rattle.std.proofs.Common.{◌≡◌, ◌≤◌, ◌<◌, ◌⊎◌, inl, inr, ⊎_elim, ℕ, List, [], ◌∷◌, length, ap, arith, Option, Some, None}
use Rattle.std.proofs.lemmas.Bool.{cases_eq, cases_lt}
use Rattle.lang_tokens.specs.declared.sign.Sign.{Sign}
use Rattle.lang_tokens.specs.declared.foreign.ForeignSign.{ForeignSign}
use Rattle.lang_tokens.specs.Signs.{sign_bytes, foreign_bytes}
use Rattle.lang_tokens.specs.Steps.{StartWith, StartWithThree, IsLongestSign, IsLongestForeign}
use Rattle.lang_tokens.proofs.lexemes.Spellings.{EachOf, each_found, all_signs, all_foreign, sign_back, foreign_back}

-- the greatest of these that have the property, or none
abbrev IsBest : {X : Type 0} → (X → Type 0) → (X → ℕ) → List X → Option X → Type 0
IsBest P size xs None = EachOf (λ x. P x → ⊥) xs
IsBest P size xs (Some y) = P y × EachOf (λ x. P x → size x ≤ size y) xs

none_less : {X : Type 0} (P : X → Type 0) (size : X → ℕ) (n : ℕ) (xs : List X) → EachOf (λ x. P x → ⊥) xs
    → EachOf (λ x. P x → size x ≤ n) xs
none_less P size n [] none = tt
none_less P size n (x ∷ xs) none = (λ h. absurd (none.0 h), none_less P size n xs none.1)

less_than : {X : Type 0} (P : X → Type 0) (size : X → ℕ) (m n : ℕ) (xs : List X) → m ≤ n → EachOf (λ x. P x → size x ≤ m) xs
    → EachOf (λ x. P x → size x ≤ n) xs
less_than P size m n [] low each = tt
less_than P size m n (x ∷ xs) low each = (λ h. omega (arith, each.0 h, low), less_than P size m n xs low each.1)

record Best {X : Type 0} (P : X → Type 0) (size : X → ℕ) (xs : List X) : Type 0 where
  answer : Option X
  best : IsBest P size xs answer

with_one : {X : Type 0} (P : X → Type 0) (size : X → ℕ) (x : X) (xs : List X) → P x → (o : Option X) → IsBest P size xs o
    → Best P size (x ∷ xs)
with_one P size x xs h None none = record { answer = Some x; best = (h, (λ same. omega arith, none_less P size (size x) xs none)) }
with_one P size x xs h (Some y) best = ⊎_elim
    (λ (low : size x < size y). record { answer = Some y; best = (best.0, (λ same. omega (arith, low), best.1)) })
    (λ (high : size y ≤ size x). record {
      answer = Some x;
      best = (h, (λ same. omega arith, less_than P size (size y) (size x) xs high best.1));
    })
    (cases_lt (size x) (size y))

without_one : {X : Type 0} (P : X → Type 0) (size : X → ℕ) (x : X) (xs : List X) → (P x → ⊥) → (o : Option X) → IsBest P size xs o
    → Best P size (x ∷ xs)
without_one P size x xs unmet None none = record { answer = None; best = (unmet, none) }
without_one P size x xs unmet (Some y) best = record { answer = Some y; best = (best.0, (λ h. absurd (unmet h), best.1)) }

best_of : {X : Type 0} (P : X → Type 0) (size : X → ℕ) (decide : (x : X) → P x ⊎ (P x → ⊥)) (xs : List X) → Best P size xs
best_of P size decide [] = record { answer = None; best = tt }
best_of P size decide (x ∷ xs) = let rest = best_of P size decide xs in ⊎_elim
    (λ (h : P x). with_one P size x xs h rest.answer rest.best)
    (λ (unmet : P x → ⊥). without_one P size x xs unmet rest.answer rest.best)
    (decide x)

is_or_not : (b : ℕ) (o : Option ℕ) → (Some b ≡ o) ⊎ (Some b ≡ o → ⊥)
is_or_not b None = inr (λ e. cc)
is_or_not b (Some c) = ⊎_elim
    (λ (same : b ≡ c). inl (ap (λ (n : ℕ). Some n) same))
    (λ (other : b ≡ c → ⊥). inr (λ e. other (cc)))
    (cases_eq b c)

two_or_not : {A B : Type 0} → A ⊎ (A → ⊥) → B ⊎ (B → ⊥) → (A × B) ⊎ (A × B → ⊥)
two_or_not (inl a) (inl b) = inl (a, b)
two_or_not (inl a) (inr b) = inr (λ h. b h.1)
two_or_not (inr a) other = inr (λ h. a h.0)

three_or_not : {A B D : Type 0} → A ⊎ (A → ⊥) → B ⊎ (B → ⊥) → D ⊎ (D → ⊥) → (A × B × D) ⊎ (A × B × D → ⊥)
three_or_not (inl a) (inl b) (inl d) = inl (a, b, d)
three_or_not (inr a) b d = inr (λ h. a h.0)
three_or_not a (inr b) d = inr (λ h. b h.1)
three_or_not a b (inr d) = inr (λ h. d h.2)

-- either the bytes start with the first two of a text, or they don't
starts_or_not : (xs : List ℕ) (first : ℕ) (second : Option ℕ) → StartWith xs first second ⊎ (StartWith xs first second → ⊥)
starts_or_not [] first second = inr (λ h. h)
starts_or_not (b ∷ []) first second = cases_eq b first
starts_or_not (b ∷ c ∷ bs) first second = two_or_not (cases_eq b first) (is_or_not c second)

-- the same of the first three
starts_with_or_not : (xs : List ℕ) (first : ℕ) (second third : Option ℕ)
    → StartWithThree xs first second third ⊎ (StartWithThree xs first second third → ⊥)
starts_with_or_not [] first second third = inr (λ h. h)
starts_with_or_not (b ∷ []) first second third = cases_eq b first
starts_with_or_not (b ∷ c ∷ []) first second third = two_or_not (cases_eq b first) (is_or_not c second)
starts_with_or_not (b ∷ c ∷ d ∷ bs) first second third = three_or_not (cases_eq b first) (is_or_not c second) (is_or_not d third)

-- The longest sign of the language that starts so, or none.
pub record LongestSign (first : ℕ) (second : Option ℕ) : Type 0 where
  -- the sign
  pub answer : Option Sign
  -- it is the longest
  pub longest : IsLongestSign first second answer

-- there is one or none
pub longest_sign : (first : ℕ) (second : Option ℕ) → LongestSign first second
longest_sign first second = let found = best_of starts size (λ sign. starts_or_not (sign_bytes sign) first second) all_signs in
    from found.answer found.best
  where
    starts : Sign → Type 0
    starts sign = StartWith (sign_bytes sign) first second

    size : Sign → ℕ
    size sign = length (sign_bytes sign)

    from : (o : Option Sign) → IsBest starts size all_signs o → LongestSign first second
    from None none = record {
      answer = None;
      longest = λ sign. each_found (λ s. starts s → ⊥) sign_bytes all_signs (sign_bytes sign) sign none (sign_back sign);
    }
    from (Some best) is = record {
      answer = Some best;
      longest = (
        is.0,
        λ sign. each_found (λ s. starts s → size s ≤ size best) sign_bytes all_signs (sign_bytes sign) sign is.1 (sign_back sign),
      );
    }

-- The longest one that only C has and that starts so, or none.
pub record LongestForeign (first : ℕ) (second third : Option ℕ) : Type 0 where
  -- the sign
  pub answer : Option ForeignSign
  -- it is the longest
  pub longest : IsLongestForeign first second third answer

-- there is one or none
pub longest_foreign : (first : ℕ) (second third : Option ℕ) → LongestForeign first second third
longest_foreign first second third =
    let found = best_of starts size (λ sign. starts_with_or_not (foreign_bytes sign) first second third) all_foreign in
    from found.answer found.best
  where
    starts : ForeignSign → Type 0
    starts sign = StartWithThree (foreign_bytes sign) first second third

    size : ForeignSign → ℕ
    size sign = length (foreign_bytes sign)

    from : (o : Option ForeignSign) → IsBest starts size all_foreign o → LongestForeign first second third
    from None none = record {
      answer = None;
      longest = λ sign. each_found (λ s. starts s → ⊥) foreign_bytes all_foreign (foreign_bytes sign) sign none (foreign_back sign);
    }
    from (Some best) is = record {
      answer = Some best;
      longest = (
        is.0,
        λ sign. each_found (λ s. starts s → size s ≤ size best) foreign_bytes all_foreign (foreign_bytes sign) sign is.1
            (foreign_back sign),
      );
    }
