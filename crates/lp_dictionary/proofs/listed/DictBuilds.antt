-- The table of the first dictionary.
use Rattle.std.proofs.Common.{◌≡◌, ℕ, zero, suc, ◌+◌, ◌*◌, ◌<◌, ⊎_elim, true, false, cond, eqb, ltb, List, [], ◌∷◌}
use Rattle.std.proofs.Common.{◌++◌, length, map, get_or, refl, ap, ap₂, sym, ◌∙◌, arith, lt-ltb, le-ltb, length-append}
use Rattle.std.proofs.lemmas.List.{length-map, get_or-map, get_or_append_left, get_or-append-add}
use Rattle.std.proofs.lemmas.Bool.{cases_lt, cases_eq, eq-eqb, ne_eqb}
use Rattle.base_numbers.specs.Rational.{ℚ, zero_ℚ, one_ℚ, neg_ℚ}
use Rattle.lp_dictionary.specs.Listed.{joined}
use Rattle.base_numbers.specs.Vector.{zeros}
use Rattle.base_numbers.proofs.vector.Vectors.{length-zeros}
use Rattle.lp_dictionary.specs.Build.{slack_entries, auxiliary_entries, goal_entries}
use Rattle.lp_dictionary.proofs.cells.RowLoops.{row_end}

-- an entry past the first part of a list is one of its second part
pub get_behind : {A : Type 0} (xs ys : List A) (n k : ℕ) (d : A) → length xs + n ≡ k → get_or (xs ++ ys) k d ≡ get_or ys n d
get_behind xs ys n k d e = ap (λ j. get_or (xs ++ ys) j d) (sym e) ∙ get_or-append-add xs ys n d

-- n lists of one length joined have n times that length
pub joined_length : {A : Type 0} (s n : ℕ) (f : ℕ → List A) → ((i : ℕ) → i < n → length (f i) ≡ s) → length (joined n f) ≡ n * s
unfolding joined
joined_length s zero f h = omega arith
joined_length s (suc n) f h =
    let e = joined_length s n f (λ i l. h i (omega (arith, l))) in
    let k = h n (omega arith) in
    let d : suc n * s ≡ n * s + s = omega arith in
    length-append (joined n f) (f n) ∙ ap₂ (λ x y. x + y) e k ∙ sym d

-- an entry of joined lists of one length is an entry of one of them
pub get_joined : {A : Type 0} (s n : ℕ) (f : ℕ → List A) → ((i : ℕ) → i < n → length (f i) ≡ s) → (i k : ℕ) (d : A) → i < n → k < s
    → get_or (joined n f) (i * s + k) d ≡ get_or (f i) k d
unfolding joined
get_joined s zero f h i k d l b = absurd (omega (arith, l))
get_joined s (suc n) f h i k d l b =
    let e = joined_length s n f (λ j q. h j (omega (arith, q))) in
    ⊎_elim
    (λ a. get_or_append_left (joined n f) (f n) d (i * s + k) (let r = row_end i n s a in omega (arith, e, r, b))
    ∙ get_joined s n f (λ j q. h j (omega (arith, q))) i k d a b)
    (λ a. let q : i ≡ n = omega (arith, a, l) in get_behind (joined n f) (f n) k (i * s + k) d
    (ap (λ y. y + k) e ∙ ap (λ j. j * s + k) (sym q)) ∙ ap (λ j. get_or (f j) k d) (sym q))
    (cases_lt i n)

-- each of so many zeros is 0
pub get-zeros : (n k : ℕ) → get_or (zeros n) k zero_ℚ ≡ zero_ℚ
get-zeros zero k = refl
get-zeros (suc n) zero = refl
get-zeros (suc n) (suc k) = get-zeros n k

module _ (W : ℕ) (u : List ℚ) (length_is : length u ≡ W) where
  negated_length : length (map neg_ℚ u) ≡ W
  negated_length = length-map u neg_ℚ ∙ length_is

  negated_entry : (k : ℕ) → k < W → get_or (map neg_ℚ u) k zero_ℚ ≡ neg_ℚ (get_or u k zero_ℚ)
  negated_entry k l = get_or-map neg_ℚ u k zero_ℚ zero_ℚ (omega (arith, l, length_is))

  -- the row of a slack, with the auxiliary variable
  pub slack_long : (s : ℚ) → length (slack_entries true u s) ≡ suc (suc W)
  slack_long s = let e = negated_length in let f = length-append (map neg_ℚ u) (one_ℚ ∷ s ∷ []) in omega (arith, e, f)

  -- an entry of a slack's row: the negated coefficient, 1 for the auxiliary variable, then the side
  pub slack_entry_long : (s : ℚ) (k : ℕ) → k < suc (suc W) → get_or (slack_entries true u s) k zero_ℚ
      ≡ cond (ltb k W) (neg_ℚ (get_or u k zero_ℚ)) (cond (eqb k W) one_ℚ s)
  slack_entry_long s k l =
      let e = negated_length in
      ⊎_elim
      (λ a. get_or_append_left (map neg_ℚ u) (one_ℚ ∷ s ∷ []) zero_ℚ k (omega (arith, a, e)) ∙ negated_entry k a
      ∙ sym (ap (λ b. cond b (neg_ℚ (get_or u k zero_ℚ)) (cond (eqb k W) one_ℚ s)) (lt-ltb k W a)))
      (λ a. ⊎_elim
      (λ q. get_behind (map neg_ℚ u) (one_ℚ ∷ s ∷ []) 0 k zero_ℚ (omega (arith, q, e))
      ∙ sym (ap (λ b. cond b (neg_ℚ (get_or u k zero_ℚ)) (cond (eqb k W) one_ℚ s)) (le-ltb k W a)
      ∙ ap (λ b. cond b one_ℚ s) (eq-eqb k W q)))
      (λ q. get_behind (map neg_ℚ u) (one_ℚ ∷ s ∷ []) 1 k zero_ℚ (omega (arith, a, q, l, e))
      ∙ sym (ap (λ b. cond b (neg_ℚ (get_or u k zero_ℚ)) (cond (eqb k W) one_ℚ s)) (le-ltb k W a)
      ∙ ap (λ b. cond b one_ℚ s) (ne_eqb k W q)))
      (cases_eq k W))
      (cases_lt k W)

  -- and without it
  pub slack_short : (s : ℚ) → length (slack_entries false u s) ≡ suc W
  slack_short s = let e = negated_length in let f = length-append (map neg_ℚ u) (s ∷ []) in omega (arith, e, f)

  -- an entry of a slack's row without the auxiliary variable: the negated coefficient, then the side
  pub slack_entry_short : (s : ℚ) (k : ℕ) → k < suc W → get_or (slack_entries false u s) k zero_ℚ
      ≡ cond (ltb k W) (neg_ℚ (get_or u k zero_ℚ)) s
  slack_entry_short s k l =
      let e = negated_length in
      ⊎_elim
      (λ a. get_or_append_left (map neg_ℚ u) (s ∷ []) zero_ℚ k (omega (arith, a, e)) ∙ negated_entry k a
      ∙ sym (ap (λ b. cond b (neg_ℚ (get_or u k zero_ℚ)) s) (lt-ltb k W a)))
      (λ a. get_behind (map neg_ℚ u) (s ∷ []) 0 k zero_ℚ (omega (arith, a, l, e))
      ∙ sym (ap (λ b. cond b (neg_ℚ (get_or u k zero_ℚ)) s) (le-ltb k W a)))
      (cases_lt k W)

  -- the row of the problem's goal
  pub goal_long : length (goal_entries true u) ≡ suc (suc W)
  goal_long = let f = length-append u (zero_ℚ ∷ zero_ℚ ∷ []) in omega (arith, length_is, f)

  -- an entry of the goal's row: the coefficient, then 0 for the auxiliary variable and for the constant
  pub goal_entry_long : (k : ℕ) → k < suc (suc W) → get_or (goal_entries true u) k zero_ℚ ≡ cond (ltb k W) (get_or u k zero_ℚ) zero_ℚ
  goal_entry_long k l = ⊎_elim
      (λ a. get_or_append_left u (zero_ℚ ∷ zero_ℚ ∷ []) zero_ℚ k (omega (arith, a, length_is))
      ∙ sym (ap (λ b. cond b (get_or u k zero_ℚ) zero_ℚ) (lt-ltb k W a)))
      (λ a. ⊎_elim
      (λ q. get_behind u (zero_ℚ ∷ zero_ℚ ∷ []) 0 k zero_ℚ (omega (arith, q, length_is))
      ∙ sym (ap (λ b. cond b (get_or u k zero_ℚ) zero_ℚ) (le-ltb k W a)))
      (λ q. get_behind u (zero_ℚ ∷ zero_ℚ ∷ []) 1 k zero_ℚ (omega (arith, a, q, l, length_is))
      ∙ sym (ap (λ b. cond b (get_or u k zero_ℚ) zero_ℚ) (le-ltb k W a)))
      (cases_eq k W))
      (cases_lt k W)

  -- the goal's row without the auxiliary variable has one entry more than the goal has coefficients
  pub goal_short : length (goal_entries false u) ≡ suc W
  goal_short = let f = length-append u (zero_ℚ ∷ []) in omega (arith, length_is, f)

  -- an entry of the goal's row without the auxiliary variable: the coefficient, then 0 for the constant
  pub goal_entry_short : (k : ℕ) → k < suc W → get_or (goal_entries false u) k zero_ℚ ≡ cond (ltb k W) (get_or u k zero_ℚ) zero_ℚ
  goal_entry_short k l = ⊎_elim
      (λ a. get_or_append_left u (zero_ℚ ∷ []) zero_ℚ k (omega (arith, a, length_is))
      ∙ sym (ap (λ b. cond b (get_or u k zero_ℚ) zero_ℚ) (lt-ltb k W a)))
      (λ a. get_behind u (zero_ℚ ∷ []) 0 k zero_ℚ (omega (arith, a, l, length_is))
      ∙ sym (ap (λ b. cond b (get_or u k zero_ℚ) zero_ℚ) (le-ltb k W a)))
      (cases_lt k W)

-- the row of the first goal
pub auxiliary_length : (W : ℕ) → length (auxiliary_entries W) ≡ suc (suc W)
auxiliary_length W = let e = length-zeros W in let f = length-append (zeros W) (neg_ℚ one_ℚ ∷ zero_ℚ ∷ []) in omega (arith, e, f)

-- an entry of the first goal's row: -1 for the auxiliary variable, else 0
pub auxiliary_get : (W k : ℕ) → k < suc (suc W) → get_or (auxiliary_entries W) k zero_ℚ ≡ cond (eqb k W) (neg_ℚ one_ℚ) zero_ℚ
auxiliary_get W k l =
    let e = length-zeros W in
    ⊎_elim
    (λ a. get_or_append_left (zeros W) (neg_ℚ one_ℚ ∷ zero_ℚ ∷ []) zero_ℚ k (omega (arith, a, e)) ∙ get-zeros W k
    ∙ sym (ap (λ b. cond b (neg_ℚ one_ℚ) zero_ℚ) (ne_eqb k W (λ q. omega (arith, q, a)))))
    (λ a. ⊎_elim
    (λ q. get_behind (zeros W) (neg_ℚ one_ℚ ∷ zero_ℚ ∷ []) 0 k zero_ℚ (omega (arith, q, e))
    ∙ sym (ap (λ b. cond b (neg_ℚ one_ℚ) zero_ℚ) (eq-eqb k W q)))
    (λ q. get_behind (zeros W) (neg_ℚ one_ℚ ∷ zero_ℚ ∷ []) 1 k zero_ℚ (omega (arith, a, q, l, e))
    ∙ sym (ap (λ b. cond b (neg_ℚ one_ℚ) zero_ℚ) (ne_eqb k W q)))
    (cases_eq k W))
    (cases_lt k W)
