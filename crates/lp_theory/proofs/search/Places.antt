-- Places of names.
use Rattle.std.proofs.Common.{◌≡◌, ◌≢◌, ℕ, zero, suc, ◌<◌, ⊎_elim, Bool, true, false, eqb, refl, ap, sym, ◌∙◌, arith, true≢false}
use Rattle.std.proofs.lemmas.Bool.{cases_lt, eqb-true, eq-eqb, ne_eqb}
use Rattle.lp_theory.specs.Search.{Search, none, found, first, first_more}
use Rattle.lp_theory.specs.Bland.{index_of}
use Rattle.lp_theory.specs.Run.{place_of}
use Rattle.lp_theory.proofs.search.Searches.{FirstIs, first_is}

-- the search finds the first place that is wanted
pub first_same : (p : ℕ → Bool) (n k : ℕ) (s : Search) → FirstIs p n s → k < n → p k ≡ true → ((j : ℕ) → j < k → p j ≡ false)
    → index_of s ≡ k
first_same p n k none h l e b = absurd (true≢false (sym e ∙ h k l))
first_same p n k (found i) h l e b = ⊎_elim (λ a. absurd (true≢false (sym h.1 ∙ b i a)))
    (λ a. ⊎_elim (λ c. absurd (true≢false (sym e ∙ h.2 k c))) (λ c. omega (arith, a, c)) (cases_lt k i)) (cases_lt i k)

-- the first place with the name is its place
pub place_is : (name : ℕ → ℕ) (n q k : ℕ) → k < n → name k ≡ q → ((j : ℕ) → j < k → name j ≢ q) → place_of name n q ≡ k
unfolding place_of
place_is name n q k l e b =
    first_same (λ j. eqb (name j) q) n k (first (λ j. eqb (name j) q) n) (first_is (λ j. eqb (name j) q) n) l (eq-eqb (name k) q e)
    (λ j m. ne_eqb (name j) q (b j m))

-- names that are apart are at their places
pub place_only : (name : ℕ → ℕ) (n k : ℕ) → k < n → ((i j : ℕ) → i < n → j < n → name i ≡ name j → i ≡ j) → place_of name n (name k) ≡ k
place_only name n k l a = place_is name n (name k) k l refl (λ j m e. let s = a j k (omega (arith, l, m)) l e in omega (arith, s, m))

found_in : (name : ℕ → ℕ) (n q : ℕ) (s : Search) → FirstIs (λ j. eqb (name j) q) n s → (k : ℕ) → k < n → name k ≡ q
    → (index_of s < n) × (name (index_of s) ≡ q)
found_in name n q none h k l e = absurd (true≢false (sym (eq-eqb (name k) q e) ∙ h k l))
found_in name n q (found i) h k l e = (h.0, eqb-true (name i) q h.1)

-- a name that is among the first n has a place
pub place_in : (name : ℕ → ℕ) (n q k : ℕ) → k < n → name k ≡ q → (place_of name n q < n) × (name (place_of name n q) ≡ q)
unfolding place_of
place_in name n q k l e = found_in name n q (first (λ j. eqb (name j) q) n) (first_is (λ j. eqb (name j) q) n) k l e

first_alike : (p q : ℕ → Bool) (n : ℕ) → ((j : ℕ) → j < n → p j ≡ q j) → first p n ≡ first q n
unfolding first
first_alike p q zero h = refl
first_alike p q (suc n) h = ap (λ s. first_more n s (p n)) (first_alike p q n (λ j l. h j (omega (arith, l))))
    ∙ ap (first_more n (first q n)) (h n (omega arith))

-- names that agree have the same places
pub place_same : (name other : ℕ → ℕ) (n q : ℕ) → ((j : ℕ) → j < n → name j ≡ other j) → place_of name n q ≡ place_of other n q
unfolding place_of
place_same name other n q h = ap index_of (first_alike (λ j. eqb (name j) q) (λ j. eqb (other j) q) n (λ j l. ap (λ x. eqb x q) (h j l)))
