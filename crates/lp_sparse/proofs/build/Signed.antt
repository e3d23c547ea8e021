-- Entries with their sign or with the other one.
use Rattle.std.proofs.Common.{◌≡◌, ◌≢◌, ℕ, zero, suc, ◌<◌, ◌≤◌, ⊎_elim, Bool, true, false, List, [], ◌∷◌, ◌++◌, length, map, get_or, refl}
use Rattle.std.proofs.Common.{ap}
use Rattle.std.proofs.Common.{sym, ◌∙◌, subst}
use Rattle.std.proofs.lemmas.Bool.{cases_eq}
use Rattle.std.proofs.lemmas.List.{length-map}
use Rattle.base_numbers.specs.Rational.{ℚ, zero_ℚ, neg_ℚ}
use Rattle.base_numbers.proofs.rational.Laws.{neg_ℚ-zero, neg_ℚ-neg_ℚ}
use Rattle.lp_dictionary.specs.Build.{signed_by}
use Rattle.lp_dictionary.specs.declared.entry.Entry.{Entry}
use Rattle.lp_dictionary.specs.Entries.{value_at, Rises, HasNoZero}
use Rattle.lp_dictionary.specs.Keeps.{Keeps, Lists}
use Rattle.lp_dictionary.proofs.kept.Lists.{head_on, head_off}
use Rattle.lp_sparse.specs.Build.{AreSigned}

signed_zero : (b : Bool) → signed_by b zero_ℚ ≡ zero_ℚ
signed_zero true = neg_ℚ-zero
signed_zero false = refl

not_zero_signed : (b : Bool) (q : ℚ) → q ≢ zero_ℚ → signed_by b q ≢ zero_ℚ
not_zero_signed true q n e = n (sym (neg_ℚ-neg_ℚ q) ∙ ap neg_ℚ e ∙ neg_ℚ-zero)
not_zero_signed false q n e = n e

signed_at : (b : Bool) (xs : List ℚ) (k : ℕ) → get_or (map (signed_by b) xs) k zero_ℚ ≡ signed_by b (get_or xs k zero_ℚ)
signed_at b [] k = sym (signed_zero b)
signed_at b (x ∷ xs) zero = refl
signed_at b (x ∷ xs) (suc k) = signed_at b xs k

module _ {F : Type 0} (m : F → ℚ) (b : Bool) where
  -- one more entry
  pub signed_push : (xs ys : List (Entry F)) (x y : Entry F) → AreSigned m b xs ys → y.col ≡ x.col → m y.value ≡ signed_by b (m x.value)
      → AreSigned m b (xs ++ x ∷ []) (ys ++ y ∷ [])
  signed_push [] [] x y h c e = (c, e, tt)
  signed_push [] (z ∷ ys) x y h c e = absurd h
  signed_push (z ∷ xs) [] x y h c e = absurd h
  signed_push (z ∷ xs) (w ∷ ys) x y h c e = (h.0, h.1, signed_push xs ys x y h.2 c e)

  signed_rises : (lo n : ℕ) (xs ys : List (Entry F)) → AreSigned m b xs ys → Rises lo n xs → Rises lo n ys
  signed_rises lo n [] [] h r = tt
  signed_rises lo n [] (y ∷ ys) h r = absurd h
  signed_rises lo n (x ∷ xs) [] h r = absurd h
  signed_rises lo n (x ∷ xs) (y ∷ ys) h r = (
    subst (λ k. lo ≤ k) (sym h.0) r.0,
    subst (λ k. k < n) (sym h.0) r.1,
    subst (λ k. Rises (suc k) n ys) (sym h.0) (signed_rises (suc x.col) n xs ys h.2 r.2),
  )

  signed_values : (xs ys : List (Entry F)) (k : ℕ) → AreSigned m b xs ys → value_at m ys k ≡ signed_by b (value_at m xs k)
  signed_values [] [] k h = sym (signed_zero b)
  signed_values [] (y ∷ ys) k h = absurd h
  signed_values (x ∷ xs) [] k h = absurd h
  signed_values (x ∷ xs) (y ∷ ys) k h = ⊎_elim
      (λ a. head_on m y ys k (h.0 ∙ a) ∙ h.1 ∙ ap (signed_by b) (sym (head_on m x xs k a)))
      (λ a. head_off m y ys k (λ s. a (sym h.0 ∙ s)) ∙ signed_values xs ys k h.2 ∙ ap (signed_by b) (sym (head_off m x xs k a)))
      (cases_eq x.col k)

  signed_no_zero : (xs ys : List (Entry F)) → AreSigned m b xs ys → HasNoZero m xs → HasNoZero m ys
  signed_no_zero [] [] h z = tt
  signed_no_zero [] (y ∷ ys) h z = absurd h
  signed_no_zero (x ∷ xs) [] h z = absurd h
  signed_no_zero (x ∷ xs) (y ∷ ys) h z = (
    λ e. not_zero_signed b (m x.value) z.0 (sym h.1 ∙ e),
    signed_no_zero xs ys h.2 z.1,
  )

  -- they are the entries of the numbers with their sign or with the other one
  pub lists_signed : (us : List ℚ) (xs ys : List (Entry F)) → Lists m us xs → AreSigned m b xs ys → Lists m (map (signed_by b) us) ys
  lists_signed us xs ys h s = record {
    keeps = subst (λ n. Keeps m (λ j. get_or (map (signed_by b) us) j zero_ℚ) n ys) (sym (length-map us (signed_by b))) record {
      rises = signed_rises 0 (length us) xs ys s h.keeps.rises;
      values = λ k l. signed_values xs ys k s ∙ ap (signed_by b) (h.keeps.values k l) ∙ sym (signed_at b us k);
    };
    no_zero = signed_no_zero xs ys s h.no_zero;
  }
