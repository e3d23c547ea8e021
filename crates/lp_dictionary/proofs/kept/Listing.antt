-- Lists of entries that grow at their end with the numbers of a dense list, and the numbers that they stand for.
use Rattle.std.proofs.Common.{◌≡◌, ℕ, zero, suc, ◌+◌, ◌-◌, ◌<◌, ◌≤◌, ⊎_elim, List, [], ◌∷◌, ◌++◌, length, get_or, refl, ap, sym, ◌∙◌}
use Rattle.std.proofs.Common.{subst, arith, length-append}
use Rattle.std.proofs.lemmas.Bool.{cases_lt}
use Rattle.std.proofs.lemmas.List.{length_push, get_or_push, get_or_append_left, get_or_past, ext_get_or}
use Rattle.base_numbers.specs.Rational.{ℚ, zero_ℚ}
use Rattle.base_numbers.specs.Vector.{zeros}
use Rattle.lp_dictionary.specs.declared.entry.Entry.{Entry}
use Rattle.lp_dictionary.specs.Entries.{value_at, Rises, HasNoZero, pushed, spread}
use Rattle.lp_dictionary.specs.Keeps.{Keeps, Lists}
use Rattle.base_numbers.proofs.vector.Vectors.{length-zeros}
use Rattle.lp_dictionary.proofs.listed.DictBuilds.{get-zeros, get_behind}
use Rattle.lp_dictionary.proofs.kept.Lists.{keeps_none, keeps_gap, keeps_same, keeps_pushed, no_zero_pushed}

module _ {F : Type 0} (m : F → ℚ) where
  -- no number
  pub lists_none : Lists m [] []
  lists_none = record { keeps = keeps_none m (λ k. get_or [] k zero_ℚ); no_zero = tt }

  -- numbers that are all 0
  pub lists_zeros : (n : ℕ) → Lists m (zeros n) []
  lists_zeros n = record {
    keeps = subst (λ k. Keeps m (λ j. get_or (zeros n) j zero_ℚ) k []) (sym (length-zeros n))
        (keeps_gap m (λ j. get_or (zeros n) j zero_ℚ) 0 n [] (keeps_none m (λ j. get_or (zeros n) j zero_ℚ)) (omega arith)
        (λ q l b. get-zeros n q));
    no_zero = tt;
  }

  -- one more number
  pub lists_pushed : (xs : List ℚ) (es : List (Entry F)) (k : ℕ) (x : F) (q : ℚ) → Lists m xs es → k ≡ length xs → m x ≡ q
      → Lists m (xs ++ q ∷ []) (pushed m es k x)
  lists_pushed xs es k x q h e v =
      let f = λ (j : ℕ). get_or (xs ++ q ∷ []) j zero_ℚ in
      let same : Keeps m f (length xs) es = keeps_same m (λ j. get_or xs j zero_ℚ) f (length xs) es h.keeps
      (λ j l. sym (get_or_append_left xs (q ∷ []) zero_ℚ j l)) in
      let at : Keeps m f k es = subst (λ n. Keeps m f n es) (sym e) same in
      record {
        keeps = subst (λ n. Keeps m f n (pushed m es k x)) (ap (λ n. n + 1) e ∙ sym (length_push xs q))
            (keeps_pushed m f k x es at (v ∙ sym (get_or_push xs q zero_ℚ k (sym e))));
        no_zero = no_zero_pushed m es k x h.no_zero;
      }

  -- so many numbers
  pub length-spread : (n : ℕ) (es : List (Entry F)) → length (spread m n es) ≡ n
  length-spread zero es = refl
  length-spread (suc n) es = length_push (spread m n es) (value_at m es n) ∙ (let h = length-spread n es in
      let e : length (spread m n es) + 1 ≡ suc n = omega (arith, h) in e)

  -- the number at a column
  pub get_spread : (n : ℕ) (es : List (Entry F)) (k : ℕ) → k < n → get_or (spread m n es) k zero_ℚ ≡ value_at m es k
  get_spread zero es k l = absurd (omega (arith, l))
  get_spread (suc n) es k l = let h = length-spread n es in ⊎_elim
      (λ a. get_or_append_left (spread m n es) (value_at m es n ∷ []) zero_ℚ k (omega (arith, a, h)) ∙ get_spread n es k a)
      (λ a. let e : n ≡ k = omega (arith, a, l) in
      get_or_push (spread m n es) (value_at m es n) zero_ℚ k (h ∙ e) ∙ ap (value_at m es) e)
      (cases_lt k n)

  -- a list of entries keeps the numbers that it stands for
  pub lists_spread : (n : ℕ) (es : List (Entry F)) → Rises 0 n es → HasNoZero m es → Lists m (spread m n es) es
  lists_spread n es r z = record {
    keeps = subst (λ k. Keeps m (λ j. get_or (spread m n es) j zero_ℚ) k es) (sym (length-spread n es))
        record { rises = r; values = λ k l. sym (get_spread n es k l) };
    no_zero = z;
  }

  -- and stands for the numbers that it keeps
  pub spread_lists : (xs : List ℚ) (es : List (Entry F)) (n : ℕ) → Lists m xs es → n ≡ length xs → spread m n es ≡ xs
  spread_lists xs es n h e = ext_get_or zero_ℚ (spread m n es) xs (length-spread n es ∙ e)
      (λ k l. let s = length-spread n es in get_spread n es k (omega (arith, l, s)) ∙ h.keeps.values k (omega (arith, l, s, e)))

  -- it rises below their number
  pub lists_rise : (xs : List ℚ) (es : List (Entry F)) (n : ℕ) → Lists m xs es → n ≡ length xs → Rises 0 n es
  lists_rise xs es n h e = subst (λ k. Rises 0 k es) (sym e) h.keeps.rises

  -- 0 behind them
  pub past_spread : (n : ℕ) (es : List (Entry F)) (k : ℕ) → n ≤ k → get_or (spread m n es) k zero_ℚ ≡ zero_ℚ
  past_spread n es k l = get_or_past (spread m n es) k zero_ℚ (let h = length-spread n es in omega (arith, l, h))

  -- one more number
  pub spread_pushed : (n : ℕ) (es : List (Entry F)) (x : F) → Rises 0 n es → HasNoZero m es
      → Lists m (spread m n es ++ m x ∷ []) (pushed m es n x)
  spread_pushed n es x r z = lists_pushed (spread m n es) es n x (m x) (lists_spread n es r z) (sym (length-spread n es)) refl

  -- so many zeros more
  pub lists_gap : (xs : List ℚ) (es : List (Entry F)) (k : ℕ) → Lists m xs es → Lists m (xs ++ zeros k) es
  lists_gap xs es k h =
      let f = λ (j : ℕ). get_or (xs ++ zeros k) j zero_ℚ in
      let z = length-zeros k in
      let long : length xs + k ≡ length (xs ++ zeros k) = let a = length-append xs (zeros k) in omega (arith, a, z) in
      let same : Keeps m f (length xs) es = keeps_same m (λ j. get_or xs j zero_ℚ) f (length xs) es h.keeps
      (λ j l. sym (get_or_append_left xs (zeros k) zero_ℚ j l)) in
      record {
        keeps = subst (λ n. Keeps m f n es) long (keeps_gap m f (length xs) (length xs + k) es same (omega arith)
            (λ q l b. get_behind xs (zeros k) (q - length xs) q zero_ℚ (omega (arith, l)) ∙ get-zeros k (q - length xs)));
        no_zero = h.no_zero;
      }
