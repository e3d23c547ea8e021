-- Lists of entries: what rises, and which number stands at a column.
use Rattle.std.proofs.Common.{◌≡◌, ◌≢◌, ℕ, zero, suc, ◌+◌, ◌<◌, ◌≤◌, ⊎_elim, Bool, true, false, cond, eqb, pos, ℤ, negsuc, List, [], ◌∷◌}
use Rattle.std.proofs.Common.{◌++◌, length, get_or, refl, ap, sym, ◌∙◌, arith, true≢false}
use Rattle.std.proofs.lemmas.List.{get_or-map}
use Rattle.std.proofs.lemmas.Bool.{cases_lt, cases_eq, eq-eqb, ne_eqb}
use Rattle.base_numbers.specs.Rational.{ℚ, zero_ℚ}
use Rattle.base_numbers.proofs.rational.Quotients.{zero_by_num}
use Rattle.lp_dictionary.specs.Formulas.{is_zero, is_zero_num}
use Rattle.lp_dictionary.specs.declared.entry.Entry.{Entry}
use Rattle.lp_dictionary.specs.Entries.{value_at, Rises, HasNoZero, col_at, pushed}
use Rattle.lp_dictionary.specs.Keeps.{Keeps}

-- a number whose test for 0 holds, and one whose test doesn't
zero_from : (q : ℚ) → is_zero q ≡ true → q ≡ zero_ℚ
zero_from q e = by q.num refl
  where
    by : (z : ℤ) → q.num ≡ z → q ≡ zero_ℚ
    by (pos zero) h = (zero_by_num q).0 h
    by (pos (suc k)) h = absurd (true≢false (sym e ∙ ap is_zero_num h))
    by (negsuc k) h = absurd (true≢false (sym e ∙ ap is_zero_num h))

not_zero_from : (q : ℚ) → is_zero q ≡ false → q ≢ zero_ℚ
not_zero_from q e z = true≢false (sym (ap is_zero_num ((zero_by_num q).1 z)) ∙ e)

module _ {F : Type 0} where
  -- bounds that are wider
  rises_wider : (lo lo' n n' : ℕ) (es : List (Entry F)) → lo' ≤ lo → n ≤ n' → Rises lo n es → Rises lo' n' es
  rises_wider lo lo' n n' [] l h r = tt
  rises_wider lo lo' n n' (e ∷ es) l h r = (
    omega (arith, r.0, l),
    omega (arith, r.1, h),
    rises_wider (suc e.col) (suc e.col) n n' es (omega arith) h r.2,
  )

  -- a list that rises below n rises with an entry from n on at its end
  rises_push : (lo n n' k : ℕ) (x : F) (es : List (Entry F)) → Rises lo n es → lo ≤ k → n ≤ k → k < n'
      → Rises lo n' (es ++ record { col = k; value = x } ∷ [])
  rises_push lo n n' k x [] r l h b = (l, b, tt)
  rises_push lo n n' k x (e ∷ es) r l h b = (
    r.0,
    omega (arith, r.1, h, b),
    rises_push (suc e.col) n n' k x es r.2 (omega (arith, r.1, h)) h b,
  )

  -- the column of the entry that was read
  pub col_read : (es : List (Entry F)) (i : ℕ) (e : Entry F) → i < length es → col_at es i ≡ (get_or es i e).col
  col_read es i e l = get_or-map (λ (x : Entry F). x.col) es i e 0 l

  -- a later entry has a later column
  cols_above : (lo n i : ℕ) (es : List (Entry F)) → Rises lo n es → i < length es → lo ≤ col_at es i
  cols_above lo n i [] r l = absurd (omega (arith, l))
  cols_above lo n zero (e ∷ es) r l = r.0
  cols_above lo n (suc i) (e ∷ es) r l = let h = cols_above (suc e.col) n i es r.2 (omega (arith, l)) in omega (arith, h, r.0)

  -- a later entry of a rising list stands at a greater column
  pub cols_rise : (lo n i j : ℕ) (es : List (Entry F)) → Rises lo n es → i < j → j < length es → col_at es i < col_at es j
  cols_rise lo n i j [] r l b = absurd (omega (arith, b))
  cols_rise lo n i zero (e ∷ es) r l b = absurd (omega (arith, l))
  cols_rise lo n zero (suc j) (e ∷ es) r l b = let h = cols_above (suc e.col) n j es r.2 (omega (arith, b)) in omega (arith, h)
  cols_rise lo n (suc i) (suc j) (e ∷ es) r l b = cols_rise (suc e.col) n i j es r.2 (omega (arith, l)) (omega (arith, b))

  module _ (m : F → ℚ) where
    -- at a column other than the first entry's the number is that of the other entries
    pub head_off : (e : Entry F) (es : List (Entry F)) (k : ℕ) → e.col ≢ k → value_at m (e ∷ es) k ≡ value_at m es k
    head_off e es k d = ap (λ b. cond b (m e.value) (value_at m es k)) (ne_eqb e.col k d)

    -- at the first entry's column the number is that entry's
    pub head_on : (e : Entry F) (es : List (Entry F)) (k : ℕ) → e.col ≡ k → value_at m (e ∷ es) k ≡ m e.value
    head_on e es k d = ap (λ b. cond b (m e.value) (value_at m es k)) (eq-eqb e.col k d)

    -- 0 before the first column, and from the last bound on
    pub value_before : (lo n k : ℕ) (es : List (Entry F)) → Rises lo n es → k < lo → value_at m es k ≡ zero_ℚ
    value_before lo n k [] r l = refl
    value_before lo n k (e ∷ es) r l = head_off e es k (λ q. omega (arith, q, r.0, l))
        ∙ value_before (suc e.col) n k es r.2 (omega (arith, r.0, l))

    -- a list that rises below n has 0 at each column from n on
    pub value_behind : (lo n k : ℕ) (es : List (Entry F)) → Rises lo n es → n ≤ k → value_at m es k ≡ zero_ℚ
    value_behind lo n k [] r l = refl
    value_behind lo n k (e ∷ es) r l = head_off e es k (λ q. omega (arith, q, r.1, l)) ∙ value_behind (suc e.col) n k es r.2 l

    -- 0 at a column that no entry has
    pub value_none : (k : ℕ) (es : List (Entry F)) → ((i : ℕ) → i < length es → col_at es i ≢ k) → value_at m es k ≡ zero_ℚ
    value_none k [] h = refl
    value_none k (e ∷ es) h = head_off e es k (h 0 (omega arith)) ∙ value_none k es (λ i l. h (suc i) (omega (arith, l)))

    -- the entry that was read
    pub value_read : (lo n i k : ℕ) (es : List (Entry F)) (e : Entry F) → Rises lo n es → i < length es → (get_or es i e).col ≡ k
        → value_at m es k ≡ m (get_or es i e).value
    value_read lo n i k [] e r l q = absurd (omega (arith, l))
    value_read lo n zero k (x ∷ es) e r l q = head_on x es k q
    value_read lo n (suc i) k (x ∷ es) e r l q =
        let b : i < length es = omega (arith, l) in
        let below = cols_above (suc x.col) n i es r.2 b in
        let at : col_at es i ≡ k = get_or-map (λ (y : Entry F). y.col) es i e 0 b ∙ q in
        head_off x es k (λ s. omega (arith, s, below, at)) ∙ value_read (suc x.col) n i k es e r.2 b q

    -- with an entry at its end, past all columns, a list has that entry's number at its column and the old ones elsewhere
    value_push : (lo n k q : ℕ) (x : F) (es : List (Entry F)) → Rises lo n es → n ≤ k
        → value_at m (es ++ record { col = k; value = x } ∷ []) q ≡ cond (eqb k q) (m x) (value_at m es q)
    value_push lo n k q x [] r h = refl
    value_push lo n k q x (e ∷ es) r h = ⊎_elim
        (λ a. head_on e (es ++ record { col = k; value = x } ∷ []) q a
        ∙ sym (ap (λ b. cond b (m x) (value_at m (e ∷ es) q)) (ne_eqb k q (λ s. omega (arith, s, a, r.1, h))) ∙ head_on e es q a))
        (λ a. head_off e (es ++ record { col = k; value = x } ∷ []) q a ∙ value_push (suc e.col) n k q x es r.2 h
        ∙ ap (λ t. cond (eqb k q) (m x) t) (sym (head_off e es q a)))
        (cases_eq e.col q)

    -- what holds with a pushed entry and without one that is 0
    pushed_cases : (P : List (Entry F) → Type 0) (es : List (Entry F)) (k : ℕ) (x : F) → (m x ≡ zero_ℚ → P es)
        → (m x ≢ zero_ℚ → P (es ++ record { col = k; value = x } ∷ [])) → P (pushed m es k x)
    pushed_cases P es k x y n = by (is_zero (m x)) refl
      where
        by : (b : Bool) → is_zero (m x) ≡ b → P (cond b es (es ++ record { col = k; value = x } ∷ []))
        by true e = y (zero_from (m x) e)
        by false e = n (not_zero_from (m x) e)

    no_zero_push : (es : List (Entry F)) (e : Entry F) → m e.value ≢ zero_ℚ → HasNoZero m es → HasNoZero m (es ++ e ∷ [])
    no_zero_push [] e n h = (n, tt)
    no_zero_push (x ∷ es) e n h = (h.0, no_zero_push es e n h.1)

    -- a list without a zero entry has none when a number is appended unless it is 0
    pub no_zero_pushed : (es : List (Entry F)) (k : ℕ) (x : F) → HasNoZero m es → HasNoZero m (pushed m es k x)
    no_zero_pushed es k x h = pushed_cases (HasNoZero m) es k x (λ z. h) (λ n. no_zero_push es (record { col = k; value = x }) n h)

    -- an empty list keeps nothing
    pub keeps_none : (f : ℕ → ℚ) → Keeps m f 0 []
    keeps_none f = record { rises = tt; values = λ k l. absurd (omega (arith, l)) }

    -- one more column
    pub keeps_pushed : (f : ℕ → ℚ) (k : ℕ) (x : F) (es : List (Entry F)) → Keeps m f k es → m x ≡ f k → Keeps m f (k + 1) (pushed m es k x)
    keeps_pushed f k x es h e = pushed_cases (Keeps m f (k + 1)) es k x
        (λ z. record {
          rises = rises_wider 0 0 k (k + 1) es (omega arith) (omega arith) h.rises;
          values = λ j l. ⊎_elim (λ a. h.values j a) (λ a. let s : j ≡ k = omega (arith, a, l) in
              value_behind 0 k j es h.rises a ∙ sym (ap f s ∙ sym e ∙ z)) (cases_lt j k);
        })
        (λ n. record {
          rises = rises_push 0 k (k + 1) k x es h.rises (omega arith) (omega arith) (omega arith);
          values = λ j l. value_push 0 k k j x es h.rises (omega arith) ∙ ⊎_elim
              (λ a. ap (λ b. cond b (m x) (value_at m es j)) (ne_eqb k j (λ s. omega (arith, s, a))) ∙ h.values j a)
              (λ a. let s : k ≡ j = omega (arith, a, l) in ap (λ b. cond b (m x) (value_at m es j)) (eq-eqb k j s) ∙ e ∙ ap f s)
              (cases_lt j k);
        })

    -- columns at which f is 0
    pub keeps_gap : (f : ℕ → ℚ) (r k : ℕ) (es : List (Entry F)) → Keeps m f r es → r ≤ k → ((q : ℕ) → r ≤ q → q < k → f q ≡ zero_ℚ)
        → Keeps m f k es
    keeps_gap f r k es h l z = record {
      rises = rises_wider 0 0 r k es (omega arith) l h.rises;
      values = λ j b. ⊎_elim (λ a. h.values j a) (λ a. value_behind 0 r j es h.rises a ∙ sym (z j a b)) (cases_lt j r);
    }

    -- another function with the same numbers
    pub keeps_same : (f g : ℕ → ℚ) (n : ℕ) (es : List (Entry F)) → Keeps m f n es → ((k : ℕ) → k < n → f k ≡ g k) → Keeps m g n es
    keeps_same f g n es h e = record { rises = h.rises; values = λ k l. h.values k l ∙ e k l }

    -- a rising list keeps its own numbers
    pub keeps_itself : (n : ℕ) (es : List (Entry F)) → Rises 0 n es → Keeps m (value_at m es) n es
    keeps_itself n es r = record { rises = r; values = λ k l. refl }
