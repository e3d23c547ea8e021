-- What is left of a row from a column on, and operations of columns that are passed over.
use Rattle.std.proofs.Common.{◌≡◌, ℕ, zero, suc, ◌+◌, ◌<◌, ◌≤◌, ⊎_elim, cond, eqb, ℤ, List, [], ◌∷◌, None, refl}
use Rattle.std.proofs.Common.{ap, sym, ◌∙◌, subst, arith, add-one}
use Rattle.std.proofs.lemmas.Bool.{cases_lt, cases_eq, eq-eqb, ne_eqb}
use Rattle.base_numbers.specs.Rational.{ℚ, zero_ℚ}
use Rattle.base_fractions.specs.Operation.{Operation, first_wide}
use Rattle.lp_dictionary.specs.Listed.{joined}
use Rattle.lp_dictionary.proofs.listed.Joins.{joined_fits_more}
use Rattle.lp_dictionary.specs.declared.entry.Entry.{Entry}
use Rattle.lp_dictionary.specs.Entries.{value_at, Rises}
use Rattle.lp_sparse.specs.Entries.{head_value, behind}
use Rattle.lp_sparse.specs.Merge.{StartsAt, Left}
use Rattle.lp_dictionary.proofs.kept.Lists.{value_before}

-- lists of operations that are passed over
pub joined_gap : (L : ℤ) (r k : ℕ) (f : ℕ → List Operation) → first_wide L (joined r f) ≡ None → r ≤ k
    → ((q : ℕ) → r ≤ q → q < k → first_wide L (f q) ≡ None) → first_wide L (joined k f) ≡ None
joined_gap L r zero f h l z = ap (λ n. first_wide L (joined n f)) (let e : 0 ≡ r = omega (arith, l) in e) ∙ h
joined_gap L r (suc k) f h l z = ⊎_elim
    (λ a. ap (λ n. first_wide L (joined n f)) (sym (add-one k)) ∙ joined_fits_more L k f
    (joined_gap L r k f h (omega (arith, a)) (λ q b c. z q b (omega (arith, c)))) (z k (omega (arith, a)) (omega arith)))
    (λ a. ap (λ n. first_wide L (joined n f)) (let e : suc k ≡ r = omega (arith, a, l) in e) ∙ h)
    (cases_lt r (suc k))

module _ {F : Type 0} (m : F → ℚ) (a : ℕ → ℚ) (n : ℕ) where
  -- up to a column before which no entry stands
  pub left_to : (r k : ℕ) (es : List (Entry F)) → Left m a r n es → r ≤ k → StartsAt k es → Left m a k n es
  left_to r k [] h l b = record { rises = tt; values = λ q c. h.values q (omega (arith, c, l)) }
  left_to r k (e ∷ es) h l b = record { rises = (b, h.rises.1, h.rises.2); values = λ q c. h.values q (omega (arith, c, l)) }

  -- 0 before that column
  pub left_zero : (r q k : ℕ) (es : List (Entry F)) → Left m a r n es → StartsAt k es → r ≤ q → q < k → a q ≡ zero_ℚ
  left_zero r q k [] h s l b = sym (h.values q l)
  left_zero r q k (e ∷ es) h s l b = sym (h.values q l) ∙ value_before m e.col n q (e ∷ es) (omega arith, h.rises.1, h.rises.2)
      (omega (arith, s, b))

  -- the number at the column
  pub left_head : (k : ℕ) (es : List (Entry F)) → Left m a k n es → head_value m es k ≡ a k
  left_head k [] h = h.values k (omega arith)
  left_head k (e ∷ es) h = ap (λ x. cond (eqb e.col k) (m e.value) x) (sym
      (value_before m (suc e.col) n k es h.rises.2 (let b = h.rises.0 in omega (arith, b)))) ∙ h.values k (omega arith)

  -- what is left after a column has the row's numbers from the next column on
  pub left_behind : (k : ℕ) (es : List (Entry F)) → Left m a k n es → Left m a (k + 1) n (behind es k)
  left_behind k [] h = record { rises = tt; values = λ q c. h.values q (omega (arith, c)) }
  left_behind k (e ∷ es) h = ⊎_elim
      (λ s. subst (λ b. Left m a (k + 1) n (cond b es (e ∷ es))) (sym (eq-eqb e.col k s)) record {
        rises = subst (λ j. Rises j n es) (let t : suc e.col ≡ k + 1 = omega (arith, s) in t) h.rises.2;
        values = λ q c. sym (ap (λ b. cond b (m e.value) (value_at m es q)) (ne_eqb e.col q (λ t. omega (arith, t, s, c))))
            ∙ h.values q (omega (arith, c));
      })
      (λ d. subst (λ b. Left m a (k + 1) n (cond b es (e ∷ es))) (sym (ne_eqb e.col k d)) record {
        rises = (let b = h.rises.0 in omega (arith, b, d), h.rises.1, h.rises.2);
        values = λ q c. h.values q (omega (arith, c));
      })
      (cases_eq e.col k)

  -- nothing is left
  pub left_none : (r q : ℕ) → Left m a r n [] → r ≤ q → a q ≡ zero_ℚ
  left_none r q h l = sym (h.values q l)

-- all is left
pub left_all : {F : Type 0} (m : F → ℚ) (n : ℕ) (es : List (Entry F)) → Rises 0 n es → Left m (value_at m es) 0 n es
left_all m n es r = record { rises = r; values = λ k l. refl }

-- before the first column stands 0, and no entry is taken
pub starts_value : {F : Type 0} (m : F → ℚ) (u k : ℕ) (es : List (Entry F)) → StartsAt u es → k < u → zero_ℚ ≡ head_value m es k
starts_value m u k [] s l = refl
starts_value m u k (e ∷ es) s l = sym (ap (λ b. cond b (m e.value) zero_ℚ) (ne_eqb e.col k (λ q. omega (arith, q, s, l))))

-- where the entries start after a column, those after that column are all of them
pub starts_behind : {F : Type 0} (u k : ℕ) (es : List (Entry F)) → StartsAt u es → k < u → behind es k ≡ es
starts_behind u k [] s l = refl
starts_behind u k (e ∷ es) s l = ap (λ b. cond b es (e ∷ es)) (ne_eqb e.col k (λ q. omega (arith, q, s, l)))

-- entries that start at a column start at each column up to it
pub starts_before : {F : Type 0} (u k : ℕ) (es : List (Entry F)) → StartsAt u es → k ≤ u → StartsAt k es
starts_before u k [] s l = tt
starts_before u k (e ∷ es) s l = omega (arith, s, l)
