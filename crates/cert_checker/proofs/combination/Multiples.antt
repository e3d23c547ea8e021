-- Sums of multiples from the left, product by product.
use Rattle.std.proofs.Common.{◌≡◌, ◌∙◌, ℕ, ◌+◌, ◌<◌, ◌≤◌, List, [], ◌∷◌, ◌++◌, length, get_or, drop, Some, None, Result, MatchResult, ap}
use Rattle.std.proofs.Common.{ap₂, sym, subst}
use Rattle.std.proofs.lemmas.List.{drop_more, drop_all}
use Rattle.base_numbers.specs.Rational.{ℚ, ◌+ℚ◌, ◌*ℚ◌}
use Rattle.base_fractions.specs.Fits.{Fits, long_limit}
use Rattle.base_fractions.specs.declared.wide.Op.TheVariants.{Add, Mul}
use Rattle.base_fractions.specs.declared.wide.Wide.{Wide}
use Rattle.base_fractions.specs.Operation.{Operation, first_wide, operation_of}
use Rattle.flow_systems.specs.Sums.{SumAnswers}
use Rattle.flow_systems.proofs.Widths.{first_wide_later, first_wide_sooner, first_wide_past, first_wide_here, one_answer, after}
use Rattle.cert_checker.specs.EvidenceEvents.{total, products}

-- ---- one multiple
-- a product that is wide, and one that is added
pub multiple_refused : (sum m x : ℚ) (w : Wide ℚ) → ¬ (Fits long_limit (m *ℚ x)) → w ≡ record { op = Mul; left = m; right = x } →
    first_wide long_limit (products sum (m ∷ []) (x ∷ [])) ≡ Some (operation_of (λ q. q) w)
unfolding products
multiple_refused sum m x w n k =
    first_wide_here long_limit (record { op = Mul; left = m; right = x }) (record { op = Add; left = sum; right = m *ℚ x } ∷ []) n
    ∙ ap (λ (y : Wide ℚ). Some (operation_of (λ q. q) y)) (sym k)

-- a product that is not wide is added, or the sum is wide
pub multiple_added : (sum m x p : ℚ) (res : Result ℚ (Wide ℚ)) → p ≡ m *ℚ x → Fits long_limit p →
    MatchResult res (λ r. (r ≡ sum +ℚ p) × Fits long_limit r) (λ e. (¬ (Fits long_limit (sum +ℚ p)))
    × (e ≡ record { op = Add; left = sum; right = p })) →
    SumAnswers (total sum (m ∷ []) (x ∷ [])) (products sum (m ∷ []) (x ∷ [])) res
unfolding total products
multiple_added sum m x p res e h a =
    after (sum +ℚ (m *ℚ x)) (record { op = Mul; left = m; right = x } ∷ []) (record { op = Add; left = sum; right = m *ℚ x } ∷ []) res
    (first_wide_past long_limit (record { op = Mul; left = m; right = x }) [] (subst (Fits long_limit) e h))
    (subst (λ y. SumAnswers (sum +ℚ y) (record { op = Add; left = sum; right = y } ∷ []) res) e (one_answer Add sum p res a))

-- ---- multiples as far as the first i are added
-- what is left of value and operations
pub record IsAdded (start : ℚ) (xs ys : List ℚ) (i : ℕ) (sum : ℚ) : Type 0 where
  -- the total is that of what is left, from the sum so far
  pub value : total start xs ys ≡ total sum (drop i xs) (drop i ys)
  -- the first wide operation is that of what is left, from the sum so far
  pub first : first_wide long_limit (products start xs ys) ≡ first_wide long_limit (products sum (drop i xs) (drop i ys))

-- at the start no multiple is added
pub added_none : (start : ℚ) (xs ys : List ℚ) (sum : ℚ) → sum ≡ start → IsAdded start xs ys 0 sum
added_none start xs ys sum e = record {
  value = ap (λ s. total s xs ys) (sym e);
  first =
      ap (λ s. first_wide long_limit (products s xs ys)) (sym e);
}

module _ (start : ℚ) (xs ys : List ℚ) (i : ℕ) (sum : ℚ) (h : IsAdded start xs ys i sum) (l : i < length xs) (k : i < length ys) (x y : ℚ)
    (d : x ≡ get_or xs i x) (f : y ≡ get_or ys i y) where
  xs_left : drop i xs ≡ x ∷ drop (i + 1) xs
  xs_left = drop_more xs i x l ∙ ap (λ z. z ∷ drop (i + 1) xs) (sym d)

  ys_left : drop i ys ≡ y ∷ drop (i + 1) ys
  ys_left = drop_more ys i y k ∙ ap (λ z. z ∷ drop (i + 1) ys) (sym f)

  value_left : total start xs ys ≡ total (total sum (x ∷ []) (y ∷ [])) (drop (i + 1) xs) (drop (i + 1) ys)
  unfolding total
  value_left = h.value ∙ ap₂ (total sum) xs_left ys_left

  first_left : first_wide long_limit (products start xs ys) ≡ first_wide long_limit
      (products sum (x ∷ []) (y ∷ []) ++ products (total sum (x ∷ []) (y ∷ [])) (drop (i + 1) xs) (drop (i + 1) ys))
  unfolding total products
  first_left = h.first ∙ ap₂ (λ us vs. first_wide long_limit (products sum us vs)) xs_left ys_left

  -- one more multiple that is not wide
  pub added_more : (next : ℚ) → next ≡ total sum (x ∷ []) (y ∷ []) → first_wide long_limit (products sum (x ∷ []) (y ∷ [])) ≡ None
      → IsAdded start xs ys (i + 1) next
  added_more next e n = record {
    value = value_left ∙ ap (λ s. total s (drop (i + 1) xs) (drop (i + 1) ys)) (sym e);
    first = first_left ∙ first_wide_later long_limit (products sum (x ∷ []) (y ∷ []))
        (products (total sum (x ∷ []) (y ∷ [])) (drop (i + 1) xs) (drop (i + 1) ys)) n
        ∙ ap (λ s. first_wide long_limit (products s (drop (i + 1) xs) (drop (i + 1) ys))) (sym e);
  }

  -- one that is
  pub added_wide : (o : Operation) → first_wide long_limit (products sum (x ∷ []) (y ∷ [])) ≡ Some o
      → first_wide long_limit (products start xs ys) ≡ Some o
  added_wide o w = first_left ∙ first_wide_sooner long_limit (products sum (x ∷ []) (y ∷ []))
      (products (total sum (x ∷ []) (y ∷ [])) (drop (i + 1) xs) (drop (i + 1) ys)) o w

-- all multiples
pub added_all : (start : ℚ) (xs ys : List ℚ) (i : ℕ) (sum : ℚ) → length xs ≤ i → IsAdded start xs ys i sum
    → (sum ≡ total start xs ys) × (first_wide long_limit (products start xs ys) ≡ None)
unfolding total products
added_all start xs ys i sum l h = (
  sym (h.value ∙ ap (λ us. total sum us (drop i ys)) (drop_all i xs l)),
  h.first ∙ ap (λ us. first_wide long_limit (products sum us (drop i ys))) (drop_all i xs l),
)
