-- A trace that is moved along a direction, entry by entry.
use Rattle.std.proofs.Common.{◌≡◌, ◌∙◌, ℕ, ◌+◌, ◌<◌, ◌≤◌, List, [], ◌∷◌, ◌++◌, length, get_or, drop, Some, None, Result, append_assoc, refl}
use Rattle.std.proofs.Common.{ap, ap₂, sym, subst}
use Rattle.std.specs.Prelude.{MatchResult}
use Rattle.std.proofs.lemmas.List.{drop_more, drop_all, append-nil}
use Rattle.base_numbers.specs.Rational.{ℚ, ◌+ℚ◌, ◌*ℚ◌}
use Rattle.base_numbers.specs.Vector.{add_vec, scale_vec}
use Rattle.base_fractions.specs.Fits.{Fits, long_limit}
use Rattle.base_fractions.specs.declared.wide.Op.TheVariants.{Add, Mul}
use Rattle.base_fractions.specs.declared.wide.Wide.{Wide}
use Rattle.base_fractions.specs.Operation.{Operation, first_wide, operation_of}
use Rattle.flow_systems.specs.Sums.{SumAnswers}
use Rattle.flow_systems.proofs.Widths.{first_wide_later, first_wide_sooner, one_answer}
use Rattle.theory_validity.specs.Words.{moved}
use Rattle.solve_raise.specs.Numbers.{entry_operations, entries_operations}
use Rattle.solve_raise.proofs.number.Widths.{then, stops}

-- one entry
pub product_wide : (t x d : ℚ) (w : Wide ℚ) → ¬ (Fits long_limit (t *ℚ d)) → w ≡ record { op = Mul; left = t; right = d }
    → first_wide long_limit (entry_operations t x d) ≡ Some (operation_of (λ (q : ℚ). q) w)
product_wide t x d w n e = stops (record { op = Mul; left = t; right = d }) (record { op = Add; left = x; right = t *ℚ d } ∷ []) w n
    (ap (operation_of (λ (q : ℚ). q)) e)

-- the entry moved along a direction is answered, or its sum is wide
pub entry_answer : (t x d p : ℚ) (res : Result ℚ (Wide ℚ)) → p ≡ t *ℚ d → Fits long_limit p →
    MatchResult res (λ r. (r ≡ x +ℚ p) × Fits long_limit r) (λ e. (¬ (Fits long_limit (x +ℚ p)))
    × (e ≡ record { op = Add; left = x; right = p })) →
    SumAnswers (x +ℚ (t *ℚ d)) (entry_operations t x d) res
entry_answer t x d p res e h m =
    then (record { op = Mul; left = t; right = d }) (record { op = Add; left = x; right = t *ℚ d } ∷ []) (x +ℚ (t *ℚ d)) res
    (subst (Fits long_limit) e h)
    (subst (λ y. SumAnswers (x +ℚ y) (record { op = Add; left = x; right = y } ∷ []) res) e (one_answer Add x p res m))

-- as far as the first i entries are moved: what is left of entries and operations
pub record IsMoved (t : ℚ) (xs ds : List ℚ) (i : ℕ) (done : List ℚ) : Type 0 where
  -- the whole moved trace is the entries done, and then those left
  pub value : moved xs t ds ≡ done ++ moved (drop i xs) t (drop i ds)
  -- the first wide operation of all entries is that of the entries left
  pub first : first_wide long_limit (entries_operations t xs ds) ≡ first_wide long_limit (entries_operations t (drop i xs) (drop i ds))

-- before the first entry nothing is moved
pub moved_none : (t : ℚ) (xs ds : List ℚ) → IsMoved t xs ds 0 []
moved_none t xs ds = record { value = refl; first = refl }

module _ (t : ℚ) (xs ds : List ℚ) (i : ℕ) (done : List ℚ) (h : IsMoved t xs ds i done) (l : i < length xs) (k : i < length ds) (x d : ℚ)
    (e : x ≡ get_or xs i x) (f : d ≡ get_or ds i d) where
  xs_left : drop i xs ≡ x ∷ drop (i + 1) xs
  xs_left = drop_more xs i x l ∙ ap (λ y. y ∷ drop (i + 1) xs) (sym e)

  ds_left : drop i ds ≡ d ∷ drop (i + 1) ds
  ds_left = drop_more ds i d k ∙ ap (λ y. y ∷ drop (i + 1) ds) (sym f)

  left : entries_operations t (drop i xs) (drop i ds) ≡ entry_operations t x d ++ entries_operations t (drop (i + 1) xs) (drop (i + 1) ds)
  left = ap₂ (λ ys es. entries_operations t ys es) xs_left ds_left

  -- one more entry
  pub moved_more : (next : ℚ) → next ≡ x +ℚ (t *ℚ d) → first_wide long_limit (entry_operations t x d) ≡ None
      → IsMoved t xs ds (i + 1) (done ++ next ∷ [])
  unfolding moved add_vec scale_vec
  moved_more next g n = record {
    value = h.value ∙ ap₂ (λ ys es. done ++ moved ys t es) xs_left ds_left
        ∙ ap (λ y. done ++ y ∷ moved (drop (i + 1) xs) t (drop (i + 1) ds)) (sym g)
        ∙ sym (append_assoc done (next ∷ []) (moved (drop (i + 1) xs) t (drop (i + 1) ds)));
    first = h.first ∙ ap (first_wide long_limit) left ∙ first_wide_later long_limit (entry_operations t x d)
        (entries_operations t (drop (i + 1) xs) (drop (i + 1) ds)) n;
  }

  -- one that is wide
  pub moved_wide : (o : Operation) → first_wide long_limit (entry_operations t x d) ≡ Some o
      → first_wide long_limit (entries_operations t xs ds) ≡ Some o
  moved_wide o w = h.first ∙ ap (first_wide long_limit) left ∙ first_wide_sooner long_limit (entry_operations t x d)
      (entries_operations t (drop (i + 1) xs) (drop (i + 1) ds)) o w

-- all entries
pub moved_all : (t : ℚ) (xs ds : List ℚ) (i : ℕ) (done : List ℚ) → length xs ≤ i → length ds ≤ i → IsMoved t xs ds i done
    → (done ≡ moved xs t ds) × (first_wide long_limit (entries_operations t xs ds) ≡ None)
unfolding moved add_vec scale_vec
moved_all t xs ds i done l k h =
    let a = drop_all i xs l in
    let b = drop_all i ds k in (
      sym (h.value ∙ ap₂ (λ ys es. done ++ moved ys t es) a b ∙ append-nil done),
      h.first ∙ ap₂ (λ ys es. first_wide long_limit (entries_operations t ys es)) a b,
    )
