-- Entries of directions, and the unknowns that have a rate above 0.
use Rattle.std.proofs.Common.{◌≡◌, ◌∙◌, ℕ, zero, suc, ◌+◌, ◌<◌, Bool, true, false, true≢false, T, cond, List, [], ◌∷◌, ◌++◌, length, get_or}
use Rattle.std.proofs.Common.{map, Some, None, Ok, Err, ⊎_elim, refl, ap, ap₂, sym, subst₂, arith}
use Rattle.std.specs.Prelude.{flat_map}
use Rattle.std.specs.List.{filter}
use Rattle.std.specs.Ordering.{partial_le, as_partial_cmp}
use Rattle.std.proofs.lemmas.List.{append-nil}
use Rattle.base_numbers.specs.Rational.{ℚ, zero_ℚ, ◌-ℚ◌, lt_ℚ, ◌<ℚ◌}
use Rattle.base_numbers.specs.Compare.{cmp_ℚ}
use Rattle.base_numbers.proofs.rational.Laws.{le_or_lt, not_le_of_lt}
use Rattle.base_fractions.specs.Fits.{Fits, long_limit}
use Rattle.base_fractions.specs.declared.wide.Op.TheVariants.{Sub}
use Rattle.base_fractions.specs.declared.wide.Wide.{Wide}
use Rattle.base_fractions.specs.Operation.{Operation, first_wide, operation_of}
use Rattle.flow_systems.proofs.fit_tests.Tested.{test_le}
use Rattle.flow_systems.proofs.Widths.{one_answer, first_wide_later, first_wide_sooner}
use Rattle.solve_ray.specs.declared.layout.Rise.{Rise}
use Rattle.solve_ray.specs.declared.rate.RateOf.{RateOf}
use Rattle.solve_ray.specs.Ranges.{AllSplit, IsWithin, AreWithin}
use Rattle.solve_ray.specs.Reading.{at_column, difference, differences, subtraction, subtractions, is_named, rate_of, named_rates}
use Rattle.solve_ray.specs.Reading.{direction_operations, named_operations}
use Rattle.solve_ray.proofs.answers.Gathered.{Adds}

-- what stands in a layout is within the width
pub split_at : (width : ℕ) (cols : List ℕ) (i : ℕ) → AllSplit width cols → i < length cols → get_or cols i 0 + 1 < width
split_at width [] i h l = absurd (omega (arith, l))
split_at width (c ∷ cols) zero h l = h.0
split_at width (c ∷ cols) (suc i) h l = split_at width cols i h.1 (omega (arith, l))

-- an unknown that is read from a list within a width is within it
pub within_at : (width : ℕ) (rises : List Rise) (i : ℕ) (x : Rise) → AreWithin width rises → i < length rises
    → IsWithin width (get_or rises i x)
within_at width [] i x h l = absurd (omega (arith, l))
within_at width (r ∷ rises) zero x h l = h.0
within_at width (r ∷ rises) (suc i) x h l = within_at width rises i x h.1 (omega (arith, l))

-- an entry is the difference, or that is wide
pub entry_read : (ray : List ℚ) (col : ℕ) (p q v : ℚ) → p ≡ at_column ray col → q ≡ at_column ray (col + 1)
    → (v ≡ p -ℚ q) × Fits long_limit v →
    (v ≡ difference ray col) × (first_wide long_limit (subtraction ray col ∷ []) ≡ None)
entry_read ray col p q v e f h = subst₂ (λ a b. (v ≡ a -ℚ b) × (first_wide long_limit (record { op = Sub; left = a; right = b } ∷ [])
    ≡ None)) e f (one_answer Sub p q (Ok v) h)

-- a difference that does not fit is the entry's wide operation
pub entry_wide : (ray : List ℚ) (col : ℕ) (p q : ℚ) (w : Wide ℚ) → p ≡ at_column ray col → q ≡ at_column ray (col + 1)
    → (¬ (Fits long_limit (p -ℚ q))) × (w ≡ record { op = Sub; left = p; right = q }) →
    first_wide long_limit (subtraction ray col ∷ []) ≡ Some (operation_of (λ y. y) w)
entry_wide ray col p q w e f h = subst₂ (λ a b. first_wide long_limit (record { op = Sub; left = a; right = b } ∷ [])
    ≡ Some (operation_of (λ y. y) w)) e f (one_answer Sub p q (Err w) h)

-- an entry of a direction adds its difference and its subtraction
pub adds_entry : (ray : List ℚ) (col : ℕ) (v : ℚ) → v ≡ difference ray col
    → Adds (differences ray) (subtractions ray) col (v ∷ []) (subtraction ray col ∷ [])
adds_entry ray col v e = record { value = λ rest. ap (λ y. y ∷ differences ray rest) (sym e); operation = λ rest. refl }

-- whether a rate is above 0, by the test of the code
module _ (ray : List ℚ) (rise : Rise) (rate z : ℚ) (r : Bool) (e : rate ≡ at_column ray rise.col) (k : z ≡ zero_ℚ)
    (t : r ≡ partial_le (as_partial_cmp cmp_ℚ) rate z) where
  truth : (b : Bool) → T b → b ≡ true
  truth true h = refl
  truth false h = absurd h

  untruth : (b : Bool) → b ≡ true → T b
  untruth true h = tt
  untruth false h = absurd (true≢false (sym h))

  above : z <ℚ rate → is_named ray rise ≡ true
  above h = ap₂ (λ a b. lt_ℚ a b) (sym k) (sym e) ∙ truth (lt_ℚ z rate) h.lt

  -- an unknown without a rate above zero is not named
  pub is_left_out : r ≡ true → is_named ray rise ≡ false
  is_left_out y = by (lt_ℚ z rate) refl
    where
      by : (b : Bool) → lt_ℚ z rate ≡ b → is_named ray rise ≡ false
      by true f = absurd (not_le_of_lt (let h : z <ℚ rate = record { lt = untruth (lt_ℚ z rate) f } in h) ((test_le rate z r t).0 y))
      by false f = ap₂ (λ a b. lt_ℚ a b) (sym k) (sym e) ∙ f

  -- an unknown with a rate above zero is named
  pub is_taken : r ≡ false → is_named ray rise ≡ true
  is_taken n = ⊎_elim (λ h. absurd (true≢false (sym ((test_le rate z r t).1 h) ∙ n))) above (le_or_lt rate z)

-- one unknown that is left out, and one that is named
module _ (ray : List ℚ) (rise : Rise) where
  -- an unknown that is not named adds no rate and no operation
  pub left_out : is_named ray rise ≡ false → (named_rates ray (rise ∷ []) ≡ []) × (named_operations ray (rise ∷ []) ≡ [])
  left_out e = (
    ap (λ b. map (rate_of ray) (cond b (rise ∷ []) [])) e,
    ap (λ b. flat_map (direction_operations ray) (cond b (rise ∷ []) [])) e,
  )

  -- a named unknown adds its rate
  named_value : is_named ray rise ≡ true → named_rates ray (rise ∷ []) ≡ rate_of ray rise ∷ []
  named_value e = ap (λ b. map (rate_of ray) (cond b (rise ∷ []) [])) e

  -- the first wide operation of a named unknown is that of its direction
  named_first : is_named ray rise ≡ true → first_wide long_limit (named_operations ray (rise ∷ []))
      ≡ first_wide long_limit (direction_operations ray rise)
  named_first e = ap (λ b. first_wide long_limit (flat_map (direction_operations ray) (cond b (rise ∷ []) []))) e
      ∙ ap (first_wide long_limit) (append-nil (direction_operations ray rise))

  -- the start values and then the free values
  pub start_wide : is_named ray rise ≡ true → (o : Operation) → first_wide long_limit (subtractions ray rise.starts) ≡ Some o
      → first_wide long_limit (named_operations ray (rise ∷ [])) ≡ Some o
  start_wide e o h = named_first e ∙ first_wide_sooner long_limit (subtractions ray rise.starts) (subtractions ray rise.frees) o h

  -- where the entries at the start fit, the first wide operation is that of the free values
  pub start_fits : is_named ray rise ≡ true → first_wide long_limit (subtractions ray rise.starts) ≡ None
      → first_wide long_limit (named_operations ray (rise ∷ [])) ≡ first_wide long_limit (subtractions ray rise.frees)
  start_fits e h = named_first e ∙ first_wide_later long_limit (subtractions ray rise.starts) (subtractions ray rise.frees) h

  -- the rate and the entries that are read of a named unknown are its rate
  pub rate_read : (rate : ℚ) (start free : List ℚ) → rate ≡ at_column ray rise.col → start ≡ differences ray rise.starts
      → free ≡ differences ray rise.frees → is_named ray rise ≡ true →
      record { unknown = rise.unknown; rate = rate; direction = record { start = start; free = free } } ∷ [] ≡ named_rates ray (rise ∷ [])
  rate_read rate start free e s f n =
      let P : ℚ → List ℚ → List ℚ → List RateOf = λ q a b. record {
        unknown = rise.unknown;
        rate = q;
        direction =
            record { start = a; free = b };
      } ∷ [] in
      ap (λ q. P q start free) e ∙ ap₂ (λ a b. P (at_column ray rise.col) a b) s f ∙ sym (named_value n)

  -- an unknown adds its rates and their operations
  pub adds_rate : Adds (named_rates ray) (named_operations ray) rise (named_rates ray (rise ∷ [])) (named_operations ray (rise ∷ []))
  adds_rate = record { value = λ rest. by_value (is_named ray rise) rest; operation = λ rest. by_operation (is_named ray rise) rest }
    where
      by_value : (b : Bool) (rest : List Rise) → map (rate_of ray) (cond b (rise ∷ filter (is_named ray) rest) (filter (is_named ray) rest))
          ≡ map (rate_of ray) (cond b (rise ∷ []) []) ++ map (rate_of ray) (filter (is_named ray) rest)
      by_value true rest = refl
      by_value false rest = refl

      by_operation : (b : Bool) (rest : List Rise) → flat_map (direction_operations ray)
          (cond b (rise ∷ filter (is_named ray) rest) (filter (is_named ray) rest))
          ≡ flat_map (direction_operations ray) (cond b (rise ∷ []) []) ++ flat_map (direction_operations ray) (filter (is_named ray) rest)
      by_operation true rest = ap (λ os. os ++ flat_map (direction_operations ray) (filter (is_named ray) rest))
          (sym (append-nil (direction_operations ray rise)))
      by_operation false rest = refl
