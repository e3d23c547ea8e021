-- The step of a ray's turn is that of the theory.
use Rattle.std.proofs.Common.{◌≡◌, ◌∙◌, ℕ, suc, ◌/◌, ◌%◌, Bool, true, false, cond, List, [], ◌∷◌, get_or, map, drop, refl, sym, ap, ap₂}
use Rattle.std.proofs.Common.{arith, if◌then◌else◌}
use Rattle.std.specs.List.{filter}
use Rattle.base_numbers.specs.Rational.{ℚ, zero_ℚ, lt_ℚ}
use Rattle.theory_validity.specs.Steps.{Item}
use Rattle.cert_types.specs.declared.step.Step.{Step as CodeStep}
use Rattle.cert_types.specs.Certificates.{pieces_of, ray_item}
use Rattle.solve_ray.specs.declared.layout.Rise.{Rise}
use Rattle.solve_ray.specs.Reading.{at_column, is_named, rate_of, named_rates}
use Rattle.theory_strategy.specs.Growth.{split, with_words}
use Rattle.solve_joint.specs.Joints.{word_of}
use Rattle.solve_joint.specs.Layouts.{trace_at}
use Rattle.theory_rounds.specs.JointItems.{listed_items, rate_items}
use Rattle.solve_rounds.specs.Lows.{edge_in, low_in, item_in, raise_at, AreRaised, items_at}
use Rattle.solve_rounds.specs.Turning.{ray_item_of}
use Rattle.solve_rounds.proofs.lows.ListedLows.{item_is, raised_item}
use Rattle.solve_rounds.proofs.lows.JumpTurn.{split_trace, words_by_parts, AllStart}

abbrev unknowns : List Rise → List ℕ
unknowns rises = map (λ (rise : Rise). rise.unknown) rises

-- the items of the code's ray are those of the rates above 0
pub rate_is : (rows n : ℕ) (rate : ℕ → ℕ → ℚ) (ray : List ℚ) (raises : List CodeStep) (places : List ℕ) (rises : List Rise)
    → AreRaised raises places (unknowns rises) → AllStart n (map (trace_at ray) rises) →
    map (λ v. rate v.point v.row) (listed_items (items_at rows raises places (unknowns rises)))
    ≡ map (λ (rise : Rise). at_column ray rise.col) rises →
    map (ray_item rows) (map (ray_item_of raises places) (named_rates ray rises))
    ≡ rate_items n rate (items_at rows raises places (unknowns rises)) (map word_of (map (trace_at ray) rises))
unfolding rate_items listed_items
rate_is rows n rate ray raises places [] h s e = refl
rate_is rows n rate ray raises places (rise ∷ rises) h s e =
    by (lt_ℚ zero_ℚ (at_column ray rise.col)) (rate_is rows n rate ray raises places rises (λ k l. h (suc k) (omega arith)) s.1
    (ap (drop 1) e))
    ∙ sym (ap (λ q. if lt_ℚ zero_ℚ q then with_words item item.low (split n (word_of (trace_at ray rise))) (rate item.point item.row)
    ∷ rest else rest) first)
  where
    item : Item
    item = item_in rows (raise_at raises places rise.unknown)

    rest : List Item
    rest = rate_items n rate (items_at rows raises places (unknowns rises)) (map word_of (map (trace_at ray) rises))

    first : rate item.point item.row ≡ at_column ray rise.col
    first = ap (λ xs. get_or xs 0 zero_ℚ) e

    here : ray_item rows (ray_item_of raises places (rate_of ray rise))
        ≡ with_words item item.low (split n (word_of (trace_at ray rise))) (rate item.point item.row)
    here =
        let step = raise_at raises places rise.unknown in
        let raised = h 0 (omega arith) in
        let i = item_is rows step raised.filled in
        let p = raised_item rows raises places rise.unknown raised in
        sym (words_by_parts item (rise.unknown / rows) (rise.unknown % rows) (edge_in step) (pieces_of (low_in step))
        (pieces_of (trace_at ray rise)) (split n (word_of (trace_at ray rise))) (at_column ray rise.col) (rate item.point item.row)
        p.0 p.1 i.edge i.low (split_trace n (trace_at ray rise) s.0) first)

    by : (b : Bool) → map (ray_item rows) (map (ray_item_of raises places) (named_rates ray rises)) ≡ rest →
        map (ray_item rows) (map (ray_item_of raises places) (map (rate_of ray)
        (cond b (rise ∷ filter (is_named ray) rises) (filter (is_named ray) rises))))
        ≡ (if b then with_words item item.low (split n (word_of (trace_at ray rise))) (rate item.point item.row) ∷ rest else rest)
    by true r = ap₂ (λ x xs. x ∷ xs) here r
    by false r = r
