-- A turn changes the bounds of its list alone, and leaves unknowns of its list alone.
use Rattle.std.proofs.Common.{◌∙◌, ℕ, ◌<◌, List, length, get_or, map, sym, ap, subst}
use Rattle.std.proofs.lemmas.List.{length-map}
use Rattle.base_facts.specs.Elements.{In}
use Rattle.base_numbers.specs.Rational.{zero_ℚ}
use Rattle.base_numbers.specs.Extended.{neg_inf, fin, pos_inf}
use Rattle.cert_types.specs.declared.step.Step.{Step as CodeStep}
use Rattle.solve_ray.specs.declared.rate.RateOf.{RateOf}
use Rattle.solve_joint.specs.declared.joined.Joined.{Joined}
use Rattle.solve_joint.specs.declared.joined.Joined.TheVariants.{Point, Ray}
use Rattle.solve_offers.specs.Known.{KeepsOthers}
use Rattle.solve_rounds.specs.declared.turning.Turning.{Turning}
use Rattle.solve_rounds.specs.Lows.{no_trace}
use Rattle.solve_rounds.specs.Turning.{HasSizes, IsTaken, is_finite}
use Rattle.solve_rounds.proofs.putting.Puts.{puts-other}
use Rattle.solve_rounds.proofs.turning.TurnItems.{in_place, each_unknown}
use Rattle.solve_rounds.proofs.lows.LeftOver.{of_filter}

no_rate : RateOf
no_rate = record { unknown = 0; rate = zero_ℚ; direction = no_trace }

module _ (raises : List CodeStep) (places list : List ℕ) (old new : Turning) (left : List ℕ) where
  -- what isn't on the list keeps its bound
  pub taken_others : (j : Joined) → HasSizes list j → IsTaken raises places list j old new left → KeepsOthers list old.bounds new.bounds
  taken_others (Point to highs) sizes taken u out =
      ap (λ b. get_or b u neg_inf) taken.1
      ∙ puts-other (λ k. fin (get_or to k zero_ℚ)) list old.bounds (length list) u
      (λ k l e. out (subst (In list) e (in_place list 0 k l)))
  taken_others (Ray rates) sizes taken u out =
      let unknown : RateOf → ℕ = λ rate. rate.unknown in
      ap (λ b. get_or b u neg_inf) taken.1
      ∙ puts-other (λ k. pos_inf) (map unknown rates.list) old.bounds (length rates.list) u
      (λ k l e. out (subst (In list) e
      (each_unknown (In list) unknown rates.list no_rate list (λ i m. in_place list 0 i m) sizes k
      (subst (λ n. k < n) (sym (length-map rates.list unknown)) l))))

  -- what is left is on the list
  pub taken_among : (j : Joined) → IsTaken raises places list j old new left → (u : ℕ) → In left u → In list u
  taken_among (Point to highs) taken u m = absurd (subst (λ xs. In xs u) taken.2 m)
  taken_among (Ray rates) taken u m =
      of_filter (λ v. is_finite (get_or new.bounds v neg_inf)) list u (subst (λ xs. In xs u) taken.2 m)
