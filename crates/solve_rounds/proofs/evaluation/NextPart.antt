-- The part that comes next, as the code reads it from the parts that it was given.
use Rattle.std.proofs.Common.{◌≡◌, ◌∙◌, ℕ, ◌+◌, ◌<◌, ◌≤◌, List, [], length, get_or, ap, sym, subst}
use Rattle.std.specs.Prelude.{Option}
use Rattle.solve_rounds.specs.declared.halt.RoundStop.{RoundStop}
use Rattle.flow_systems.specs.declared.system.System.{System}
use Rattle.cert_types.specs.declared.step.Step.{Step as CodeStep}
use Rattle.solve_joint.specs.PartLists.{EachRises, part_numbers}
use Rattle.solve_offers.specs.Known.{KeepsOthers}
use Rattle.solve_rounds.specs.declared.turning.Turning.{Turning}
use Rattle.solve_rounds.specs.Round.{IsTurnStop}
use Rattle.solve_rounds.specs.Turning.{IsPickAt, IsWaiting, IsPart, IsDone, ComesAfter, ComesAmong}
use Rattle.solve_rounds.proofs.growing.Kept.{system_size}
use Rattle.solve_rounds.proofs.evaluation.EachPart.{each_part, part_few, part_within}
use Rattle.solve_rounds.proofs.evaluation.Partings.{ArePartings, partings_more, next_waits, next_comes}
use Rattle.solve_rounds.proofs.evaluation.TurnStops.{turn_stop_more}
use Rattle.flow_systems.specs.declared.limits.TheConstants.{MOST_UNKNOWNS}

-- a list is the part of this number
pub record IsNumbered (system : System) (pick : List (Option ℕ)) (list : List ℕ) (number : ℕ) (p : List ℕ) : Type 0 where
  -- the part's number is that of a part of the list
  pub within : number < length (part_numbers system pick list)
  -- the part that is read is the one with this number
  pub is : p ≡ get_or (part_numbers system pick list) number []

-- so is the one that the code reads
pub numbered : (system : System) (pick : List (Option ℕ)) (list : List ℕ) {parts : List (List ℕ)} {number count : ℕ} {p : List ℕ}
    → parts ≡ part_numbers system pick list → count ≡ length parts → number < count → p ≡ get_or parts number [] →
    IsNumbered system pick list number p
numbered system pick list {parts} {number} {count} {p} same size l e = record {
  within = subst (λ ps. number < length ps) same (subst (λ n. number < n) size l);
  is = e ∙ ap (λ ps. get_or ps number []) same;
}

module _ (system : System) (pick : List (Option ℕ)) (raises : List CodeStep) (places list : List ℕ) {number : ℕ} {p : List ℕ}
    (n : IsNumbered system pick list number p) where
  -- it is a list of the same kind, with at most as many unknowns as there are
  module _ (whole : IsPart system pick raises places list) {parts : List (List ℕ)} (same : parts ≡ part_numbers system pick list)
      (rise : EachRises parts) where
    -- a numbered part is a part of the list's kind
    pub numbered_part : IsPart system pick raises places p
    numbered_part = subst (IsPart system pick raises places) (sym n.is)
        (each_part system pick raises places list whole (subst EachRises same rise) number n.within)

    -- a numbered part has at most the greatest number of unknowns
    pub numbered_few : length p ≤ MOST_UNKNOWNS
    numbered_few = subst (λ xs. length xs ≤ MOST_UNKNOWNS) (sym n.is) (part_few system pick raises places list whole (system_size system)
        (subst EachRises same rise) number n.within)

    -- after its turns
    pub numbered_more : (old now after : Turning) → IsPickAt system pick → ArePartings system pick raises places list old number now
        → IsDone system pick raises places p now after → KeepsOthers p now.bounds after.bounds
        → ArePartings system pick raises places list old (number + 1) after
    numbered_more old now after chosen h done others =
        partings_more system pick raises places list old number now after chosen n.within
        (each_part system pick raises places list whole (subst EachRises same rise))
        (part_few system pick raises places list whole (system_size system) (subst EachRises same rise) number n.within)
        (part_within system pick raises places list whole number n.within) h
        (subst (λ q. IsDone system pick raises places q now after) n.is done)
        (subst (λ q. KeepsOthers q now.bounds after.bounds) n.is others)

  -- its unknowns wait for their turn
  pub numbered_waits : (old now : Turning) → IsPickAt system pick → ArePartings system pick raises places list old number now
      → IsWaiting system pick raises places p now.bounds
  numbered_waits old now chosen h =
      subst (λ q. IsWaiting system pick raises places q now.bounds) (sym n.is)
      (next_waits system pick raises places list old number now chosen n.within h)

  -- a stop of one of its turns is one of the turns of all parts
  pub numbered_stop : (old now : Turning) (round : ℕ) (stop : RoundStop) → length old.steps.items ≡ 0
      → ArePartings system pick raises places list old number now
      → IsTurnStop system pick (ComesAfter system raises places p now) round stop →
      IsTurnStop system pick (ComesAmong system pick raises places list old.bounds) round stop
  numbered_stop old now round stop none h s =
      turn_stop_more system pick (ComesAfter system raises places (get_or (part_numbers system pick list) number []) now)
      (ComesAmong system pick raises places list old.bounds) round
      (next_comes system pick raises places list old number now none n.within h) stop
      (subst (λ q. IsTurnStop system pick (ComesAfter system raises places q now) round stop) n.is s)
