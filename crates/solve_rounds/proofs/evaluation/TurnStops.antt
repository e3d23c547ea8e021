-- Why a turn stops, as a turn that comes up stops.
use Rattle.std.proofs.Common.{◌≡◌, ◌∙◌, ℕ, suc, ◌+◌, ◌*◌, List, [], ◌∷◌, length, refl, sym, ap₂, subst, arith}
use Rattle.std.specs.Prelude.{Option}
use Rattle.std.proofs.lemmas.Nat.{div-add-mod'}
use Rattle.base_numbers.specs.Extended.{Ext as Extended}
use Rattle.flow_systems.specs.Equations.{Vector}
use Rattle.flow_systems.specs.declared.system.System.{System}
use Rattle.flow_systems.specs.declared.spot.PartFault.TheVariants.{Wide as WideIn}
use Rattle.theory_validity.specs.Steps.{Item}
use Rattle.cert_types.specs.declared.step.Step.{Step as CodeStep}
use Rattle.solve_joint.specs.Joints.{IsJointFault}
use Rattle.solve_rounds.specs.declared.halt.RoundStop.{RoundStop}
use Rattle.solve_rounds.specs.declared.halt.RoundStop.TheVariants.{Wide, Large, NoMemory}
use Rattle.solve_offers.specs.AtBounds.{vector_at}
use Rattle.solve_rounds.specs.Lows.{AreRaised, items_at}
use Rattle.solve_rounds.specs.Round.{numbers_of, IsTurnStop}
use Rattle.solve_rounds.specs.Turning.{IsJoinedStop, IsLarge}
use Rattle.solve_rounds.proofs.lows.ListedLows.{raised_item}

-- the numbers of a list's items are the list
pub numbers_back : (rows : ℕ) (raises : List CodeStep) (places list : List ℕ) → AreRaised raises places list
    → numbers_of rows (items_at rows raises places list) ≡ list
numbers_back rows raises places [] h = refl
numbers_back rows raises places (u ∷ list) h =
    let p = raised_item rows raises places u (h 0 (omega arith)) in
    ap₂ (λ x xs. x ∷ xs) (ap₂ (λ a b. a * rows + b) p.0 p.1 ∙ div-add-mod' u rows)
    (numbers_back rows raises places list (λ k l. h (suc k) (omega arith)))

-- where the joint problem of a list stops at bounds and its turn comes up there, that turn stops
pub joined_stop : (system : System) (pick : List (Option ℕ)) (raises : List CodeStep) (places list : List ℕ) (bounds : List Extended)
    (number round : ℕ) (comes : ℕ → Vector → List Item → Type 0) → length bounds ≡ length system.flow.points * length system.template
    → AreRaised raises places list →
    comes number (vector_at system bounds) (items_at (length system.template) raises places list) → (stop : RoundStop)
    → IsJoinedStop system pick bounds list number round stop → IsTurnStop system pick comes round stop
joined_stop system pick raises places list bounds number round comes size raised turn (Wide spot) h = record {
  round_is = h.round;
  number = number;
  bounds = bounds;
  size = size;
  list = items_at (length system.template) raises places list;
  turn = turn;
  part = h.part;
  site = h.site;
  wide = subst (λ ns. IsJointFault system pick bounds ns (WideIn h.part spot.wide))
      (sym (numbers_back (length system.template) raises places list raised)) h.wide;
}
joined_stop system pick raises places list bounds number round comes size raised turn (Large cells) h = record {
  number = number;
  bounds = bounds;
  size = size;
  list = items_at (length system.template) raises places list;
  turn = turn;
  large = subst (λ ns. IsLarge system pick ns cells) (sym (numbers_back (length system.template) raises places list raised)) h;
}
joined_stop system pick raises places list bounds number round comes size raised turn NoMemory h = tt

-- where a turn that comes up stops, it does so as one of more turns
pub turn_stop_more : (system : System) (pick : List (Option ℕ)) (comes more : ℕ → Vector → List Item → Type 0) (round : ℕ)
    → ((number : ℕ) (vector : Vector) (list : List Item) → comes number vector list → more number vector list) → (stop : RoundStop)
    → IsTurnStop system pick comes round stop → IsTurnStop system pick more round stop
turn_stop_more system pick comes more round within (Wide spot) h = record {
  round_is = h.round_is;
  number = h.number;
  bounds = h.bounds;
  size = h.size;
  list = h.list;
  turn = within h.number (vector_at system h.bounds) h.list h.turn;
  part = h.part;
  site = h.site;
  wide = h.wide;
}
turn_stop_more system pick comes more round within (Large cells) h = record {
  number = h.number;
  bounds = h.bounds;
  size = h.size;
  list = h.list;
  turn = within h.number (vector_at system h.bounds) h.list h.turn;
  large = h.large;
}
turn_stop_more system pick comes more round within NoMemory h = tt
