-- A turn that comes up meets the list condition, at a vector between those after the growth and after the round.
use Rattle.std.proofs.Common.{⊎_elim, ℕ, List, [], ◌∷◌, subst}
use Rattle.base_numbers.specs.Rational.{ℚ}
use Rattle.std.specs.Prelude.{Bool}
use Rattle.base_numbers.specs.Extended.{◌≤ᴱ◌}
use Rattle.flow_systems.specs.Equations.{Equations, Vector}
use Rattle.theory_validity.specs.Steps.{Below, Item}
use Rattle.theory_validity.specs.Certificates.{after_steps}
use Rattle.theory_transformers.specs.EdgeProblems.{transformer}
use Rattle.theory_strategy.specs.Picks.{Pick, Transformer, IsPick, Supported, Closed}
use Rattle.theory_strategy.specs.Growth.{Evident}
use Rattle.theory_strategy.specs.Turns.{AreWaiting, PartsAreWaiting}
use Rattle.theory_strategy.proofs.round.PartLaw.{waiting_condition, leaves_waiting, leaves_done}
use Rattle.theory_strategy.proofs.round.CutLaw.{leaves_below, first_waiting, later_waiting}
use Rattle.theory_strategy.proofs.round.WholeCut.{cuts_waiting}
use Rattle.theory_rounds.specs.Evidence.{exact_evidence}
use Rattle.theory_rounds.specs.Agreement.{HaveRows}
use Rattle.theory_rounds.specs.ComingTurns.{ComesInPart, ComesUp}
use Rattle.theory_rounds.specs.Cut.{exact_cut}
use Rattle.theory_rounds.specs.Rounds.{exact_grown}
use Rattle.theory_rounds.specs.RoundLaws.{TurnComes}
use Rattle.theory_rounds.proofs.rounds.ExactRound.{exact_sizes, exact_cuts, exact_round_is}
use Rattle.theory_rounds.proofs.turns.FactsAgree.{waiting_agrees}

module _ (system : Equations) (pick : Pick) (is_pick : IsPick system pick) (z : Vector) where
  abbrev T : Transformer
  T = transformer system

  abbrev reaches : Evident system (transformer system)
  reaches = exact_evidence system

  -- unknowns that wait for their turn stand at rows of the template
  pub waiting_rows : (b : Vector) (list : List Item) → AreWaiting system pick z b list → HaveRows system list
  waiting_rows b list w u m = (is_pick u (w.listed u m).picked).row_within

  -- ---- in a part
  -- the unknowns of a turn that comes up wait for it
  pub comes_in_waiting : (b : Vector) (list : List Item) (number : ℕ) (v : Vector) (left : List Item) → AreWaiting system pick z b list
      → ComesInPart system b list number v left → AreWaiting system pick z v left
  comes_in_waiting b list number v left w h =
      let c = leaves_waiting system T reaches pick is_pick z h.made b list left w h.leaves in
      waiting_agrees system pick z (after_steps h.made b) v left h.agrees (waiting_rows (after_steps h.made b) left c) c

  comes_in_below : (b q : Vector) (list : List Item) (number : ℕ) (v : Vector) (left : List Item) → AreWaiting system pick z b list
      → ComesInPart system b list number v left → Closed system T q pick → Below system b q → Below system v q
  comes_in_below b q list number v left w h closed below p r l =
      subst (λ x. x ≤ᴱ q p r) (h.agrees p r l)
      (leaves_below system T reaches pick is_pick z h.made b q list left w h.leaves closed below p r l)

  -- ---- in parts
  -- the unknowns of a turn that comes up wait for it
  pub comes_waiting : (lists : List (List Item)) (b : Vector) (number : ℕ) (v : Vector) (left : List Item)
      → PartsAreWaiting system pick z b lists → ComesUp system b lists number v left → AreWaiting system pick z v left
  comes_waiting [] b number v left w h = absurd h
  comes_waiting (list ∷ lists) b number v left w h =
      let mine = first_waiting system T reaches pick is_pick z b list lists w in
      ⊎_elim
      (λ k. comes_in_waiting b list number v left mine k)
      (λ k. comes_waiting lists (after_steps k.0 b) k.2.0 v left
      (later_waiting system T reaches pick is_pick z b list lists k.0 w (leaves_done system T reaches pick is_pick z k.0 b list mine k.1))
      k.2.2)
      h

  -- and its vector is at most every closed one that is at least the first
  pub comes_below : (lists : List (List Item)) (b q : Vector) (number : ℕ) (v : Vector) (left : List Item)
      → PartsAreWaiting system pick z b lists → ComesUp system b lists number v left → Closed system T q pick → Below system b q
      → Below system v q
  comes_below [] b q number v left w h closed below = absurd h
  comes_below (list ∷ lists) b q number v left w h closed below =
      let mine = first_waiting system T reaches pick is_pick z b list lists w in
      ⊎_elim
      (λ k. comes_in_below b q list number v left mine k closed below)
      (λ k. comes_below lists (after_steps k.0 b) q k.2.0 v left
      (later_waiting system T reaches pick is_pick z b list lists k.0 w (leaves_done system T reaches pick is_pick z k.0 b list mine k.1))
      k.2.2 closed (leaves_below system T reaches pick is_pick z k.0 b q list [] mine k.1 closed below))
      h

-- the unknowns of a round's parts wait for their turns after the growth
pub round_waiting : (fitting : ℚ → Bool) (system : Equations) (d : Vector) (pick : Pick) → Supported system (transformer system) d pick
    → PartsAreWaiting system pick (exact_grown fitting system d pick) (exact_grown fitting system d pick) (exact_cut fitting system d pick)
round_waiting fitting system d pick supported =
    cuts_waiting fitting system (transformer system) (exact_evidence system) (exact_sizes system) d pick (exact_cut fitting system d pick)
    supported (exact_cuts fitting system d pick supported.is_pick)

-- a turn that comes up in a round
pub turn_comes : (fitting : ℚ → Bool) (system : Equations) (d : Vector) (pick : Pick) → Supported system (transformer system) d pick
    → (number : ℕ) (v : Vector) (list : List Item)
    → ComesUp system (exact_grown fitting system d pick) (exact_cut fitting system d pick) number v list
    → TurnComes fitting system d pick v list
turn_comes fitting system d pick supported number v list h =
    let z = exact_grown fitting system d pick in
    let waits = round_waiting fitting system d pick supported in
    let w = comes_waiting system pick supported.is_pick z (exact_cut fitting system d pick) z number v list waits h in
    let done = exact_round_is fitting system d pick supported in
    record {
      condition = waiting_condition system (transformer system) (exact_evidence system) pick supported.is_pick z v list w;
      over = w.over;
      under = comes_below system pick supported.is_pick z (exact_cut fitting system d pick) z _ number v list waits h done.above.closed
          done.turns;
    }
