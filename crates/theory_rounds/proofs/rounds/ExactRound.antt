-- Growth and round with the exact transformers, joint problems and parts.
use Rattle.std.proofs.Common.{Bool, List}
use Rattle.std.specs.Prelude.{ℤ}
use Rattle.base_numbers.specs.Rational.{ℚ}
use Rattle.flow_edges.specs.declared.edge.Edge.{Edge}
use Rattle.flow_systems.specs.Equations.{Equations, Vector}
use Rattle.theory_validity.specs.Steps.{Distinct}
use Rattle.theory_transformers.specs.EdgeProblems.{transformer}
use Rattle.theory_transformers.specs.Parts.{IsRising}
use Rattle.theory_strategy.specs.Picks.{Pick, IsPick, Supported}
use Rattle.theory_strategy.specs.Growth.{Sizes}
use Rattle.theory_strategy.proofs.growth.Grown.{Grown, grow_is}
use Rattle.theory_strategy.proofs.round.RoundLaw.{RoundDone}
use Rattle.theory_strategy.proofs.round.WholeCut.{Cuts, whole_cut, round_is}
use Rattle.theory_rounds.specs.Evidence.{exact_evidence}
use Rattle.theory_rounds.specs.JointItems.{exact_joint, listed_items}
use Rattle.theory_rounds.specs.Cut.{in_order, exact_cut}
use Rattle.theory_rounds.specs.Rounds.{exact_grow, exact_grown, exact_rising, exact_round_steps, exact_round}
use Rattle.theory_rounds.proofs.evidence.EvidenceWords.{evidence_sizes}
use Rattle.theory_rounds.proofs.joint_items.Joined.{exact_joined}
use Rattle.theory_rounds.proofs.cut.InOrder.{of_order, to_order, order_rises}
use Rattle.theory_rounds.proofs.cut.CutItems.{cut_admissible, cut_from, cut_all}

-- the words of exact evidence have a value for each column
pub exact_sizes : (system : Equations) (z : Vector) (edge : Edge) (row : List ℤ)
    → Sizes system z edge row (transformer system z edge row) (exact_evidence system z edge row)
exact_sizes system z edge row = evidence_sizes system z edge row

module _ (fitting : ℚ → Bool) (system : Equations) where
  -- the unknowns that the growth raised to fractions are distinct
  rising_apart : (d : Vector) (pick : Pick) → IsPick system pick → Distinct (exact_rising fitting system d pick)
  rising_apart d pick is_pick = (whole_cut fitting system (transformer system) (exact_evidence system) (exact_sizes system) d pick
      is_pick).admissible.0

  -- and in order they rise
  pub rising_ordered : (d : Vector) (pick : Pick) → IsPick system pick
      → IsRising (listed_items (in_order (exact_rising fitting system d pick)))
  rising_ordered d pick is_pick = order_rises (exact_rising fitting system d pick) (rising_apart d pick is_pick)

  -- the cut into parts is one of the unknowns that the growth raised to fractions
  pub exact_cuts : (d : Vector) (pick : Pick) → IsPick system pick → Cuts fitting system (transformer system) (exact_evidence system)
      (exact_sizes system) d pick (exact_cut fitting system d pick)
  unfolding exact_cut
  exact_cuts d pick is_pick =
      let items = in_order (exact_rising fitting system d pick) in
      let rises = rising_ordered d pick is_pick in
      record {
        admissible = cut_admissible system items rises;
        from = λ u m. of_order (exact_rising fitting system d pick) u (cut_from system items rises u m);
        all = λ u m. cut_all system items rises u (to_order (exact_rising fitting system d pick) u m);
      }

  -- the growth of a supported pick
  pub exact_grow_is : (d : Vector) (pick : Pick) → Supported system (transformer system) d pick
      → Grown system (transformer system) d pick (exact_grow fitting system d pick) (exact_grown fitting system d pick)
  exact_grow_is d pick supported = grow_is fitting system (transformer system) (exact_evidence system) (exact_sizes system) d pick supported

  -- the round by a supported pick
  pub exact_round_is : (d : Vector) (pick : Pick) → Supported system (transformer system) d pick →
      RoundDone system (transformer system) d (exact_grown fitting system d pick) pick (exact_grow fitting system d pick)
      (exact_round_steps fitting system d pick) (exact_round fitting system d pick)
  exact_round_is d pick supported =
      round_is fitting system (transformer system) (exact_evidence system) (exact_sizes system) (exact_joint system) (exact_joined system)
      (exact_cut fitting system) exact_cuts d pick supported
