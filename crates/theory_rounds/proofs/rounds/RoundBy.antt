-- A round whose turns are made by any outcomes with their facts: valid steps to the one vector above the first, where the pick is tight.
use Rattle.std.proofs.Common.{◌∙◌, List, ◌++◌, refl, sym, ap, subst, subst₂}
use Rattle.std.specs.Prelude.{Bool}
use Rattle.base_numbers.specs.Rational.{ℚ}
use Rattle.base_numbers.specs.Extended.{neg_inf, ◌≤ᴱ◌, ◌<ᴱ◌}
use Rattle.flow_systems.specs.Equations.{Equations, Vector}
use Rattle.theory_validity.specs.Steps.{Step, edge_of, row_of}
use Rattle.theory_validity.specs.Certificates.{after_steps}
use Rattle.theory_transformers.specs.EdgeProblems.{transformer}
use Rattle.theory_strategy.specs.Picks.{Pick, IsPick, Supported}
use Rattle.theory_strategy.specs.Round.{turns, round_steps}
use Rattle.theory_strategy.specs.Turns.{AreTurnsOf}
use Rattle.theory_strategy.proofs.picks.Picks.{above_unique}
use Rattle.theory_strategy.proofs.growth.GrowthLaw.{led-append}
use Rattle.theory_strategy.proofs.round.RoundLaw.{RoundDone}
use Rattle.theory_strategy.proofs.round.WholeCut.{round_by, turns_by}
use Rattle.theory_rounds.specs.Evidence.{exact_evidence}
use Rattle.theory_rounds.specs.Agreement.{Agree}
use Rattle.theory_rounds.specs.JointItems.{exact_joint}
use Rattle.theory_rounds.specs.Cut.{exact_cut}
use Rattle.theory_rounds.specs.Rounds.{exact_grow, exact_grown, exact_round, exact_round_steps}
use Rattle.theory_rounds.specs.RoundSteps.{IsRoundBy}
use Rattle.theory_rounds.proofs.raises.ProblemsAgree.{transformer_agrees}
use Rattle.theory_rounds.proofs.joint_items.Joined.{exact_joined}
use Rattle.theory_rounds.proofs.joint_items.RoundAgrees.{cut_rows, grown_agrees}
use Rattle.theory_rounds.proofs.rounds.ExactRound.{exact_sizes, exact_cuts, exact_round_is}
use Rattle.theory_rounds.proofs.rounds.GrowthAgrees.{grow_agrees, cut_agrees}
use Rattle.theory_rounds.proofs.turns.FactsAgree.{turns_of_agree}

-- a pick that is supported at a vector is so at one that agrees
pub supported_agrees : (system : Equations) (z q : Vector) → Agree system z q → (pick : Pick) → Supported system (transformer system) z pick
    → Supported system (transformer system) q pick
supported_agrees system z q agree pick s = record {
  is_pick = s.is_pick;
  entry = λ r l. sym (agree 0 r l) ∙ s.entry r l;
  unpicked = λ p r later l e. sym (agree p r l) ∙ s.unpicked p r later l e;
  above = λ u p. subst (λ v. neg_inf <ᴱ v) (transformer_agrees system z q agree (edge_of system u) (row_of system u)) (s.above u p);
  rises = λ u p. subst₂ (λ a b. a ≤ᴱ b) (agree u.point u.row (s.is_pick u p).row_within)
      (transformer_agrees system z q agree (edge_of system u) (row_of system u)) (s.rises u p);
}

module _ (fitting : ℚ → Bool) (system : Equations) where
  -- what is known of the round
  pub round_by_is : (d : Vector) (pick : Pick) (steps : List Step) → Supported system (transformer system) d pick
      → IsRoundBy fitting system d pick steps →
      RoundDone system (transformer system) d (exact_grown fitting system d pick) pick (exact_grow fitting system d pick) steps
      (after_steps steps d)
  round_by_is d pick steps supported h =
      let grown = exact_grow fitting system d pick in
      subst₂ (λ s f. RoundDone system (transformer system) d (exact_grown fitting system d pick) pick grown s f) (sym h.same)
      (sym (led-append grown h.turns d) ∙ ap (λ s. after_steps s d) (sym h.same))
      (round_by fitting system (transformer system) (exact_evidence system) (exact_sizes system) d pick (exact_cut fitting system d pick)
      h.turns supported (exact_cuts fitting system d pick supported.is_pick) h.made)

  -- it leads to where the round by the exact joint problems leads
  pub round_by_same : (d : Vector) (pick : Pick) (steps : List Step) → Supported system (transformer system) d pick
      → IsRoundBy fitting system d pick steps → Agree system (after_steps steps d) (exact_round fitting system d pick)
  round_by_same d pick steps supported h p r l =
      above_unique system (transformer system) (exact_evidence system) d (after_steps steps d) (exact_round fitting system d pick) pick
      (round_by_is d pick steps supported h).above (exact_round_is fitting system d pick supported).above p r l

  -- and the steps of that are the steps of a round
  pub round_by_there : (d : Vector) (pick : Pick) → Supported system (transformer system) d pick
      → IsRoundBy fitting system d pick (exact_round_steps fitting system d pick)
  unfolding round_steps
  round_by_there d pick supported = record {
    turns = turns (exact_joint system pick) (exact_grown fitting system d pick) (exact_cut fitting system d pick);
    made = turns_by fitting system (transformer system) (exact_evidence system) (exact_sizes system) (exact_joint system)
        (exact_joined system) (exact_cut fitting system) (exact_cuts fitting system) d pick supported;
    same = refl;
  }

  -- from vectors that agree the same steps are those of a round
  pub round_by_agrees : (d e : Vector) (pick : Pick) (steps : List Step) → IsPick system pick → Agree system d e
      → IsRoundBy fitting system d pick steps → IsRoundBy fitting system e pick steps
  round_by_agrees d e pick steps is_pick agree h = record {
    turns = h.turns;
    made = turns_of_agree system (exact_cut fitting system e pick) (exact_grown fitting system d pick) (exact_grown fitting system e pick)
        h.turns (grown_agrees fitting system pick is_pick d e agree) (cut_rows fitting system pick is_pick d e agree)
        (subst (λ lists. AreTurnsOf system (transformer system) (exact_grown fitting system d pick) lists
        h.turns) (cut_agrees fitting system pick is_pick d e agree) h.made);
    same = h.same ∙ ap (λ s. s ++ h.turns) (grow_agrees fitting system pick is_pick d e agree);
  }
