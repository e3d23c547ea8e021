-- The steps of a round each have an item.
use Rattle.std.proofs.Common.{◌∙◌, inl, ⊎_elim, Bool, ◌<◌, List, [], ◌∷◌, length}
use Rattle.std.proofs.Common.{refl, sym, subst, arith}
use Rattle.base_facts.proofs.elements.Membership.{of_append}
use Rattle.base_facts.specs.Elements.{In}
use Rattle.base_numbers.specs.Rational.{ℚ}
use Rattle.flow_systems.specs.Equations.{Equations, Vector}
use Rattle.theory_validity.specs.Steps.{Item, Step, after_step}
use Rattle.theory_validity.specs.Certificates.{after_steps}
use Rattle.theory_transformers.specs.EdgeProblems.{transformer}
use Rattle.theory_strategy.specs.Picks.{Pick, Transformer, IsPick, choices}
use Rattle.theory_strategy.specs.Growth.{passes, growth, grow}
use Rattle.theory_strategy.specs.Round.{Outcome, Point, Rays, OutcomeFacts}
use Rattle.theory_strategy.specs.Turns.{step_by, left_by, Leaves, AreTurnsOf}
use Rattle.theory_strategy.proofs.growth.GrowthLaw.{Raises}
use Rattle.theory_strategy.proofs.growth.PassLaw.{passes_done, PassesDone}
use Rattle.theory_strategy.proofs.round.Choices.{choices_picked}
use Rattle.theory_rounds.specs.Evidence.{exact_evidence}
use Rattle.theory_rounds.specs.Cut.{exact_cut}
use Rattle.theory_rounds.specs.Rounds.{exact_grow, exact_grown}
use Rattle.theory_rounds.specs.RoundSteps.{IsRoundBy}
use Rattle.theory_rounds.proofs.rounds.ExactRound.{exact_sizes}

-- a step has an item
abbrev pub Filled : Step → Type 0
Filled step = (item : Item) × In step.items item

-- ---- growth
raises_filled : (system : Equations) (T : Transformer) (pick : Pick) (steps : List Step) (z : Vector) → Raises system T pick z steps
    → (s : Step) → In steps s → Filled s
raises_filled system T pick [] z h s m = absurd m
raises_filled system T pick (step ∷ steps) z h s m =
    ⊎_elim (λ e. subst Filled e (h.0.item, subst (λ l. In l h.0.item) (sym h.0.single) (inl refl)))
    (λ j. raises_filled system T pick steps (after_step step z) h.1 s j) m

module _ (fitting : ℚ → Bool) (system : Equations) (d : Vector) (pick : Pick) (is_pick : IsPick system pick) where
  done : PassesDone fitting system (transformer system) (exact_evidence system) (exact_sizes system) pick is_pick d (choices system pick)
      (passes fitting system (transformer system) (exact_evidence system) (length (choices system pick)) d (choices system pick))
  done = passes_done fitting system (transformer system) (exact_evidence system) (exact_sizes system) pick is_pick
      (length (choices system pick)) (choices system pick) d (omega arith) (choices_picked system pick)

  grow_filled : (s : Step) → In (exact_grow fitting system d pick) s → Filled s
  unfolding grow growth
  grow_filled = raises_filled system (transformer system) pick (passes fitting system (transformer system) (exact_evidence system)
      (length (choices system pick)) d (choices system pick)).steps d done.logged.raises

-- ---- turns
head_of : (list : List Item) → 0 < length list → (u : Item) × In list u
head_of [] l = absurd (omega arith)
head_of (u ∷ list) l = (u, inl refl)

-- the step of an outcome with its facts has an item
outcome_filled : (system : Equations) (b : Vector) (list : List Item) (o : Outcome) → OutcomeFacts system (transformer system) b list o
    → 0 < length list → Filled (step_by o)
unfolding step_by
outcome_filled system b list (Point items) facts l = let u = head_of list l in let c = facts.covers u.0 u.1 in (c.0, c.1)
outcome_filled system b list (Rays items) facts l = (facts.first, facts.some)

leaves_filled : (system : Equations) (steps : List Step) (b : Vector) (list left : List Item)
    → Leaves system (transformer system) b list steps left → (s : Step) → In steps s → Filled s
leaves_filled system [] b list left h s m = absurd m
leaves_filled system (step ∷ steps) b list left h s m =
    ⊎_elim (λ e. subst Filled (sym h.2 ∙ e) (outcome_filled system b list h.0 h.1 h.3))
    (λ j. leaves_filled system steps (after_step step b) (left_by h.0 list) left h.4 s j) m

turns_filled : (system : Equations) (lists : List (List Item)) (b : Vector) (steps : List Step)
    → AreTurnsOf system (transformer system) b lists steps → (s : Step) → In steps s → Filled s
turns_filled system [] b steps h s m = absurd (subst (λ l. In l s) h m)
turns_filled system (list ∷ lists) b steps h s m =
    ⊎_elim (λ j. leaves_filled system h.0 b list [] h.1 s j) (λ j. turns_filled system lists (after_steps h.0 b) h.2.0 h.2.1 s j)
    (of_append h.0 h.2.0 s (subst (λ l. In l s) h.2.2 m))

module _ (fitting : ℚ → Bool) (system : Equations) (d : Vector) (pick : Pick) (is_pick : IsPick system pick) where
  -- each step of a round has an item
  pub round_filled : (steps : List Step) → IsRoundBy fitting system d pick steps → (s : Step) → In steps s → Filled s
  round_filled steps h s m =
      ⊎_elim (λ j. grow_filled fitting system d pick is_pick s j)
      (λ j. turns_filled system (exact_cut fitting system d pick) (exact_grown fitting system d pick) h.turns h.made s j)
      (of_append (exact_grow fitting system d pick) h.turns s (subst (λ l. In l s) h.same m))
