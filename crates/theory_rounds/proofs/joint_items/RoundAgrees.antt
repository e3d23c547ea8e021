-- From vectors that agree at the template's rows a round makes the same steps, and leads to vectors that agree.
use Rattle.std.proofs.Common.{◌≡◌, ◌∙◌, inl, inr, ℕ, zero, suc, ◌+◌, ◌<◌, Bool, List, [], ◌∷◌, ◌++◌, length, refl, ap, subst}
use Rattle.base_facts.proofs.elements.Membership.{in_left, in_right}
use Rattle.base_facts.specs.Elements.{In}
use Rattle.base_numbers.specs.Rational.{ℚ, ◌-ℚ◌, neg_ℚ, one_ℚ}
use Rattle.base_numbers.specs.Vector.{scale_vec, zeros}
use Rattle.flow_systems.specs.Equations.{Equations, Vector}
use Rattle.theory_validity.specs.Words.{Word, guard_forms, end_form}
use Rattle.theory_validity.specs.Steps.{Item, Step, Ray, after_step}
use Rattle.theory_validity.specs.Certificates.{num, after_steps}
use Rattle.lp_theory.specs.Problem.{best, unbounded, empty, Outcome as ProblemOutcome}
use Rattle.lp_theory.specs.Simplex.{lp}
use Rattle.theory_transformers.specs.Limits.{limits_problem}
use Rattle.theory_transformers.specs.EdgeProblems.{source_limits, guard_limits}
use Rattle.theory_transformers.specs.JointProblems.{Listed, picked, own_row, columns_of, ones, split_list, on_rise, raise_by, rise_at}
use Rattle.theory_transformers.specs.JointProblems.{raised, own_limit, block_limits, joint_limits, word_columns, joint_problem, joint_words}
use Rattle.theory_strategy.specs.Picks.{Pick, IsPick}
use Rattle.theory_strategy.specs.Growth.{split, with_words}
use Rattle.theory_strategy.specs.Round.{Outcome, Point, Rays, without, turn, part, turns, members, round, round_steps}
use Rattle.theory_strategy.proofs.round.TurnLaw.{of_without}
use Rattle.theory_rounds.specs.Agreement.{Agree, HaveRows}
use Rattle.theory_rounds.specs.JointItems.{listed_items, point_items, outcome_items, exact_joint}
use Rattle.theory_rounds.specs.Cut.{exact_cut}
use Rattle.theory_rounds.specs.Rounds.{exact_grow, exact_grown, exact_round, exact_round_steps}
use Rattle.theory_rounds.proofs.rounds.ExactRound.{exact_cuts}
use Rattle.theory_rounds.proofs.raises.ProblemsAgree.{same_sources, after_agrees, led_agrees}
use Rattle.theory_rounds.proofs.rounds.GrowthAgrees.{grow_agrees, rising_rows, cut_agrees}
use Rattle.theory_rounds.proofs.joint_items.ListedItems.{of_listed}

module _ (system : Equations) (b c : Vector) (agree : Agree system b c) where
  own_agrees : (all : List Listed) (offset : ℕ) (u : Listed) → u.row < length system.template
      → own_limit system b all offset u ≡ own_limit system c all offset u
  unfolding own_limit
  own_agrees all offset u l =
      ap (λ v. record {
        coeffs = on_rise one_ℚ all u.point u.row ++ (zeros offset ++ split_list
            (scale_vec (neg_ℚ one_ℚ) (end_form system.variables (picked system u).actions (own_row system u)).coeffs));
        side = (end_form system.variables (picked system u).actions (own_row system u)).constant -ℚ num v;
      }) (agree u.point u.row l)

  block_agrees : (all : List Listed) (offset : ℕ) (u : Listed) → u.row < length system.template
      → block_limits system b all offset u ≡ block_limits system c all offset u
  unfolding block_limits
  block_agrees all offset u l =
      let guards = guard_limits (λ w. zeros (length all) ++ (zeros offset ++ split_list w))
      (guard_forms system.variables (picked system u).actions) in
      ap (λ s. s ++ (guards ++ (own_limit system b all offset u ∷ [])))
      (same_sources (λ r w. on_rise (neg_ℚ one_ℚ) all (picked system u).from r ++ (zeros offset ++ split_list w)) system.variables
      (b (picked system u).from) (c (picked system u).from) system.template
      (λ r k. agree (picked system u).from r k))
      ∙ ap (λ s. source_limits (λ r w. on_rise (neg_ℚ one_ℚ) all (picked system u).from r ++ (zeros offset ++ split_list w))
      system.variables (c (picked system u).from) system.template ++ (guards ++ (s ∷ [])))
      (own_agrees all offset u l)

  limits_agree : (all : List Listed) (offset : ℕ) (list : List Listed) → ((u : Listed) → In list u → u.row < length system.template)
      → joint_limits system b all offset list ≡ joint_limits system c all offset list
  unfolding joint_limits
  limits_agree all offset [] rows = refl
  limits_agree all offset (u ∷ list) rows =
      let next = offset + (columns_of system u + columns_of system u) in
      ap (λ s. s ++ joint_limits system b all next list) (block_agrees all offset u (rows u (inl refl)))
      ∙ ap (λ s. block_limits system c all offset u ++ s) (limits_agree all next list (λ v m. rows v (inr m)))

  -- the joint problem is the same
  joint_problem_agrees : (list : List Listed) → ((u : Listed) → In list u → u.row < length system.template)
      → joint_problem system b list ≡ joint_problem system c list
  unfolding joint_problem
  joint_problem_agrees list rows = ap (λ s. limits_problem (length list + word_columns system list) s (ones (length list)))
      (limits_agree list 0 list rows)

  point_agrees : (n : ℕ) (all : List Listed) (x : ℕ → ℚ) (list : List Item) (highs : List Word) → HaveRows system list
      → point_items n (raised all x b) list highs ≡ point_items n (raised all x c) list highs
  unfolding point_items raised
  point_agrees n all x [] highs rows = refl
  point_agrees n all x (u ∷ list) [] rows = refl
  point_agrees n all x (u ∷ list) (high ∷ highs) rows =
      ap (λ v. with_words u u.low (split n high) (num (raise_by v (rise_at all x u.point u.row)))
      ∷ point_items n (raised all x b) list highs) (agree u.point u.row (rows u (inl refl)))
      ∙ ap (λ s. with_words u u.low (split n high) (num (raise_by (c u.point u.row) (rise_at all x u.point u.row))) ∷ s)
      (point_agrees n all x list highs (λ v m. rows v (inr m)))

  items_agree : (list : List Item) (o : ProblemOutcome) → HaveRows system list
      → outcome_items system b list o ≡ outcome_items system c list o
  unfolding outcome_items
  items_agree list (best x v y) rows = ap Point (point_agrees system.variables (listed_items list) x list
      (joint_words system (listed_items list) x) rows)
  items_agree list (unbounded x d) rows = refl
  items_agree list (empty y) rows = refl

  -- and its turn
  pub joint_agrees : (pick : Pick) (list : List Item) → HaveRows system list
      → exact_joint system pick b list ≡ exact_joint system pick c list
  unfolding exact_joint
  joint_agrees pick list rows =
      items_agree list (lp (joint_problem system b (listed_items list))) rows
      ∙ ap (λ P. outcome_items system c list (lp P)) (joint_problem_agrees (listed_items list)
      (λ u m. let i = of_listed list u m in subst (λ (s : Listed). s.row < length system.template) i.2 (rows i.0 i.1)))

module _ (system : Equations) (pick : Pick) where
  abbrev joint : Vector → List Item → Outcome
  joint = exact_joint system pick

  -- the turns of a part
  pub part_agrees : (n : ℕ) (b c : Vector) (list : List Item) → Agree system b c → HaveRows system list
      → part joint n b list ≡ part joint n c list
  unfolding part turn
  part_agrees zero b c list agree rows = refl
  part_agrees (suc n) b c [] agree rows = refl
  part_agrees (suc n) b c (u ∷ us) agree rows =
      ap (λ o. turn o b (u ∷ us) (λ e rest. part joint n e rest)) (joint_agrees system b c agree pick (u ∷ us) rows)
      ∙ by (joint c (u ∷ us)) (λ e f rest a h. part_agrees n e f rest a h)
    where
      by : (o : Outcome) → ((e f : Vector) (rest : List Item) → Agree system e f → HaveRows system rest
          → part joint n e rest ≡ part joint n f rest) →
          turn o b (u ∷ us) (λ e rest. part joint n e rest) ≡ turn o c (u ∷ us) (λ e rest. part joint n e rest)
      by (Point items) rec = refl
      by (Rays items) rec =
          let step : Step = record { kind = Ray; items = items } in
          ap (λ s. step ∷ s) (rec (after_step step b) (after_step step c) (without items (u ∷ us)) (after_agrees system step b c agree)
          (λ v m. rows v (of_without items (u ∷ us) v m).0))

  -- the turns of parts
  pub turns_agree : (lists : List (List Item)) (b c : Vector) → Agree system b c → HaveRows system (members lists)
      → turns joint b lists ≡ turns joint c lists
  unfolding turns members
  turns_agree [] b c agree rows = refl
  turns_agree (list ∷ lists) b c agree rows =
      let s = part joint (length list) b list in
      let t = part joint (length list) c list in
      ap (λ x. x ++ turns joint (after_steps x b) lists) (part_agrees (length list) b c list agree
      (λ u m. rows u (in_left list (members lists) u m)))
      ∙ ap (λ x. t ++ x) (turns_agree lists (after_steps t b) (after_steps t c) (led_agrees system t b c agree)
      (λ u m. rows u (in_right list (members lists) u m)))

module _ (fitting : ℚ → Bool) (system : Equations) (pick : Pick) (is_pick : IsPick system pick) (d e : Vector)
    (agree : Agree system d e) where
  -- the unknowns of the parts stand at rows of the template
  pub cut_rows : HaveRows system (members (exact_cut fitting system e pick))
  cut_rows u m = rising_rows fitting system pick is_pick e u ((exact_cuts fitting system e pick is_pick).from u m)

  -- the vectors after the growth agree
  pub grown_agrees : Agree system (exact_grown fitting system d pick) (exact_grown fitting system e pick)
  grown_agrees p r l =
      led_agrees system (exact_grow fitting system d pick) d e agree p r l
      ∙ ap (λ s. after_steps s e p r) (grow_agrees fitting system pick is_pick d e agree)

  same_turns : turns (exact_joint system pick) (exact_grown fitting system d pick) (exact_cut fitting system d pick)
      ≡ turns (exact_joint system pick) (exact_grown fitting system e pick) (exact_cut fitting system e pick)
  same_turns =
      ap (λ lists. turns (exact_joint system pick) (exact_grown fitting system d pick) lists)
      (cut_agrees fitting system pick is_pick d e agree)
      ∙ turns_agree system pick (exact_cut fitting system e pick) (exact_grown fitting system d pick) (exact_grown fitting system e pick)
      grown_agrees cut_rows

  -- the round's steps are the same
  pub round_steps_agree : exact_round_steps fitting system d pick ≡ exact_round_steps fitting system e pick
  unfolding round_steps
  round_steps_agree =
      ap (λ s. s ++ turns (exact_joint system pick) (exact_grown fitting system d pick) (exact_cut fitting system d pick))
      (grow_agrees fitting system pick is_pick d e agree)
      ∙ ap (λ s. exact_grow fitting system e pick ++ s) same_turns

  -- and the vectors after it agree
  pub round_agrees : Agree system (exact_round fitting system d pick) (exact_round fitting system e pick)
  unfolding round
  round_agrees p r l =
      led_agrees system (turns (exact_joint system pick) (exact_grown fitting system d pick) (exact_cut fitting system d pick))
      (exact_grown fitting system d pick) (exact_grown fitting system e pick) grown_agrees p r l
      ∙ ap (λ s. after_steps s (exact_grown fitting system e pick) p r) same_turns
