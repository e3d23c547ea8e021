-- From vectors that agree at the template's rows the next pick is the same.
use Rattle.std.proofs.Common.{◌≡◌, ◌∙◌, ⊎_elim, ℕ, suc, ◌<◌, eqb, ltb, Bool, true, false, List, [], ◌∷◌, length, get_or, refl, ap}
use Rattle.std.proofs.Common.{if◌then◌else◌}
use Rattle.std.specs.Prelude.{Option}
use Rattle.std.proofs.lemmas.Bool.{ltb-true}
use Rattle.base_numbers.proofs.extended.ExtendedLaws.{ext_le_or_lt}
use Rattle.flow_edges.specs.declared.edge.Edge.{Edge}
use Rattle.flow_systems.specs.Equations.{Equations, Vector}
use Rattle.theory_transformers.specs.EdgeProblems.{transformer}
use Rattle.theory_strategy.specs.Picks.{Pick}
use Rattle.theory_strategy.specs.PickCount.{Unknown, unknowns}
use Rattle.theory_strategy.specs.Policy.{exceeding, offers, taken, changed_pick, if_offered, next_pick, policy_pick}
use Rattle.theory_rounds.specs.Agreement.{Agree}
use Rattle.theory_rounds.specs.Rounds.{Choice, exact_next}
use Rattle.theory_rounds.proofs.raises.ProblemsAgree.{transformer_agrees}

module _ (system : Equations) (d e : Vector) (agree : Agree system d e) where
  exceeding_agrees : (p r k : ℕ) (edges : List Edge) → r < length system.template
      → exceeding system (transformer system) d p r k edges ≡ exceeding system (transformer system) e p r k edges
  unfolding exceeding
  exceeding_agrees p r k [] l = refl
  exceeding_agrees p r k (edge ∷ edges) l =
      let row = get_or system.template r [] in
      let v = transformer system e edge row in
      let old = exceeding system (transformer system) d p r (suc k) edges in
      let new = exceeding system (transformer system) e p r (suc k) edges in
      ap (λ w. if eqb edge.to p then ⊎_elim (λ h. old) (λ h. k ∷ old) (ext_le_or_lt w (d p r)) else old)
      (transformer_agrees system d e agree edge row)
      ∙ ap (λ w. if eqb edge.to p then ⊎_elim (λ h. old) (λ h. k ∷ old) (ext_le_or_lt v w) else old) (agree p r l)
      ∙ ap (λ s. if eqb edge.to p then ⊎_elim (λ h. s) (λ h. k ∷ s) (ext_le_or_lt v (e p r)) else s) (exceeding_agrees p r (suc k) edges l)

  -- the offers of an unknown are the same
  pub offers_agree : (p r : ℕ) → offers system (transformer system) d p r ≡ offers system (transformer system) e p r
  unfolding offers
  offers_agree p r = by (ltb r (length system.template)) refl
    where
      by : (b : Bool) → ltb r (length system.template) ≡ b →
          (if b then exceeding system (transformer system) d p r 0 system.edges else [])
          ≡ (if b then exceeding system (transformer system) e p r 0 system.edges else [])
      by true f = exceeding_agrees p r 0 system.edges (ltb-true r (length system.template) f)
      by false f = refl

  changed_agrees : (choose : Choice) (pick : Pick) → changed_pick system (transformer system) d choose pick
      ≡ changed_pick system (transformer system) e choose pick
  unfolding changed_pick taken
  changed_agrees choose pick i p r = taken system (transformer system) d (choose p r) (offers_agree p r i) (pick p r)

  next_agrees : (better : Pick) (us : List Unknown) → next_pick system (transformer system) d better us
      ≡ next_pick system (transformer system) e better us
  unfolding next_pick if_offered
  next_agrees better [] = refl
  next_agrees better (u ∷ us) =
      ap (λ s. if_offered system (transformer system) d s better (next_pick system (transformer system) d better us))
      (offers_agree u.point u.row)
      ∙ ap (λ s. if_offered system (transformer system) d (offers system (transformer system) e u.point u.row) better s)
      (next_agrees better us)
      ∙ other (offers system (transformer system) e u.point u.row) (next_pick system (transformer system) e better us)
    where
      other : (os : List ℕ) (rest : Option Pick) → if_offered system (transformer system) d os better rest
          ≡ if_offered system (transformer system) e os better rest
      other [] rest = refl
      other (k ∷ ks) rest = refl

  -- the next pick is the same
  pub exact_next_agrees : (choose : Choice) (pick : Pick) → exact_next system choose d pick ≡ exact_next system choose e pick
  unfolding policy_pick
  exact_next_agrees choose pick =
      ap (λ b. next_pick system (transformer system) d b (unknowns system)) (changed_agrees choose pick)
      ∙ next_agrees (changed_pick system (transformer system) e choose pick) (unknowns system)
