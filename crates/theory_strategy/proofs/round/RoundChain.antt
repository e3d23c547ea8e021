-- Along a chain of rounds vectors rise, and a pick stays where its bound does.
use Rattle.std.proofs.Common.{◌≡◌, ◌∙◌, ⊎_elim, ℕ, zero, suc, ◌+◌, ◌-◌, ◌<◌, ◌≤◌, List, length, sym, ap, subst, arith}
use Rattle.base_numbers.specs.Extended.{◌≤ᴱ◌}
use Rattle.base_numbers.proofs.extended.ExtendedLaws.{≤ᴱ_trans, ≤ᴱ_antisymm, ext_lt_of_lt_of_le, ext_lt_irrefl, ext_le_of_eq}
use Rattle.flow_systems.specs.Equations.{Equations, Vector}
use Rattle.theory_validity.specs.Steps.{Below, Step}
use Rattle.theory_validity.proofs.steps.Puts.{below_itself, below_trans}
use Rattle.theory_strategy.specs.Picks.{Pick, Transformer}
use Rattle.theory_strategy.specs.Rounds.{Rounds}

module _ (system : Equations) (T : Transformer) (n : ℕ) (d z : ℕ → Vector) (pick : ℕ → Pick) (steps : ℕ → List Step)
    (rounds : Rounds system T n d z pick steps) where
  -- a round rises
  pub one_round : (k : ℕ) → k < n → Below system (d k) (d (suc k))
  one_round k h = let f = rounds.facts k h in below_trans system (d k) (z k) (d (suc k)) f.grows f.turns

  rises_by : (a m : ℕ) → a + m ≤ n → Below system (d a) (d (a + m))
  rises_by a zero h = subst (λ b. Below system (d a) (d b)) (omega arith) (below_itself system (d a))
  rises_by a (suc m) h =
      below_trans system (d a) (d (a + m)) (d (a + suc m)) (rises_by a m (omega arith))
      (subst (λ b. Below system (d (a + m)) (d b)) (omega arith) (one_round (a + m) (omega arith)))

  -- a later vector is at least an earlier one
  pub rise : (a b : ℕ) → a ≤ b → b ≤ n → Below system (d a) (d b)
  rise a b h i =
      let e : a + (b - a) ≡ b = omega arith in
      subst (λ c. Below system (d a) (d c)) e (rises_by a (b - a) (omega arith))

  stays_by : (a m p r : ℕ) → a + m ≤ n → r < length system.template → d a p r ≡ d (a + m) p r → pick (a + m) p r ≡ pick a p r
  stays_by a zero p r h l e = ap (λ b. pick b p r) (omega arith)
  stays_by a (suc m) p r h l e =
      let next : suc (a + m) ≡ a + suc m = omega arith in
      let within : a + m < n = omega arith in
      let back : d (suc (a + m)) p r ≤ᴱ d (a + m) p r =
      ≤ᴱ_trans (d (suc (a + m)) p r) (d a p r) (d (a + m) p r) (ext_le_of_eq (d (suc (a + m)) p r) (d a p r)
      (ap (λ b. d b p r) next ∙ sym e)) (rises_by a m (omega arith) p r l) in
      let same : d (a + m) p r ≡ d (suc (a + m)) p r = ≤ᴱ_antisymm (d (a + m) p r) (d (suc (a + m)) p r) (one_round (a + m) within p r l)
      back in
      ap (λ b. pick b p r) (sym next)
      ∙ ⊎_elim (λ k. k) (λ k. absurd (ext_lt_irrefl (d (a + m) p r) (ext_lt_of_lt_of_le (d (a + m) p r) (d (suc (a + m)) p r)
      (d (a + m) p r) k back))) ((rounds.facts (a + m) within).changed p r l)
      ∙ stays_by a m p r (omega arith) l (e ∙ ap (λ b. d b p r) (sym next) ∙ sym same)

  -- where a later bound is the same, the pick is
  pub pick_stays : (a b p r : ℕ) → a ≤ b → b ≤ n → r < length system.template → d a p r ≡ d b p r → pick b p r ≡ pick a p r
  pick_stays a b p r h i l e =
      let f : a + (b - a) ≡ b = omega arith in
      subst (λ c. pick c p r ≡ pick a p r) f (stays_by a (b - a) p r (omega arith) l (e ∙ ap (λ c. d c p r) (sym f)))
