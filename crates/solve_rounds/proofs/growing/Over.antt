-- Unknowns that need no test.
use Rattle.std.proofs.Common.{◌≡◌, ◌∙◌, ⊎_elim, ℕ, ◌+◌, false, List, get_or, refl, sym, ap, subst, arith}
use Rattle.std.specs.Prelude.{Option}
use Rattle.std.proofs.lemmas.Bool.Decides.{leb_tells}
use Rattle.flow_systems.specs.declared.system.System.{System}
use Rattle.solve_rounds.specs.declared.growing.Growing.{Growing}
use Rattle.solve_rounds.specs.Growing.{AreOver, IsWithin}

module _ (system : System) (pick : List (Option ℕ)) where
  -- none
  pub over_none : (first : ℕ) (now : Growing) → AreOver system pick first 0 now now
  over_none first now = record { bounds = refl; raised = refl; over = λ u a b n. absurd (omega (arith, a, b)) }

  -- one that was raised, or whose picked transformer is within its bound
  pub over_one : (u : ℕ) (old new : Growing) → new.bounds ≡ old.bounds → new.raised.items ≡ old.raised.items
      → (get_or old.raised.items u false ≡ false → IsWithin system old.bounds pick u) → AreOver system pick u 1 old new
  over_one u old new b r within = record {
    bounds = b;
    raised = r;
    over = λ v low high n.
        let is : u ≡ v = omega (arith, low, high) in
        subst (λ bounds. IsWithin system bounds pick v) (sym b)
        (subst (IsWithin system old.bounds pick) is (within (ap (λ k. get_or old.raised.items k false) is
        ∙ sym (ap (λ x. get_or x v false) r) ∙ n)));
  }

  -- more of them
  pub over_more : (first n at k : ℕ) (old mid new : Growing) → at ≡ first + n → AreOver system pick first n old mid
      → AreOver system pick at k mid new → AreOver system pick first (n + k) old new
  over_more first n at k old mid new is a b = record {
    bounds = b.bounds ∙ a.bounds;
    raised = b.raised ∙ a.raised;
    over = λ u low high m. ⊎_elim (λ h. let l = h.1 in b.over u (omega (arith, is, l)) (omega (arith, is, high)) m)
        (λ h. subst (λ bounds. IsWithin system bounds pick u) (sym b.bounds)
        (a.over u low h.1 (sym (ap (λ x. get_or x u false) b.raised) ∙ m))) (leb_tells (first + n) u);
  }
