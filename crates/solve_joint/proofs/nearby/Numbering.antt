-- The points that occur have numbers.
use Rattle.std.proofs.Common.{◌≡◌, ◌∙◌, ◌⊎◌, ⊎_elim, ℕ, ◌+◌, ◌<◌, true≢false, List, [], ◌∷◌, ◌++◌, length}
use Rattle.std.proofs.Common.{get_or, take, Option, Some, None, refl, ap, sym, subst, unwrap_or}
use Rattle.std.specs.Prelude.{IsSome, is_some}
use Rattle.std.proofs.lemmas.List.{take_more}
use Rattle.base_facts.specs.Elements.{In}
use Rattle.base_facts.proofs.elements.Membership.{of_append}
use Rattle.solve_joint.specs.declared.node.Node.{Node}
use Rattle.solve_joint.specs.Nearby.{Occurs, HasMore}

some_is : (o : Option ℕ) → IsSome o → o ≡ Some (unwrap_or o 0)
some_is None h = absurd (true≢false (sym h))
some_is (Some n) h = refl

still_some : (p : ℕ) (old new : ℕ → Option ℕ) → HasMore p old new → (q : ℕ) → IsSome (old q) → IsSome (new q)
still_some p old new more q h = ap is_some (more.keeps q (unwrap_or (old q) 0) (some_is (old q) h))

-- one unknown more
pub all_more : (nodes : List Node) (i : ℕ) (a : Node) (old mid new : ℕ → Option ℕ) → i < length nodes → a ≡ get_or nodes i a
    → HasMore a.point old mid → HasMore a.source mid new → ((p : ℕ) → Occurs (take i nodes) p → IsSome (old p))
    → (p : ℕ) → Occurs (take (i + 1) nodes) p → IsSome (new p)
all_more nodes i a old mid new l is first second all p o =
    ⊎_elim
    (λ m. still_some a.source mid new second p (still_some a.point old mid first p (all p (o.0, m, o.2))))
    (λ m. ⊎_elim (λ e. by o.0 e o.2) (λ e. absurd e) m)
    (of_append (take i nodes) (a ∷ []) o.0
    (subst (λ xs. In xs o.0) (take_more nodes i a l ∙ ap (λ x. take i nodes ++ x ∷ []) (sym is)) o.1))
  where
    by : (b : Node) → a ≡ b → (b.point ≡ p) ⊎ (b.source ≡ p) → IsSome (new p)
    by b e h = ⊎_elim
        (λ s. subst (λ q. IsSome (new q)) (ap (λ (x : Node). x.point) e ∙ s) (still_some a.source mid new second a.point first.has))
        (λ s. subst (λ q. IsSome (new q)) (ap (λ (x : Node). x.source) e ∙ s) second.has)
        h
