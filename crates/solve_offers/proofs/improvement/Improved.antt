-- A pick that is improved unknown by unknown.
use Rattle.std.proofs.Common.{◌≡◌, ◌∙◌, ◌⊎◌, inl, inr, ⊎_elim, ℕ, suc, ◌+◌, ◌*◌, ◌/◌, ◌%◌, ◌<◌, ◌≤◌, Bool, true, false, true≢false, List}
use Rattle.std.proofs.Common.{[], ◌∷◌, length, get_or, refl, sym, subst, subst₂, arith}
use Rattle.std.specs.Prelude.{◌↔◌, Option, Some, None}
use Rattle.std.specs.Option.{option_map}
use Rattle.std.proofs.lemmas.Option.{slice_get_within, get_or_from_slice_get, slice_get-get_or}
use Rattle.std.proofs.lemmas.Bool.{cases_lt}
use Rattle.std.proofs.lemmas.Nat.{div-mul-add, mod-mul-add}
use Rattle.std.proofs.Math.Nat.{mul-le-mul_right}
use Rattle.base_facts.proofs.elements.Membership.{contains_from_in}
use Rattle.base_facts.specs.Elements.{In}
use Rattle.base_numbers.specs.Extended.{◌≤ᴱ◌}
use Rattle.base_numbers.proofs.extended.ExtendedLaws.{ext_not_le_of_lt}
use Rattle.flow_systems.specs.Equations.{Equations, Vector}
use Rattle.theory_validity.specs.Certificates.{PointsInRange}
use Rattle.theory_validity.proofs.certificates.Needs.{in_of_contains}
use Rattle.theory_strategy.specs.Picks.{Tight, Supported}
use Rattle.theory_strategy.specs.Policy.{offers}
use Rattle.theory_strategy.proofs.picks.Picks.{improve_supported}
use Rattle.theory_strategy.proofs.picks.PolicyLaw.{policy_answers}
use Rattle.theory_strategy.proofs.round.Solve.{Answers}
use Rattle.theory_transformers.specs.EdgeProblems.{transformer}
use Rattle.theory_transformers.proofs.edge_problems.TransformerOf.{transformer_reaches}
use Rattle.solve_offers.specs.declared.offer.Offer.{Offer}
use Rattle.solve_offers.specs.Improvement.{pick_of, AreImproved, Becomes, IsListed, UnknownBecomes, IsNext, NoneExceeds, next_pick}
use Rattle.solve_offers.proofs.offers.Unknowns.{row_within}
use Rattle.solve_offers.proofs.offers.NextPick.{next_is, no_next, ends_there, unlisted, offers_at}

module _ (system : Equations) (z : Vector) (policy : Offer → ℕ → Type 0) where
  rows : ℕ
  rows = length system.template

  -- an unknown's offer by its number
  abbrev offers_of : ℕ → List ℕ
  offers_of u = offers system (transformer system) z (u / length system.template) (u % length system.template)

  -- the range ends where another does
  pub improved_until : (first n m : ℕ) (old new : List (Option ℕ)) (improved : Bool) → n ≡ m
      → AreImproved system z policy first n old new improved → AreImproved system z policy first m old new improved
  improved_until first n m old new improved e so_far = subst (λ k. AreImproved system z policy first k old new improved) e so_far

  -- one unknown changes
  pub improved_one : (u : ℕ) (old new : List (Option ℕ)) (offered : Bool)
      → ((k : ℕ) → (k ≡ u → ⊥) → get_or new k None ≡ get_or old k None)
      → UnknownBecomes system z policy u (get_or old u None) (get_or new u None) offered → AreImproved system z policy u 1 old new offered
  improved_one u old new offered others becomes = record {
    each = λ k l b. let same : u ≡ k = omega arith in subst (λ k. (o : Bool)
        × UnknownBecomes system z policy k (get_or old k None) (get_or new k None) o × (o ≡ true → offered ≡ true)) same
        (offered, becomes, λ e. e);
    others = λ k apart. others k (λ e. ⊎_elim (λ l. omega (arith, l, e)) (λ l. omega (arith, l, e)) apart);
    some = λ e. (u, omega arith, omega arith, subst (IsListed (offers_of u)) e becomes.told);
  }

  -- two ranges, one behind the other
  pub improved_both : (first n m : ℕ) (old mid new : List (Option ℕ)) (before after improved : Bool)
      → AreImproved system z policy first n old mid before → AreImproved system z policy (first + n) m mid new after
      → (before ≡ true → improved ≡ true) → (after ≡ true → improved ≡ true)
      → (improved ≡ true → (before ≡ true) ⊎ (after ≡ true)) → AreImproved system z policy first (n + m) old new improved
  improved_both first n m old mid new before after improved left right kept told one = record {
    each = λ k l b. ⊎_elim
        (λ h. let e = left.each k l h in (
          e.0,
          subst (λ o. UnknownBecomes system z policy k (get_or old k None) o e.0) (sym (right.others k (inl h))) e.1,
          λ t. kept (e.2 t),
        ))
        (λ h. let e = right.each k h (omega (arith, b)) in (
          e.0,
          subst (λ o. UnknownBecomes system z policy k o (get_or new k None) e.0) (left.others k (inr h)) e.1,
          λ t. told (e.2 t),
        ))
        (cases_lt k (first + n));
    others = λ k apart. ⊎_elim
        (λ l. right.others k (inl (omega (arith, l))) ∙ left.others k (inl l))
        (λ l. right.others k (inr (omega (arith, l))) ∙ left.others k (inr (omega (arith, l))))
        apart;
    some = λ e. ⊎_elim
        (λ h. let s = left.some h in (s.0, s.1, (let l = s.2 in omega (arith, l)), s.3))
        (λ h. let s = right.some h in (s.0, (let l = s.1 in omega (arith, l)), (let l = s.2 in omega (arith, l)), s.3))
        (one e);
  }

  -- one more unknown
  pub improved_more : (first n u : ℕ) (old mid new : List (Option ℕ)) (before offered improved : Bool) → u ≡ first + n
      → AreImproved system z policy first n old mid before
      → ((k : ℕ) → (k ≡ u → ⊥) → get_or new k None ≡ get_or mid k None)
      → UnknownBecomes system z policy u (get_or mid u None) (get_or new u None) offered
      → (before ≡ true → improved ≡ true) → (offered ≡ true → improved ≡ true)
      → (improved ≡ true → (before ≡ true) ⊎ (offered ≡ true)) → AreImproved system z policy first (n + 1) old new improved
  improved_more first n u old mid new before offered improved e so_far others becomes =
      improved_both first n 1 old mid new before offered improved so_far
      (subst (λ k. AreImproved system z policy k 1 mid new offered) e (improved_one u mid new offered others becomes))

  -- one more point
  pub improved_point : (point : ℕ) (old mid new : List (Option ℕ)) (before offered improved : Bool)
      → AreImproved system z policy 0 (point * length system.template) old mid before
      → AreImproved system z policy (point * length system.template) (length system.template) mid new offered
      → (before ≡ true → improved ≡ true) → (offered ≡ true → improved ≡ true)
      → (improved ≡ true → (before ≡ true) ⊎ (offered ≡ true))
      → AreImproved system z policy 0 ((point + 1) * length system.template) old new improved
  improved_point point old mid new before offered improved so_far more kept told one =
      let start : point * length system.template ≡ 0 + point * length system.template = omega arith in
      let end : point * length system.template + length system.template ≡ (point + 1) * length system.template = omega arith in
      subst (λ k. AreImproved system z policy 0 k old new improved) end
      (improved_both 0 (point * length system.template) (length system.template) old mid new before offered improved so_far
      (subst (λ k. AreImproved system z policy k (length system.template) mid new offered) start more) kept told one)

  module _ (range : PointsInRange system) (old new : List (Option ℕ)) (improved : Bool)
      (old_size : length old ≡ system.points * length system.template)
      (new_size : length new ≡ system.points * length system.template)
      (u : ℕ) (last : u ≡ system.points * length system.template) (so_far : AreImproved system z policy 0 u old new improved) where
    done : AreImproved system z policy 0 (system.points * length system.template) old new improved
    done = improved_until 0 u (system.points * length system.template) old new improved last so_far

    number_within : (p r : ℕ) → p < system.points → r < length system.template
        → p * length system.template + r < system.points * length system.template
    number_within p r h l = (let m : suc p * length system.template ≤ system.points * length system.template =
        mul-le-mul_right (length system.template) h in omega arith)

    -- what becomes of an unknown in range
    each_at : (p r : ℕ) → p < system.points → r < length system.template →
        (offered : Bool) × Becomes system (transformer system) z policy p r (offers system (transformer system) z p r)
        (get_or old (p * length system.template + r) None) (get_or new (p * length system.template + r) None)
        × IsListed (offers system (transformer system) z p r) offered × (offered ≡ true → improved ≡ true)
    each_at p r h l =
        let k = p * length system.template + r in
        let e = done.each k (omega arith) (let m = number_within p r h l in omega (arith, m)) in
        let point = div-mul-add p (length system.template) r l in
        let row = mod-mul-add p (length system.template) r l in (
          e.0,
          subst₂ (λ q s. Becomes system (transformer system) z policy q s (offers system (transformer system) z q s) (get_or old k None)
              (get_or new k None)) point row e.1.becomes,
          subst₂ (λ q s. IsListed (offers system (transformer system) z q s) e.0) point row e.1.told,
          e.2,
        )

    becomes_at : (p r : ℕ) → p < system.points → r < length system.template →
        Becomes system (transformer system) z policy p r (offers system (transformer system) z p r)
        (get_or old (p * length system.template + r) None) (get_or new (p * length system.template + r) None)
    becomes_at p r h l = (each_at p r h l).1

    -- nothing was offered
    none_offered : improved ≡ false → (p r : ℕ) → p < system.points → r < length system.template
        → offers system (transformer system) z p r ≡ []
    none_offered e p r h l = by (offers system (transformer system) z p r) (each_at p r h l).0 (each_at p r h l).2 (each_at p r h l).3
      where
        by : (os : List ℕ) (offered : Bool) → IsListed os offered → (offered ≡ true → improved ≡ true) → os ≡ []
        by [] offered t u = refl
        by (k ∷ ks) offered t u = absurd (true≢false (sym (u t) ∙ e))

    -- where no unknown is improved, there is no next pick
    pub next_none : improved ≡ false → IsNext system (transformer system) z policy (pick_of (length system.template) old) None
    next_none e = no_next system (transformer system) z policy range old new old_size new_size becomes_at (none_offered e)

    -- where an unknown is improved, the new pick is the next one
    pub next_some : improved ≡ true → IsNext system (transformer system) z policy (pick_of (length system.template) old)
        (Some (pick_of (length system.template) new))
    next_some e = by (offers_of s.0) refl s.2
      where
        s : (k : ℕ) × (k < system.points * length system.template) × IsListed
            (offers system (transformer system) z (k / length system.template) (k % length system.template)) true
        s = let o = done.some e in (o.0, (let l = o.2 in omega (arith, l)), o.3)

        by : (os : List ℕ) → offers_of s.0 ≡ os → IsListed os true → IsNext system (transformer system) z policy
            (pick_of (length system.template) old) (Some (pick_of (length system.template) new))
        by [] f t = absurd (true≢false t)
        by (k ∷ ks) f t = next_is system (transformer system) z policy range old new old_size new_size becomes_at
            (s.0 / length system.template) (s.0 % length system.template) k ks f

    -- and so nothing exceeds
    pub nothing_exceeds : improved ≡ false → NoneExceeds system (transformer system) z
    nothing_exceeds e edge r row listed is_row =
        let l = slice_get_within system.template r row is_row in
        let there = range.ends edge listed in
        subst (λ w. transformer system z edge w ≤ᴱ z edge.to r) (get_or_from_slice_get system.template r row [] is_row)
        (unlisted system (transformer system) z policy edge.to r 0 system.edges
        (sym (offers_at system (transformer system) z policy edge.to r l) ∙ none_offered e edge.to r there l) edge
        (in_of_contains system.edges edge listed) refl)

    -- and so something exceeds
    pub something_exceeds : improved ≡ true → NoneExceeds system (transformer system) z → ⊥
    something_exceeds e none = by (offers_of s.0) refl s.2
      where
        s : (k : ℕ) × (k < system.points * length system.template) × IsListed
            (offers system (transformer system) z (k / length system.template) (k % length system.template)) true
        s = let o = done.some e in (o.0, (let l = o.2 in omega (arith, l)), o.3)

        p : ℕ
        p = s.0 / length system.template

        r : ℕ
        r = s.0 % length system.template

        within : s.0 % length system.template < length system.template
        within = row_within s.0 system.points (length system.template) s.1

        by : (os : List ℕ) → offers_of s.0 ≡ os → IsListed os true → ⊥
        by [] f t = true≢false t
        by (k ∷ ks) f t =
            let found = ends_there system (transformer system) z policy (s.0 / length system.template) (s.0 % length system.template) 0
            system.edges k
            (subst (λ os. In os k) (sym (sym (offers_at system (transformer system) z policy (s.0 / length system.template)
            (s.0 % length system.template) within) ∙ f)) (inl refl)) in
            ext_not_le_of_lt (z (s.0 / length system.template) (s.0 % length system.template))
            (transformer system z found.0 (get_or system.template (s.0 % length system.template) [])) found.3
            (subst (λ q. transformer system z found.0 (get_or system.template (s.0 % length system.template) [])
            ≤ᴱ z q (s.0 % length system.template)) found.2
            (none found.0 (s.0 % length system.template) (get_or system.template (s.0 % length system.template) [])
            (contains_from_in system.edges found.0 found.1) (slice_get-get_or system.template (s.0 % length system.template) []
            within)))

  -- the next pick, or none
  pub next_either : (improved : Bool) → PointsInRange system → (old new : List (Option ℕ))
      → length old ≡ system.points * length system.template → length new ≡ system.points * length system.template → (u : ℕ)
      → u ≡ system.points * length system.template → AreImproved system z policy 0 u old new improved
      → IsNext system (transformer system) z policy (pick_of (length system.template) old)
      (option_map (pick_of (length system.template)) (next_pick improved new))
  next_either true range old new old_size new_size u last so_far = next_some range old new true old_size new_size u last so_far refl
  next_either false range old new old_size new_size u last so_far = next_none range old new false old_size new_size u last so_far refl

  -- nothing is improved exactly where nothing exceeds
  pub none_exactly : (improved : Bool) → PointsInRange system → (old new : List (Option ℕ))
      → length old ≡ system.points * length system.template → length new ≡ system.points * length system.template → (u : ℕ)
      → u ≡ system.points * length system.template → AreImproved system z policy 0 u old new improved
      → improved ≡ false ↔ NoneExceeds system (transformer system) z
  none_exactly true range old new old_size new_size u last so_far = (
    λ e. absurd (true≢false e),
    λ none. absurd (something_exceeds range old new true old_size new_size u last so_far refl none),
  )
  none_exactly false range old new old_size new_size u last so_far = (
    λ e. nothing_exceeds range old new false old_size new_size u last so_far refl,
    λ none. refl,
  )

  -- the next pick of a tight pick is supported
  pub next_supported : PointsInRange system → (old better : ℕ → ℕ → Option ℕ)
      → IsNext system (transformer system) z policy old (Some better) → Tight system (transformer system) z old
      → Supported system (transformer system) z better
  next_supported range old better next tight =
      let answers : Answers system (transformer system) z old (Some better) =
      subst (Answers system (transformer system) z old) next.same (policy_answers system (transformer system) range next.choose
      next.is_choice.among z old tight) in
      improve_supported system (transformer system) (transformer_reaches system) z old better tight answers.is_pick answers.improves
