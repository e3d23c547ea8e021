-- At vectors that agree the same choices are a policy's, and a pick is tight at both.
use Rattle.std.proofs.Common.{◌≡◌, ◌∙◌, ℕ, ◌<◌, ltb, Bool, true, false, List, [], ◌∷◌, length, map, get_or, refl, sym, ap, subst, subst₂}
use Rattle.std.proofs.Common.{if◌then◌else◌}
use Rattle.std.proofs.Math.Path.{fun_ext}
use Rattle.std.proofs.lemmas.Bool.{ltb-true}
use Rattle.base_numbers.specs.Extended.{neg_inf, ◌≤ᴱ◌, ◌<ᴱ◌}
use Rattle.flow_systems.specs.Equations.{Equations, Vector}
use Rattle.theory_validity.specs.Steps.{Item, edge_of, row_of}
use Rattle.theory_validity.specs.Certificates.{edges_into}
use Rattle.theory_transformers.specs.EdgeProblems.{transformer}
use Rattle.theory_strategy.specs.Picks.{Pick, Tight, value_at}
use Rattle.theory_strategy.specs.Policy.{exceeding, offers}
use Rattle.theory_rounds.specs.Agreement.{Agree}
use Rattle.theory_rounds.specs.Rounds.{Choice}
use Rattle.theory_rounds.proofs.raises.ProblemsAgree.{transformer_agrees}
use Rattle.theory_rounds.proofs.rounds.NextAgrees.{offers_agree}
use Rattle.solve_offers.specs.declared.offer.Offer.{Offer}
use Rattle.solve_offers.specs.Improvement.{IsOffer, IsChoice}

-- an unknown that is offered an edge stands at a row of the template
pub offered_row : (system : Equations) (z : Vector) (p r k : ℕ) (ks : List ℕ) → offers system (transformer system) z p r ≡ k ∷ ks
    → r < length system.template
unfolding offers
offered_row system z p r k ks e = by (ltb r (length system.template)) refl e
  where
    by : (b : Bool) → ltb r (length system.template) ≡ b → (if b then exceeding system (transformer system) z p r 0 system.edges else [])
        ≡ k ∷ ks → r < length system.template
    by true f g = ltb-true r (length system.template) f
    by false f g = cc

module _ (system : Equations) (z q : Vector) (agree : Agree system z q) where
  is_offer_agrees : (p r : ℕ) (offer : Offer) → r < length system.template → IsOffer system (transformer system) z p r offer
      → IsOffer system (transformer system) q p r offer
  is_offer_agrees p r offer l h = record {
    bound = h.bound ∙ agree p r l;
    edges = h.edges;
    values = h.values ∙ ap (λ f. map f (edges_into p system.edges)) (fun_ext
        (λ edge. transformer_agrees system z q agree edge (get_or system.template r [])));
  }

  -- the same choices are a policy's
  pub choice_agrees : (policy : Offer → ℕ → Type 0) (choose : Choice) → IsChoice system (transformer system) z policy choose
      → IsChoice system (transformer system) q policy choose
  choice_agrees policy choose h = record {
    among = h.among;
    chosen = λ p r k ks e.
        let f = offers_agree system z q agree p r ∙ e in
        let c = h.chosen p r k ks f in
        record {
          offer = c.offer;
          is_offer = is_offer_agrees p r c.offer (offered_row system z p r k ks f) c.is_offer;
          position =
              c.position;
          answers = c.answers;
          is_edge = c.is_edge;
        };
  }

  value_agrees : (u : Item) → value_at system (transformer system) z u ≡ value_at system (transformer system) q u
  value_agrees u = transformer_agrees system z q agree (edge_of system u) (row_of system u)

  -- the same picks are tight
  pub tight_agrees : (pick : Pick) → Tight system (transformer system) z pick → Tight system (transformer system) q pick
  tight_agrees pick h =
      let s = h.supported in
      record {
        supported = record {
          is_pick = s.is_pick;
          entry = λ r l. sym (agree 0 r l) ∙ s.entry r l;
          unpicked = λ p r later l e. sym (agree p r l) ∙ s.unpicked p r later l e;
          above = λ u p. subst (λ v. neg_inf <ᴱ v) (value_agrees u) (s.above u p);
          rises = λ u p. subst₂ (λ a b. a ≤ᴱ b) (agree u.point u.row (s.is_pick u p).row_within) (value_agrees u) (s.rises u p);
        };
        same = λ u p. sym (value_agrees u) ∙ h.same u p ∙ agree u.point u.row (s.is_pick u p).row_within;
      }
