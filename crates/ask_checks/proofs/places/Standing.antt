-- Where a check stands among actions.
use Rattle.std.proofs.Common.{◌≡◌, ◌∙◌, ℕ, ◌+◌, ◌<◌, List, ◌∷◌, ◌++◌, length, length-append, length-take, get_or, take, drop, refl, sym, ap}
use Rattle.std.proofs.Common.{arith}
use Rattle.std.proofs.Math.Seq.{get_or-append_seam}
use Rattle.std.proofs.lemmas.List.{drop_more, take_at, take-append-drop}
use Rattle.lang_tree.specs.declared.check.Check.{Check as About}
use Rattle.flow_edges.specs.Checks.{StandsBehind}
use Rattle.flow_edges.specs.declared.checked.CheckCases.{CheckCases}
use Rattle.flow_edges.specs.declared.edge.Action.{Action}
use Rattle.flow_edges.specs.declared.edge.Action.TheVariants.{Check}
use Rattle.flow_edges.specs.declared.edge.Edge.{Edge}
use Rattle.ask_checks.specs.Places.{StandsAt}

-- the actions before a check are as many of the first, and the check stands behind them
pub behind : (actions : List Action) (about : About) (before : List Action) → StandsBehind actions about before →
    (length before < length actions) × (take (length before) actions ≡ before)
behind actions about before h =
    let same = ap (λ (xs : List Action). length xs) h.parted ∙ length-append before (Check about ∷ h.later) in (
      omega (arith, same),
      ap (take (length before)) h.parted ∙ take_at before (Check about ∷ h.later) (length before) refl,
    )

module _ (edge : Edge) (check : CheckCases) (k : ℕ) (action : Action) (l : k < length edge.actions)
    (is : action ≡ get_or edge.actions k action) where
  -- a check stands where the action is the check
  pub stands_here : action ≡ Check check.check → StandsAt edge check k
  stands_here e = record {
    later = drop (k + 1) edge.actions;
    parted = sym (take-append-drop k edge.actions) ∙ ap (λ ys. take k edge.actions ++ ys) (drop_more edge.actions k action l
        ∙ ap (λ y. y ∷ drop (k + 1) edge.actions) (sym is ∙ e));
  }

  -- and nowhere else
  pub stands_is : StandsAt edge check k → action ≡ Check check.check
  stands_is h =
      let long : length (take k edge.actions) ≡ k = let t = length-take k edge.actions in omega (arith, t, l) in
      is ∙ ap (λ xs. get_or xs k action) h.parted
      ∙ ap (λ i. get_or (take k edge.actions ++ Check check.check ∷ h.later) i action) (sym long)
      ∙ get_or-append_seam (take k edge.actions) (Check check.check) h.later action
