-- One edge or one case of a walk that goes on by edges walked already.
use Rattle.std.proofs.Common.{◌≡◌, ◌∙◌, ℕ, List, [], ◌∷◌, ◌++◌, ap}
use Rattle.flow_edges.specs.declared.edge.Edge.{Edge}
use Rattle.flow_edges.specs.Trails.{Begun, kept, followed, reached, walked}
use Rattle.flow_edges.proofs.trail.TrailLemmas.{kept_twice}

abbrev ended : Begun → ℕ → Edge
ended b p = record { from = b.from; to = p; actions = kept b.actions }

-- an edge that is begun and goes on by a walked edge is reached by that edge's way
pub went_on : (before after : List Edge) (b t : Begun) (e f : Edge) → t ≡ followed b e.actions
    → f ≡ record { from = t.from; to = e.to; actions = kept t.actions } →
    after ≡ before ++ f ∷ [] → after ≡ before ++ reached b (walked (e ∷ []))
went_on before after b t e f p q h =
    h
    ∙ ap (λ z. before ++ z ∷ [])
    (q ∙ ap (λ u. ended u e.to) p
    ∙ ap (λ a. let g : Edge = record { from = b.from; to = e.to; actions = a } in g) (kept_twice (b.actions ++ e.actions)))
