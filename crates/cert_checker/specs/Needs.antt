-- What bounds need evidence for, from a place on.
use Rattle.std.specs.Prelude.{◌≡◌, ℕ, ◌+◌, ◌*◌, ◌/◌, ◌%◌, List, [], ◌∷◌, ◌++◌, length, drop, get_or, flat_map, nat_lt, if◌then◌else◌}
use Rattle.std.specs.Prelude.{◌-◌}
use Rattle.std.specs.List.{range_with_len}
use Rattle.base_numbers.specs.Extended.{Ext, neg_inf, fin, pos_inf}
use Rattle.flow_edges.specs.declared.edge.Edge.{Edge}
use Rattle.flow_systems.specs.Equations.{Equations, Vector}
use Rattle.theory_validity.specs.Certificates.{Need, into_needs, needs_at}
use Rattle.cert_checker.specs.declared.needs.Needed.{Needed}

-- the edge of a number
abbrev pub edge_of : List Edge → ℕ → Edge
edge_of edges k = get_or edges k (record { from = 0; to = 0; actions = [] })

-- what an edge and an unknown stand for
abbrev pub need_of : Equations → Needed → Need
need_of system n = record { edge = edge_of system.edges n.edge; number = n.edge; row = n.unknown % length system.template }

-- what the unknown of a number needs
abbrev pub needs_of : Equations → Vector → ℕ → List Need
needs_of system z u = needs_at system (u / length system.template) (u % length system.template)
    (z (u / length system.template) (u % length system.template))

-- what the unknowns from number u on need
abbrev pub needs_from : Equations → Vector → ℕ → List Need
needs_from system z u = flat_map (needs_of system z) (range_with_len u (system.points * length system.template - u))

-- an unknown whose bound is +∞ needs nothing
abbrev pub unless_top : Ext → List Need → List Need
unless_top neg_inf needs = needs
unless_top (fin c) needs = needs
unless_top pos_inf needs = []

-- what an unknown needs for the edges from a number on
abbrev pub needs_into : Equations → Vector → Needed → List Need
needs_into system z from = unless_top (z (from.unknown / length system.template) (from.unknown % length system.template))
    (into_needs (from.unknown / length system.template) (from.unknown % length system.template) from.edge (drop from.edge system.edges))

-- what is needed from an unknown and one of its edges on: by this unknown and then by those after it; past the last unknown nothing
unfoldable pub needs_left : Equations → Vector → Needed → List Need
needs_left system z from = if nat_lt from.unknown (system.points * length system.template)
    then needs_into system z from ++ needs_from system z (from.unknown + 1) else []

-- edge k is the first one from a number on that ends at a point
pub record IsInto (p r : ℕ) (edges : List Edge) (first k : ℕ) : Type 0 where
  pub ends : (edge_of edges k).to ≡ p
  pub left : into_needs p r first (drop first edges)
      ≡ record { edge = edge_of edges k; number = k; row = r } ∷ into_needs p r (k + 1) (drop (k + 1) edges)

-- what is needed first, from a place on
pub record IsNext (system : Equations) (z : Vector) (from needed : Needed) : Type 0 where
  pub ends : (need_of system needed).edge.to ≡ needed.unknown / length system.template
  pub left : needs_left system z from
      ≡ need_of system needed ∷ needs_left system z (record { unknown = needed.unknown; edge = needed.edge + 1 })
