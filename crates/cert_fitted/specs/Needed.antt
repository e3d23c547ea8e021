-- How many guards the edges have for which a vector needs evidence.
use Rattle.std.specs.Prelude.{ℕ, ◌+◌, ◌-◌, ◌*◌, eqb, Bool, true, false, List, [], ◌∷◌, length, get_or, flat_map, if◌then◌else◌}
use Rattle.std.specs.List.{count_by, range_with_len}
use Rattle.base_numbers.specs.Extended.{Ext, neg_inf, fin, pos_inf}
use Rattle.flow_edges.specs.declared.edge.Edge.{Edge}
use Rattle.flow_systems.specs.Cells.{guard_count, is_havoc}
use Rattle.flow_systems.specs.Equations.{Equations}

-- a bound is +∞
abbrev pub is_top : Ext → Bool
is_top neg_inf = false
is_top (fin c) = false
is_top pos_inf = true

-- those of the edges that end at a point, in order
abbrev pub guards_into : ℕ → List Edge → List ℕ
guards_into p [] = []
guards_into p (edge ∷ edges) = if eqb edge.to p then guard_count edge.actions ∷ guards_into p edges else guards_into p edges

-- those that an unknown of a point with this bound needs
abbrev pub guards_at : Equations → ℕ → Ext → List ℕ
guards_at system p bound = if is_top bound then [] else guards_into p system.edges

-- the bound of an unknown
abbrev pub bound_of : Equations → List Ext → ℕ → ℕ → Ext
bound_of system bounds p r = get_or bounds (p * length system.template + r) neg_inf

-- those that the first n rows of a point need
abbrev pub guards_of_rows : Equations → List Ext → ℕ → ℕ → List ℕ
guards_of_rows system bounds p n = flat_map (λ r. guards_at system p (bound_of system bounds p r)) (range_with_len 0 n)

-- those that the first n points after the entry need
abbrev pub guards_of_points : Equations → List Ext → ℕ → List ℕ
guards_of_points system bounds n = flat_map (λ p. guards_of_rows system bounds p (length system.template)) (range_with_len 1 n)

-- all of them: unknown by unknown but those of the entry, in order of number, and edge by edge
abbrev pub guards_needed : Equations → List Ext → List ℕ
guards_needed system bounds = guards_of_points system bounds (system.points - 1)

-- how many free values the edge of a number has, and none where there is no such edge
abbrev pub frees_at : Equations → ℕ → ℕ
frees_at system edge = count_by is_havoc (get_or system.edges edge (record { from = 0; to = 0; actions = [] })).actions
