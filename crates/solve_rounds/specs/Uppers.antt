-- The evidence of upper bounds, unknown by unknown.
use Rattle.std.specs.Prelude.{ℕ, List, flat_map}
use Rattle.std.specs.List.{range_with_len}
use Rattle.flow_systems.specs.Equations.{Equations, Vector}
use Rattle.theory_validity.specs.Certificates.{Evidence, into_needs, needs_at}
use Rattle.theory_rounds.specs.Made.{uppers_for}

-- the evidence for the edges into a point, with a row
abbrev pub uppers_into : Equations → Vector → ℕ → ℕ → List Evidence
uppers_into system z p r = uppers_for system z (into_needs p r 0 system.edges)

-- the evidence for the first n rows of a point
abbrev pub uppers_of_rows : Equations → Vector → ℕ → ℕ → List Evidence
uppers_of_rows system z p n = flat_map (λ r. uppers_for system z (needs_at system p r (z p r))) (range_with_len 0 n)
