-- Transformers that stay known from round to round.
use Rattle.std.specs.Prelude.{◌≡◌, ℕ, ◌+◌, ◌*◌, ◌/◌, ◌%◌, ◌<◌, true, false, List, length, get_or, Option, Some, None}
use Rattle.base_facts.specs.Elements.{In}
use Rattle.std.specs.Option.{option_map}
use Rattle.base_numbers.specs.Extended.{Ext as Extended, neg_inf, ◌≤ᴱ◌}
use Rattle.base_fractions.specs.declared.ext.Ext.{Ext}
use Rattle.flow_systems.specs.declared.system.System.{System}
use Rattle.solve_offers.specs.declared.found.Found.{Found}
use Rattle.solve_offers.specs.declared.known.Known.{Known}
use Rattle.solve_offers.specs.AtBounds.{transformers, vector_at, edge_at, row_at}
use Rattle.solve_offers.specs.Incoming.{numbers_by_point}
use Rattle.solve_offers.specs.Outgoing.{AreLeaving}
use Rattle.solve_offers.specs.Found.{IsFound}

-- there is an entry for each edge and row
abbrev pub HasEntries : System → Known → Type 0
HasEntries system known = length known.values.items ≡ length system.flow.edges * length system.template

-- what is known of an edge and a row
abbrev pub known_at : System → Known → ℕ → ℕ → Option Found
known_at system known edge row = get_or known.values.items (edge * length system.template + row) None

-- the transformer of an edge and a row, if it is known
abbrev pub known_value : System → Known → ℕ → ℕ → Option Ext
known_value system known edge row = option_map (λ (found : Found). found.value) (known_at system known edge row)

-- no transformer of an edge into the point of an unknown exceeds its bound
abbrev pub IsSettled : System → List Extended → ℕ → Type 0
IsSettled system bounds u =
    (edge : ℕ) → edge < length system.flow.edges → (edge_at system edge).to ≡ u / length system.template →
    transformers system (vector_at system bounds) (edge_at system edge) (row_at system (u % length system.template))
    ≤ᴱ vector_at system bounds (u / length system.template) (u % length system.template)

-- there is a mark for each point, and the edges into and out of each point are listed
pub record HasMarks (system : System) (known : Known) : Type 0 where
  pub size : length known.settled.items ≡ length system.flow.points
  pub listed : known.incoming ≡ numbers_by_point (length system.flow.points) system.flow.edges
  pub leaving : AreLeaving system known.outgoing

-- there is an entry for each edge and row, what is there was found at the bounds, and the unknowns of marked points are settled
pub record AreKnown (system : System) (bounds : List Extended) (known : Known) : Type 0 where
  pub entries : HasEntries system known
  pub stand : (edge row : ℕ) (found : Found) → edge < length system.flow.edges → row < length system.template
      → known_at system known edge row ≡ Some found →
      IsFound system bounds edge row found
  pub marks : HasMarks system known
  pub settled : (u : ℕ) → u < length system.flow.points * length system.template
      → get_or known.settled.items (u / length system.template) false ≡ true → IsSettled system bounds u

-- the lists of edges stay
abbrev pub KeepsLists : Known → Known → Type 0
KeepsLists old new = (new.incoming ≡ old.incoming) × (new.outgoing ≡ old.outgoing)

-- all marks and the lists stay
abbrev pub KeepsMarks : Known → Known → Type 0
KeepsMarks old new = (new.settled.items ≡ old.settled.items) × KeepsLists old new

-- what a part knows the whole knows
abbrev pub IsPartOf : Known → Known → Type 0
IsPartOf part whole = (k : ℕ) (found : Found) → get_or part.values.items k None ≡ Some found → get_or whole.values.items k None ≡ Some found

-- two vectors have the same bounds at a point
abbrev pub IsSameAt : System → List Extended → List Extended → ℕ → Type 0
IsSameAt system before after point = (row : ℕ) → row < length system.template
    → vector_at system before point row ≡ vector_at system after point row

-- nothing is known any more of the edges that start at a point, and neither it nor a point where one of them ends is marked; nothing else
-- is known that wasn't
pub record Forgets (system : System) (point : ℕ) (old new : Known) : Type 0 where
  pub entries : HasEntries system new
  pub marks : HasMarks system new
  pub part : IsPartOf new old
  pub gone : (edge row : ℕ) → edge < length system.flow.edges → row < length system.template → (edge_at system edge).from ≡ point
      → known_at system new edge row ≡ None
  pub keeps : (p : ℕ) → get_or new.settled.items p false ≡ true → get_or old.settled.items p false ≡ true
  pub unmarked : get_or new.settled.items point false ≡ false
  pub ends : (edge : ℕ) → edge < length system.flow.edges → (edge_at system edge).from ≡ point
      → get_or new.settled.items (edge_at system edge).to false ≡ false

-- each number is that of an unknown
abbrev pub AreNumbersOf : System → List ℕ → Type 0
AreNumbersOf system numbers = (u : ℕ) → In numbers u → u < length system.flow.points * length system.template

-- bounds that aren't listed by the numbers of their unknowns stay
abbrev pub KeepsOthers : List ℕ → List Extended → List Extended → Type 0
KeepsOthers changed before after = (u : ℕ) → (In changed u → ⊥) → get_or after u neg_inf ≡ get_or before u neg_inf
