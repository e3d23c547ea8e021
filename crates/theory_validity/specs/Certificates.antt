-- Evidence of upper bounds, and what makes a certificate valid.
use Rattle.std.specs.Prelude.{◌≡◌, ℕ, suc, ◌+◌, ◌-◌, ◌*◌, ◌<◌, eqb, ℤ, List, [], ◌∷◌, length, map, get_or, if◌then◌else◌, Contains}
use Rattle.std.specs.Prelude.{flat_map}
use Rattle.std.specs.List.{range_with_len}
use Rattle.base_numbers.specs.Rational.{ℚ, zero_ℚ, ◌+ℚ◌, ◌*ℚ◌, neg_ℚ, ◌≤ℚ◌, ◌<ℚ◌}
use Rattle.base_numbers.specs.Extended.{Ext, neg_inf, fin, pos_inf}
use Rattle.base_numbers.specs.Vector.{add_vec, vec_mat, AllNonneg}
use Rattle.flow_edges.specs.declared.edge.Edge.{Edge}
use Rattle.flow_systems.specs.Equations.{Equations, Vector}
use Rattle.theory_validity.specs.Words.{Affine, width, guard_forms, start_form, end_form}
use Rattle.theory_validity.specs.Steps.{Step, after_step, ValidStep, start_vector}

-- multipliers of rows and guards, or the number of a row that nothing reaches
pub data Evidence : Type 0 where
  Bound : (rows guards : List ℚ) → Evidence
  Empty : (rows guards : List ℚ) → Evidence
  Unreached : (row : ℕ) → Evidence

-- the number of a finite extended number, and 0 of the others
unfoldable pub num : Ext → ℚ
num neg_inf = zero_ℚ
num (fin c) = c
num pos_inf = zero_ℚ

-- the number is -∞ or +∞
abbrev pub NotFinite : Ext → Type 0
NotFinite neg_inf = Unit {0}
NotFinite (fin c) = ⊥
NotFinite pos_inf = Unit {0}

-- the coefficients of forms
unfoldable pub coefficients : List Affine → List (List ℚ)
coefficients fs = map (λ f. f.coeffs) fs

-- the sum of multiplier times row and of multiplier times guard without its constant, over the columns of a word
unfoldable pub combination : Equations → Edge → List ℚ → List ℚ → List ℚ
combination system edge rows guards =
    add_vec (vec_mat rows (coefficients (map (start_form system.variables) system.template)))
    (vec_mat guards (coefficients (guard_forms system.variables edge.actions)))

-- the sum of multiplier times bound, and of multiplier times the negated constant
unfoldable pub row_side : List ℚ → (ℕ → Ext) → ℚ
row_side [] bounds = zero_ℚ
row_side (y ∷ ys) bounds = y *ℚ num (bounds 0) +ℚ row_side ys (λ r. bounds (suc r))

-- the sum of multiplier times the negated constant of a guard
unfoldable pub guard_side : List ℚ → List Affine → ℚ
guard_side [] gs = zero_ℚ
guard_side (m ∷ ms) [] = zero_ℚ
guard_side (m ∷ ms) (g ∷ gs) = m *ℚ neg_ℚ g.constant +ℚ guard_side ms gs

-- the side of a combination: the rows' part and the guards' part
unfoldable pub side : Equations → Vector → Edge → List ℚ → List ℚ → ℚ
side system z edge rows guards = row_side rows (z edge.from) +ℚ guard_side guards (guard_forms system.variables edge.actions)

-- two lists of coefficients are the same on this number of columns
abbrev pub SameColumns : ℕ → List ℚ → List ℚ → Type 0
SameColumns columns u v = (k : ℕ) → k < columns → get_or u k zero_ℚ ≡ get_or v k zero_ℚ

-- multipliers are as many as rows and guards, not negative, and 0 on each row whose bound at the source isn't finite
pub record Multipliers (system : Equations) (z : Vector) (edge : Edge) (rows guards : List ℚ) : Type 0 where
  pub row_count : length rows ≡ length system.template
  pub guard_count : length guards ≡ length (guard_forms system.variables edge.actions)
  pub rows_nonneg : AllNonneg rows
  pub guards_nonneg : AllNonneg guards
  pub zero_where : (r : ℕ) → r < length system.template → NotFinite (z edge.from r) → get_or rows r zero_ℚ ≡ zero_ℚ

-- the combination is the row's end form column by column, and the side with its constant is at most the unknown's bound
pub record BoundPasses (system : Equations) (z : Vector) (edge : Edge) (row : List ℤ) (number : Ext) (rows guards : List ℚ) : Type 0 where
  pub multipliers : Multipliers system z edge rows guards
  pub limit : ℚ
  pub finite : number ≡ fin limit
  pub same : SameColumns (width system.variables edge.actions) (combination system edge rows guards)
      (end_form system.variables edge.actions row).coeffs
  pub small : side system z edge rows guards +ℚ (end_form system.variables edge.actions row).constant ≤ℚ limit

-- the combination is 0 on every column and the side is negative: nothing runs
pub record EmptyPasses (system : Equations) (z : Vector) (edge : Edge) (rows guards : List ℚ) : Type 0 where
  pub multipliers : Multipliers system z edge rows guards
  pub same : SameColumns (width system.variables edge.actions) (combination system edge rows guards) []
  pub negative : side system z edge rows guards <ℚ zero_ℚ

-- evidence that every word which runs along the edge has at most this number as its row's value at the end
abbrev pub EvidencePasses : Equations → Vector → Edge → List ℤ → Ext → Evidence → Type 0
EvidencePasses system z edge row number (Bound rows guards) = BoundPasses system z edge row number rows guards
EvidencePasses system z edge row number (Empty rows guards) = EmptyPasses system z edge rows guards
EvidencePasses system z edge row number (Unreached r) = (r < length system.template) × (z edge.from r ≡ neg_inf)

-- the edges that end at a point, in order
unfoldable pub edges_into : ℕ → List Edge → List Edge
edges_into p [] = []
edges_into p (edge ∷ edges) = if eqb edge.to p then edge ∷ edges_into p edges else edges_into p edges

-- an edge, its number, and a row that need evidence
pub record Need : Type 0 where
  pub edge : Edge
  pub number : ℕ
  pub row : ℕ

-- the edges from number k on that end at a point, with a row
unfoldable pub into_needs : ℕ → ℕ → ℕ → List Edge → List Need
into_needs p r k [] = []
into_needs p r k (edge ∷ edges) = if eqb edge.to p then record { edge = edge; number = k; row = r } ∷ into_needs p r (suc k) edges
    else into_needs p r (suc k) edges

-- what is needed for an unknown with this bound
unfoldable pub needs_at : Equations → ℕ → ℕ → Ext → List Need
needs_at system p r neg_inf = into_needs p r 0 system.edges
needs_at system p r (fin c) = into_needs p r 0 system.edges
needs_at system p r pos_inf = []

-- for each unknown that isn't at the entry and whose bound isn't +∞, in order of number, each edge that ends at its point, in order of
-- number
unfoldable pub needs : Equations → Vector → List Need
needs system z = flat_map (λ p. flat_map (λ r. needs_at system p r (z p r)) (range_with_len 0 (length system.template)))
    (range_with_len 1 (system.points - 1))

-- there is one piece of evidence for each need, in order, and it passes
abbrev pub AllPass : Equations → Vector → List Need → List Evidence → Type 0
AllPass system z [] [] = Unit {0}
AllPass system z [] (evidence ∷ more) = ⊥
AllPass system z (need ∷ rest) [] = ⊥
AllPass system z (need ∷ rest) (evidence ∷ more) =
    EvidencePasses system z need.edge (get_or system.template need.row []) (z need.edge.to need.row) evidence × AllPass system z rest more

-- each step is valid at the vector that it finds
abbrev pub ValidSteps : Equations → Vector → List Step → Type 0
ValidSteps system z [] = Unit {0}
ValidSteps system z (step ∷ steps) = ValidStep system z step × ValidSteps system (after_step step z) steps

-- the vector to which steps lead
unfoldable pub after_steps : List Step → Vector → Vector
after_steps [] z = z
after_steps (step ∷ steps) z = after_steps steps (after_step step z)

-- a certificate for a system: the bounds of the unknowns in order of number, steps, and evidence of upper bounds
pub record Certificate : Type 0 where
  pub bounds : List Ext
  pub steps : List Step
  pub uppers : List Evidence

-- the vector of a list of bounds
unfoldable pub bounds_vector : Equations → List Ext → Vector
bounds_vector system bounds p r = get_or bounds (p * length system.template + r) neg_inf

-- the steps are valid one after the other and lead from the start vector to the bounds, and the evidence passes for the bounds
pub record ValidCertificate (system : Equations) (certificate : Certificate) : Type 0 where
  pub size : length certificate.bounds ≡ system.points * length system.template
  pub steps : ValidSteps system start_vector certificate.steps
  pub final : (p r : ℕ) → p < system.points → r < length system.template →
      after_steps certificate.steps start_vector p r ≡ bounds_vector system certificate.bounds p r
  pub uppers : AllPass system (bounds_vector system certificate.bounds) (needs system (bounds_vector system certificate.bounds))
      certificate.uppers

-- an entry is there, and each edge ends at a point
pub record PointsInRange (system : Equations) : Type 0 where
  pub entry : 0 < system.points
  pub ends : (edge : Edge) → Contains system.edges edge → edge.to < system.points
