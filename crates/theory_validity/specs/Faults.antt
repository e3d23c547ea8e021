-- The first failing test of a certificate, in the order of the tests, with exact numbers.
use Rattle.std.specs.Prelude.{◌≡◌, ℕ, suc, ◌+◌, ◌*◌, ℤ, List, [], ◌∷◌, length, map, get_or, slice_get, Option, Some, None, flat_map}
use Rattle.std.proofs.Common.{◌∙◌, sym, subst}
use Rattle.std.specs.List.{range_with_len}
use native.Mathlib.Decide.{dec_lt, dec_le, ℕ_discrete}
use Rattle.base_facts.specs.Elements.{In}
use Rattle.base_numbers.specs.Rational.{ℚ, zero_ℚ, ◌+ℚ◌, ◌≤ℚ◌, ◌<ℚ◌}
use Rattle.base_numbers.specs.Extended.{Ext, fin, pos_inf, ◌≤ᴱ◌}
use Rattle.base_numbers.proofs.rational.Laws.{ℚ_discrete}
use Rattle.flow_edges.specs.declared.edge.Edge.{Edge}
use Rattle.flow_systems.specs.Equations.{Equations, Vector}
use Rattle.theory_validity.specs.Words.{lin, width, free_count, guard_forms, start_form, end_form, Falls}
use Rattle.theory_validity.specs.Steps.{Pieces, word, Runs, Item, Kind, Plain, Jump, Ray, Step, edge_of, row_of, put, new_value, after_step}
use Rattle.theory_validity.specs.Steps.{Placed}
use Rattle.theory_validity.specs.Steps.{Unnamed, Sized, item_value, start_vector}
use Rattle.theory_validity.specs.Certificates.{Evidence, Bound, Empty, Unreached, NotFinite, combination, side, SameColumns, Multipliers}
use Rattle.theory_validity.specs.Certificates.{EvidencePasses}
use Rattle.theory_validity.specs.Certificates.{Need, needs, after_steps, Certificate, bounds_vector}
use Rattle.theory_validity.specs.Decide.{dec_and, dec_imp, dec_by, dec_le_ℚ, dec_lt_ℚ, dec_leᴱ, dec_ltᴱ, dec_finite, dec_not_finite}
use Rattle.theory_validity.specs.Decide.{ext_same, dec_all_in}
use Rattle.theory_validity.specs.Decide.{dec_rows, dec_below, dec_nonneg, dec_unnamed, dec_falls, dec_runs}

-- which test fails first: by step and item, or by unknown and edge
pub data Fault : Type 0 where
  SizeFault : Fault
  TraceFault LowFault HighFault RayFault : (step item : ℕ) → Fault
  FinalFault : (unknown : ℕ) → Fault
  UpperFault : (unknown edge : ℕ) → Fault

-- the fault of a test that fails, or what comes next
abbrev pub unless : {P : Type 0} → Dec P → Fault → Option Fault → Option Fault
unless (yes p) fault next = next
unless (no n) fault next = Some fault

-- the first of two faults
abbrev pub and_then : Option Fault → Option Fault → Option Fault
and_then None next = next
and_then (Some fault) next = Some fault

-- ---- steps
abbrev pub SecondSized : Kind → Equations → Item → Type 0
SecondSized Plain system item = Unit {0}
SecondSized Jump system item = Sized system item item.second
SecondSized Ray system item = Sized system item item.second

dec_sized : (system : Equations) (item : Item) (t : Pieces) → Dec (Sized system item t)
dec_sized system item t = dec_and (ℕ_discrete (length t.start) system.variables)
    (ℕ_discrete (length t.free) (free_count (edge_of system item).actions))

dec_second_sized : (kind : Kind) (system : Equations) (item : Item) → Dec (SecondSized kind system item)
dec_second_sized Plain system item = yes tt
dec_second_sized Jump system item = dec_sized system item item.second
dec_second_sized Ray system item = dec_sized system item item.second

-- the unknown is in range, not at the entry and named by no earlier item, the edge is there and ends at its point, and the words have the
-- edge's lengths
abbrev pub Named : Kind → Equations → List Item → Item → Type 0
Named kind system earlier item = Placed system item × (Unnamed earlier item.point item.row
    × (Sized system item item.low × SecondSized kind system item))

dec_placed : (system : Equations) (item : Item) → Dec (Placed system item)
dec_placed system item = dec_by
    (λ p. record { later = p.0; point_within = p.1.0; row_within = p.1.1.0; edge_within = p.1.1.1.0; into = p.1.1.1.1 })
    (λ h. (h.later, (h.point_within, (h.row_within, (h.edge_within, h.into)))))
    (dec_and (dec_lt 0 item.point) (dec_and (dec_lt item.point system.points) (dec_and (dec_lt item.row (length system.template))
    (dec_and (dec_lt item.edge (length system.edges)) (ℕ_discrete (edge_of system item).to item.point)))))

-- whether an item's names pass
pub dec_named : (kind : Kind) (system : Equations) (earlier : List Item) (item : Item) → Dec (Named kind system earlier item)
dec_named kind system earlier item =
    dec_and (dec_placed system item) (dec_and (dec_unnamed earlier item.point item.row)
    (dec_and (dec_sized system item item.low) (dec_second_sized kind system item)))

-- the bound of an item's unknown
abbrev pub bound_at : Vector → Item → Ext
bound_at z item = z item.point item.row

-- an item's tests at the vector
unfoldable pub first_tests : Kind → Equations → Vector → List Item → ℕ → ℕ → Item → Option Fault → Option Fault
first_tests Plain system z earlier s k item next =
    unless (dec_named Plain system earlier item) (TraceFault s k) (unless (dec_runs system z (edge_of system item) (word item.low))
    (TraceFault s k)
    (unless (dec_ltᴱ (bound_at z item) (fin item.number)) (LowFault s k)
    (unless (dec_le_ℚ item.number (item_value system item (word item.low))) (LowFault s k) next)))
first_tests Jump system z earlier s k item next =
    unless (dec_named Jump system earlier item) (TraceFault s k) (unless (dec_finite (bound_at z item)) (LowFault s k)
    (unless (dec_runs system z (edge_of system item) (word item.low)) (TraceFault s k)
    (unless (dec_ltᴱ (bound_at z item) (fin (item_value system item (word item.low)))) (LowFault s k) next)))
first_tests Ray system z earlier s k item next =
    unless (dec_named Ray system earlier item) (TraceFault s k) (unless (dec_ltᴱ (bound_at z item) pos_inf) (LowFault s k)
    (unless (dec_runs system z (edge_of system item) (word item.low)) (TraceFault s k)
    (unless (dec_ltᴱ (bound_at z item) (fin (item_value system item (word item.low)))) (LowFault s k) next)))

-- the tests of the items in order; those before are kept
unfoldable pub first_pass : Kind → Equations → Vector → ℕ → ℕ → List Item → List Item → Option Fault
first_pass kind system z s k earlier [] = None
first_pass kind system z s k earlier (item ∷ items) = first_tests kind system z earlier s k item
    (first_pass kind system z s (suc k) (item ∷ earlier) items)

-- along a ray's direction
abbrev pub RiseNamed : Equations → List Item → Item → Item → Type 0
RiseNamed system items item other = other.point ≡ (edge_of system item).from →
    lin (start_form system.variables (row_of system other)) (word item.second) ≤ℚ other.number

-- a source row that no item names rises by at most 0 where its bound is a fraction
abbrev pub RiseOther : Equations → Vector → List Item → Item → ℕ → List ℤ → Type 0
RiseOther system z items item r row = Unnamed items (edge_of system item).from r → ((c : ℚ) × (z (edge_of system item).from r ≡ fin c)) →
    lin (start_form system.variables row) (word item.second) ≤ℚ zero_ℚ

-- the tests of a ray's item after all items have passed
abbrev pub Goes : Equations → Vector → List Item → Item → Type 0
Goes system z items item =
    (zero_ℚ <ℚ item.number) × (((other : Item) → In items other → RiseNamed system items item other) ×
    (((r : ℕ) (row : List ℤ) → slice_get system.template r ≡ Some row → RiseOther system z items item r row) ×
    (Falls system.variables (edge_of system item).actions (word item.second)
    × (item.number ≤ℚ lin (end_form system.variables (edge_of system item).actions (row_of system item)) (word item.second)))))

-- whether they pass
pub dec_goes : (system : Equations) (z : Vector) (items : List Item) (item : Item) → Dec (Goes system z items item)
dec_goes system z items item =
    dec_and (dec_lt_ℚ zero_ℚ item.number) (dec_and
    (dec_all_in {P = RiseNamed system items item} (λ other. dec_imp (ℕ_discrete other.point (edge_of system item).from)
    (dec_le_ℚ (lin (start_form system.variables (row_of system other)) (word item.second)) other.number)) items)
    (dec_and (dec_rows {P = RiseOther system z items item}
    (λ r row. dec_imp (dec_unnamed items (edge_of system item).from r)
    (dec_imp (dec_finite (z (edge_of system item).from r)) (dec_le_ℚ (lin (start_form system.variables row) (word item.second)) zero_ℚ)))
    system.template)
    (dec_and (dec_falls system (edge_of system item) (word item.second))
    (dec_le_ℚ item.number (lin (end_form system.variables (edge_of system item).actions (row_of system item)) (word item.second))))))

-- the tests of a jump's item after all items have passed
abbrev pub Lands : Equations → Vector → Vector → Item → Type 0
Lands system z p item = (bound_at z item ≤ᴱ fin item.number)
    × (Runs system p (edge_of system item) (word item.second) × (item.number ≤ℚ item_value system item (word item.second)))

-- whether they pass
pub dec_lands : (system : Equations) (z p : Vector) (item : Item) → Dec (Lands system z p item)
dec_lands system z p item = dec_and (dec_leᴱ (bound_at z item) (fin item.number))
    (dec_and (dec_runs system p (edge_of system item) (word item.second))
    (dec_le_ℚ item.number (item_value system item (word item.second))))

-- the tests after all items have passed
unfoldable pub second_pass : Kind → Equations → Vector → List Item → ℕ → ℕ → List Item → Option Fault
second_pass kind system z all s k [] = None
second_pass Plain system z all s k (item ∷ items) = None
second_pass Jump system z all s k (item ∷ items) =
    unless (dec_lands system z (put (new_value Jump) all z) item) (HighFault s k) (second_pass Jump system z all s (suc k) items)
second_pass Ray system z all s k (item ∷ items) = unless (dec_goes system z all item) (RayFault s k)
    (second_pass Ray system z all s (suc k) items)

-- the first failing test of a step, with the step's number
unfoldable pub step_fault : Equations → Vector → ℕ → Step → Option Fault
step_fault system z s step = and_then (first_pass step.kind system z s 0 [] step.items)
    (second_pass step.kind system z step.items s 0 step.items)

-- the first failing test of steps that follow each other
unfoldable pub steps_fault : Equations → Vector → ℕ → List Step → Option Fault
steps_fault system z s [] = None
steps_fault system z s (step ∷ steps) = and_then (step_fault system z s step) (steps_fault system (after_step step z) (suc s) steps)

-- ---- the end
-- the unknowns in order of number
unfoldable pub unknowns : Equations → List (ℕ × ℕ)
unknowns system = flat_map (λ p. map (λ r. (p, r)) (range_with_len 0 (length system.template))) (range_with_len 0 system.points)

-- the lowest unknown of a list at which two vectors differ
unfoldable pub final_fault : Equations → Vector → Vector → List (ℕ × ℕ) → Option Fault
final_fault system z bounds [] = None
final_fault system z bounds (u ∷ us) = unless (ext_same (z u.0 u.1) (bounds u.0 u.1)) (FinalFault (u.0 * length system.template + u.1))
    (final_fault system z bounds us)

dec_multipliers : (system : Equations) (z : Vector) (edge : Edge) (rows guards : List ℚ) → Dec (Multipliers system z edge rows guards)
dec_multipliers system z edge rows guards = dec_by
    (λ p. record { row_count = p.0; guard_count = p.1.0; rows_nonneg = p.1.1.0; guards_nonneg = p.1.1.1.0; zero_where = p.1.1.1.1 })
    (λ h. (h.row_count, (h.guard_count, (h.rows_nonneg, (h.guards_nonneg, h.zero_where)))))
    (dec_and (ℕ_discrete (length rows) (length system.template)) (dec_and
    (ℕ_discrete (length guards) (length (guard_forms system.variables edge.actions)))
    (dec_and (dec_nonneg rows) (dec_and (dec_nonneg guards)
    (dec_below {P = λ r. NotFinite (z edge.from r) → get_or rows r zero_ℚ ≡ zero_ℚ}
    (λ r. dec_imp (dec_not_finite (z edge.from r)) (ℚ_discrete (get_or rows r zero_ℚ) zero_ℚ)) (length system.template))))))

dec_same_columns : (n : ℕ) (u v : List ℚ) → Dec (SameColumns n u v)
dec_same_columns n u v = dec_below {P = λ k. get_or u k zero_ℚ ≡ get_or v k zero_ℚ}
    (λ k. ℚ_discrete (get_or u k zero_ℚ) (get_or v k zero_ℚ)) n

dec_limited : (v : Ext) (x : ℚ) → Dec ((limit : ℚ) × (v ≡ fin limit) × (x ≤ℚ limit))
dec_limited v x = by (dec_finite v)
  where
    fin_same : (a b : ℚ) → fin a ≡ fin b → a ≡ b
    fin_same a b e = cc

    by : Dec ((c : ℚ) × (v ≡ fin c)) → Dec ((limit : ℚ) × (v ≡ fin limit) × (x ≤ℚ limit))
    by (yes f) = dec_by (λ h. (f.0, f.1, h)) (λ r. subst (λ c. x ≤ℚ c) (fin_same r.0 f.0 (sym r.1 ∙ f.1)) r.2) (dec_le_ℚ x f.0)
    by (no n) = no (λ r. n (r.0, r.1))

-- whether evidence passes
pub dec_evidence : (system : Equations) (z : Vector) (edge : Edge) (row : List ℤ) (number : Ext) (evidence : Evidence) →
    Dec (EvidencePasses system z edge row number evidence)
dec_evidence system z edge row number (Bound rows guards) = dec_by
    (λ p. record { multipliers = p.0; limit = p.1.1.0; finite = p.1.1.1; same = p.1.0; small = p.1.1.2 })
    (λ h. (h.multipliers, (h.same, (h.limit, h.finite, h.small))))
    (dec_and (dec_multipliers system z edge rows guards) (dec_and
    (dec_same_columns (width system.variables edge.actions) (combination system edge rows guards)
    (end_form system.variables edge.actions row).coeffs)
    (dec_limited number (side system z edge rows guards +ℚ (end_form system.variables edge.actions row).constant))))
dec_evidence system z edge row number (Empty rows guards) = dec_by
    (λ p. record { multipliers = p.0; same = p.1.0; negative = p.1.1 })
    (λ h. (h.multipliers, (h.same, h.negative)))
    (dec_and (dec_multipliers system z edge rows guards)
    (dec_and (dec_same_columns (width system.variables edge.actions) (combination system edge rows guards) [])
    (dec_lt_ℚ (side system z edge rows guards) zero_ℚ)))
dec_evidence system z edge row number (Unreached r) = dec_and (dec_lt r (length system.template)) (ext_same (z edge.from r) Ext.neg_inf)

-- the first need whose evidence is absent or fails
unfoldable pub uppers_fault : Equations → Vector → List Need → List Evidence → Option Fault
uppers_fault system z [] evidence = None
uppers_fault system z (need ∷ needs) [] = Some (UpperFault (need.edge.to * length system.template + need.row) need.number)
uppers_fault system z (need ∷ needs) (e ∷ evidence) =
    unless (dec_evidence system z need.edge (get_or system.template need.row []) (z need.edge.to need.row) e)
    (UpperFault (need.edge.to * length system.template + need.row) need.number)
    (uppers_fault system z needs evidence)

-- the first failing test of a certificate
unfoldable pub certificate_fault : Equations → Certificate → Option Fault
certificate_fault system certificate =
    let bounds = bounds_vector system certificate.bounds in
    unless (dec_and (ℕ_discrete (length certificate.bounds) (system.points * length system.template))
    (dec_le (length certificate.uppers) (length (needs system bounds)))) SizeFault
    (and_then (steps_fault system start_vector 0 certificate.steps)
    (and_then (final_fault system (after_steps certificate.steps start_vector) bounds (unknowns system))
    (uppers_fault system bounds (needs system bounds) certificate.uppers)))
