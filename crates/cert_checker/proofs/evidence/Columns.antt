-- Columns that are compared one by one.
use Rattle.std.proofs.Common.{◌≡◌, ◌∙◌, ℕ, ◌+◌, ◌<◌, ◌≤◌, List, [], ◌∷◌, ◌++◌, length, get_or, drop, Some, None, sym, ap, subst, zero-add}
use Rattle.std.specs.Prelude.{slice_get}
use Rattle.std.proofs.lemmas.List.FromFn.{length-range_with_len, get_or-range_with_len}
use Rattle.base_numbers.specs.Rational.{ℚ, zero_ℚ}
use Rattle.base_numbers.proofs.rational.Laws.{ℚ_discrete}
use Rattle.flow_edges.specs.declared.edge.Edge.{Edge}
use Rattle.flow_systems.specs.declared.spot.Site.{Site}
use Rattle.flow_systems.specs.Equations.{Equations}
use Rattle.theory_validity.specs.Certificates.{combination}
use Rattle.theory_validity.specs.Words.{width, end_form}
use Rattle.theory_validity.specs.Faults.{Fault}
use Rattle.solve_composition.specs.declared.affine.Affine.{Affine}
use Rattle.solve_composition.specs.Composed.{EdgeForms, AreComposed}
use Rattle.solve_composition.proofs.Ranges.{range_flat}
use Rattle.cert_checker.specs.declared.fault.CheckFault.{CheckFault}
use Rattle.cert_checker.specs.Events.{Event, Test, first_stop, sums, decided}
use Rattle.cert_checker.specs.EvidenceEvents.{column_operations, columns_events, columns_of}
use Rattle.cert_checker.proofs.combination.Forms.{end_at}
use Rattle.cert_checker.proofs.evidence.Sums.{all_more, all_stop, all_pass}

module _ (site : Site) (fault : Fault) (system : Equations) (e : Edge) (rows guards goal : List ℚ) where
  -- one column with its test
  abbrev pub At : ℕ → List Event
  At k = sums site (column_operations system e rows guards k) ++ Test (decided
      (ℚ_discrete (get_or (combination system e rows guards) k zero_ℚ) (get_or goal k zero_ℚ))) fault ∷ []

  -- what is left from column i on
  abbrev pub Left : ℕ → Type 0
  Left i =
      first_stop (columns_events site fault system e rows guards goal (columns_of system e))
      ≡ first_stop (columns_events site fault system e rows guards goal (drop i (columns_of system e)))

  module _ (i : ℕ) (h : Left i) where
    within : i < width system.variables e.actions → i < length (columns_of system e)
    within l = subst (λ n. i < n) (sym (length-range_with_len 0 (width system.variables e.actions))) l

    number : i < width system.variables e.actions → i ≡ get_or (columns_of system e) i i
    number l = sym (get_or-range_with_len 0 (width system.variables e.actions) i i l ∙ zero-add i)

    -- where nothing stops at a column, the next columns are left
    pub columns_more : i < width system.variables e.actions → first_stop (At i) ≡ None → Left (i + 1)
    columns_more l n = all_more At (columns_of system e) i h i (within l) (number l) n

    -- where something stops at a column, the columns stop there
    pub columns_stop : i < width system.variables e.actions → (a : CheckFault) → first_stop (At i) ≡ Some a
        → first_stop (columns_events site fault system e rows guards goal (columns_of system e)) ≡ Some a
    columns_stop l a n = all_stop At (columns_of system e) i h i (within l) (number l) a n

    -- where all columns are compared, none stops
    pub columns_all : width system.variables e.actions ≤ i → first_stop
        (columns_events site fault system e rows guards goal (columns_of system e)) ≡ None
    columns_all l = all_pass At (columns_of system e) i h (subst (λ n. n ≤ i)
        (sym (length-range_with_len 0 (width system.variables e.actions))) l)

-- goals that are the same on all columns
pub goals_same : (site : Site) (fault : Fault) (system : Equations) (e : Edge) (rows guards goal other : List ℚ)
    → ((k : ℕ) → k < width system.variables e.actions → get_or goal k zero_ℚ ≡ get_or other k zero_ℚ) →
    columns_events site fault system e rows guards goal (columns_of system e)
    ≡ columns_events site fault system e rows guards other (columns_of system e)
goals_same site fault system e rows guards goal other h =
    range_flat (At site fault system e rows guards goal) (At site fault system e rows guards other) 0 (width system.variables e.actions)
    (λ k l. ap (λ y. sums site (column_operations system e rows guards k)
    ++ Test (decided (ℚ_discrete (get_or (combination system e rows guards) k zero_ℚ) y)) fault ∷ [])
    (h k (subst (λ n. k < n) (zero-add (width system.variables e.actions)) l)))

-- the coefficients of a composed end value are those of the row's end form
pub ending_same : (site : Site) (fault : Fault) (system : Equations) (paths : List EdgeForms) (composed : AreComposed system paths) (k : ℕ)
    (e : Edge) (found : slice_get system.edges k ≡ Some e) (forms : EdgeForms) (at : slice_get paths k ≡ Some forms)
    (rows guards : List ℚ) (r : ℕ) (end : Affine) (l : r < length system.template) (taken : slice_get forms.rows r ≡ Some end)
    (goal : List ℚ) → goal ≡ end.coeffs →
    columns_events site fault system e rows guards goal (columns_of system e)
    ≡ columns_events site fault system e rows guards (end_form system.variables e.actions (get_or system.template r [])).coeffs
    (columns_of system e)
ending_same site fault system paths composed k e found forms at rows guards r end l taken goal is =
    goals_same site fault system e rows guards goal (end_form system.variables e.actions (get_or system.template r [])).coeffs
    (λ j m. ap (λ cs. get_or cs j zero_ℚ) is ∙ end_at system paths composed k e found forms at r end l taken j m)
