-- What is told of evidence by its multipliers, its columns and its side.
use Rattle.std.proofs.Common.{◌≡◌, ◌∙◌, ℕ, zero, suc, ◌*◌, ◌/◌, ◌%◌, ◌<◌, ℤ, List, [], ◌∷◌, ◌++◌, length, get_or, append_assoc, Some, None}
use Rattle.std.proofs.Common.{Result, MatchResult, refl, sym, ap, subst, subst₂, arith}
use Rattle.std.specs.Prelude.{slice_get}
use Rattle.base_numbers.specs.Rational.{ℚ, zero_ℚ, ◌+ℚ◌, ◌≤ℚ◌}
use Rattle.base_numbers.specs.Extended.{Ext, neg_inf, fin, ◌≤ᴱ◌}
use Rattle.flow_edges.specs.declared.edge.Edge.{Edge}
use Rattle.base_fractions.specs.Fits.{Fits, long_limit}
use Rattle.base_fractions.specs.declared.wide.Op.TheVariants.{Add}
use Rattle.base_fractions.specs.declared.wide.Wide.{Wide}
use Rattle.base_fractions.specs.Operation.{Operation, first_wide}
use Rattle.flow_systems.specs.declared.spot.Site.{Site}
use Rattle.flow_systems.specs.Equations.{Equations, Vector}
use Rattle.flow_systems.specs.Sums.{SumAnswers}
use Rattle.flow_systems.specs.View.{vector_of}
use Rattle.flow_systems.proofs.Widths.{one_answer}
use Rattle.theory_validity.specs.Certificates.{Bound, Empty, Unreached, side, Multipliers}
use Rattle.theory_validity.specs.Words.{Affine as Form, end_form}
use Rattle.theory_validity.specs.Decide.{dec_leᴱ, dec_lt_ℚ, dec_finite, ext_same}
use Rattle.theory_validity.specs.Faults.{Fault}
use native.Mathlib.Decide.{dec_lt}
use Rattle.solve_composition.specs.declared.affine.Affine.{Affine}
use Rattle.solve_composition.specs.Composed.{EdgeForms, edge_forms, AreComposed}
use Rattle.cert_checker.specs.declared.fault.CheckFault.{CheckFault}
use Rattle.cert_checker.specs.Events.{Event, Sum, Test, fault_answer, wide_answer, first_stop, sums, decided}
use Rattle.cert_checker.specs.EvidenceEvents.{side_operations, columns_events, columns_of, dec_multipliers, combination_events}
use Rattle.cert_checker.specs.EvidenceEvents.{evidence_events}
use Rattle.cert_checker.specs.Stands.{Stands}
use Rattle.cert_checker.proofs.following.Traces.{stop_sooner, stop_later, test_yes, test_no, alone_yes, sums_none, sums_some}
use Rattle.cert_checker.proofs.combination.Forms.{forms_at, end_constant}
use Rattle.cert_checker.proofs.evidence.Columns.{ending_same}
use Rattle.cert_checker.proofs.events.Numbers.{bound_of}
use Rattle.cert_checker.proofs.evidence.Sums.{tested_wide, tested_yes, tested_no}

-- ---- bounds and vectors
-- a list of bounds stands for its own vector
pub stands_itself : (system : Equations) (bounds : List Ext) → length bounds ≡ system.points * length system.template
    → Stands system bounds (vector_of (length system.template) bounds)
stands_itself system bounds e = record { size = e; at = λ p r l k. refl }

-- where there is an unknown there is a row
pub row_some : (u points rows : ℕ) → u < points * rows → 0 < rows
row_some u points zero l = absurd (omega (arith, l))
row_some u points (suc n) l = omega arith

-- ---- multiples of rows and guards
-- the operations of two sums, one after the other
sums_both : (site : Site) (os ps : List Operation) → sums site (os ++ ps) ≡ sums site os ++ sums site ps
unfolding sums
sums_both site [] ps = refl
sums_both site (o ∷ os) ps = ap (λ es. Sum site o ∷ es) (sums_both site os ps)

module _ (site : Site) (fault : Fault) (system : Equations) (z : Vector) (e : Edge) (rows guards : List ℚ) where
  -- the events of columns that are compared with a goal
  abbrev Columns : List ℚ → List Event
  Columns goal = columns_events site fault system e rows guards goal (columns_of system e)

  -- the operations of the side, and its value
  abbrev Sides : List Operation
  Sides = side_operations system z e rows guards

  abbrev Value : ℚ
  Value = side system z e rows guards

  abbrev Allowed : Dec (Multipliers system z e rows guards)
  Allowed = dec_multipliers system z e rows guards

  -- ---- a combination
  module _ (goal : List ℚ) where
    abbrev Combined : List Event
    Combined = combination_events site fault system z e rows guards goal

    -- these are no multipliers
    pub combined_first : ¬ (Multipliers system z e rows guards) → first_stop Combined ≡ Some (fault_answer fault)
    combined_first n = test_no Allowed fault (Columns goal ++ sums site Sides) n

    module _ (m : Multipliers system z e rows guards) where
      -- the columns stop
      pub combined_columns : (a : CheckFault) → first_stop (Columns goal) ≡ Some a → first_stop Combined ≡ Some a
      combined_columns a s = test_yes Allowed fault (Columns goal ++ sums site Sides) m ∙ stop_sooner (Columns goal) (sums site Sides) a s

      module _ (passed : first_stop (Columns goal) ≡ None) where
        combined_last : first_stop Combined ≡ first_stop (sums site Sides)
        combined_last = test_yes Allowed fault (Columns goal ++ sums site Sides) m ∙ stop_later (Columns goal) (sums site Sides) passed

        -- the side is wide
        pub combined_wide : (w : Operation) → first_wide long_limit Sides ≡ Some w → first_stop Combined ≡ Some (wide_answer site w)
        combined_wide w s = combined_last ∙ sums_some site Sides w s

        -- nothing stops
        pub combined_none : first_wide long_limit Sides ≡ None → first_stop Combined ≡ None
        combined_none s = combined_last ∙ sums_none site Sides s

  module _ (row : List ℤ) (number : Ext) where
    -- ---- a bound
    abbrev Ending : Form
    Ending = end_form system.variables e.actions row

    -- the constant that is added last
    abbrev Added : List Operation
    Added = record { op = Add; left = Value; right = Ending.constant } ∷ []

    -- the test of the bound
    abbrev BoundTest : List Event
    BoundTest = Test (decided (dec_leᴱ (fin (Value +ℚ Ending.constant)) number)) fault ∷ []

    abbrev BoundTail : List Event
    BoundTail = Columns Ending.coeffs ++ (sums site (Sides ++ Added) ++ BoundTest)

    abbrev BoundEvents : List Event
    BoundEvents = evidence_events site fault system z e row number (Bound rows guards)

    -- a bound that isn't finite
    pub bound_infinite : ¬ ((c : ℚ) × (number ≡ fin c)) → first_stop BoundEvents ≡ Some (fault_answer fault)
    unfolding evidence_events
    bound_infinite n = by Allowed
      where
        by : (d : Dec (Multipliers system z e rows guards)) → first_stop
            (Test (decided d) fault ∷ (Test (decided (dec_finite number)) fault ∷ BoundTail)) ≡ Some (fault_answer fault)
        by (yes m) = test_yes (yes m) fault (Test (decided (dec_finite number)) fault ∷ BoundTail) m
            ∙ test_no (dec_finite number) fault BoundTail n
        by (no k) = test_no (no k) fault (Test (decided (dec_finite number)) fault ∷ BoundTail) k

    -- a finite bound: the combination, and then what is compared with the bound
    bound_as : (limit : ℚ) → number ≡ fin limit → (goal : List ℚ) → Columns goal ≡ Columns Ending.coeffs
        → first_stop BoundEvents ≡ first_stop (Combined goal ++ (sums site Added ++ BoundTest))
    unfolding evidence_events
    bound_as limit is goal same = by Allowed
      where
        tail : BoundTail ≡ (Columns goal ++ sums site Sides) ++ (sums site Added ++ BoundTest)
        tail =
            ap (λ os. Columns Ending.coeffs ++ (os ++ BoundTest)) (sums_both site Sides Added)
            ∙ ap (λ es. es ++ ((sums site Sides ++ sums site Added) ++ BoundTest)) (sym same)
            ∙ ap (λ es. Columns goal ++ es) (append_assoc (sums site Sides) (sums site Added) BoundTest)
            ∙ sym (append_assoc (Columns goal) (sums site Sides) (sums site Added ++ BoundTest))

        by : (d : Dec (Multipliers system z e rows guards)) → first_stop
            (Test (decided d) fault ∷ (Test (decided (dec_finite number)) fault ∷ BoundTail))
            ≡ first_stop (Test (decided d) fault ∷ ((Columns goal ++ sums site Sides) ++ (sums site Added ++ BoundTest)))
        by (yes m) =
            test_yes (yes m) fault (Test (decided (dec_finite number)) fault ∷ BoundTail) m
            ∙ test_yes (dec_finite number) fault BoundTail (limit, is)
            ∙ ap first_stop tail
            ∙ sym (test_yes (yes m) fault ((Columns goal ++ sums site Sides) ++ (sums site Added ++ BoundTest)) m)
        by (no k) =
            test_no (no k) fault (Test (decided (dec_finite number)) fault ∷ BoundTail) k
            ∙ sym (test_no (no k) fault ((Columns goal ++ sums site Sides) ++ (sums site Added ++ BoundTest)) k)

    module _ (limit : ℚ) (is : number ≡ fin limit) (goal : List ℚ) (same : Columns goal ≡ Columns Ending.coeffs) where
      -- the combination stops
      pub bound_stops : (a : CheckFault) → first_stop (Combined goal) ≡ Some a → first_stop BoundEvents ≡ Some a
      bound_stops a s = bound_as limit is goal same ∙ stop_sooner (Combined goal) (sums site Added ++ BoundTest) a s

      module _ (passed : first_stop (Combined goal) ≡ None) where
        bound_last : first_stop BoundEvents ≡ first_stop (sums site Added ++ BoundTest)
        bound_last = bound_as limit is goal same ∙ stop_later (Combined goal) (sums site Added ++ BoundTest) passed

        -- the last sum is wide
        pub bound_wide : (w : Operation) → first_wide long_limit Added ≡ Some w → first_stop BoundEvents ≡ Some (wide_answer site w)
        bound_wide w s = bound_last ∙ tested_wide (dec_leᴱ (fin (Value +ℚ Ending.constant)) number) site fault Added w s

        -- the value at the end
        pub bound_yes : first_wide long_limit Added ≡ None → (v : ℚ) → v ≡ Value +ℚ Ending.constant → v ≤ℚ limit
            → first_stop BoundEvents ≡ None
        bound_yes s v q l = bound_last ∙ tested_yes (dec_leᴱ (fin (Value +ℚ Ending.constant)) number) site fault Added s
            (subst₂ (λ x y. fin x ≤ᴱ y) q (sym is) l)

        -- a value at the end that is more than the bound is a fault
        pub bound_no : first_wide long_limit Added ≡ None → (v : ℚ) → v ≡ Value +ℚ Ending.constant → ¬ (v ≤ℚ limit)
            → first_stop BoundEvents ≡ Some (fault_answer fault)
        bound_no s v q n = bound_last ∙ tested_no (dec_leᴱ (fin (Value +ℚ Ending.constant)) number) site fault Added s
            (λ l. n (subst₂ (λ x y. fin x ≤ᴱ y) (sym q) is l))

    -- the constant is added last
    pub constant_added : (sum constant : ℚ) (res : Result ℚ (Wide ℚ)) → sum ≡ Value → constant ≡ Ending.constant →
        MatchResult res (λ r. (r ≡ sum +ℚ constant) × Fits long_limit r)
        (λ w. (¬ (Fits long_limit (sum +ℚ constant))) × (w ≡ record { op = Add; left = sum; right = constant })) →
        SumAnswers (Value +ℚ Ending.constant) Added res
    constant_added sum constant res q k a = subst₂ (λ x y. SumAnswers (x +ℚ y) (record { op = Add; left = x; right = y } ∷ []) res) q k
        (one_answer Add sum constant res a)

    -- ---- nothing runs
    abbrev EmptyEvents : List Event
    EmptyEvents = evidence_events site fault system z e row number (Empty rows guards)

    -- the combination of nothing, and then the sign of its side
    pub empty_as : first_stop EmptyEvents ≡ first_stop (Combined [] ++ Test (decided (dec_lt_ℚ Value zero_ℚ)) fault ∷ [])
    unfolding evidence_events
    empty_as = ap (λ es. first_stop (Test (decided Allowed) fault ∷ es))
        (sym (append_assoc (Columns []) (sums site Sides) (Test (decided (dec_lt_ℚ Value zero_ℚ)) fault ∷ [])))

-- ---- what a bound is compared with
-- the bound is finite, and the composed end value that is read has the coefficients and the constant of the row's end form
pub record IsRead (site : Site) (fault : Fault) (system : Equations) (z : Vector) (e : Edge) (row : List ℤ) (number : Ext)
    (rows guards : List ℚ) (limit : ℚ) (end : Affine) (goal : List ℚ) : Type 0 where
  -- the number is finite
  pub finite : number ≡ fin limit
  -- the columns are compared with the coefficients of the row's end form
  pub columns : columns_events site fault system e rows guards goal (columns_of system e)
      ≡ columns_events site fault system e rows guards (end_form system.variables e.actions row).coeffs (columns_of system e)
  -- the constant is that of the row's end form
  pub constant : end.constant ≡ (end_form system.variables e.actions row).constant

module _ (site : Site) (fault : Fault) (system : Equations) (paths : List EdgeForms) (composed : AreComposed system paths)
    (bounds : List Ext) (z : Vector) (h : Stands system bounds z) (k : ℕ) (e : Edge) (found : slice_get system.edges k ≡ Some e)
    (rows guards : List ℚ) where
  -- what is read of an unknown and its edge is its bound and its end form
  pub is_read : (u : ℕ) → u < length bounds → (b : Ext) → b ≡ get_or bounds u neg_inf → (limit : ℚ) → b ≡ fin limit → (n : ℕ)
      → n ≡ length system.template → (end : Affine) → ((forms : EdgeForms) → slice_get paths k ≡ Some forms
      → slice_get forms.rows (u % n) ≡ Some end) →
      (goal : List ℚ) → goal ≡ end.coeffs → IsRead site fault system z e (get_or system.template (u % length system.template) [])
      (z (u / length system.template) (u % length system.template)) rows guards limit end goal
  is_read u within b at limit finite n count end taken goal same =
      let r = u % length system.template in
      let forms = edge_forms system.variables system.template e.actions in
      let there = forms_at system paths composed k e found in
      let s = row_some u system.points (length system.template) (subst (λ m. u < m) h.size within) in
      let l : r < length system.template = omega (arith, s) in
      let t : slice_get forms.rows r ≡ Some end = subst (λ m. slice_get forms.rows (u % m) ≡ Some end) count (taken forms there) in
      record {
        finite = sym (at ∙ bound_of system bounds z h u within) ∙ finite;
        columns = ending_same site fault system paths composed k e found forms there rows guards r end l t goal same;
        constant = end_constant system paths composed k e found forms there r end l t;
      }

-- ---- a row that nothing reaches
module _ (site : Site) (fault : Fault) (system : Equations) (z : Vector) (e : Edge) (row : List ℤ) (number : Ext) (r : ℕ) where
  abbrev UnreachedEvents : List Event
  UnreachedEvents = evidence_events site fault system z e row number (Unreached r)

  -- a row of the source that is at −∞ passes
  pub unreached_yes : (r < length system.template) × (z e.from r ≡ neg_inf) → first_stop UnreachedEvents ≡ None
  unfolding evidence_events
  unreached_yes h = test_yes (dec_lt r (length system.template)) fault (Test (decided (ext_same (z e.from r) neg_inf)) fault ∷ []) h.0
      ∙ alone_yes (ext_same (z e.from r) neg_inf) fault h.1

  -- a row that is not there or not at −∞ is a fault
  pub unreached_no : ¬ ((r < length system.template) × (z e.from r ≡ neg_inf)) → first_stop UnreachedEvents ≡ Some (fault_answer fault)
  unfolding evidence_events
  unreached_no n = by (dec_lt r (length system.template))
    where
      by : Dec (r < length system.template) → first_stop (Test (decided (dec_lt r (length system.template))) fault
          ∷ (Test (decided (ext_same (z e.from r) neg_inf)) fault ∷ [])) ≡ Some (fault_answer fault)
      by (yes l) = test_yes (dec_lt r (length system.template)) fault (Test (decided (ext_same (z e.from r) neg_inf)) fault ∷ []) l
          ∙ test_no (ext_same (z e.from r) neg_inf) fault [] (λ q. n (l, q))
      by (no k) = test_no (dec_lt r (length system.template)) fault (Test (decided (ext_same (z e.from r) neg_inf)) fault ∷ []) k
