-- The first event that stops, and what a trace does.
use Rattle.std.proofs.Common.{◌≡◌, ◌∙◌, ℕ, suc, ◌+◌, ◌<◌, Bool, true, false, List, [], ◌∷◌, ◌++◌, length, map, refl, sym, ap, ap₂, subst}
use Rattle.std.proofs.Common.{true≢false, arith}
use Rattle.std.specs.Prelude.{ℤ, Option, Some, None, if◌then◌else◌, cond, Result, Ok, Err, MatchResult, MatchOption}
use Rattle.std.proofs.lemmas.Option.{slice_get_within}
use Rattle.base_numbers.specs.Rational.{ℚ}
use Rattle.base_numbers.specs.Extended.{Ext, fin, ◌≤ᴱ◌}
use Rattle.base_fractions.specs.Fits.{long_limit}
use Rattle.base_fractions.specs.Operation.{Operation, is_wide, first_wide, operation_of}
use Rattle.base_fractions.specs.declared.wide.Wide.{Wide}
use Rattle.flow_edges.specs.declared.edge.Action.{Action}
use Rattle.flow_edges.specs.declared.edge.Action.TheVariants.{Guard, Assign, Havoc, Check}
use Rattle.flow_edges.specs.declared.edge.Edge.{Edge}
use Rattle.flow_systems.specs.declared.spot.Site.{Site}
use Rattle.flow_systems.specs.States.{RationalState, dotℚ}
use Rattle.flow_systems.specs.FreeValues.{free_count}
use Rattle.flow_systems.specs.Equations.{Equations, Vector, Fits}
use Rattle.flow_systems.specs.View.{vector_of}
use Rattle.flow_systems.specs.FitTests.{row_test, is_at_most, fit_operations, TestAnswers}
use Rattle.flow_systems.specs.TraceTests.{trace_operations, TraceValue, TraceAnswers}
use Rattle.theory_validity.specs.Words.{lin, start_of, end_form, free_count as word_count}
use Rattle.flow_systems.specs.Constants.{linear_action}
use Rattle.theory_validity.specs.Steps.{Pieces, word, end_value}
use Rattle.theory_validity.specs.Decide.{dec_runs, dec_falls}
use Rattle.theory_validity.specs.Faults.{Fault}
use Rattle.theory_validity.proofs.words.Traces.{start_is}
use Rattle.theory_validity.proofs.words.Followed.{runs_iff, end_value_is, falls_followed, end_slope_is}
use Rattle.cert_checker.specs.declared.fault.CheckFault.{CheckFault}
use Rattle.cert_checker.specs.Events.{Event, Test, fault_answer, wide_answer, stop, or_else, first_stop, sums, decided}
use Rattle.cert_checker.specs.Stands.{Stands}
use Rattle.cert_checker.specs.Runs.{dec_fits, fit_events, FitAnswers, run_events}
use Rattle.cert_checker.specs.StepEvents.{carry_events}

-- ---- stops
stop-append : (a b : List Event) → first_stop (a ++ b) ≡ or_else (first_stop a) (first_stop b)
unfolding first_stop
stop-append [] b = refl
stop-append (e ∷ a) b = ap (or_else (stop e)) (stop-append a b) ∙ joined (stop e) (first_stop a) (first_stop b)
  where
    joined : (x y z : Option CheckFault) → or_else x (or_else y z) ≡ or_else (or_else x y) z
    joined None y z = refl
    joined (Some f) y z = refl

-- what stops in a first part stops, and what follows a part in which nothing stops decides
pub stop_sooner : (a b : List Event) (f : CheckFault) → first_stop a ≡ Some f → first_stop (a ++ b) ≡ Some f
stop_sooner a b f e = stop-append a b ∙ ap (λ x. or_else x (first_stop b)) e

-- what comes later
pub stop_later : (a b : List Event) → first_stop a ≡ None → first_stop (a ++ b) ≡ first_stop b
stop_later a b e = stop-append a b ∙ ap (λ x. or_else x (first_stop b)) e

-- a test that passes, and one that fails
pub test_yes : {P : Type 0} (d : Dec P) (f : Fault) (es : List Event) → P → first_stop (Test (decided d) f ∷ es) ≡ first_stop es
unfolding first_stop
test_yes (yes p) f es h = refl
test_yes (no n) f es h = absurd (n h)

-- one that fails
pub test_no : {P : Type 0} (d : Dec P) (f : Fault) (es : List Event) → ¬ P → first_stop (Test (decided d) f ∷ es) ≡ Some (fault_answer f)
unfolding first_stop
test_no (yes p) f es n = absurd (n p)
test_no (no m) f es n = refl

-- a test alone
pub alone_yes : {P : Type 0} (d : Dec P) (f : Fault) → P → first_stop (Test (decided d) f ∷ []) ≡ None
unfolding first_stop
alone_yes d f h = test_yes d f [] h

none_by : (b : Bool) (site : Site) (o : Operation) (n : Option Operation) (s : Option CheckFault) → (n ≡ None → s ≡ None)
    → cond b (Some o) n ≡ None → or_else (if b then Some (wide_answer site o) else None) s ≡ None
none_by true site o n s h k = cc
none_by false site o n s h k = h k

some_by : (b : Bool) (site : Site) (o w : Operation) (n : Option Operation) (s : Option CheckFault)
    → (n ≡ Some w → s ≡ Some (wide_answer site w)) → cond b (Some o) n ≡ Some w →
    or_else (if b then Some (wide_answer site o) else None) s ≡ Some (wide_answer site w)
some_by true site o w n s h k = let j : o ≡ w = cc in ap (λ x. Some (wide_answer site x)) j
some_by false site o w n s h k = h k

-- sums none of which is wide
pub sums_none : (site : Site) (os : List Operation) → first_wide long_limit os ≡ None → first_stop (sums site os) ≡ None
unfolding first_stop sums
sums_none site [] e = refl
sums_none site (o ∷ os) e = none_by (is_wide long_limit o) site o (first_wide long_limit os) (first_stop (sums site os))
    (λ k. sums_none site os k) e

-- and some with one that is
pub sums_some : (site : Site) (os : List Operation) (w : Operation) → first_wide long_limit os ≡ Some w
    → first_stop (sums site os) ≡ Some (wide_answer site w)
unfolding first_stop sums
sums_some site [] w e = cc
sums_some site (o ∷ os) w e = some_by (is_wide long_limit o) site o w (first_wide long_limit os) (first_stop (sums site os))
    (λ k. sums_some site os w k) e

-- ---- fits
module _ (system : Equations) (b : List Ext) (z : Vector) (h : Stands system b z) (p : ℕ) (l : p < system.points) where
  fit_same : (rows : List (List ℤ)) (k : ℕ) (x : RationalState) → k + length rows ≡ length system.template →
      fit_operations rows (vector_of (length system.template) b p) k x ≡ fit_operations rows (z p) k x
  fit_same [] k x e = refl
  fit_same (row ∷ rows) k x e =
      ap₂ (λ v rest. row_test row x v ++ cond (is_at_most (dotℚ row x) v) rest []) (h.at p k l (omega (arith, e)))
      (fit_same rows (suc k) x (omega (arith, e)))

  fits_to : (x : RationalState) → Fits system (vector_of (length system.template) b) p x → Fits system z p x
  fits_to x f r row e = subst (λ v. fin (dotℚ row x) ≤ᴱ v) (h.at p r l (slice_get_within system.template r row e)) (f r row e)

  -- a state that fits at the vector fits at the list of bounds
  pub fits_from : (x : RationalState) → Fits system z p x → Fits system (vector_of (length system.template) b) p x
  fits_from x f r row e = subst (λ v. fin (dotℚ row x) ≤ᴱ v) (sym (h.at p r l (slice_get_within system.template r row e))) (f r row e)

  module _ (site : Site) (f : Fault) (x : RationalState) where
    same : fit_operations system.template (vector_of (length system.template) b p) 0 x ≡ fit_operations system.template (z p) 0 x
    same = fit_same system.template 0 x (omega arith)

    -- a state that fits, one that doesn't, and one whose sums are too wide
    fit_yes : Fits system (vector_of (length system.template) b) p x →
        first_wide long_limit (fit_operations system.template (vector_of (length system.template) b p) 0 x) ≡ None
        → first_stop (fit_events site f system z p x) ≡ None
    unfolding fit_events
    fit_yes k n =
        stop_later (sums site (fit_operations system.template (z p) 0 x)) (Test (decided (dec_fits system z p x)) f ∷ [])
        (sums_none site (fit_operations system.template (z p) 0 x) (ap (first_wide long_limit) (sym same) ∙ n))
        ∙ alone_yes (dec_fits system z p x) f (fits_to x k)

    fit_no : ¬ (Fits system (vector_of (length system.template) b) p x)
        → first_wide long_limit (fit_operations system.template (vector_of (length system.template) b p) 0 x) ≡ None
        → first_stop (fit_events site f system z p x) ≡ Some (fault_answer f)
    unfolding fit_events
    fit_no k n =
        stop_later (sums site (fit_operations system.template (z p) 0 x)) (Test (decided (dec_fits system z p x)) f ∷ [])
        (sums_none site (fit_operations system.template (z p) 0 x) (ap (first_wide long_limit) (sym same) ∙ n))
        ∙ test_no (dec_fits system z p x) f [] (λ j. k (fits_from x j))

    fit_wide : (w : Operation) → first_wide long_limit (fit_operations system.template (vector_of (length system.template) b p) 0 x)
        ≡ Some w → first_stop (fit_events site f system z p x) ≡ Some (wide_answer site w)
    unfolding fit_events
    fit_wide w e =
        stop_sooner (sums site (fit_operations system.template (z p) 0 x)) (Test (decided (dec_fits system z p x)) f ∷ [])
        (wide_answer site w)
        (sums_some site (fit_operations system.template (z p) 0 x) w (ap (first_wide long_limit) (sym same) ∙ e))

  -- what the test of a state answers at the list of bounds, it answers at the vector
  pub fit_answers : (x : RationalState) (res : Result Bool (Wide ℚ)) →
      TestAnswers (Fits system (vector_of (length system.template) b) p x)
      (fit_operations system.template (vector_of (length system.template) b p) 0 x) res →
      FitAnswers system z p x res
  fit_answers x (Ok true) t = let f = t.0.0 refl in (fits_to x f, λ site fault. fit_yes site fault x f t.1)
  fit_answers x (Ok false) t = λ site fault. fit_no site fault x (λ f. true≢false (sym (t.0.1 f))) t.1
  fit_answers x (Err w) t = λ site fault. fit_wide site fault x (operation_of (λ q. q) w) t

-- ---- traces
-- free assignments are counted the same in both places
pub count_same : (actions : List Action) → free_count actions ≡ word_count actions
unfolding word_count
count_same [] = refl
count_same (Guard form ∷ actions) = count_same actions
count_same (Assign var form ∷ actions) = count_same actions
count_same (Havoc var ∷ actions) = ap suc (count_same actions)
count_same (Check about ∷ actions) = count_same actions

module _ (site : Site) (f : Fault) (system : Equations) (z : Vector) (edge : Edge) (row : List ℤ) (t : Pieces)
    (start : length t.start ≡ system.variables) (free : length t.free ≡ free_count edge.actions) where
  starts : start_of system.variables (word t) ≡ t.start
  starts = start_is system.variables t.start t.free start

  frees : length t.free ≡ word_count edge.actions
  frees = free ∙ count_same edge.actions

  fitting : first_stop (fit_events site f system z edge.from (start_of system.variables (word t)))
      ≡ first_stop (fit_events site f system z edge.from t.start)
  fitting = ap (λ x. first_stop (fit_events site f system z edge.from x)) starts

  -- a start that stops
  pub run_sooner : (a : CheckFault) → first_stop (fit_events site f system z edge.from t.start) ≡ Some a
      → first_stop (run_events site f system z edge row t) ≡ Some a
  unfolding run_events
  run_sooner a e =
      stop_sooner (fit_events site f system z edge.from (start_of system.variables (word t)))
      (sums site (trace_operations edge.actions t.start t.free row) ++ Test (decided (dec_runs system z edge (word t))) f ∷ []) a
      (fitting ∙ e)

  module _ (e : first_stop (fit_events site f system z edge.from t.start) ≡ None) where
    run_later : first_stop (run_events site f system z edge row t) ≡ first_stop
        (sums site (trace_operations edge.actions t.start t.free row) ++ Test (decided (dec_runs system z edge (word t))) f ∷ [])
    unfolding run_events
    run_later =
        stop_later (fit_events site f system z edge.from (start_of system.variables (word t)))
        (sums site (trace_operations edge.actions t.start t.free row) ++ Test (decided (dec_runs system z edge (word t))) f ∷ [])
        (fitting ∙ e)

    -- a trace that runs, with its value; one that doesn't; and one whose sums are too wide
    run_yes : Fits system z edge.from t.start → (v : ℚ) → TraceValue edge.actions t.start t.free row (Some v)
        → first_wide long_limit (trace_operations edge.actions t.start t.free row) ≡ None →
        (v ≡ end_value system edge row (word t)) × (first_stop (run_events site f system z edge row t) ≡ None)
    run_yes k v h n =
        let y = h.0 in
        let g = h.1 in (
          h.2 ∙ sym (end_value_is system edge row t.start t.free y start g),
          run_later ∙ stop_later (sums site (trace_operations edge.actions t.start t.free row))
              (Test (decided (dec_runs system z edge (word t))) f ∷ [])
              (sums_none site (trace_operations edge.actions t.start t.free row) n)
              ∙ alone_yes (dec_runs system z edge (word t)) f ((runs_iff system z edge t.start t.free start frees).1 (k, (y, g))),
        )

    run_no : TraceValue edge.actions t.start t.free row None → first_wide long_limit (trace_operations edge.actions t.start t.free row)
        ≡ None → first_stop (run_events site f system z edge row t) ≡ Some (fault_answer f)
    run_no h n =
        run_later ∙ stop_later (sums site (trace_operations edge.actions t.start t.free row))
        (Test (decided (dec_runs system z edge (word t))) f ∷ []) (sums_none site (trace_operations edge.actions t.start t.free row) n)
        ∙ test_no (dec_runs system z edge (word t)) f [] (λ r. let j = ((runs_iff system z edge t.start t.free start frees).0 r).1 in
        h j.0 j.1)

    run_wide : (w : Operation) → first_wide long_limit (trace_operations edge.actions t.start t.free row) ≡ Some w
        → first_stop (run_events site f system z edge row t) ≡ Some (wide_answer site w)
    run_wide w n =
        run_later ∙ stop_sooner (sums site (trace_operations edge.actions t.start t.free row))
        (Test (decided (dec_runs system z edge (word t))) f ∷ []) (wide_answer site w)
        (sums_some site (trace_operations edge.actions t.start t.free row) w n)

    -- what following answers
    pub run_answers : Fits system z edge.from t.start → (res : Result (Option ℚ) (Wide ℚ))
        → TraceAnswers edge.actions t.start t.free row res →
        MatchResult res (λ o. MatchOption o (first_stop (run_events site f system z edge row t) ≡ Some (fault_answer f))
        (λ v. (v ≡ end_value system edge row (word t)) × (first_stop (run_events site f system z edge row t) ≡ None)))
        (λ w. first_stop (run_events site f system z edge row t) ≡ Some (wide_answer site (operation_of (λ q. q) w)))
    run_answers k (Ok (Some v)) h = run_yes k v h.0 h.1
    run_answers k (Ok None) h = run_no h.0 h.1
    run_answers k (Err w) h = run_wide (operation_of (λ q. q) w) h

  -- ---- directions
  -- a direction whose start stops stops there
  pub carry_sooner : (a : CheckFault) → first_stop (fit_events site f system z edge.from t.start) ≡ Some a
      → first_stop (carry_events site f system z edge row t) ≡ Some a
  unfolding carry_events
  carry_sooner a e =
      stop_sooner (fit_events site f system z edge.from (start_of system.variables (word t)))
      (sums site (trace_operations (map linear_action edge.actions) t.start t.free row) ++ Test (decided (dec_falls system edge (word t))) f
      ∷ []) a (fitting ∙ e)

  module _ (e : first_stop (fit_events site f system z edge.from t.start) ≡ None) where
    carry_later : first_stop (carry_events site f system z edge row t)
        ≡ first_stop (sums site (trace_operations (map linear_action edge.actions) t.start t.free row)
        ++ Test (decided (dec_falls system edge (word t))) f ∷ [])
    unfolding carry_events
    carry_later =
        stop_later (fit_events site f system z edge.from (start_of system.variables (word t)))
        (sums site (trace_operations (map linear_action edge.actions) t.start t.free row)
        ++ Test (decided (dec_falls system edge (word t))) f ∷ []) (fitting ∙ e)

    carry_yes : (v : ℚ) → TraceValue (map linear_action edge.actions) t.start t.free row (Some v)
        → first_wide long_limit (trace_operations (map linear_action edge.actions) t.start t.free row) ≡ None →
        (v ≡ lin (end_form system.variables edge.actions row) (word t)) × (first_stop (carry_events site f system z edge row t) ≡ None)
    carry_yes v h n =
        let y = h.0 in
        let g = h.1 in (
          h.2 ∙ sym (end_slope_is system.variables edge.actions row t.start t.free y start g),
          carry_later ∙ stop_later (sums site (trace_operations (map linear_action edge.actions) t.start t.free row))
              (Test (decided (dec_falls system edge (word t))) f ∷ [])
              (sums_none site (trace_operations (map linear_action edge.actions) t.start t.free row) n)
              ∙ alone_yes (dec_falls system edge (word t)) f ((falls_followed system.variables edge.actions t.start t.free start frees).1
              (y, g)),
        )

    carry_no : TraceValue (map linear_action edge.actions) t.start t.free row None
        → first_wide long_limit (trace_operations (map linear_action edge.actions) t.start t.free row) ≡ None
        → first_stop (carry_events site f system z edge row t) ≡ Some (fault_answer f)
    carry_no h n =
        carry_later ∙ stop_later (sums site (trace_operations (map linear_action edge.actions) t.start t.free row))
        (Test (decided (dec_falls system edge (word t))) f ∷ []) (sums_none site
        (trace_operations (map linear_action edge.actions) t.start t.free row) n)
        ∙ test_no (dec_falls system edge (word t)) f [] (λ r. let j = (falls_followed system.variables edge.actions t.start t.free start
        frees).0 r in h j.0 j.1)

    carry_wide : (w : Operation) → first_wide long_limit (trace_operations (map linear_action edge.actions) t.start t.free row) ≡ Some w
        → first_stop (carry_events site f system z edge row t) ≡ Some (wide_answer site w)
    carry_wide w n =
        carry_later ∙ stop_sooner (sums site (trace_operations (map linear_action edge.actions) t.start t.free row))
        (Test (decided (dec_falls system edge (word t))) f ∷ []) (wide_answer site w)
        (sums_some site (trace_operations (map linear_action edge.actions) t.start t.free row) w n)

    -- what following answers
    pub carry_answers : (res : Result (Option ℚ) (Wide ℚ)) → TraceAnswers (map linear_action edge.actions) t.start t.free row res →
        MatchResult res (λ o. MatchOption o (first_stop (carry_events site f system z edge row t) ≡ Some (fault_answer f))
        (λ v. (v ≡ lin (end_form system.variables edge.actions row) (word t))
        × (first_stop (carry_events site f system z edge row t) ≡ None)))
        (λ w. first_stop (carry_events site f system z edge row t) ≡ Some (wide_answer site (operation_of (λ q. q) w)))
    carry_answers (Ok (Some v)) h = carry_yes v h.0 h.1
    carry_answers (Ok None) h = carry_no h.0 h.1
    carry_answers (Err w) h = carry_wide (operation_of (λ q. q) w) h
