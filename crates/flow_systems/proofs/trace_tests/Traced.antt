-- A trace that is followed action by action.
use Rattle.std.proofs.Common.{◌≡◌, ◌∙◌, ℕ, ◌+◌, ◌<◌, ◌≤◌, ℤ, Bool, true, false, cond, List, [], ◌∷◌, length, get_or, drop, Some, None, refl}
use Rattle.std.proofs.Common.{ap, sym, subst, true≢false, arith}
use Rattle.std.specs.Prelude.{IsTrue}
use Rattle.std.specs.List.{list_all}
use Rattle.std.proofs.lemmas.List.{drop_more, drop_all, drop-drop, nil_from_length}
use Rattle.std.proofs.lemmas.List.Folds.{list_all_at}
use Rattle.base_numbers.specs.Rational.{ℚ, zero_ℚ, le_ℚ, ◌≤ℚ◌}
use Rattle.base_numbers.specs.Extended.{fin}
use Rattle.flow_edges.specs.declared.edge.Action.{Action}
use Rattle.flow_edges.specs.declared.edge.Action.TheVariants.{Guard, Assign, Havoc, Check}
use Rattle.lang_tree.specs.Meaning.{put}
use Rattle.lang_tree.specs.declared.form.Form.{Form}
use Rattle.base_fractions.specs.Fits.{long_limit}
use Rattle.base_fractions.specs.Operation.{Operation, first_wide}
use Rattle.flow_systems.specs.States.{RationalState, valueℚ}
use Rattle.flow_systems.specs.FreeValues.{free_count, Follows}
use Rattle.flow_systems.specs.Sums.{form_operations}
use Rattle.flow_systems.specs.TraceTests.{trace_operations, LeadsOn, Fails}
use Rattle.flow_systems.proofs.Widths.{first_wide_later, first_wide_sooner}
use Rattle.flow_systems.proofs.fit_tests.Tested.{at_most_yes, at_most_no}

-- what is so of all elements is so of each
pub all_at : {X : Type 0} (p : X → Bool) (xs : List X) (i : ℕ) (d : X) → IsTrue (list_all p xs) → i < length xs → IsTrue (p (get_or xs i d))
all_at p xs i d h l = by (p (get_or xs i d)) refl
  where
    by : (b : Bool) → p (get_or xs i d) ≡ b → b ≡ true
    by true e = refl
    by false e = absurd (true≢false (sym h ∙ list_all_at p xs i d l e))

-- the free assignments of actions are those of the first and those of the rest
pub free_count-cons : (action : Action) (rest : List Action) → free_count (action ∷ rest) ≡ free_count (action ∷ []) + free_count rest
free_count-cons (Guard form) rest = let e : free_count rest ≡ 0 + free_count rest = omega arith in e
free_count-cons (Assign var form) rest = let e : free_count rest ≡ 0 + free_count rest = omega arith in e
free_count-cons (Havoc var) rest = omega arith
free_count-cons (Check about) rest = let e : free_count rest ≡ 0 + free_count rest = omega arith in e

-- ---- one action
module _ (form : Form) (x : RationalState) (free : List ℚ) where
  -- where an operation of a guard's form is wide, it is the first of the trace
  pub guard_refused : (o : Operation) → first_wide long_limit (form_operations form x) ≡ Some o → (rest : List Action) (row : List ℤ)
      → first_wide long_limit (trace_operations (Guard form ∷ rest) x free row) ≡ Some o
  guard_refused o w rest row = first_wide_sooner long_limit (form_operations form x)
      (cond (le_ℚ (valueℚ form x) zero_ℚ) (trace_operations rest x free row) []) o w

  -- where an operation of an assigned form is wide, it is the first of the trace
  pub assign_refused : (var : ℕ) (o : Operation) → first_wide long_limit (form_operations form x) ≡ Some o
      → (rest : List Action) (row : List ℤ) → first_wide long_limit (trace_operations (Assign var form ∷ rest) x free row) ≡ Some o
  assign_refused var o w rest row = first_wide_sooner long_limit (form_operations form x)
      (trace_operations rest (put zero_ℚ x var (valueℚ form x)) free row) o w

  module _ (v : ℚ) (e : v ≡ valueℚ form x) (n : first_wide long_limit (form_operations form x) ≡ None) where
    -- a guard whose value is at most 0 leads on from the same state
    pub guard_passed : v ≤ℚ zero_ℚ → (rest : List Action) → LeadsOn (Guard form ∷ rest) x free rest x free
    guard_passed h rest =
        let k : valueℚ form x ≤ℚ zero_ℚ = subst (λ y. y ≤ℚ zero_ℚ) e h in
        record {
          ends = λ y. (λ f. f.1, λ f. (k, f));
          first = λ row. first_wide_later long_limit (form_operations form x)
              (cond (le_ℚ (valueℚ form x) zero_ℚ) (trace_operations rest x free row) []) n
              ∙ ap (λ t. first_wide long_limit (cond t (trace_operations rest x free row) [])) (at_most_yes (valueℚ form x) (fin zero_ℚ) k);
        }

    -- a guard whose value is above 0 fails
    pub guard_failed : ¬ (v ≤ℚ zero_ℚ) → (rest : List Action) → Fails (Guard form ∷ rest) x free
    guard_failed h rest =
        let k : ¬ (valueℚ form x ≤ℚ zero_ℚ) = λ l. h (subst (λ y. y ≤ℚ zero_ℚ) (sym e) l) in
        record {
          ends = λ y f. k f.0;
          first = λ row. first_wide_later long_limit (form_operations form x)
              (cond (le_ℚ (valueℚ form x) zero_ℚ) (trace_operations rest x free row) []) n
              ∙ ap (λ t. first_wide long_limit (cond t (trace_operations rest x free row) [])) (at_most_no (valueℚ form x) (fin zero_ℚ) k);
        }

    -- an assignment leads on from the state with the form's value in its place
    pub assigned : (var : ℕ) (rest : List Action) → LeadsOn (Assign var form ∷ rest) x free rest (put zero_ℚ x var v) free
    assigned var rest = record {
      ends = λ y. (
        λ f. subst (λ u. Follows rest (put zero_ℚ x var u) free y) (sym e) f,
        λ f. subst (λ u. Follows rest (put zero_ℚ x var u) free y) e f,
      );
      first = λ row. first_wide_later long_limit (form_operations form x)
          (trace_operations rest (put zero_ℚ x var (valueℚ form x)) free row)
          n
          ∙ ap (λ u. first_wide long_limit (trace_operations rest (put zero_ℚ x var u) free row)) (sym e);
    }

-- ---- all actions
module _ (actions : List Action) (x : RationalState) (free : List ℚ) where
  -- before any action a trace leads on from its start
  pub leads_none : LeadsOn actions x free actions x free
  leads_none = record { ends = λ y. (λ f. f, λ f. f); first = λ row. refl }

  -- the action at i, and what is left of actions and free values
  module _ (i taken : ℕ) (z : RationalState) (h : LeadsOn actions x free (drop i actions) z (drop taken free)) (action : Action)
      (l : i < length actions) (e : action ≡ get_or actions i action) where
    next_actions : drop i actions ≡ action ∷ drop (i + 1) actions
    next_actions = drop_more actions i action l ∙ ap (λ a. a ∷ drop (i + 1) actions) (sym e)

    to_next : LeadsOn actions x free (action ∷ drop (i + 1) actions) z (drop taken free)
    to_next = subst (λ later. LeadsOn actions x free later z (drop taken free)) next_actions h

    -- a trace that leads on to action i leads on past it as that action does
    pub leads_more : (n : ℕ) (y : RationalState) → LeadsOn (action ∷ drop (i + 1) actions) z (drop taken free) (drop (i + 1) actions) y
        (drop n (drop taken free)) → LeadsOn actions x free (drop (i + 1) actions) y (drop (taken + n) free)
    leads_more n y s =
        subst (λ left. LeadsOn actions x free (drop (i + 1) actions) y left) (drop-drop n taken free)
        (record {
          ends = λ w. (λ f. (s.ends w).0 ((to_next.ends w).0 f), λ f. (to_next.ends w).1 ((s.ends w).1 f));
          first =
              λ row. to_next.first row ∙ s.first row;
        })

    -- where action i fails, the trace fails
    pub leads_fails : Fails (action ∷ drop (i + 1) actions) z (drop taken free) → Fails actions x free
    leads_fails s = record { ends = λ y f. s.ends y ((to_next.ends y).0 f); first = λ row. to_next.first row ∙ s.first row }

    -- the first wide operation from action i on is the first of the trace
    pub leads_wide : (o : Operation) → ((row : List ℤ) → first_wide long_limit
        (trace_operations (action ∷ drop (i + 1) actions) z (drop taken free) row) ≡ Some o) → (row : List ℤ)
        → first_wide long_limit (trace_operations actions x free row) ≡ Some o
    leads_wide o w row = to_next.first row ∙ w row

  leads_all : (i taken : ℕ) (z : RationalState) → LeadsOn actions x free (drop i actions) z (drop taken free) → length actions ≤ i
      → length (drop taken free) ≡ free_count (drop i actions) → LeadsOn actions x free [] z []
  leads_all i taken z h l n =
      let none = drop_all i actions l in
      subst (λ left. LeadsOn actions x free [] z left) (nil_from_length (drop taken free) (n ∙ ap free_count none))
      (subst (λ later. LeadsOn actions x free later z (drop taken free)) none h)
