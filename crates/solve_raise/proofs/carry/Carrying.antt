-- Values that are carried action by action.
use Rattle.std.proofs.Common.{◌≡◌, ◌∙◌, ℕ, ◌+◌, ◌<◌, ◌≤◌, List, [], ◌∷◌, length, get_or, drop, Some, None, Result, Ok, Err, refl, ap, sym}
use Rattle.std.proofs.Common.{subst, arith}
use Rattle.std.specs.Prelude.{ℤ}
use Rattle.std.proofs.lemmas.List.{drop_more, drop_all, drop-drop, nil_from_length}
use Rattle.base_numbers.specs.Rational.{ℚ, zero_ℚ}
use Rattle.flow_edges.specs.declared.edge.Action.{Action}
use Rattle.flow_edges.specs.declared.edge.Action.TheVariants.{Guard, Assign, Havoc}
use Rattle.flow_edges.specs.declared.edge.Edge.{Edge}
use Rattle.lang_tree.specs.Meaning.{put}
use Rattle.lang_tree.specs.declared.form.Form.{Form}
use Rattle.base_fractions.specs.declared.wide.Wide.{Wide}
use Rattle.base_fractions.specs.Fits.{long_limit}
use Rattle.base_fractions.specs.Operation.{first_wide, operation_of}
use Rattle.flow_systems.specs.States.{RationalState, dotℚ, valueℚ}
use Rattle.flow_systems.specs.FreeValues.{free_count}
use Rattle.flow_systems.specs.Sums.{row_operations, form_operations, SumAnswers}
use Rattle.flow_systems.specs.Equations.{Equations}
use Rattle.flow_systems.specs.declared.trace.Trace.{Trace}
use Rattle.flow_systems.specs.TraceTests.{LeadsOn}
use Rattle.flow_systems.proofs.trace_tests.Traced.{assigned, assign_refused, leads_none}
use Rattle.flow_systems.specs.declared.sums.Constants.{Constants}
use Rattle.solve_raise.specs.Moves.{moves, carried, carried_operations}
use Rattle.flow_systems.specs.Constants.{form_with}
use Rattle.solve_raise.specs.Carries.{StepIs, IsFirst}
use Rattle.solve_raise.proofs.moves.Moving.{carried_is}

module _ (constants : Constants) (x : RationalState) (free : List ℚ) where
  -- a guard is passed over
  pub guard_passed : (form : Form) → StepIs constants (Guard form) x free x 0
  guard_passed form = (refl, λ rest. leads_none (moves constants rest) x free)

  -- an assignment, and one that is wide
  pub assign_made : (form : Form) (var : ℕ) (v : ℚ) → v ≡ valueℚ (form_with constants form) x
      → first_wide long_limit (form_operations (form_with constants form) x) ≡ None →
      StepIs constants (Assign var form) x free (put zero_ℚ x var v) 0
  assign_made form var v e n = (refl, λ rest. assigned (form_with constants form) x free v e n var (moves constants rest))

  -- a wide operation of an assignment's form is the first of the actions from there on
  pub assign_wide : (form : Form) (var : ℕ) (w : Wide ℚ) → first_wide long_limit (form_operations (form_with constants form) x)
      ≡ Some (operation_of (λ q. q) w) → (rest : List Action) →
      IsFirst constants (Assign var form ∷ rest) x free w
  assign_wide form var w h rest = assign_refused (form_with constants form) x free var (operation_of (λ q. q) w) h (moves constants rest)

-- a free value
pub havoc_made : (constants : Constants) (x : RationalState) (free : List ℚ) (var : ℕ) (d q : ℚ) → 1 ≤ length free → q ≡ get_or free 0 d
    → StepIs constants (Havoc var) x free (put zero_ℚ x var q) 1
havoc_made constants x [] var d q l e = absurd (omega arith)
havoc_made constants x (p ∷ free) var d q l e = (
  refl,
  λ rest. subst (λ v. LeadsOn (Havoc var ∷ moves constants rest) x (p ∷ free) (moves constants rest) (put zero_ℚ x var v) free) (sym e)
      (record { ends = λ y. (λ f. f, λ f. f); first = λ row. refl }),
)

-- ---- all actions
module _ (constants : Constants) (actions : List Action) (x : RationalState) (free : List ℚ) where
  -- the action at i, and what is left of actions and free values
  module _ (i taken : ℕ) (z : RationalState) (h : LeadsOn (moves constants actions) x free (moves constants (drop i actions)) z
      (drop taken free)) (action : Action) (l : i < length actions) (e : action ≡ get_or actions i action) where
    -- the actions left are the action at hand and those behind it
    pub next_actions : drop i actions ≡ action ∷ drop (i + 1) actions
    next_actions = drop_more actions i action l ∙ ap (λ a. a ∷ drop (i + 1) actions) (sym e)

    to_next : LeadsOn (moves constants actions) x free (moves constants (action ∷ drop (i + 1) actions)) z (drop taken free)
    to_next = subst (λ later. LeadsOn (moves constants actions) x free (moves constants later) z (drop taken free)) next_actions h

    -- a move from the action at hand leads on from the start
    pub leads_more : (n : ℕ) (y : RationalState) → LeadsOn (moves constants (action ∷ drop (i + 1) actions)) z (drop taken free)
        (moves constants (drop (i + 1) actions)) y (drop n (drop taken free)) →
        LeadsOn (moves constants actions) x free (moves constants (drop (i + 1) actions)) y (drop (taken + n) free)
    leads_more n y s =
        subst (λ left. LeadsOn (moves constants actions) x free (moves constants (drop (i + 1) actions)) y left) (drop-drop n taken free)
        (record {
          ends = λ w. (λ f. (s.ends w).0 ((to_next.ends w).0 f), λ f. (to_next.ends w).1 ((s.ends w).1 f));
          first =
              λ row. to_next.first row ∙ s.first row;
        })

    -- a wide operation at the action at hand is the first of all actions
    pub leads_wide : (w : Wide ℚ) → IsFirst constants (action ∷ drop (i + 1) actions) z (drop taken free) w
        → IsFirst constants actions x free w
    leads_wide w s row = to_next.first row ∙ s row

  -- behind the last action the moves have led through all actions and taken all free values
  pub leads_all : (i taken : ℕ) (z : RationalState) → LeadsOn (moves constants actions) x free (moves constants (drop i actions)) z
      (drop taken free) → length actions ≤ i → length (drop taken free) ≡ free_count (drop i actions) →
      LeadsOn (moves constants actions) x free [] z []
  leads_all i taken z h l n =
      let none = drop_all i actions l in
      subst (λ left. LeadsOn (moves constants actions) x free [] z left) (nil_from_length (drop taken free) (n ∙ ap free_count none))
      (subst (λ later. LeadsOn (moves constants actions) x free (moves constants later) z (drop taken free)) none h)

-- ---- the row at the end
pub row_answers : (constants : Constants) (system : Equations) (edge : Edge) (row : List ℤ) (trace : Trace) (z : RationalState)
    (res : Result ℚ (Wide ℚ)) → length trace.start ≡ system.variables →
    LeadsOn (moves constants edge.actions) trace.start trace.free [] z [] → SumAnswers (dotℚ row z) (row_operations row z) res →
    SumAnswers (carried constants system edge row trace) (carried_operations constants edge row trace) res
row_answers constants system edge row trace z (Ok v) l h a = (
  a.0 ∙ sym
      (carried_is constants system edge row trace z l ((h.ends z).1 refl)),
  h.first row ∙ a.1,
)
row_answers constants system edge row trace z (Err w) l h a = h.first row ∙ a
