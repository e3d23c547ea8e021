-- The step of the code is the one that is defined.
use Rattle.std.proofs.Common.{◌≡◌, ◌∙◌, ℕ, zero, suc, ◌*◌, ◌/◌, ◌%◌, ◌<◌, List, [], ◌∷◌, length, get_or, Some, None, Result, Ok, Err, refl}
use Rattle.std.proofs.Common.{ap, ap₂, sym, arith}
use Rattle.std.specs.Prelude.{ℤ, slice_get}
use native.Mathlib.Nat.{mod-lt}
use Rattle.std.proofs.lemmas.Option.{slice_get-get_or, get_or_from_slice_get}
use Rattle.base_numbers.specs.Rational.{ℚ}
use Rattle.base_numbers.specs.Extended.{Ext}
use Rattle.flow_edges.specs.declared.edge.Action.{Action}
use Rattle.flow_edges.specs.declared.edge.Action.TheVariants.{Guard, Assign, Havoc, Check}
use Rattle.flow_edges.specs.declared.edge.Edge.{Edge}
use Rattle.base_fractions.specs.Fits.{long_limit}
use Rattle.base_fractions.specs.Operation.{Operation, first_wide}
use Rattle.flow_systems.specs.Equations.{Equations}
use Rattle.flow_systems.specs.FreeValues.{free_count}
use Rattle.flow_systems.specs.declared.trace.Trace.{Trace}
use Rattle.flow_systems.proofs.Widths.{first_wide_later}
use Rattle.flow_systems.specs.Faults.{OperationFault, IsFaultOf, AnswersBy}
use Rattle.theory_validity.specs.Words.{free_count as word_count}
use Rattle.theory_validity.specs.Steps.{Pieces, Step as TheoryStep, Plain as PlainKind, Ray as RayKind, Sized, edge_of, row_of}
use Rattle.cert_types.specs.declared.step.Step.{Step}
use Rattle.cert_types.specs.declared.step.Step.TheVariants.{Plain, Ray}
use Rattle.cert_types.specs.Certificates.{step_of, pieces_of, no_pieces}
use Rattle.theory_strategy.specs.Picks.{choice}
use Rattle.theory_strategy.specs.Growth.{with_words, raised_to}
use Rattle.solve_composition.specs.declared.value.Value.TheVariants.{Best, Unbounded}
use Rattle.flow_systems.specs.declared.sums.Constants.TheVariants.{Zero}
use Rattle.flow_systems.specs.declared.fault.Fault.TheVariants.{Wide, NoMemory}
use Rattle.solve_raise.specs.Moves.{carried, carried_operations}
use Rattle.solve_raise.specs.Numbers.{fitting, number_operations}
use Rattle.solve_raise.specs.Lows.{low_of, low_operations}
use Rattle.solve_raise.specs.Raises.{choice_of, raised, raise_operations}
use Rattle.flow_systems.proofs.Faults.{sooner, later}

-- the edge and the row of a choice
pub edge_chosen : (system : Equations) (rows unknown k : ℕ) → k < length system.edges
    → slice_get system.edges k ≡ Some (edge_of system (choice_of rows unknown k))
unfolding edge_of choice
edge_chosen system rows unknown k l = slice_get-get_or system.edges k (record { from = 0; to = 0; actions = [] }) l

-- the row that is read for an unknown is the row of its choice
pub row_chosen : (system : Equations) (rows unknown k : ℕ) → unknown % rows < length system.template
    → slice_get system.template (unknown % rows) ≡ Some (row_of system (choice_of rows unknown k))
unfolding row_of choice
row_chosen system rows unknown k l = slice_get-get_or system.template (unknown % rows) [] l

-- the row that code reads in a copy of the template
pub row_read : (template copy : List (List ℤ)) (unknown points : ℕ) (row : List ℤ) → copy ≡ template → unknown < points * length template
    → (unknown % length template < length template → slice_get template (unknown % length template) ≡ Some row) →
    slice_get template (unknown % length copy) ≡ Some row
row_read template copy unknown points row e l h =
    let some : 0 < length template = positive points (length template) l in
    ap (λ (t : List (List ℤ)). slice_get template (unknown % length t)) e ∙ h (mod-lt unknown some)
  where
    positive : (p n : ℕ) → unknown < p * n → 0 < n
    positive p zero l = absurd (omega arith)
    positive p (suc n) l = omega arith

module _ (system : Equations) (rows unknown k : ℕ) (b : Ext) where
  -- a plain step
  pub best_step : (v to : ℚ) (trace : Trace) (rs gs : List ℚ) (step : Step)
      → step ≡ Plain (record { unknown = unknown; edge = k; low = trace; to = to } ∷ []) → to ≡ raised_to fitting b v →
      step_of rows step ≡ raised system (choice_of rows unknown k) b (Best v trace rs gs)
  unfolding raised with_words choice
  best_step v to trace rs gs step e f =
      ap (step_of rows) e
      ∙ ap (λ n. let made : TheoryStep = record {
        kind = PlainKind;
        items =
            record { point = unknown / rows; row = unknown % rows; edge = k; low = pieces_of trace; second = no_pieces; number = n } ∷ [];
      } in
      made) f

  -- a ray
  pub ray_step : (trace direction low : Trace) (rate : ℚ) (step : Step)
      → step ≡ Ray (record { unknown = unknown; edge = k; low = low; direction = direction; rate = rate } ∷ []) →
      pieces_of low ≡ low_of system (edge_of system (choice_of rows unknown k)) (row_of system (choice_of rows unknown k)) b trace direction
      →
      rate ≡ carried Zero system (edge_of system (choice_of rows unknown k)) (row_of system (choice_of rows unknown k)) direction →
      step_of rows step ≡ raised system (choice_of rows unknown k) b (Unbounded trace direction)
  unfolding raised with_words choice
  ray_step trace direction low rate step e f g =
      ap (step_of rows) e
      ∙ ap₂ (λ (p : Pieces) (n : ℚ). let made : TheoryStep = record {
        kind = RayKind;
        items =
            record { point = unknown / rows; row = unknown % rows; edge = k; low = p; second = pieces_of direction; number = n } ∷ [];
      } in
      made) f g

-- ---- what is answered
-- free assignments are counted the same in both places
count_same : (actions : List Action) → free_count actions ≡ word_count actions
unfolding word_count
count_same [] = refl
count_same (Guard form ∷ actions) = count_same actions
count_same (Assign var form ∷ actions) = count_same actions
count_same (Havoc var ∷ actions) = ap suc (count_same actions)
count_same (Check about ∷ actions) = count_same actions

-- a trace with sizes has a value for each free assignment of the edge
pub free_of : (system : Equations) (rows unknown k : ℕ) (t : Pieces) → Sized system (choice_of rows unknown k) t → (e : Edge)
    → slice_get system.edges k ≡ Some e → length t.free ≡ free_count e.actions
unfolding edge_of choice
free_of system rows unknown k t h e f =
    let same : get_or system.edges k (record { from = 0; to = 0; actions = [] }) ≡ e =
    get_or_from_slice_get system.edges k e (record { from = 0; to = 0; actions = [] }) f in
    h.1 ∙ ap (λ (x : Edge). word_count x.actions) same ∙ sym (count_same e.actions)

-- and where it has one it has sizes
pub sized : (system : Equations) (rows unknown k : ℕ) (t : Pieces) → k < length system.edges → length t.start ≡ system.variables
    → ((e : Edge) → slice_get system.edges k ≡ Some e → length t.free ≡ free_count e.actions) → Sized system (choice_of rows unknown k) t
sized system rows unknown k t l s h =
    let edge = edge_of system (choice_of rows unknown k) in
    (s, h edge (edge_chosen system rows unknown k l) ∙ count_same edge.actions)

module _ (system : Equations) (rows unknown k : ℕ) (b : Ext) where
  -- a best value whose number is wide, or is made
  pub towards_wide : (v : ℚ) (trace : Trace) (rs gs : List ℚ) (f : OperationFault) → IsFaultOf (number_operations b v) f
      → IsFaultOf (raise_operations system (choice_of rows unknown k) b (Best v trace rs gs)) f
  unfolding raise_operations
  towards_wide v trace rs gs f h = h

  -- where the number to raise to fits, the step goes towards it or names a wide operation
  pub towards : (v to : ℚ) (trace : Trace) (rs gs : List ℚ) (res : Result Step OperationFault) → to ≡ raised_to fitting b v
      → first_wide long_limit (number_operations b v) ≡ None →
      AnswersBy {A = Step} (λ step. step ≡ Plain (record { unknown = unknown; edge = k; low = trace; to = to } ∷ [])) [] res →
      AnswersBy {A = Step} (λ step. step_of rows step ≡ raised system (choice_of rows unknown k) b (Best v trace rs gs))
      (raise_operations system (choice_of rows unknown k) b (Best v trace rs gs)) res
  unfolding raise_operations
  towards v to trace rs gs (Ok step) e n h = (best_step system rows unknown k b v to trace rs gs step h.0 e, n)
  towards v to trace rs gs (Err (Wide w)) e n h = cc
  towards v to trace rs gs (Err NoMemory) e n h = tt

  module _ (trace direction : Trace) where
    abbrev rates : List Operation
    rates = carried_operations Zero (edge_of system (choice_of rows unknown k)) (row_of system (choice_of rows unknown k)) direction

    abbrev lows : List Operation
    lows = low_operations system (edge_of system (choice_of rows unknown k)) (row_of system (choice_of rows unknown k)) b trace direction

    -- a rate that is wide, a low trace that isn't made, and a ray
    pub rate_wide : (f : OperationFault) → IsFaultOf rates f → IsFaultOf
        (raise_operations system (choice_of rows unknown k) b (Unbounded trace direction)) f
    unfolding raise_operations
    rate_wide f h = sooner rates lows f h

    module _ (n : first_wide long_limit rates ≡ None) where
      -- a fault of the low trace is a fault of the raise
      pub low_wide : (f : OperationFault) → IsFaultOf lows f → IsFaultOf
          (raise_operations system (choice_of rows unknown k) b (Unbounded trace direction)) f
      unfolding raise_operations
      low_wide f h = later rates lows f n h

      -- a low trace and a rate give the step that raises without end
      pub for_ever : (low : Trace) (rate : ℚ) (res : Result Step OperationFault) →
          pieces_of low ≡ low_of system (edge_of system (choice_of rows unknown k)) (row_of system (choice_of rows unknown k)) b trace
          direction → first_wide long_limit lows ≡ None →
          rate ≡ carried Zero system (edge_of system (choice_of rows unknown k)) (row_of system (choice_of rows unknown k)) direction →
          AnswersBy {A = Step} (λ step. step ≡ Ray (record { unknown = unknown; edge = k; low = low; direction = direction; rate = rate }
          ∷ [])) [] res →
          AnswersBy {A = Step} (λ step. step_of rows step ≡ raised system (choice_of rows unknown k) b (Unbounded trace direction))
          (raise_operations system (choice_of rows unknown k) b (Unbounded trace direction)) res
      unfolding raise_operations
      for_ever low rate (Ok step) e m f h = (
        ray_step system rows unknown k b trace direction low rate step h.0 e f,
        first_wide_later long_limit rates lows n ∙ m,
      )
      for_ever low rate (Err (Wide w)) e m f h = cc
      for_ever low rate (Err NoMemory) e m f h = tt
