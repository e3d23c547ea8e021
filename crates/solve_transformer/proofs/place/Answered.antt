-- All that is said of the answer at a place.
use Rattle.std.proofs.Common.{◌≡◌, ◌∙◌, ℕ, List, [], false, true≢false, length, map, None, Ok, Err, refl, ap, sym, subst}
use Rattle.base_fractions.specs.Fits.{long_limit}
use Rattle.base_fractions.specs.Operation.{first_wide, operation_of}
use Rattle.flow_edges.specs.declared.edge.Edge.{Edge}
use Rattle.flow_systems.specs.States.{RationalState}
use Rattle.flow_systems.specs.Equations.{Equations, Vector}
use Rattle.flow_systems.specs.declared.fault.Fault.TheVariants.{Wide as WideFault, NoMemory as NoMemoryFault}
use Rattle.flow_systems.specs.declared.spot.Part.TheVariants.{Side, Pivot, Reading}
use Rattle.flow_systems.specs.declared.spot.PartFault.{PartFault}
use Rattle.flow_systems.specs.declared.spot.PartFault.TheVariants.{Wide, NoMemory}
use Rattle.flow_systems.specs.Faults.{OperationFault, IsFaultOf}
use Rattle.flow_systems.proofs.Widths.{first_wide_later, first_wide_sooner}
use Rattle.theory_validity.specs.Words.{width}
use Rattle.lp_theory.specs.Simplex.{lp}
use Rattle.theory_transformers.specs.EdgeProblems.{lost, whole_problem}
use Rattle.solve_composition.specs.declared.affine.Affine.{Affine}
use Rattle.solve_composition.specs.declared.value.Value.{Value}
use Rattle.solve_composition.specs.declared.value.Value.TheVariants.{Unreached}
use Rattle.solve_composition.specs.Behind.{end_forms}
use Rattle.solve_composition.specs.Composed.{dense}
use Rattle.solve_transformer.specs.Meanings.{HasEvidence}
use Rattle.solve_transformer.specs.Places.{AnswersAt, IsPartFault, IsPlaceFault, ends_at, ends_reading, sides_of, state_reading}
use Rattle.solve_transformer.specs.Values.{IsLowestLost, IsOperatorFault, IsValue, NoneWide, problem_reading}
use Rattle.solve_transformer.proofs.place.Outcomes.{value_state, value_reading}
use Rattle.solve_transformer.proofs.transform.Answered.{answered_lost}
use Rattle.solve_transformer.proofs.transform.Operated.{lost_at}

-- where a bound at the point is -inf
pub placed_lost : (system : Equations) (z : Vector) (edge : Edge) (r : ℕ) → IsLowestLost (z edge.from) (length system.template) r
    → AnswersAt system z edge (Ok (record { value = Unreached r; state = None }))
placed_lost system z edge r h =
    let all = answered_lost system z edge [] r h in
    record {
      value = all.value;
      evidence = all.evidence;
      state = refl;
      fits = λ reached. absurd (true≢false (sym (lost_at (z edge.from) system.template r h.within h.is_lost) ∙ reached));
      refused = tt;
    }

module _ (system : Equations) (z : Vector) (edge : Edge) (reached : lost (z edge.from) system.template ≡ false) where
  module _ (sides : first_wide long_limit (sides_of system edge) ≡ None) where
    fault_at : (fault : PartFault) → IsOperatorFault system z edge [] fault → IsPlaceFault system z edge fault
    fault_at (Wide Side wide) h = absurd h.1
    fault_at (Wide (Pivot number) wide) h = (h.0, (sides, h.1))
    fault_at (Wide Reading wide) h = (
      h.0,
      (
        sides,
        (
          h.1.0,
          first_wide_sooner long_limit (problem_reading system z edge [])
              (state_reading system.variables edge.actions (lp (whole_problem system z edge []))) (operation_of (λ q. q) wide) h.1.1,
        ),
      ),
    )
    fault_at NoMemory h = tt

    -- where the value isn't found
    pub placed_refused : (fault : PartFault) → IsOperatorFault system z edge [] fault → AnswersAt system z edge (Err fault)
    placed_refused fault h = record { value = tt; evidence = tt; state = tt; fits = tt; refused = fault_at fault h }

    module _ (v : Value) (is : IsValue system z edge [] v) (evidence : HasEvidence system z edge [] v) (fits : NoneWide system z edge [])
        (ends : List Affine) (same : ends ≡ map (dense (width system.variables edge.actions)) (end_forms system.variables edge.actions))
      where
        reading_is : ends_reading ends v ≡ state_reading system.variables edge.actions (lp (whole_problem system z edge []))
        reading_is = ap (λ (fs : List Affine). ends_reading fs v) same ∙ value_reading system z edge reached v is

        -- where the state is read, too
        pub placed_found : (state : Rattle.std.specs.Prelude.Option RationalState) → state ≡ ends_at ends v
            → first_wide long_limit (ends_reading ends v) ≡ None → AnswersAt system z edge (Ok (record { value = v; state = state }))
        placed_found state e none = record {
          value = is;
          evidence = evidence;
          state = e ∙ ap (λ (fs : List Affine). ends_at fs v) same ∙ value_state system z edge reached v is;
          fits = λ found. (
            sides,
            (fits found).0,
            first_wide_later long_limit (problem_reading system z edge [])
                (state_reading system.variables edge.actions (lp (whole_problem system z edge []))) (fits found).1
                ∙ ap (first_wide long_limit) (sym reading_is) ∙ none,
          );
          refused = tt;
        }

        -- and where it isn't
        pub placed_unread : (fault : OperationFault) (part : PartFault) → IsFaultOf (ends_reading ends v) fault
            → IsPartFault Reading fault part → AnswersAt system z edge (Err part)
        placed_unread fault part h e = record { value = tt; evidence = tt; state = tt; fits = tt; refused = unread fault part h e }
          where
            unread : (fault : OperationFault) (part : PartFault) → IsFaultOf (ends_reading ends v) fault → IsPartFault Reading fault part
                → IsPlaceFault system z edge part
            unread (WideFault wide) part h e =
                subst (IsPlaceFault system z edge) (sym e) (
                  reached,
                  (
                    sides,
                    (
                      (fits reached).0,
                      first_wide_later long_limit (problem_reading system z edge [])
                          (state_reading system.variables edge.actions (lp (whole_problem system z edge []))) (fits reached).1
                          ∙ ap (first_wide long_limit) (sym reading_is) ∙ h,
                    ),
                  ),
                )
            unread NoMemoryFault part h e = subst (IsPlaceFault system z edge) (sym e) tt
