-- A trace is determined by its start and the values at its free assignments.
use Rattle.std.proofs.Common.{◌≡◌, ◌∙◌, suc, List, [], ◌∷◌, length, refl, sym, ap}
use Rattle.base_numbers.specs.Rational.{ℚ, zero_ℚ}
use Rattle.lang_tree.specs.Meaning.{put}
use Rattle.flow_edges.specs.declared.edge.Action.{Action}
use Rattle.flow_edges.specs.declared.edge.Action.TheVariants.{Guard, Assign, Havoc, Check}
use Rattle.flow_systems.specs.States.{RationalState, valueℚ, Traces}
use Rattle.flow_systems.specs.FreeValues.{free_count, Follows, TracesAreFollowed}

traced : (actions : List Action) (x y : RationalState) → Traces actions x y → (free : List ℚ) × Follows actions x free y
traced [] x y h = ([], h)
traced (Guard form ∷ actions) x y h = let r = traced actions x y h.1 in (r.0, (h.0, r.1))
traced (Assign var form ∷ actions) x y h = traced actions (put zero_ℚ x var (valueℚ form x)) y h
traced (Havoc var ∷ actions) x y h = let r = traced actions (put zero_ℚ x var h.0) y h.1 in (h.0 ∷ r.0, r.1)
traced (Check about ∷ actions) x y h = traced actions x y h

followed : (actions : List Action) (x : RationalState) (free : List ℚ) (y : RationalState) → Follows actions x free y → Traces actions x y
followed [] x [] y h = h
followed [] x (q ∷ free) y h = absurd h
followed (Guard form ∷ actions) x free y h = (h.0, followed actions x free y h.1)
followed (Assign var form ∷ actions) x free y h = followed actions (put zero_ℚ x var (valueℚ form x)) free y h
followed (Havoc var ∷ actions) x [] y h = absurd h
followed (Havoc var ∷ actions) x (q ∷ free) y h = (q, followed actions (put zero_ℚ x var q) free y h)
followed (Check about ∷ actions) x free y h = followed actions x free y h

counted : (actions : List Action) (x : RationalState) (free : List ℚ) (y : RationalState) → Follows actions x free y
    → length free ≡ free_count actions
counted [] x [] y h = refl
counted [] x (q ∷ free) y h = absurd h
counted (Guard form ∷ actions) x free y h = counted actions x free y h.1
counted (Assign var form ∷ actions) x free y h = counted actions (put zero_ℚ x var (valueℚ form x)) free y h
counted (Havoc var ∷ actions) x [] y h = absurd h
counted (Havoc var ∷ actions) x (q ∷ free) y h = ap suc (counted actions (put zero_ℚ x var q) free y h)
counted (Check about ∷ actions) x free y h = counted actions x free y h

same_end : (actions : List Action) (x : RationalState) (free : List ℚ) (y z : RationalState) → Follows actions x free y
    → Follows actions x free z → y ≡ z
same_end [] x [] y z h k = h ∙ sym k
same_end [] x (q ∷ free) y z h k = absurd h
same_end (Guard form ∷ actions) x free y z h k = same_end actions x free y z h.1 k.1
same_end (Assign var form ∷ actions) x free y z h k = same_end actions (put zero_ℚ x var (valueℚ form x)) free y z h k
same_end (Havoc var ∷ actions) x [] y z h k = absurd h
same_end (Havoc var ∷ actions) x (q ∷ free) y z h k = same_end actions (put zero_ℚ x var q) free y z h k
same_end (Check about ∷ actions) x free y z h k = same_end actions x free y z h k

-- a trace is determined by its start and the values at its free assignments
pub free_value_law : TracesAreFollowed
free_value_law actions = record {
  trace = λ x y. ((λ h. traced actions x y h), (λ r. followed actions x r.0 y r.1));
  count = λ x free y h. counted actions x free y h;
  determined = λ x free y z h k. same_end actions x free y z h k;
}
