-- A check is broken somewhere, or at none of its places.
use Rattle.std.proofs.Common.{◌≡◌, ◌∙◌, ℕ, ◌<◌, List, [], length, take, sym, subst}
use Rattle.std.specs.Prelude.{Contains}
use Rattle.std.proofs.lemmas.List.{get_or_default}
use Rattle.lang_tree.specs.declared.form.Form.{Form}
use Rattle.flow_edges.specs.Checks.{StandsBehind}
use Rattle.flow_edges.specs.declared.checked.CheckCases.{CheckCases}
use Rattle.flow_edges.specs.declared.edge.Action.{Action}
use Rattle.flow_edges.specs.declared.edge.Edge.{Edge}
use Rattle.flow_systems.specs.States.{RationalState}
use Rattle.flow_systems.specs.Equations.{Equations, Vector}
use Rattle.ask_verdicts.specs.Firsts.{NoneBelow, IsFirst}
use Rattle.ask_verdicts.specs.Breaking.{BreaksSome, NoneOpen}
use Rattle.ask_verdicts.proofs.verdicts.Once.{breaks_some}
use Rattle.ask_checks.specs.Places.{BreaksCheck, NoneBreaksCheck, edge_of}
use Rattle.ask_checks.specs.Verdicts.{NoneOn, OpenOn}
use Rattle.ask_checks.proofs.places.Standing.{behind}

-- a state that breaks one of the cases, where none does
some_open : (system : Equations) (z : Vector) (p : ℕ) (before : List Action) (cases : List (List Form))
    (x : RationalState) → BreaksSome system z p before cases x → NoneOpen system z p before cases (length cases) → ⊥
some_open system z p before cases x b none = none b.number b.within x b.breaks

-- an edge of a number is one of the system's
pub edge_listed : (system : Equations) (e : ℕ) → e < length system.edges → Contains system.edges (edge_of system e)
edge_listed system e l =
    (e, l, get_or_default system.edges e (edge_of system e) (record { from = 0; to = 0; actions = [] }) l)

module _ (system : Equations) (z : Vector) (check : CheckCases) where
  -- where no state breaks a check, no case is open on any edge
  pub none_everywhere : NoneBreaksCheck system z check → NoneBelow (λ e. NoneOn system z check (edge_of system e)) (length system.edges)
  none_everywhere none e l k m stands j n x b =
      none x (record {
        edge = edge_of system e;
        listed = edge_listed system e l;
        before = take k (edge_of system e).actions;
        place = stands;
        breaks = record { number = j; within = n; breaks = b };
      })

  none_on : (edge : Edge) (x : RationalState) (before : List Action) → StandsBehind edge.actions check.check before
      → BreaksSome system z edge.from before check.against x → NoneOn system z check edge → ⊥
  none_on edge x before place b none =
      let h = behind edge.actions check.check before place in
      let there = none (length before) h.0 (subst (StandsBehind edge.actions check.check) (sym h.1) place) in
      some_open system z edge.from before check.against x b
      (subst (λ xs. NoneOpen system z edge.from xs check.against (length check.against)) h.1 there)

  -- and the other way round
  pub none_breaks_check : NoneBelow (λ e. NoneOn system z check (edge_of system e)) (length system.edges) → NoneBreaksCheck system z check
  none_breaks_check none x b =
      let i = b.listed.0 in
      let is : edge_of system i ≡ b.edge = sym (get_or_default system.edges i b.edge (record { from = 0; to = 0; actions = [] }) b.listed.1)
      ∙ b.listed.2 in
      none_on b.edge x b.before b.place b.breaks (subst (NoneOn system z check) is (none i b.listed.1))

  -- the state of an open verdict breaks the check
  pub open_breaks_check : (x : RationalState) →
      IsFirst (λ e. NoneOn system z check (edge_of system e)) (λ e. OpenOn system z check (edge_of system e)) (length system.edges) x
      → BreaksCheck system z check x
  open_breaks_check x a =
      let edge = edge_of system a.number in
      record {
        edge = edge;
        listed = edge_listed system a.number a.within;
        before = take a.here.number edge.actions;
        place = a.here.here.0;
        breaks = breaks_some system z edge.from (take a.here.number edge.actions) check.against x a.here.here.1;
      }
