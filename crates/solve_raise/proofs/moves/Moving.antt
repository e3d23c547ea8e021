-- The values that the moves of an edge carry are those of its composed forms.
use Rattle.std.proofs.Common.{◌≡◌, ◌∙◌, ℕ, suc, List, [], ◌∷◌, ◌++◌, map, length, refl, sym, ap}
use Rattle.std.specs.Prelude.{ℤ}
use Rattle.flow_edges.specs.declared.edge.Action.{Action}
use Rattle.flow_edges.specs.declared.edge.Action.TheVariants.{Guard, Assign, Havoc, Check}
use Rattle.flow_edges.specs.declared.edge.Edge.{Edge}
use Rattle.flow_systems.specs.States.{RationalState, dotℚ}
use Rattle.flow_systems.specs.FreeValues.{Follows}
use Rattle.flow_systems.specs.Equations.{Equations}
use Rattle.flow_systems.specs.declared.trace.Trace.{Trace}
use Rattle.flow_systems.specs.Constants.{linear_form, linear_action}
use Rattle.theory_validity.specs.Words.{Affine, Word, with_form, column, columns, composed, ends_from, end_of, values}
use Rattle.theory_validity.specs.Steps.{end_value}
use Rattle.theory_validity.proofs.words.Following.{follows_iff}
use Rattle.theory_validity.proofs.words.Linearized.{end-slope}
use Rattle.flow_systems.specs.declared.sums.Constants.{Constants}
use Rattle.flow_systems.specs.declared.sums.Constants.TheVariants.{Kept, Zero}
use Rattle.solve_raise.specs.Moves.{moves, carried}

ends-kept : (k : ℕ) (fs : List Affine) (actions : List Action) → ends_from k fs (moves Kept actions) ≡ ends_from k fs actions
unfolding ends_from
ends-kept k fs [] = refl
ends-kept k fs (Guard form ∷ actions) = ends-kept k fs actions
ends-kept k fs (Assign var form ∷ actions) = ends-kept k (with_form fs var (composed form fs)) actions
ends-kept k fs (Havoc var ∷ actions) = ends-kept (suc k) (with_form fs var (column k)) actions
ends-kept k fs (Check about ∷ actions) = ends-kept k fs actions

ends-zero : (k : ℕ) (fs : List Affine) (actions : List Action) → ends_from k fs (moves Zero actions)
    ≡ ends_from k fs (map linear_action actions)
unfolding ends_from
ends-zero k fs [] = refl
ends-zero k fs (Guard form ∷ actions) = ends-zero k fs actions
ends-zero k fs (Assign var form ∷ actions) = ends-zero k (with_form fs var (composed (linear_form form) fs)) actions
ends-zero k fs (Havoc var ∷ actions) = ends-zero (suc k) (with_form fs var (column k)) actions
ends-zero k fs (Check about ∷ actions) = ends-zero k fs actions

-- where the moves end
module _ (n : ℕ) (start free : Word) (y : RationalState) (l : length start ≡ n) where
  end_of_moves : (moved : List Action) → Follows moved start free y → y ≡ end_of n moved (start ++ free)
  end_of_moves moved h = ((follows_iff n moved start free y l).0 h).2

  kept_end : (actions : List Action) → Follows (moves Kept actions) start free y → end_of n actions (start ++ free) ≡ y
  unfolding end_of
  kept_end actions h = sym (end_of_moves (moves Kept actions) h ∙ ap (λ fs. values fs (start ++ free)) (ends-kept n (columns n) actions))

  zero_end : (actions : List Action) → Follows (moves Zero actions) start free y → end_of n (map linear_action actions) (start ++ free) ≡ y
  unfolding end_of
  zero_end actions h = sym (end_of_moves (moves Zero actions) h ∙ ap (λ fs. values fs (start ++ free)) (ends-zero n (columns n) actions))

-- the value that an edge's moves carry is that of its composed forms
pub carried_is : (constants : Constants) (system : Equations) (edge : Edge) (row : List ℤ) (trace : Trace) (y : RationalState)
    → length trace.start ≡ system.variables →
    Follows (moves constants edge.actions) trace.start trace.free y → carried constants system edge row trace ≡ dotℚ row y
unfolding end_value
carried_is Kept system edge row trace y l h = ap (dotℚ row) (kept_end system.variables trace.start trace.free y l edge.actions h)
carried_is Zero system edge row trace y l h =
    end-slope system.variables edge.actions row (trace.start ++ trace.free)
    ∙ ap (dotℚ row) (zero_end system.variables trace.start trace.free y l edge.actions h)
