-- Words of items by their start and free values: what running and going along a direction mean when the actions are followed.
use Rattle.std.proofs.Common.{◌≡◌, ◌∙◌, ◌↔◌, ℕ, suc, List, [], ◌∷◌, ◌++◌, map, length, length-append, refl, sym, ap, subst, arith}
use Rattle.std.specs.Prelude.{ℤ}
use Rattle.flow_edges.specs.declared.edge.Action.{Action}
use Rattle.flow_edges.specs.declared.edge.Action.TheVariants.{Guard, Assign, Havoc, Check}
use Rattle.flow_systems.specs.States.{RationalState, dotℚ}
use Rattle.flow_systems.specs.Equations.{Equations, Vector, Fits}
use Rattle.flow_edges.specs.declared.edge.Edge.{Edge}
use Rattle.theory_validity.specs.Words.{Word, lin, free_count, width, end_form, end_of, Falls}
use Rattle.theory_validity.specs.Steps.{Runs, end_value}
use Rattle.flow_systems.specs.FreeValues.{Follows}
use Rattle.flow_systems.specs.Constants.{linear_action}
use Rattle.theory_validity.proofs.words.Traces.{start_is}
use Rattle.theory_validity.proofs.words.Following.{follows_iff}
use Rattle.theory_validity.proofs.words.Linearized.{falls_iff, end-slope}

-- start values for the variables and a value for each free assignment make a word of the edge's width
pub length-word : (n : ℕ) (actions : List Action) (start free : Word) → length start ≡ n → length free ≡ free_count actions
    → length (start ++ free) ≡ width n actions
unfolding width
length-word n actions start free e f = omega (arith, length-append start free)

-- such a word runs exactly where its start fits and the actions can be followed
pub runs_iff : (system : Equations) (z : Vector) (edge : Edge) (start free : Word) → length start ≡ system.variables
    → length free ≡ free_count edge.actions →
    Runs system z edge (start ++ free) ↔ (Fits system z edge.from start × ((y : RationalState) × Follows edge.actions start free y))
runs_iff system z edge start free e f =
    let n = system.variables in
    let same = start_is n start free e in (
      (λ h. (
        subst (Fits system z edge.from) same h.fits,
        (
          end_of n edge.actions (start ++ free),
          (follows_iff n edge.actions start free (end_of n edge.actions (start ++ free)) e).1 (f, h.passes, refl),
        ),
      )),
      (λ h. record {
        passes = ((follows_iff n edge.actions start free h.1.0 e).0 h.1.1).1;
        fits =
            subst (Fits system z edge.from) (sym same) h.0;
      }),
    )

-- and its value is the row's where they lead
pub end_value_is : (system : Equations) (edge : Edge) (row : List ℤ) (start free : Word) (y : RationalState)
    → length start ≡ system.variables → Follows edge.actions start free y →
    end_value system edge row (start ++ free) ≡ dotℚ row y
unfolding end_value
end_value_is system edge row start free y e h = ap (dotℚ row) (sym ((follows_iff system.variables edge.actions start free y e).0 h).2)

-- ---- directions
free_count-linear : (actions : List Action) → free_count (map linear_action actions) ≡ free_count actions
unfolding free_count
free_count-linear [] = refl
free_count-linear (Guard form ∷ actions) = free_count-linear actions
free_count-linear (Assign var form ∷ actions) = free_count-linear actions
free_count-linear (Havoc var ∷ actions) = ap suc (free_count-linear actions)
free_count-linear (Check about ∷ actions) = free_count-linear actions

-- a direction falls exactly where the actions without constants can be followed
pub falls_followed : (n : ℕ) (actions : List Action) (start free : Word) → length start ≡ n → length free ≡ free_count actions →
    Falls n actions (start ++ free) ↔ ((y : RationalState) × Follows (map linear_action actions) start free y)
falls_followed n actions start free e f = (
  (λ h. (
    end_of n (map linear_action actions) (start ++ free),
    (follows_iff n (map linear_action actions) start free (end_of n (map linear_action actions) (start ++ free)) e).1
        (f ∙ sym (free_count-linear actions), (falls_iff n actions (start ++ free)).0 h, refl),
  )),
  (λ h. (falls_iff n actions (start ++ free)).1 ((follows_iff n (map linear_action actions) start free h.0 e).0 h.1).1),
)

-- and the linear part of a row's end form is the row's value where they lead
pub end_slope_is : (n : ℕ) (actions : List Action) (row : List ℤ) (start free : Word) (y : RationalState) → length start ≡ n
    → Follows (map linear_action actions) start free y →
    lin (end_form n actions row) (start ++ free) ≡ dotℚ row y
end_slope_is n actions row start free y e h = end-slope n actions row (start ++ free)
    ∙ ap (dotℚ row) (sym ((follows_iff n (map linear_action actions) start free y e).0 h).2)
