-- A proved place holds: no integer state is there at which the condition is false.
use Rattle.std.proofs.Common.{⊎_elim, ℕ, suc, ◌<◌, false, List, [], ◌∷◌, length, get_or, sym, subst, arith}
use Rattle.std.specs.Prelude.{pos}
use Rattle.base_numbers.specs.Rational.{whole, zero_ℚ, ◌≤ℚ◌}
use Rattle.base_numbers.proofs.rational.Laws.{whole-zero, whole_le}
use Rattle.lang_tree.specs.declared.form.Form.{Form}
use Rattle.lang_tree.specs.Meaning.{State, value}
use Rattle.lang_tree.specs.Cases.{cases_of, HoldAll, HoldSome}
use Rattle.lang_tree.proofs.cases.CaseLaw.{cases_law}
use Rattle.flow_systems.specs.States.{rational}
use Rattle.flow_systems.proofs.states.RationalStates.{value_rational}
use Rattle.ask_verdicts.specs.Breaking.{PassesAll}
use Rattle.ask_verdicts.specs.Laws.{ProvedPlacesHold}

passes_rational : (case : List Form) (x : State) → HoldAll x case → PassesAll case (rational x)
passes_rational [] x h = tt
passes_rational (g ∷ gs) x h =
    let at_most : whole (value g x) ≤ℚ zero_ℚ = subst (λ q. whole (value g x) ≤ℚ q) whole-zero (whole_le (value g x) (pos 0) h.0) in
    (subst (λ q. q ≤ℚ zero_ℚ) (sym (value_rational g x)) at_most, passes_rational gs x h.1)

-- the case whose guards hold
record Held (x : State) (cases : List (List Form)) : Type 0 where
  number : ℕ
  within : number < length cases
  holds : HoldAll x (get_or cases number [])

held : (x : State) (cases : List (List Form)) → HoldSome x cases → Held x cases
held x [] h = absurd h
held x (c ∷ cs) h =
    ⊎_elim (λ here. record { number = 0; within = omega arith; holds = here })
    (λ later. let r = held x cs later in let l = r.within in record { number = suc r.number; within = omega (arith, l); holds = r.holds }) h

-- where no state breaks a case against a condition, it isn't false where the actions lead from a state that fits
pub places_hold : ProvedPlacesHold
places_hold system z p before c none x y size fits trace may =
    let h = held y (cases_of false c) ((cases_law false c y).0 may) in
    none h.number h.within (rational y) (record {
      start = x;
      size = size;
      fits = fits;
      trace = trace;
      passes = passes_rational (get_or (cases_of false c) h.number []) y h.holds;
    })
