-- One more symbol of those that go through.
use Rattle.std.proofs.Common.{◌≡◌, ◌∙◌, ◌+◌, ◌<◌, ℕ, List, [], ◌∷◌, length, take, get_or, Option, Some, None, refl, sym, ap}
use Rattle.std.proofs.lemmas.List.{take_more}
use Rattle.flow_rationals.specs.declared.reading.symbol.Symbol.{Symbol}
use Rattle.flow_rationals.specs.declared.reading.place.Place.{Place}
use Rattle.flow_rationals.specs.declared.reading.place.Place.TheVariants as place
use Rattle.flow_rationals.specs.Places.{next, run}
use Rattle.flow_rationals.proofs.grammar.Complete.{run_then, run-append}

step_only : (o : Option Place) → run_then [] o ≡ o
step_only None = refl
step_only (Some q) = refl

-- where i symbols go through to a place, one more goes as the machine goes on from there
pub run_more : (ss : List Symbol) (i : ℕ) (x : Symbol) (p : Place) (o : Option Place) → i < length ss → x ≡ get_or ss i x
    → run place.First (take i ss) ≡ Some p → o ≡ next p x → run place.First (take (i + 1) ss) ≡ o
run_more ss i x p o h at before e =
    ap (run place.First) (take_more ss i x h)
    ∙ (run-append place.First (take i ss) (get_or ss i x ∷ [])
    ∙ (ap (run_then (get_or ss i x ∷ [])) before
    ∙ (ap (λ y. run p (y ∷ [])) (sym at) ∙ (ap (run_then []) (sym e) ∙ step_only o))))
