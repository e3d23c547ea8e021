-- A text of equations has one list of values.
use Rattle.std.proofs.Common.{◌≡◌, ◌∙◌, ℕ, List, length, map, sym, subst, arith}
use Rattle.std.specs.Prelude.{Ok}
use Rattle.std.proofs.lemmas.List.{length-map}
use Rattle.flow_systems.specs.declared.footer.Footer.TheVariants.{Improvements}
use Rattle.flow_rationals.specs.declared.equation.Equation.{Equation}
use Rattle.flow_rationals.specs.Solutions.{IsLeastAbove}
use Rattle.flow_rationals.proofs.above.LeastAbove.{at_most_one}
use Rattle.flow_rationals.proofs.equation_texts.Once.{answers_once}
use Rattle.ask_words.specs.declared.request.Policy.{Policy}
use Rattle.ask_words.specs.declared.format.Format.{Format}
use Rattle.top_texts.specs.EquationTexts.{AreValuesOf, HasImprovements}
use Rattle.top_written.specs.Formats.{values_in}
use Rattle.top_written.proofs.formats.Values.{values_agree}
use Rattle.top_texts.proofs.equation_texts.Once.{same_equations}
use Rattle.top_texts.proofs.rounds.OneChain.{rounds_once}

number_once : (equations : List Equation) (policy : Policy) (n m : ℕ) → HasImprovements equations policy n
    → HasImprovements equations policy m → n ≡ m
number_once equations policy n m (s, is, v, a) (t, js, w, b) = rounds_once s t policy n m v w (is ∙ sym js) a b

-- a text of equations has one list of values
pub values_once : (text : List ℕ) (policy : Policy) (limit : ℕ) (format : Format) (one other : List ℕ)
    → AreValuesOf text policy limit format one → AreValuesOf text policy limit format other → one ≡ other
values_once text policy limit format one other a b =
    let same : b.equations ≡ a.equations = same_equations b.equations a.equations
    (answers_once text (Ok b.equations) (Ok a.equations) b.reading a.reading) in
    let least : IsLeastAbove a.equations b.values = subst (λ es. IsLeastAbove es b.values) same b.least in
    let improvements : HasImprovements a.equations policy b.rounds = subst (λ es. HasImprovements es policy b.rounds) same b.improvements in
    let written : other ≡ values_in format (map (λ e. e.name) a.equations) b.values (Improvements b.rounds) =
    subst (λ (es : List Equation). other ≡ values_in format (map (λ e. e.name) es) b.values (Improvements b.rounds)) same b.written in
    let size : length (map (λ (e : Equation). e.name) a.equations) ≡ length a.equations =
    length-map a.equations (λ (e : Equation). e.name) in
    a.written
    ∙ values_agree format (map (λ e. e.name) a.equations) a.values b.values a.rounds b.rounds
    (λ j h. at_most_one a.equations a.values b.values a.least least j (omega (arith, size)))
    (number_once a.equations policy a.rounds b.rounds a.improvements improvements)
    ∙ sym written
