-- What verdicts say is told by their members.
use Rattle.std.proofs.Common.{◌≡◌, ◌∙◌, ◌++◌, ℕ, List, [], ◌∷◌, refl, sym, ap}
use Rattle.std.specs.Prelude.{None, Some, codes}
use Rattle.serde_json.specs.Data.{Data, object, string, Members, no_members, put}
use Rattle.serde_json.specs.Find.{get_member}
use Rattle.serde_json.proofs.Views.{get_member-put, get_member-put_other}
use Rattle.base_numbers.specs.Rational.{ℚ}
use Rattle.base_fractions.specs.Texts.{frac_text}
use Rattle.ask_verdicts.specs.Lines.{state_text, value_text, verdict_text}
use Rattle.ask_verdicts.specs.declared.outcome.Verdict.{Verdict}
use Rattle.ask_verdicts.specs.declared.outcome.Verdict.TheVariants.{Proved, Open}
use Rattle.out_json.specs.States.{members_with}
use Rattle.out_json.specs.Told.{text_told}
use Rattle.ask_json.specs.Told.{AreApart, IsNoneOf, state_told, value_then, values_told}
use Rattle.ask_json.specs.Verdicts.{state_of, word_of}

-- a name keeps its value where others are put
kept : (q : List ℕ) (ms : Members) (names : List (List ℕ)) (xs : List ℚ) → IsNoneOf q names
    → get_member q (members_with ms names xs) ≡ get_member q ms
kept q ms [] xs h = refl
kept q ms (name ∷ names) [] h = refl
kept q ms (name ∷ names) (x ∷ xs) h =
    kept q (put name (string (frac_text x)) ms) names xs h.1 ∙ get_member-put_other q name (string (frac_text x)) ms h.0

-- none of these names has a member
abbrev AreAbsent : List (List ℕ) → Members → Type 0
AreAbsent [] ms = Unit {0}
AreAbsent (name ∷ names) ms = (get_member name ms ≡ None) × AreAbsent names ms

-- nor has one of them where another name's value is put
still_absent : (name : List ℕ) (d : Data) (names : List (List ℕ)) (ms : Members) → IsNoneOf name names → AreAbsent names ms
    → AreAbsent names (put name d ms)
still_absent name d [] ms h a = tt
still_absent name d (q ∷ names) ms h a =
    (get_member-put_other q name d ms (λ e. h.0 (sym e)) ∙ a.0, still_absent name d names ms h.1 a.1)

values_are : (before : List ℕ) (ms : Members) (names : List (List ℕ)) (xs : List ℚ) → AreApart names → AreAbsent names ms
    → values_told before names (object (members_with ms names xs)) ≡ state_text before names xs
values_are before ms [] xs apart absent = refl
values_are before ms (name ∷ names) [] apart absent =
    ap (λ o. value_then before name o (values_told (codes ", ") names (object ms))) absent.0
values_are before ms (name ∷ names) (x ∷ xs) apart absent =
    let d = string (frac_text x) in
    let more = put name d ms in
    let found : get_member name (members_with more names xs) ≡ Some d = kept name more names xs apart.0 ∙ get_member-put name d ms in
    ap (λ o. value_then before name o (values_told (codes ", ") names (object (members_with more names xs)))) found
    ∙ ap (λ t. before ++ value_text name x ++ t)
    (values_are (codes ", ") more names xs apart.1 (still_absent name d names ms apart.0 absent.1))

-- where there are no members no name has one
none_yet : (names : List (List ℕ)) → AreAbsent names no_members
none_yet [] = tt
none_yet (name ∷ names) = (refl, none_yet names)

-- by its word and its state
pub verdict_is : (names : List (List ℕ)) (verdict : Verdict) → AreApart names
    → text_told (Some (string (word_of verdict))) ++ state_told names (Some (state_of names verdict)) ≡ verdict_text names verdict
verdict_is names Proved apart = refl
verdict_is names (Open state) apart =
    ap (λ t. codes "open" ++ t) (values_are (codes " at ") no_members names state apart (none_yet names))
