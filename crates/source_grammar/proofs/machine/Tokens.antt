-- One token of the code's machine.
use Rattle.std.proofs.Common.{◌≡◌, ◌∙◌, ◌++◌, ◌≤◌, ◌<◌, ℕ, List, [], ◌∷◌, Option, Some, None, refl, sym, ap, Bool, true, false, map}
use Rattle.std.proofs.lemmas.Bool.{lt-ltb, le-ltb}
use Rattle.source_grammar.specs.Tokens.{Kind}
use Rattle.source_grammar.specs.Machine.{Goal, Entry, takes, skips, stops, step, entry}
use Rattle.source_grammar.specs.Verdicts.{opened, opened_by, judged, verdict, Verdict, goes, too_deep}
use Rattle.source_grammar.specs.Goals.{entry_of, Entered, IsTaken, IsShallow, added, stack_of, goal_of}
use Rattle.std.proofs.lemmas.List.{reverse-append}
use Rattle.source_grammar.specs.declared.goal.Goal as code_goal
use Rattle.source_grammar.specs.declared.goal.Entry as code_entry
use Rattle.source_grammar.specs.declared.goal.Entry.TheVariants as variant

abbrev local : Entry → Option ℕ → List Goal → Kind → Verdict
local w o gs k = judged (elim w as (λ x. Option (List Goal)) [ takes next ↦ Some (next ++ gs) | skips ↦ step gs k | stops ↦ None ])
    (elim w as (λ x. Option ℕ) [ takes next ↦ o | skips ↦ opened gs k | stops ↦ None ])

shallow : (d : ℕ) (next : List Goal) → d < 64 → judged (Some next) (Some d) ≡ goes next
shallow d next h = ap (λ (t : Bool). elim t as (λ x. Verdict) [ true ↦ goes next | false ↦ too_deep ]) (lt-ltb d 64 h)

deep : (d : ℕ) (next : List Goal) → 64 ≤ d → judged (Some next) (Some d) ≡ too_deep
deep d next h = ap (λ (t : Bool). elim t as (λ x. Verdict) [ true ↦ goes next | false ↦ too_deep ]) (le-ltb d 64 h)

goes_shape : (n : List Goal) (w : Entry) (o : Option ℕ) (gs : List Goal) (k : Kind) → takes n ≡ w → (IsTaken w → IsShallow o)
    → local w o gs k ≡ goes (n ++ gs)
goes_shape n (takes m) None gs k e h = let i : n ≡ m = cc in ap (λ (x : List Goal). goes (x ++ gs)) (sym i)
goes_shape n (takes m) (Some d) gs k e h = let i : n ≡ m = cc in shallow d (m ++ gs) (h tt) ∙ ap (λ (x : List Goal). goes (x ++ gs)) (sym i)
goes_shape n skips o gs k e h = cc
goes_shape n stops o gs k e h = cc

-- where the code's entry takes the token, the machine goes on with the goals that it adds
pub goes_on : (e : code_entry.Entry) (g : Goal) (gs : List Goal) (k : Kind) → Entered e g k → (e ≡ variant.Skips → ⊥)
    → (e ≡ variant.Stops → ⊥) → (e ≡ variant.Deep → ⊥) → verdict (g ∷ gs) k ≡ goes (added (entry_of e) gs)
goes_on variant.Nothing g gs k h p q r = goes_shape _ (entry g k) (opened_by g k) gs k h.0 h.1
goes_on (variant.One a) g gs k h p q r = goes_shape _ (entry g k) (opened_by g k) gs k h.0 h.1
goes_on (variant.Two a b) g gs k h p q r = goes_shape _ (entry g k) (opened_by g k) gs k h.0 h.1
goes_on (variant.Three a b c) g gs k h p q r = goes_shape _ (entry g k) (opened_by g k) gs k h.0 h.1
goes_on (variant.Four a b c d) g gs k h p q r = goes_shape _ (entry g k) (opened_by g k) gs k h.0 h.1
goes_on (variant.Five a b c d e) g gs k h p q r = goes_shape _ (entry g k) (opened_by g k) gs k h.0 h.1
goes_on (variant.Six a b c d e f) g gs k h p q r = goes_shape _ (entry g k) (opened_by g k) gs k h.0 h.1
goes_on variant.Skips g gs k h p q r = absurd (p refl)
goes_on variant.Stops g gs k h p q r = absurd (q refl)
goes_on variant.Deep g gs k h p q r = absurd (r refl)

stack_top : (gs rest : List code_goal.Goal) (g : code_goal.Goal) → gs ≡ rest ++ g ∷ [] → stack_of gs ≡ goal_of g ∷ stack_of rest
stack_top gs rest g e = ap stack_of e ∙ ap (map goal_of) (reverse-append rest (g ∷ []))

-- where the code's entry takes the token, its stack is the machine's after the token
pub went : (v : Verdict) (gs rest : List code_goal.Goal) (g : code_goal.Goal) (e : code_entry.Entry) (k : Kind) (now : List Goal)
    → v ≡ verdict (stack_of gs) k → gs ≡ rest ++ g ∷ [] → Entered e (goal_of g) k → (e ≡ variant.Skips → ⊥) → (e ≡ variant.Stops → ⊥)
    → (e ≡ variant.Deep → ⊥) → now ≡ added (entry_of e) (stack_of rest) → v ≡ goes now
went old gs rest g e k now h i j p q r m = h ∙ ap (λ (x : List Goal). verdict x k) (stack_top gs rest g i)
    ∙ goes_on e (goal_of g) (stack_of rest) k j p q r ∙ ap goes (sym m)
