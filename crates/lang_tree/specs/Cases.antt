-- The cases of a condition: each is a list of guards, and a guard is a form that has to be at most 0.
use Rattle.std.specs.Prelude.{◌↔◌, ◌⊎◌, pos, ◌+ℤ◌, ◌≤ℤ◌, neg_ℤ, Bool, true, false, not, List, [], ◌∷◌, ◌++◌, map}
use Rattle.lang_tree.specs.declared.form.Form.{Form}
use Rattle.lang_tree.specs.declared.cond.Rel.{Rel}
use Rattle.lang_tree.specs.declared.cond.Rel.TheVariants.{Eq, Ne, Lt, Le, Gt, Ge}
use Rattle.lang_tree.specs.Tree.{Condition, free, compare, negation, both, either}
use Rattle.lang_tree.specs.Meaning.{State, value, MayBe}

-- f + 1
abbrev pub plus_one : Form → Form
plus_one f = record f { constant = f.constant +ℤ pos 1 }

-- -f
abbrev pub negated : Form → Form
negated f = record { coeffs = map neg_ℤ f.coeffs; constant = neg_ℤ f.constant }

-- the cases in which a comparison of a form with 0 holds, or fails, over the integers
abbrev pub comparison_cases : Bool → Rel → Form → List (List Form)
comparison_cases true Lt f = (plus_one f ∷ []) ∷ []
comparison_cases false Lt f = (negated f ∷ []) ∷ []
comparison_cases true Le f = (f ∷ []) ∷ []
comparison_cases false Le f = (plus_one (negated f) ∷ []) ∷ []
comparison_cases true Gt f = (plus_one (negated f) ∷ []) ∷ []
comparison_cases false Gt f = (f ∷ []) ∷ []
comparison_cases true Ge f = (negated f ∷ []) ∷ []
comparison_cases false Ge f = (plus_one f ∷ []) ∷ []
comparison_cases true Eq f = (f ∷ (negated f ∷ [])) ∷ []
comparison_cases false Eq f = (plus_one f ∷ []) ∷ ((plus_one (negated f) ∷ []) ∷ [])
comparison_cases true Ne f = (plus_one f ∷ []) ∷ ((plus_one (negated f) ∷ []) ∷ [])
comparison_cases false Ne f = (f ∷ (negated f ∷ [])) ∷ []

-- each case of the first list followed by each of the second, the first outermost
abbrev pub crossed : List (List Form) → List (List Form) → List (List Form)
crossed [] bs = []
crossed (a ∷ rest) bs = map (λ b. a ++ b) bs ++ crossed rest bs

-- the cases in which a condition may have this truth
abbrev pub cases_of : Bool → Condition → List (List Form)
cases_of truth free = [] ∷ []
cases_of truth (compare rel f) = comparison_cases truth rel f
cases_of truth (negation c) = cases_of (not truth) c
cases_of true (both a b) = crossed (cases_of true a) (cases_of true b)
cases_of false (both a b) = cases_of false a ++ cases_of false b
cases_of true (either a b) = cases_of true a ++ cases_of true b
cases_of false (either a b) = crossed (cases_of false a) (cases_of false b)

-- all guards of a case have a value of at most 0 at the state
abbrev pub HoldAll : State → List Form → Type 0
HoldAll state [] = Unit {0}
HoldAll state (g ∷ gs) = (value g state ≤ℤ pos 0) × HoldAll state gs

-- all guards of some case do
abbrev pub HoldSome : State → List (List Form) → Type 0
HoldSome state [] = ⊥
HoldSome state (c ∷ cs) = HoldAll state c ⊎ HoldSome state cs

-- the law of cases: a condition may have a truth exactly where all guards of some case hold
abbrev pub CasesAreTruth : Type 0
CasesAreTruth = (truth : Bool) (c : Condition) (state : State) → MayBe truth c state ↔ HoldSome state (cases_of truth c)
