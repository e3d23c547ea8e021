-- Values, truth and cases of small conditions, worked by hand.
use Rattle.std.proofs.Common.{◌≡◌, true, false, [], ◌∷◌, inl, inr, refl, arith}
use Rattle.std.specs.Prelude.{ℤ, pos, negsuc}
use Rattle.std.proofs.lemmas.Int.{ints}
use Rattle.lang_tree.specs.declared.form.Form.{Form}
use Rattle.lang_tree.specs.declared.cond.Rel.TheVariants.{Ne, Lt, Le, Gt, Ge}
use Rattle.lang_tree.specs.Tree.{Condition, free, compare, negation, both, either}
use Rattle.lang_tree.specs.Meaning.{value, MayBe}
use Rattle.lang_tree.specs.Cases.{cases_of}

-- a * x + b * y + k
abbrev form : ℤ → ℤ → ℤ → Form
form a b k = record { coeffs = a ∷ (b ∷ []); constant = k }

abbrev minus_one : ℤ
minus_one = negsuc 0

-- 2 * 3 - 5 + 4
a_value : value (form (pos 2) minus_one (pos 4)) (pos 3 ∷ (pos 5 ∷ [])) ≡ pos 5
a_value = refl

-- x != 0 || y < 0, and x <= 5 || y > 1
abbrev left : Condition
left = either (compare Ne (form (pos 1) (pos 0) (pos 0))) (compare Lt (form (pos 0) (pos 1) (pos 0)))

abbrev right : Condition
right = either (compare Le (form (pos 1) (pos 0) (negsuc 4))) (compare Gt (form (pos 0) (pos 1) minus_one))

-- x + 1 and 1 - x, y + 1; x - 5, 2 - y: the cases of the left side outermost
cases_for_true : cases_of true (both left right) ≡
    (form (pos 1) (pos 0) (pos 1) ∷ (form (pos 1) (pos 0) (negsuc 4) ∷ []))
    ∷ ((form (pos 1) (pos 0) (pos 1) ∷ (form (pos 0) minus_one (pos 2) ∷ []))
    ∷ ((form minus_one (pos 0) (pos 1) ∷ (form (pos 1) (pos 0) (negsuc 4) ∷ []))
    ∷ ((form minus_one (pos 0) (pos 1) ∷ (form (pos 0) minus_one (pos 2) ∷ []))
    ∷ ((form (pos 0) (pos 1) (pos 1) ∷ (form (pos 1) (pos 0) (negsuc 4) ∷ []))
    ∷ ((form (pos 0) (pos 1) (pos 1) ∷ (form (pos 0) minus_one (pos 2) ∷ [])) ∷ [])))))
cases_for_true = refl

-- x, -x and -y; or 6 - x and y - 1
cases_for_false : cases_of false (both left right) ≡
    (form (pos 1) (pos 0) (pos 0) ∷ (form minus_one (pos 0) (pos 0) ∷ (form (pos 0) minus_one (pos 0) ∷ [])))
    ∷ ((form minus_one (pos 0) (pos 6) ∷ (form (pos 0) (pos 1) minus_one ∷ [])) ∷ [])
cases_for_false = refl

cases_of_negation : cases_of true (negation (both left right)) ≡ cases_of false (both left right)
cases_of_negation = refl

-- x >= 3, and its negation: 3 - x, x - 2
at_least : cases_of true (compare Ge (form (pos 1) (pos 0) (negsuc 2))) ≡ (form minus_one (pos 0) (pos 3) ∷ []) ∷ []
at_least = refl

less : cases_of false (compare Ge (form (pos 1) (pos 0) (negsuc 2))) ≡ (form (pos 1) (pos 0) (negsuc 1) ∷ []) ∷ []
less = refl

-- a free choice has one case without guards, whatever its truth
either_way : cases_of false free ≡ [] ∷ []
either_way = refl

-- at x = 7, y = 1 the whole is false, and not true; with a free side it may be both
false_there : MayBe false (both left right) (pos 7 ∷ (pos 1 ∷ []))
false_there = inr ((λ h. omega (arith, ints)), (λ h. omega (arith, ints)))

not_true_there : ¬ (MayBe true (both left right) (pos 7 ∷ (pos 1 ∷ [])))
not_true_there (a, inl h) = omega (arith, ints)
not_true_there (a, inr h) = omega (arith, ints)

free_there : MayBe true (either free right) (pos 7 ∷ (pos 1 ∷ [])) × MayBe false (either free right) (pos 7 ∷ (pos 1 ∷ []))
free_there = (inl tt, (tt, ((λ h. omega (arith, ints)), (λ h. omega (arith, ints)))))
