-- Numbers that are counted no further than a limit.
use Rattle.std.proofs.Common.{◌≡◌, ◌∙◌, ◌⊎◌, inl, inr, ⊎_elim, ℕ, zero, suc, ◌+◌, ◌*◌, ◌≤◌, ◌<◌, true, false, List, [], ◌∷◌, ◌++◌, length}
use Rattle.std.proofs.Common.{map, min, refl}
use Rattle.std.proofs.Common.{sym, ap, arith, length-append}
use Rattle.std.proofs.lemmas.Bool.{cases_order}
use Rattle.std.proofs.lemmas.List.{length-map}
use Rattle.std.proofs.Math.Nat.{mul-le-mul_left, mul-le-mul_right}
use Rattle.lang_tree.specs.declared.form.Form.{Form}
use Rattle.lang_tree.specs.Tree.{Condition, both, either}
use Rattle.lang_tree.specs.Cases.{cases_of, crossed}
use Rattle.flow_edges.specs.declared.saturated.TheConstants.{ENOUGH}

-- a sum of capped numbers, capped, is the capped sum of the numbers
pub sum_counted : (x y a b r : ℕ) → x ≡ min a ENOUGH → y ≡ min b ENOUGH → r ≡ min (x + y) ENOUGH → r ≡ min (a + b) ENOUGH
sum_counted x y a b r p q e = omega arith

-- of two numbers the first is at most the second, or above it
pub either_way : (a b : ℕ) → (a ≤ b) ⊎ (b < a)
either_way a b = ⊎_elim (λ e. inl (omega arith)) (λ r. ⊎_elim (λ l. inl (omega arith)) (λ g. inr g) r) (cases_order a b)

-- a product is at least a factor that is past the limit, where the other isn't 0
grown : (a b : ℕ) → ENOUGH ≤ a → min (ENOUGH * min b ENOUGH) ENOUGH ≡ min (a * b) ENOUGH
grown a zero h = omega arith
grown a (suc n) h = omega (arith, mul-le-mul_right (suc n) h)

past : (a b : ℕ) → ENOUGH ≤ b → min (a * ENOUGH) ENOUGH ≡ min (a * b) ENOUGH
past zero b h = omega arith
past (suc n) b h = omega (arith, mul-le-mul_left (suc n) h)

capped : (a b : ℕ) → min (min a ENOUGH * min b ENOUGH) ENOUGH ≡ min (a * b) ENOUGH
capped a b =
    ⊎_elim
    (λ (h : ENOUGH ≤ a). let e : min a ENOUGH ≡ ENOUGH = omega arith in rw e (grown a b h))
    (λ (h : a < ENOUGH).
    let e : min a ENOUGH ≡ a = omega arith in
    ⊎_elim
    (λ (k : ENOUGH ≤ b).
    let d : min b ENOUGH ≡ ENOUGH = omega arith in
    rw (e, d) (past a b k))
    (λ (k : b < ENOUGH). let d : min b ENOUGH ≡ b = omega arith in rw (e, d) refl)
    (either_way ENOUGH b))
    (either_way ENOUGH a)

-- a product of capped numbers, capped, is the capped product of the numbers
pub product_counted : (x y a b r : ℕ) → x ≡ min a ENOUGH → y ≡ min b ENOUGH → r ≡ min (x * y) ENOUGH → r ≡ min (a * b) ENOUGH
product_counted x y a b r p q e =
    let f : r ≡ min (min a ENOUGH * min b ENOUGH) ENOUGH = rw (p, q) at e in
    f ∙ capped a b

length-crossed : (us vs : List (List Form)) → length (crossed us vs) ≡ length us * length vs
length-crossed [] vs = omega arith
length-crossed (u ∷ us) vs =
    let f : List Form → List Form = λ v. u ++ v in
    omega (arith, length-append (map f vs) (crossed us vs), length-map vs f, length-crossed us vs)

-- where the cases of two conditions are counted, the capped product counts the cases of both being true
pub both_true : (a b : Condition) (x y r : ℕ) → x ≡ min (length (cases_of true a)) ENOUGH → y ≡ min (length (cases_of true b)) ENOUGH →
    r ≡ min (x * y) ENOUGH → r ≡ min (length (cases_of true (both a b))) ENOUGH
both_true a b x y r p q e = product_counted x y _ _ r p q e ∙ ap (λ k. min k ENOUGH)
    (sym (length-crossed (cases_of true a) (cases_of true b)))

-- the capped sum of the counts for false counts the cases of both together being false
pub both_false : (a b : Condition) (x y r : ℕ) → x ≡ min (length (cases_of false a)) ENOUGH → y ≡ min (length (cases_of false b)) ENOUGH →
    r ≡ min (x + y) ENOUGH → r ≡ min (length (cases_of false (both a b))) ENOUGH
both_false a b x y r p q e = sum_counted x y _ _ r p q e ∙ ap (λ k. min k ENOUGH)
    (sym (length-append (cases_of false a) (cases_of false b)))

-- the capped sum of the counts for true counts the cases of either being true
pub either_true : (a b : Condition) (x y r : ℕ) → x ≡ min (length (cases_of true a)) ENOUGH → y ≡ min (length (cases_of true b)) ENOUGH →
    r ≡ min (x + y) ENOUGH → r ≡ min (length (cases_of true (either a b))) ENOUGH
either_true a b x y r p q e = sum_counted x y _ _ r p q e ∙ ap (λ k. min k ENOUGH) (sym (length-append (cases_of true a) (cases_of true b)))

-- the capped product of the counts for false counts the cases of neither being true
pub either_false : (a b : Condition) (x y r : ℕ) → x ≡ min (length (cases_of false a)) ENOUGH → y ≡ min (length (cases_of false b)) ENOUGH →
    r ≡ min (x * y) ENOUGH → r ≡ min (length (cases_of false (either a b))) ENOUGH
either_false a b x y r p q e = product_counted x y _ _ r p q e ∙ ap (λ k. min k ENOUGH)
    (sym (length-crossed (cases_of false a) (cases_of false b)))
