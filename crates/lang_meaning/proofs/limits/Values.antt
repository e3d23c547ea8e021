-- What the walk of an expression gives is within the limits.
use Rattle.std.proofs.Common.{◌≡◌, ◌∙◌, ◌≤◌, ℕ, zero, suc, ℤ, pos, negsuc, List, [], ◌∷◌, length}
use Rattle.std.proofs.Common.{Bool, true, false, ◌&&◌, ◌==◌, cond, IsTrue}
use Rattle.std.proofs.Common.{Result, Ok, Err, Option, Some, None, refl, ap, arith, replicate, nat_le, nat_lt}
use Rattle.std.proofs.Math.ListN.{set}
use Rattle.std.proofs.lemmas.Bool.{le-leb, ltb-false, eq-eqb, eqb-true}
use Rattle.std.proofs.lemmas.List.{length-set, length-replicate}
use Rattle.lang_grammar.specs.Grammar.{Relation, Op, or_op, and_op, compare_op, plus_op, minus_op, times_op, Prefix, negative, positive}
use Rattle.lang_grammar.specs.Grammar.{negation, Change as Assigning}
use Rattle.lang_grammar.specs.Grammar.{replaces, adds, subtracts}
use Rattle.lang_tree.specs.declared.form.Form.{Form}
use Rattle.lang_tree.specs.Numbers.{is_number, are_numbers}
use Rattle.lang_tree.specs.Limits.{has_numbers, is_form, is_compared, is_condition, is_tested}
use Rattle.lang_tree.specs.Tree.{Condition, leaf_count}
use Rattle.lang_meaning.specs.declared.fault.ParseFault.{ParseFault}
use Rattle.lang_meaning.specs.declared.fault.ParseFault.TheVariants as fault
use Rattle.lang_meaning.specs.declared.fault.Limit.TheVariants as limit
use Rattle.lang_meaning.specs.Results.{◌>>=◌}
use Rattle.lang_meaning.specs.Forms.{constant_form, variable_form, pairwise, together, plus, minus, products, scaled, is_constant}
use Rattle.lang_meaning.specs.Forms.{is_comparable, is_whole_form}
use Rattle.lang_meaning.specs.Walk.{Value, a_form, a_truth, a_nondet}
use Rattle.lang_meaning.specs.Walk.{number_of, as_condition, ranged_number, ranged_numbers, ranged, two_numbers, two_conditions, compared}
use Rattle.lang_meaning.specs.Walk.{product, combined}
use Rattle.lang_meaning.specs.Walk.{prefix_value, regarded, few_leaves, tested, right_side, assigned}
use Rattle.lang_meaning.proofs.forms.Ranges.{both_true, and_split, zeros_fit, set_fits, ranged_are_numbers, ranged_is_number}

-- what holds of a value, if there is one
abbrev pub OnValue : {A : Type 0} → (A → Type 0) → Result A ParseFault → Type 0
OnValue P (Ok x) = P x
OnValue P (Err e) = Unit {0}

-- where P holds of a result's value, and Q of what is made of each value with P, Q holds of what is made of the result
pub on_bind : {A B : Type 0} (P : A → Type 0) (Q : B → Type 0) (r : Result A ParseFault) (f : A → Result B ParseFault) → OnValue P r
    → ((x : A) → P x → OnValue Q (f x)) → OnValue Q (r >>= f)
on_bind P Q (Ok x) f h g = g x h
on_bind P Q (Err e) f h g = tt

-- P holds of what a test chooses where it holds of the first choice if the test is true, and of the second one
pub on_cond : {A : Type 0} (P : A → Type 0) (b : Bool) (x y : Result A ParseFault) → (IsTrue b → OnValue P x) → OnValue P y
    → OnValue P (cond b x y)
on_cond P true x y f h = f refl
on_cond P false x y f h = h

-- ---- lists of numbers in their range
numbers_length : (a : ℕ) (zs : List ℤ) → OnValue (λ ys. length ys ≡ length zs) (ranged_numbers a zs)
numbers_length a [] = refl
numbers_length a (z ∷ zs) = on_bind (λ y. Unit {0}) (λ ys. length ys ≡ length (z ∷ zs)) (ranged_number a z) _ (any (ranged_number a z))
    (λ y h. on_bind (λ ys. length ys ≡ length zs) (λ ys. length ys ≡ length (z ∷ zs)) (ranged_numbers a zs) _ (numbers_length a zs)
    (λ ys e. ap suc e)) where
      any : {A : Type 0} (r : Result A ParseFault) → OnValue (λ x. Unit {0}) r
      any (Ok x) = tt
      any (Err e) = tt

-- a fact about what a result is
told : {A : Type 0} (P : A → Type 0) (r : Result A ParseFault) → ((x : A) → r ≡ Ok x → P x) → OnValue P r
told P (Ok x) f = f x refl
told P (Err e) f = tt

both_told : {A : Type 0} (P Q : A → Type 0) (r : Result A ParseFault) → OnValue P r → OnValue Q r → OnValue (λ x. P x × Q x) r
both_told P Q (Ok x) p q = (p, q)
both_told P Q (Err e) p q = tt

pairs_length : (b : Bool) (xs ys : List ℤ) (n : ℕ) → length xs ≡ n → length ys ≡ n → length (pairwise b xs ys) ≡ n
pairs_length b [] ys n h i = h
pairs_length b (x ∷ xs) [] n h i = absurd (omega arith)
pairs_length b (x ∷ xs) (y ∷ ys) zero h i = absurd (omega arith)
pairs_length b (x ∷ xs) (y ∷ ys) (suc n) h i = ap suc (pairs_length b xs ys n (omega arith) (omega arith))

products_length : (z : ℤ) (xs : List ℤ) → length (products z xs) ≡ length xs
products_length z [] = refl
products_length z (x ∷ xs) = ap suc (products_length z xs)

abbrev pub FormFits : ℕ → Form → Type 0
FormFits n f = IsTrue (is_whole_form n f)

-- n coefficients and a constant, all in their range, are a form over n variables
pub form_fits : (n : ℕ) (cs : List ℤ) (c : ℤ) → length cs ≡ n → IsTrue (are_numbers cs) → IsTrue (is_number c)
    → FormFits n (record { coeffs = cs; constant = c })
form_fits n cs c l h i = both_true (length cs == n) (are_numbers cs && is_number c) (eq-eqb (length cs) n l)
    (both_true (are_numbers cs) (is_number c) h i)

-- such a form is one over n variables
pub whole_fits : (n : ℕ) (f : Form) → FormFits n f → IsTrue (is_form n f)
whole_fits n f h =
    let p = and_split (length f.coeffs == n) (has_numbers f) h in
    let l : length f.coeffs ≤ n = omega (arith, eqb-true (length f.coeffs) n p.0) in
    both_true (nat_le (length f.coeffs) n) (has_numbers f) (le-leb (length f.coeffs) n l) p.1

form_length : (n : ℕ) (f : Form) → FormFits n f → length f.coeffs ≡ n
form_length n f h = eqb-true (length f.coeffs) n (and_split (length f.coeffs == n) (are_numbers f.coeffs && is_number f.constant) h).0

-- a form of n coefficients that is let through is one over n variables with its numbers in their range
pub ranged_fits : (n a : ℕ) (f : Form) → length f.coeffs ≡ n → OnValue (FormFits n) (ranged a f)
ranged_fits n a f l = on_bind (λ cs. (length cs ≡ length f.coeffs) × IsTrue (are_numbers cs)) (FormFits n) (ranged_numbers a f.coeffs) _
    (both_told _ _ (ranged_numbers a f.coeffs) (numbers_length a f.coeffs)
    (told _ (ranged_numbers a f.coeffs) (λ cs e. ranged_are_numbers a f.coeffs cs e)))
    (λ cs h. on_bind (λ c. IsTrue (is_number c)) (FormFits n) (ranged_number a f.constant) _
    (told _ (ranged_number a f.constant) (λ c e. ranged_is_number a f.constant c e)) (λ c i. form_fits n cs c (h.0 ∙ l) h.1 i))

-- a constant form over n variables has n coefficients
pub constant_length : (n : ℕ) (z : ℤ) → length (constant_form n z).coeffs ≡ n
constant_length n z = length-replicate n (pos 0)

-- a variable plus a number in its range is a form over n variables with its numbers in their range
pub variable_fits : (n i : ℕ) (z : ℤ) → IsTrue (is_number z) → FormFits n (variable_form n i z)
variable_fits n i z h = form_fits n (set (replicate n (pos 0)) i (pos 1)) z
    (length-set (replicate n (pos 0)) i (pos 1) ∙ length-replicate n (pos 0)) (set_fits (replicate n (pos 0)) i (zeros_fit n)) h

-- ---- values
abbrev pub ValueFits : ℕ → Value → Type 0
ValueFits n (a_form f first) = FormFits n f
ValueFits n (a_truth c) = IsTrue (is_condition n c)
ValueFits n (a_nondet a) = Unit {0}

number_fits : (n sign : ℕ) (v : Value) → ValueFits n v → OnValue (FormFits n) (number_of sign v)
number_fits n sign (a_form f first) h = h
number_fits n sign (a_truth c) h = tt
number_fits n sign (a_nondet a) h = tt

-- a form over n variables whose constant lets it be compared is one that is compared
pub compared_fits : (n : ℕ) (f : Form) → FormFits n f → IsTrue (is_comparable f) → IsTrue (is_compared n f)
compared_fits n f h i = both_true (is_form n f) (is_comparable f) (whole_fits n f h) i

-- a value over n variables is a condition over n variables, or a fault
pub condition_fits : (n : ℕ) (v : Value) → ValueFits n v → OnValue (λ c. IsTrue (is_condition n c)) (as_condition v)
condition_fits n (a_form f first) h = on_cond (λ c. IsTrue (is_condition n c)) (is_comparable f) _ _ (λ i. compared_fits n f h i) tt
condition_fits n (a_truth c) h = h
condition_fits n (a_nondet a) h = refl

numbers_fit : (n a : ℕ) (v w : Value) → ValueFits n v → ValueFits n w → OnValue (λ p. FormFits n p.0 × FormFits n p.1) (two_numbers a v w)
numbers_fit n a v w h i = on_bind (FormFits n) (λ p. FormFits n p.0 × FormFits n p.1) (number_of a v) _ (number_fits n a v h)
    (λ f k. on_bind (FormFits n) (λ p. FormFits n p.0 × FormFits n p.1) (number_of a w) _ (number_fits n a w i) (λ g l. (k, l)))

conditions_fit : (n : ℕ) (v w : Value) → ValueFits n v → ValueFits n w
    → OnValue (λ p. IsTrue (is_condition n p.0) × IsTrue (is_condition n p.1)) (two_conditions v w)
conditions_fit n v w h i = on_bind (λ c. IsTrue (is_condition n c)) (λ p. IsTrue (is_condition n p.0) × IsTrue (is_condition n p.1))
    (as_condition v)
    _ (condition_fits n v h) (λ c k. on_bind (λ c. IsTrue (is_condition n c))
    (λ p. IsTrue (is_condition n p.0) × IsTrue (is_condition n p.1))
    (as_condition w) _ (condition_fits n w i) (λ d l. (k, l)))

together_fits : (n a : ℕ) (b : Bool) (f g : Form) → FormFits n f → FormFits n g → OnValue (FormFits n) (ranged a (together b f g))
together_fits n a b f g h i = ranged_fits n a (together b f g) (pairs_length b f.coeffs g.coeffs n (form_length n f h) (form_length n g i))

scaled_fits : (n a : ℕ) (z : ℤ) (f : Form) → FormFits n f → OnValue (FormFits n) (ranged a (scaled z f))
scaled_fits n a z f h = ranged_fits n a (scaled z f) (products_length z f.coeffs ∙ form_length n f h)

product_fits : (n a : ℕ) (f g : Form) → FormFits n f → FormFits n g → OnValue (FormFits n) (product a f g)
product_fits n a f g h i = on_cond (FormFits n) (is_constant f) _ _ (λ t. scaled_fits n a f.constant g i)
    (on_cond (FormFits n) (is_constant g) _ _ (λ t. scaled_fits n a g.constant f h) tt)

comparison_fits : (n : ℕ) (r : Relation) (a : ℕ) (f g : Form) → FormFits n f → FormFits n g → OnValue (ValueFits n) (compared r a f g)
comparison_fits n r a f g h i = on_bind (FormFits n) (ValueFits n) (ranged a (minus f g)) _ (together_fits n a true f g h i)
    (λ k l. on_cond (ValueFits n) (is_comparable k) _ _ (λ t. compared_fits n k l t) tt)

-- what a sign makes of two values over n variables is one over n variables, or a fault
pub combined_fits : (n : ℕ) (o : Op) (a : ℕ) (v w : Value) → ValueFits n v → ValueFits n w → OnValue (ValueFits n) (combined o a v w)
combined_fits n or_op a v w h i = on_bind _ (ValueFits n) (two_conditions v w) _ (conditions_fit n v w h i)
    (λ p k. both_true (is_condition n p.0) (is_condition n p.1) k.0 k.1)
combined_fits n and_op a v w h i = on_bind _ (ValueFits n) (two_conditions v w) _ (conditions_fit n v w h i)
    (λ p k. both_true (is_condition n p.0) (is_condition n p.1) k.0 k.1)
combined_fits n (compare_op r) a v w h i = on_bind _ (ValueFits n) (two_numbers a v w) _ (numbers_fit n a v w h i)
    (λ p k. comparison_fits n r a p.0 p.1 k.0 k.1)
combined_fits n plus_op a v w h i =
    on_bind _ (ValueFits n) (two_numbers a v w) _ (numbers_fit n a v w h i)
    (λ p k. on_bind (FormFits n) (ValueFits n) (ranged a (plus p.0 p.1)) _ (together_fits n a false p.0 p.1 k.0 k.1) (λ f l. l))
combined_fits n minus_op a v w h i =
    on_bind _ (ValueFits n) (two_numbers a v w) _ (numbers_fit n a v w h i)
    (λ p k. on_bind (FormFits n) (ValueFits n) (ranged a (minus p.0 p.1)) _ (together_fits n a true p.0 p.1 k.0 k.1) (λ f l. l))
combined_fits n times_op a v w h i =
    on_bind _ (ValueFits n) (two_numbers a v w) _ (numbers_fit n a v w h i)
    (λ p k. on_bind (FormFits n) (ValueFits n) (product a p.0 p.1) _ (product_fits n a p.0 p.1 k.0 k.1) (λ f l. l))

-- what a sign before a value over n variables makes of it is one over n variables, or a fault
pub prefix_fits : (n : ℕ) (p : Prefix) (a : ℕ) (v : Value) → ValueFits n v → OnValue (ValueFits n) (prefix_value p a v)
prefix_fits n negative a v h = on_bind (FormFits n) (ValueFits n) (number_of a v) _ (number_fits n a v h)
    (λ f i. on_bind (FormFits n) (ValueFits n) (ranged a (scaled (negsuc 0) f)) _ (scaled_fits n a (negsuc 0) f i) (λ g k. k))
prefix_fits n positive a v h = on_bind (FormFits n) (ValueFits n) (number_of a v) _ (number_fits n a v h) (λ f i. i)
prefix_fits n negation a v h = on_bind (λ c. IsTrue (is_condition n c)) (ValueFits n) (as_condition v) _ (condition_fits n v h) (λ c i. i)

-- in parentheses a value over n variables is one over n variables
pub regarded_fits : (n a : ℕ) (v : Value) → ValueFits n v → ValueFits n (regarded a v)
regarded_fits n a (a_form f first) h = h
regarded_fits n a (a_truth c) h = h
regarded_fits n a (a_nondet b) h = tt

abbrev pub TestFits : ℕ → Condition → Type 0
TestFits n c = IsTrue (is_tested n c)

-- the condition of a statement that a value over n variables gives is one over n variables with at most 64 leaves, or a fault
pub tested_fits : (n a : ℕ) (v : Value) → ValueFits n v → OnValue (TestFits n) (tested a v)
tested_fits n a v h = on_bind (λ c. IsTrue (is_condition n c)) (TestFits n) (as_condition v) _ (condition_fits n v h)
    (λ c i. few n a c i) where
      few : (n a : ℕ) (c : Condition) → IsTrue (is_condition n c) → OnValue (TestFits n) (few_leaves a c)
      few n a c i = by_test (nat_lt 64 (leaf_count c)) refl where
        by_test : (b : Bool) → nat_lt 64 (leaf_count c) ≡ b → OnValue (TestFits n) (cond b (Err (fault.Limit a limit.Leaves)) (Ok c))
        by_test true e = tt
        by_test false e = both_true (nat_le (leaf_count c) 64) (is_condition n c) (le-leb (leaf_count c) 64 (ltb-false 64 (leaf_count c) e))
            i

abbrev pub SideFits : ℕ → Option Form → Type 0
SideFits n (Some f) = FormFits n f
SideFits n None = Unit {0}

-- the right side of `=` that a value over n variables gives is a form over n variables, any value, or a fault
pub side_fits : (n sign : ℕ) (v : Value) → ValueFits n v → OnValue (SideFits n) (right_side sign v)
side_fits n sign (a_form f first) h = h
side_fits n sign (a_truth c) h = tt
side_fits n sign (a_nondet a) h = tt

-- what a variable takes by an assignment of a value over n variables is a form over n variables, any value, or a fault
pub assigned_fits : (n : ℕ) (g : Assigning) (i sign : ℕ) (v : Value) → ValueFits n v → OnValue (SideFits n) (assigned n g i sign v)
assigned_fits n replaces i sign v h = side_fits n sign v h
assigned_fits n adds i sign v h =
    on_bind (FormFits n) (SideFits n) (number_of sign v) _ (number_fits n sign v h)
    (λ f k. on_bind (FormFits n) (SideFits n) (ranged sign (plus (variable_form n i (pos 0)) f)) _
    (together_fits n sign false (variable_form n i (pos 0)) f (variable_fits n i (pos 0) refl) k) (λ g l. l))
assigned_fits n subtracts i sign v h =
    on_bind (FormFits n) (SideFits n) (number_of sign v) _ (number_fits n sign v h)
    (λ f k. on_bind (FormFits n) (SideFits n) (ranged sign (minus (variable_form n i (pos 0)) f)) _
    (together_fits n sign true (variable_form n i (pos 0)) f (variable_fits n i (pos 0) refl) k) (λ g l. l))
