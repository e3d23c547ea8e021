-- What is left of a text over two lists.
use Rattle.std.proofs.Common.{◌≡◌, ◌∙◌, ⊎_elim, ◌≤◌, ℕ, List, [], ◌∷◌, length, drop, min, refl, ap, arith}
use Rattle.std.proofs.lemmas.Bool.{cases_lt}
use Rattle.std.proofs.lemmas.List.{drop_all}
use Rattle.base_numbers.specs.Rational.{ℚ}
use Rattle.ask_verdicts.specs.Lines.{state_text}

-- nothing is left where one of the lists is at its end, if nothing is told of an empty list
pub rest_end : {A B : Type 0} (text : List A → List B → List ℕ) → ((ys : List B) → text [] ys ≡ []) → ((xs : List A) → text xs [] ≡ []) →
    (xs : List A) (ys : List B) (i : ℕ) → min (length xs) (length ys) ≤ i → text (drop i xs) (drop i ys) ≡ []
rest_end text none nothing xs ys i h =
    ⊎_elim (λ l. let k : length ys ≤ i = omega (arith, l, h) in ap (text (drop i xs)) (drop_all i ys k) ∙ nothing (drop i xs))
    (λ k. ap (λ zs. text zs (drop i ys)) (drop_all i xs k) ∙ none (drop i ys)) (cases_lt i (length xs))

no_values : (before : List ℕ) (names : List (List ℕ)) → state_text before names [] ≡ []
no_values before [] = refl
no_values before (name ∷ names) = refl

-- behind the last name or the last value of a state nothing is written
pub state_rest : (before : List ℕ) (names : List (List ℕ)) (xs : List ℚ) (i : ℕ) → min (length names) (length xs) ≤ i
    → state_text before (drop i names) (drop i xs) ≡ []
state_rest before = rest_end (state_text before) (λ xs. refl) (no_values before)
