-- Lists that grow at their end, in the loops that build the first dictionary.
use Rattle.std.proofs.Common.{◌≡◌, ℕ, zero, suc, ◌+◌, Bool, List, [], ◌∷◌, ◌++◌, map, get_or, refl, ap, ap₂, sym, ◌∙◌}
use Rattle.std.proofs.Common.{append_assoc, add-one}
use Rattle.std.proofs.lemmas.List.{map_push}
use Rattle.base_numbers.specs.Rational.{ℚ, zero_ℚ}
use Rattle.base_numbers.specs.Vector.{zeros}
use Rattle.lp_dictionary.specs.Build.{slack_entries, slacks_entries}
use Rattle.lp_dictionary.proofs.listed.Joins.{joined-suc, joined-zero}

zeros_push : (n : ℕ) → zeros (suc n) ≡ zeros n ++ zero_ℚ ∷ []
zeros_push zero = refl
zeros_push (suc n) = ap (λ xs. zero_ℚ ∷ xs) (zeros_push n)

-- one zero more is a zero at the end
pub zeros_more : (n : ℕ) → zeros (n + 1) ≡ zeros n ++ zero_ℚ ∷ []
zeros_more n = ap zeros (add-one n) ∙ zeros_push n

-- one more entry of a list whose meaning is a first part and what was appended
pub appended_more : {F : Type 0} (m : F → ℚ) (xs ys : List F) (us vs ws : List ℚ) (y : F) → ys ≡ xs ++ y ∷ [] → map m xs ≡ us ++ vs
    → ws ≡ vs ++ m y ∷ [] → map m ys ≡ us ++ ws
appended_more m xs ys us vs ws y e f h =
    ap (map m) e ∙ map_push m xs y ∙ ap (λ x. x ++ m y ∷ []) f ∙ append_assoc us vs (m y ∷ []) ∙ ap (λ x. us ++ x) (sym h)

-- one more row of a slack
pub slacks_more : (aux : Bool) (A : List (List ℚ)) (b : List ℚ) (i : ℕ) (u : List ℚ) (s : ℚ) → get_or A i [] ≡ u → get_or b i zero_ℚ ≡ s
    → slacks_entries aux A b (i + 1) ≡ slacks_entries aux A b i ++ slack_entries aux u s
slacks_more aux A b i u s e f =
    joined-suc i (λ j. slack_entries aux (get_or A j []) (get_or b j zero_ℚ))
    ∙ ap₂ (λ v t. slacks_entries aux A b i ++ slack_entries aux v t) e f

-- no slacks have no entries
pub slacks_none : (aux : Bool) (A : List (List ℚ)) (b : List ℚ) → slacks_entries aux A b 0 ≡ []
slacks_none aux A b = joined-zero (λ j. slack_entries aux (get_or A j []) (get_or b j zero_ℚ))
