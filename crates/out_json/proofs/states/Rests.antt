-- Behind the last name or the last value no member is put.
use Rattle.std.proofs.Common.{◌≡◌, ◌∙◌, ⊎_elim, ◌≤◌, ℕ, List, [], ◌∷◌, length, drop, min, refl, ap, arith}
use Rattle.std.proofs.lemmas.Bool.{cases_lt}
use Rattle.std.proofs.lemmas.List.{drop_all}
use Rattle.serde_json.specs.Data.{Members}
use Rattle.base_numbers.specs.Rational.{ℚ}
use Rattle.out_json.specs.States.{members_with}

no_values : (ms : Members) (names : List (List ℕ)) → members_with ms names [] ≡ ms
no_values ms [] = refl
no_values ms (name ∷ names) = refl

-- where one of the lists is at its end
pub rest_end : (ms : Members) (names : List (List ℕ)) (xs : List ℚ) (i : ℕ) → min (length names) (length xs) ≤ i
    → members_with ms (drop i names) (drop i xs) ≡ ms
rest_end ms names xs i h =
    ⊎_elim (λ l. let k : length xs ≤ i = omega (arith, l, h) in ap (members_with ms (drop i names)) (drop_all i xs k) ∙ no_values ms _)
    (λ k. ap (λ ns. members_with ms ns (drop i xs)) (drop_all i names k)) (cases_lt i (length names))
