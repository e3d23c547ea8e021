-- What is left of a row's text.
use Rattle.std.proofs.Common.{◌≡◌, ⊎_elim, ◌≤◌, ℕ, ℤ, Bool, true, false, List, [], ◌∷◌, length, drop, min, refl, ap, ◌∙◌, arith}
use Rattle.std.proofs.lemmas.Bool.Decides.{leb_tells}
use Rattle.std.proofs.lemmas.List.{drop_all}
use Rattle.out_report.specs.Terms.{rest_text}

no_names : (b : Bool) (cs : List ℤ) → rest_text b [] cs ≡ []
no_names true cs = refl
no_names false cs = refl

no_row : (b : Bool) (names : List (List ℕ)) → rest_text b names [] ≡ []
no_row true [] = refl
no_row true (name ∷ names) = refl
no_row false [] = refl
no_row false (name ∷ names) = refl

-- nothing is left where one of the lists is at its end
pub rest-end : (b : Bool) (names : List (List ℕ)) (cs : List ℤ) (i : ℕ) → min (length names) (length cs) ≤ i
    → rest_text b (drop i names) (drop i cs) ≡ []
rest-end b names cs i h =
    ⊎_elim (λ e. ap (λ ns. rest_text b ns (drop i cs)) (drop_all i names e.1) ∙ no_names b (drop i cs))
    (λ e. let k : length cs ≤ i = omega arith in ap (λ ks. rest_text b (drop i names) ks) (drop_all i cs k) ∙ no_row b (drop i names))
    (leb_tells (length names) i)
