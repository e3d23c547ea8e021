-- What composed guards give to the side of a combination.
use Rattle.std.specs.Prelude.{List, map}
use Rattle.base_numbers.specs.Rational.{ℚ, neg_ℚ}
use Rattle.solve_composition.specs.declared.affine.Affine.{Affine}

-- the negated constants of forms
abbrev pub negated_constants : List Affine → List ℚ
negated_constants forms = map (λ f. neg_ℚ f.constant) forms
