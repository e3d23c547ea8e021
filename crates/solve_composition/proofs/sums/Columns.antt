-- What is read of a state of forms.
use Rattle.std.proofs.Common.{◌≡◌, ◌∙◌, ℕ, ◌<◌, List, length, get_or, ap, sym, subst}
use Rattle.std.specs.Prelude.{IsTrue, nat_lt}
use Rattle.std.specs.List.{list_all}
use Rattle.std.proofs.lemmas.Bool.{ltb-true}
use Rattle.std.proofs.lemmas.List.{get_or_read, get_or-map}
use Rattle.base_numbers.specs.Rational.{ℚ, zero_ℚ}
use Rattle.flow_systems.proofs.trace_tests.Traced.{all_at}
use Rattle.solve_composition.specs.declared.affine.Affine.{Affine}
use Rattle.solve_composition.specs.Sums.{dense_column, dense_constants}

-- a form of a state whose forms have a column has it
pub column_within : (state : List Affine) (i k : ℕ) (f : Affine) → i < length state
    → IsTrue (list_all (λ g. nat_lt k (length g.coeffs)) state) → k < length (get_or state i f).coeffs
column_within state i k f l h = ltb-true k (length (get_or state i f).coeffs) (all_at (λ g. nat_lt k (length g.coeffs)) state i f h l)

-- what is read of one at a column, and of its constant
pub column_read : (state : List Affine) (i k : ℕ) (f : Affine) (coeffs : List ℚ) (x : ℚ) → i < length state
    → IsTrue (list_all (λ g. nat_lt k (length g.coeffs)) state) →
    coeffs ≡ (get_or state i f).coeffs → x ≡ get_or coeffs k x → x ≡ get_or (dense_column k state) i x
column_read state i k f coeffs x l h same read =
    get_or_read coeffs k x (subst (λ cs. k < length cs) (sym same) (column_within state i k f l h)) read zero_ℚ
    ∙ ap (λ cs. get_or cs k zero_ℚ) same
    ∙ sym (get_or-map (λ (g : Affine). get_or g.coeffs k zero_ℚ) state i f x l)

-- the constant of a form that is read from a state is read from the state's constants
pub constant_read : (state : List Affine) (i : ℕ) (f : Affine) (x : ℚ) → i < length state → x ≡ (get_or state i f).constant
    → x ≡ get_or (dense_constants state) i x
constant_read state i f x l read = read ∙ sym (get_or-map (λ (g : Affine). g.constant) state i f x l)
