-- Rows of a joint problem as lists with one entry for each column.
use Rattle.std.specs.Prelude.{◌≡◌, ℕ, ◌-◌, ◌==◌, cond, List, [], ◌∷◌, ◌++◌, length, map, Some}
use Rattle.base_numbers.specs.Rational.{ℚ, zero_ℚ, one_ℚ, neg_ℚ}
use Rattle.base_numbers.specs.Vector.{scale_vec, zeros}
use Rattle.base_fractions.specs.declared.wide.Op.TheVariants.{Sub}
use Rattle.base_fractions.specs.Fits.{long_limit}
use Rattle.base_fractions.specs.Operation.{Operation, first_wide, operation_of}
use Rattle.flow_systems.specs.declared.spot.Part.TheVariants.{Side}
use Rattle.flow_systems.specs.declared.spot.PartFault.{PartFault}
use Rattle.flow_systems.specs.declared.spot.PartFault.TheVariants.{Wide, NoMemory}
use Rattle.theory_validity.specs.Words.{Affine}
use Rattle.lp_theory.specs.Listed.{at}
use Rattle.theory_transformers.specs.Limits.{Limit}
use Rattle.theory_transformers.specs.JointProblems.{split_list}

-- a coefficient at one unknown of a list of numbers, and 0 at the others
abbrev pub on_number : ℚ → ℕ → ℕ → ℚ
on_number c target u = cond (u == target) c zero_ℚ

abbrev pub on_numbers : ℚ → ℕ → List ℕ → List ℚ
on_numbers c target list = map (on_number c target) list

-- the rises, the split columns from an offset behind them, and zeros up to the last column
abbrev pub dense_row : ℕ → List ℚ → ℕ → List ℚ → List ℚ
dense_row cols rises offset coeffs = ((rises ++ zeros offset) ++ split_list coeffs)
    ++ zeros (cols - length rises - offset - length coeffs - length coeffs)

-- a row of the code stands for a limit of the theory: the same entries, with zeros up to the last column, and the same side
pub record StandsFor (cols : ℕ) (coeffs : List ℚ) (side : ℚ) (limit : Limit) : Type 0 where
  pub size : length coeffs ≡ cols
  pub entries : (k : ℕ) → at coeffs k ≡ at limit.coeffs k
  pub same_side : side ≡ limit.side

abbrev pub AllStand : ℕ → List (List ℚ) → List ℚ → List Limit → Type 0
AllStand cols [] [] [] = Unit {0}
AllStand cols [] [] (l ∷ ls) = ⊥
AllStand cols [] (s ∷ sides) ls = ⊥
AllStand cols (r ∷ rows) [] ls = ⊥
AllStand cols (r ∷ rows) (s ∷ sides) [] = ⊥
AllStand cols (r ∷ rows) (s ∷ sides) (l ∷ ls) = StandsFor cols r s l × AllStand cols rows sides ls

-- coefficients and a constant that are those of a form
pub record SameForm (coeffs : List ℚ) (constant : ℚ) (form : Affine) : Type 0 where
  pub entries : (k : ℕ) → at coeffs k ≡ at form.coeffs k
  pub same_constant : constant ≡ form.constant

-- a row with a coefficient on one rise and the split columns from an offset on
abbrev pub embedded : ℚ → ℕ → List ℕ → ℕ → List ℚ → List ℚ
embedded c target list offset w = on_numbers c target list ++ (zeros offset ++ split_list w)

-- the own row of a form, with its side
abbrev pub own_limit_of : (List ℚ → List ℚ) → Affine → ℚ → Limit
own_limit_of embed form side = record { coeffs = embed (scale_vec (neg_ℚ one_ℚ) form.coeffs); side = side }

abbrev pub side_operation : ℚ → ℚ → Operation
side_operation constant bound = record { op = Sub; left = constant; right = bound }

-- the fault carries the first of the operations that is wide, as a part of the sides; want of memory may come at any time
abbrev pub IsSideFault : List Operation → PartFault → Type 0
IsSideFault os (Wide part wide) = (part ≡ Side) × (first_wide long_limit os ≡ Some (operation_of (λ q. q) wide))
IsSideFault os NoMemory = Unit {0}
