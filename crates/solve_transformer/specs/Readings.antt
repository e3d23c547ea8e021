-- What reading an outcome answers.
use Rattle.std.specs.Prelude.{◌≡◌, ℕ, ◌+◌, ℤ, List, length}
use Rattle.base_numbers.specs.Rational.{ℚ, zero_ℚ}
use Rattle.base_numbers.specs.Extended.{Ext as Extended, neg_inf, fin, pos_inf}
use Rattle.flow_systems.specs.declared.spot.PartFault.{PartFault}
use Rattle.flow_systems.specs.declared.spot.PartFault.TheVariants.{Wide, NoMemory}
use Rattle.lp_theory.specs.Problem as lp
use Rattle.lp_theory.specs.Listed.{at}
use Rattle.lp_simplex.specs.declared.outcome.Outcome.{Outcome}
use Rattle.lp_simplex.specs.declared.outcome.Outcome.TheVariants.{Best, Unbounded, Empty}
use Rattle.theory_transformers.specs.EdgeProblems.{source_limits}
use Rattle.base_fractions.specs.Operation.{Operation, operation_of}
use Rattle.solve_transformer.specs.Values.{IsWideIn}

-- the outcome of the theory with the numbers of lists, 0 behind their ends
abbrev pub listed_outcome : Outcome ℚ → lp.Outcome
listed_outcome (Best point value multipliers) = lp.best (at point.items) value (at multipliers.items)
listed_outcome (Unbounded point ray) = lp.unbounded (at point.items) (at ray.items)
listed_outcome (Empty multipliers) = lp.empty (at multipliers.items)

-- a problem with two columns for each of w, and rows for the finite bounds and so many guards
pub record HasSizes (P : lp.Problem) (w : ℕ) (bounds : ℕ → Extended) (template : List (List ℤ)) (guards : ℕ) : Type 0 where
  pub cols : P.cols ≡ w + w
  pub rows : P.rows ≡ length (source_limits (λ r u. u) 0 bounds template) + guards

-- the fault of a problem
abbrev pub IsProblemFault : lp.Problem → List Operation → PartFault → Type 0
IsProblemFault P reading (Wide part wide) = IsWideIn P reading part (operation_of (λ q. q) wide)
IsProblemFault P reading NoMemory = Unit {0}

-- how many rows of a problem a bound makes
abbrev pub finite_one : Extended → ℕ
finite_one neg_inf = 0
finite_one (fin c) = 1
finite_one pos_inf = 0

-- the multiplier of a template row, where this is the next one
abbrev pub multiplier_one : Extended → ℚ → ℚ
multiplier_one neg_inf q = zero_ℚ
multiplier_one (fin c) q = q
multiplier_one pos_inf q = zero_ℚ
