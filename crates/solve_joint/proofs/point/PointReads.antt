-- Reading the numbers and traces of a list, unknown by unknown.
use Rattle.std.proofs.Common.{◌≡◌, ℕ, zero, suc, ◌<◌, List, [], ◌∷◌, length, get_or, map, refl, ap, ap₂, sym, arith}
use Rattle.base_numbers.specs.Rational.{ℚ}
use Rattle.base_numbers.specs.Extended.{Ext}
use Rattle.flow_systems.specs.declared.trace.Trace.{Trace}
use Rattle.solve_ray.specs.declared.layout.Rise.{Rise}
use Rattle.solve_ray.specs.Reading.{direction_operations}
use Rattle.solve_ray.proofs.answers.Gathered.{Adds}
use Rattle.solve_joint.specs.Layouts.{number_at, number_operation, number_operations, trace_at, trace_operations, AreBounded}

-- the unknown of each rise of a bounded layout is below the bound
pub bounded_at : (n : ℕ) (rises : List Rise) (i : ℕ) (x : Rise) → AreBounded n rises → i < length rises → (get_or rises i x).unknown < n
bounded_at n [] i x h l = absurd (omega (arith, l))
bounded_at n (r ∷ rises) zero x h l = h.0
bounded_at n (r ∷ rises) (suc i) x h l = bounded_at n rises i x h.1 (omega (arith, l))

-- a rise adds its number and the operation of it
pub adds_number : (base : List Ext) (point : List ℚ) (x : Rise) (v : ℚ) → v ≡ number_at base point x
    → Adds (map (number_at base point)) (number_operations base point) x (v ∷ []) (number_operation base point x ∷ [])
adds_number base point x v e = record { value = λ rest. ap (λ y. y ∷ map (number_at base point) rest) (sym e); operation = λ rest. refl }

-- a rise adds its trace and the subtractions of it
pub adds_trace : (point : List ℚ) (x : Rise) (v : Trace) → v ≡ trace_at point x
    → Adds (map (trace_at point)) (trace_operations point) x (v ∷ []) (direction_operations point x)
adds_trace point x v e = record { value = λ rest. ap (λ y. y ∷ map (trace_at point) rest) (sym e); operation = λ rest. refl }

-- traces with the same start and the same free values are the same
pub same_trace : (s f s' f' : List ℚ) → s ≡ s' → f ≡ f' → (let t : Trace = record { start = s; free = f } in t)
    ≡ (let u : Trace = record { start = s'; free = f' } in u)
same_trace s f s' f' e k = let P : List ℚ → List ℚ → Trace = λ a b. record { start = a; free = b } in ap₂ P e k
