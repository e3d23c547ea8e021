-- The operations of all elements of a list, as far as none of the first i elements has a wide one.
use Rattle.std.proofs.Common.{◌≡◌, ◌∙◌, ℕ, ◌+◌, ◌<◌, ◌≤◌, List, ◌++◌, length, get_or, drop, Some, None, refl, ap, sym}
use Rattle.std.specs.Prelude.{flat_map}
use Rattle.std.proofs.lemmas.List.{drop_more, drop_all}
use Rattle.base_fractions.specs.Fits.{long_limit}
use Rattle.base_fractions.specs.Operation.{Operation, first_wide, operation_of}
use Rattle.flow_systems.specs.declared.fault.Fault.TheVariants.{Wide, NoMemory}
use Rattle.flow_systems.specs.Faults.{OperationFault, IsFaultOf}
use Rattle.flow_systems.proofs.Widths.{first_wide_later, first_wide_sooner}

-- what is left has the first wide operation of all
pub record IsPassed {X : Type 0} (f : X → List Operation) (xs : List X) (i : ℕ) : Type 0 where
  -- the first wide operation of all elements is that of the elements left
  pub first : first_wide long_limit (flat_map f xs) ≡ first_wide long_limit (flat_map f (drop i xs))

-- before the first element nothing wide is passed
pub passed_none : {X : Type 0} (f : X → List Operation) (xs : List X) → IsPassed f xs 0
passed_none f xs = record { first = refl }

module _ {X : Type 0} (f : X → List Operation) (xs : List X) (i : ℕ) (h : IsPassed f xs i) (x : X) (l : i < length xs)
    (e : x ≡ get_or xs i x) where
  left : first_wide long_limit (flat_map f xs) ≡ first_wide long_limit (f x ++ flat_map f (drop (i + 1) xs))
  left = h.first ∙ ap (λ ys. first_wide long_limit (flat_map f ys)) (drop_more xs i x l)
      ∙ ap (λ y. first_wide long_limit (f y ++ flat_map f (drop (i + 1) xs))) (sym e)

  -- an element with no wide operation is passed
  pub passed_more : first_wide long_limit (f x) ≡ None → IsPassed f xs (i + 1)
  passed_more n = record { first = left ∙ first_wide_later long_limit (f x) (flat_map f (drop (i + 1) xs)) n }

  -- the first wide operation of an element is the first of all, where none before it is wide
  pub passed_wide : (o : Operation) → first_wide long_limit (f x) ≡ Some o → first_wide long_limit (flat_map f xs) ≡ Some o
  passed_wide o w = left ∙ first_wide_sooner long_limit (f x) (flat_map f (drop (i + 1) xs)) o w

-- where all elements are passed, none of their operations is wide
pub passed_all : {X : Type 0} (f : X → List Operation) (xs : List X) (i : ℕ) → length xs ≤ i → IsPassed f xs i
    → first_wide long_limit (flat_map f xs) ≡ None
passed_all f xs i l h = h.first ∙ ap (λ ys. first_wide long_limit (flat_map f ys)) (drop_all i xs l)

-- an element with a fault
pub passed_refused : {X : Type 0} (f : X → List Operation) (xs : List X) (i : ℕ) → IsPassed f xs i → (x : X) → i < length xs
    → x ≡ get_or xs i x → (fault : OperationFault) → IsFaultOf (f x) fault → IsFaultOf (flat_map f xs) fault
passed_refused f xs i h x l e (Wide w) k = passed_wide f xs i h x l e (operation_of (λ q. q) w) k
passed_refused f xs i h x l e NoMemory k = tt
