-- What is read from a list, element by element, with the operations by which it is read.
use Rattle.std.proofs.Common.{◌≡◌, ◌∙◌, subst, ℕ, ◌+◌, ◌<◌, ◌≤◌, List, [], ◌∷◌, ◌++◌, length, get_or, drop, Some, None, refl, ap, sym}
use Rattle.std.proofs.Common.{append_assoc}
use Rattle.std.proofs.lemmas.List.{drop_more, drop_all, append-nil}
use Rattle.base_fractions.specs.Fits.{long_limit}
use Rattle.base_fractions.specs.Operation.{Operation, first_wide}
use Rattle.flow_systems.specs.declared.spot.PartFault.{PartFault}
use Rattle.flow_systems.specs.declared.spot.PartFault.TheVariants.{Wide, NoMemory}
use Rattle.flow_systems.proofs.Widths.{first_wide_later, first_wide_sooner}
use Rattle.solve_ray.specs.Answers.{IsReadingFault}

-- the first i elements are read: the results so far, and none of their operations is wide
pub record IsRead {X A : Type 0} (values : List X → List A) (operations : List X → List Operation) (xs : List X) (i : ℕ) (done : List A) :
    Type 0 where
  -- all values are those gathered so far, and then those of the elements left
  pub value : values xs ≡ done ++ values (drop i xs)
  -- the first wide operation of all elements is that of the elements left
  pub first : first_wide long_limit (operations xs) ≡ first_wide long_limit (operations (drop i xs))

-- one element adds these results and these operations
pub record Adds {X A : Type 0} (values : List X → List A) (operations : List X → List Operation) (x : X) (a : List A)
    (os : List Operation) : Type 0 where
  -- an element adds its values in front of those of the rest
  pub value : (rest : List X) → values (x ∷ rest) ≡ a ++ values rest
  -- an element adds its operations in front of those of the rest
  pub operation : (rest : List X) → operations (x ∷ rest) ≡ os ++ operations rest

module _ {X A : Type 0} (values : List X → List A) (operations : List X → List Operation) where
  -- before the first element nothing is gathered
  pub read_none : (xs : List X) → IsRead values operations xs 0 []
  read_none xs = record { value = refl; first = refl }

  module _ (xs : List X) (i : ℕ) (done : List A) (x : X) (h : IsRead values operations xs i done) (l : i < length xs)
      (e : x ≡ get_or xs i x) (a : List A) (os : List Operation) (k : Adds values operations x a os) where
    left : drop i xs ≡ x ∷ drop (i + 1) xs
    left = drop_more xs i x l ∙ ap (λ y. y ∷ drop (i + 1) xs) (sym e)

    -- an element with no wide operation adds its values to those gathered
    pub read_more : first_wide long_limit os ≡ None → IsRead values operations xs (i + 1) (done ++ a)
    read_more n = record {
      value = h.value ∙ ap (λ ys. done ++ values ys) left ∙ ap (λ ys. done ++ ys) (k.value (drop (i + 1) xs))
          ∙ sym (append_assoc done a (values (drop (i + 1) xs)));
      first = h.first ∙ ap (λ ys. first_wide long_limit (operations ys)) left ∙ ap (first_wide long_limit) (k.operation (drop (i + 1) xs))
          ∙ first_wide_later long_limit os (operations (drop (i + 1) xs)) n;
    }

    -- the first wide operation of an element is the first of all
    pub read_wide : (o : Operation) → first_wide long_limit os ≡ Some o → first_wide long_limit (operations xs) ≡ Some o
    read_wide o w =
        h.first ∙ ap (λ ys. first_wide long_limit (operations ys)) left ∙ ap (first_wide long_limit) (k.operation (drop (i + 1) xs))
        ∙ first_wide_sooner long_limit os (operations (drop (i + 1) xs)) o w

  -- behind the last element all values are gathered, and no operation is wide
  pub read_all : (xs : List X) (i : ℕ) (done : List A) → values [] ≡ [] → operations [] ≡ [] → length xs ≤ i
      → IsRead values operations xs i done →
      (done ≡ values xs) × (first_wide long_limit (operations xs) ≡ None)
  read_all xs i done v o l h =
      let r = drop_all i xs l in (
        sym (h.value ∙ ap (λ ys. done ++ values ys) r ∙ ap (λ ys. done ++ ys) v ∙ append-nil done),
        h.first ∙ ap (λ ys. first_wide long_limit (operations ys)) r ∙ ap (first_wide long_limit) o,
      )

-- a fault of some operations is one of others with the same first
pub fault_of : (os ps : List Operation) (f : PartFault) → ((o : Operation) → first_wide long_limit os ≡ Some o
    → first_wide long_limit ps ≡ Some o) → IsReadingFault os f → IsReadingFault ps f
fault_of os ps (Wide part wide) k h = (h.0, k _ h.1)
fault_of os ps NoMemory k h = tt

-- a lack of memory is a fault of any reading
pub fault_none : (os : List Operation) (f : PartFault) → f ≡ NoMemory → IsReadingFault os f
fault_none os f e = subst (IsReadingFault os) (sym e) tt
