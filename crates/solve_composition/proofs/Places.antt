-- The composed forms of one edge among those of all.
use Rattle.std.proofs.Common.{◌≡◌, ◌∙◌, ℕ, ◌<◌, List, length, get_or, Some, ap, sym, subst}
use Rattle.std.specs.Prelude.{slice_get}
use Rattle.std.proofs.lemmas.Option.{slice_get-get_or, get_or_from_slice_get}

-- what is read of a list at a place
module _ {X : Type 0} (xs items : List X) (k : ℕ) (x : X) (same : items ≡ xs) (read : x ≡ get_or items k x) where
  -- an element and what is read at its place are the same
  read_is : (y : X) → slice_get xs k ≡ Some y → x ≡ y
  read_is y e = read ∙ ap (λ ys. get_or ys k x) same ∙ get_or_from_slice_get xs k y x e

  -- the element is what is read at its place
  pub read_at : k < length xs → slice_get xs k ≡ Some x
  read_at l = slice_get-get_or xs k x l ∙ ap Some (sym (read ∙ ap (λ ys. get_or ys k x) same))

-- what is read of one of an item's lists at a place
module _ {X Y : Type 0} (part : X → List Y) (xs items : List X) (k : ℕ) (x : X) (same : items ≡ xs) (read : x ≡ get_or items k x)
    (ys : List Y) (is : ys ≡ part x) (i : ℕ) where
  -- a place within the part of the element is within the part that is taken
  pub part_within : k < length xs → ((z : X) → slice_get xs k ≡ Some z → i < length (part z)) → i < length ys
  part_within l h = subst (λ zs. i < length zs) (sym is) (h x (read_at xs items k x same read l))

  -- an element of the part that is taken is read from the part of the list's element
  pub part_read : ((z : X) → slice_get xs k ≡ Some z → i < length (part z)) → (y : Y) → y ≡ get_or ys i y → (z : X)
      → slice_get xs k ≡ Some z → slice_get (part z) i ≡ Some y
  part_read h y at z e = read_at (part z) ys i y (is ∙ ap part (read_is xs items k x same read z e)) at (h z e)
