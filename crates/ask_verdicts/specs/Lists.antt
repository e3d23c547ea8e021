-- The first of a list of things for which an operation is too wide.
use Rattle.std.specs.Prelude.{◌≡◌, ℕ, List, Some, take, slice_get}
use Rattle.std.specs.List.{All}
use Rattle.lp_simplex.specs.Operations.{capped}

-- no operation for an item before the one of this number is wide, and for it there is this fault
pub record IsFirstWide {A E : Type 0} (fits : A → Type 0) (faulty : A → E → Type 0) (items : List A) (named : ℕ) (fault : E) : Type 0 where
  pub number : ℕ
  pub item : A
  pub listed : slice_get items number ≡ Some item
  pub named_so : named ≡ capped number
  pub before : All fits (take number items)
  pub here : faulty item fault
