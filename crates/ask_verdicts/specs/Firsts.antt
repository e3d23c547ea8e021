-- The first of some numbers at which something is found, and the first fault up to it.
use Rattle.std.specs.Prelude.{ℕ, ◌<◌}

-- nothing is found at any number below n
abbrev pub NoneBelow : (ℕ → Type 0) → ℕ → Type 0
NoneBelow none n = (k : ℕ) → k < n → none k

-- this is found at the first of the numbers below n at which something is
pub record IsFirst {X : Type 0} (none : ℕ → Type 0) (found : ℕ → X → Type 0) (n : ℕ) (x : X) : Type 0 where
  pub number : ℕ
  pub within : number < n
  pub before : NoneBelow none number
  pub here : found number x

-- this is so at each of the numbers below n up to the first at which something is found
abbrev pub FitsUpTo : (ℕ → Type 0) → (ℕ → Type 0) → ℕ → Type 0
FitsUpTo none fits n = (k : ℕ) → k < n → NoneBelow none k → fits k

-- up to a number below n nothing is found and this is so at each, and at it there is this fault
pub record IsFirstRefused {E : Type 0} (none fits : ℕ → Type 0) (faulty : ℕ → E → Type 0) (n : ℕ) (fault : E) : Type 0 where
  pub number : ℕ
  pub within : number < n
  pub before : NoneBelow none number
  pub fit : (k : ℕ) → k < number → fits k
  pub here : faulty number fault
