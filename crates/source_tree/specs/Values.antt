-- Which values an expression may have at an integer state, by C, which states it leaves, and where an operation in it has no value.
use Rattle.std.specs.Prelude.{◌≡◌, ◌≢◌, ◌⊎◌, ℕ, ℤ, pos, neg_ℤ, ◌+ℤ◌, ◌-ℤ◌, ◌*ℤ◌, ◌≤ℤ◌, ◌<ℤ◌, int_div, int_rem, Bool, true, false, get_or}
use Rattle.lang_tree.specs.declared.cond.Rel.{Rel}
use Rattle.lang_tree.specs.declared.check.Check.{Check}
use Rattle.lang_tree.specs.declared.check.CheckKind.TheVariants.{Divisor, Index, Range}
use Rattle.lang_tree.specs.Meaning.{State, Relates, put}
use Rattle.base_integers.specs.declared.integers.Integers.{Integers}
use Rattle.base_integers.specs.Integers.{Has}
use Rattle.source_tree.specs.Expressions.{Operation, plus, minus, times, over, remainder}
use Rattle.source_tree.specs.Expressions.{Expression, Expressions, number, variable, unknown, call, element, grouped, negative, positive}
use Rattle.source_tree.specs.Expressions.{stepped, inverse, joined, compared, both, either, chosen, none, more}
use Rattle.source_tree.specs.Expressions.{Direction, up, down, Moment, before, behind, Extent, endless}
use Rattle.source_tree.specs.Expressions.{elements, Subscripts, no_subscript, subscript}

-- the number that a truth is
abbrev pub truth_number : Bool → ℤ
truth_number true = pos 1
truth_number false = pos 0

-- whether a number is true, which it is where it isn't 0
abbrev pub Tells : Bool → ℤ → Type 0
Tells true z = z ≢ pos 0
Tells false z = z ≡ pos 0

-- an operation on two numbers gives this one: a quotient is truncated towards 0, a remainder has the sign of the dividend, and nothing may
-- be divided by 0
abbrev pub Gives : Operation → ℤ → ℤ → ℤ → Type 0
Gives plus a b z = z ≡ a +ℤ b
Gives minus a b z = z ≡ a -ℤ b
Gives times a b z = z ≡ a *ℤ b
Gives over a b z = (b ≢ pos 0) × (z ≡ int_div a b)
Gives remainder a b z = (b ≢ pos 0) × (z ≡ int_rem a b)

-- two numbers are so related, or aren't
abbrev pub Compares : Bool → Rel → ℤ → ℤ → Type 0
Compares true rel a b = Relates rel (a -ℤ b)
Compares false rel a b = ¬ (Relates rel (a -ℤ b))

-- a number is an index within this extent
abbrev pub IsIndex : Extent → ℤ → Type 0
IsIndex endless i = pos 0 ≤ℤ i
IsIndex (elements size) i = (pos 0 ≤ℤ i) × (i <ℤ pos size)

-- a step is an operation with 1
abbrev pub step_by : Direction → Operation
step_by up = plus
step_by down = minus

-- the value of a step, which is what the variable has behind it or had before it
abbrev pub value_at : Moment → (old new : ℤ) → ℤ
value_at before old new = new
value_at behind old new = old

-- by these integers
module _ (integers : Integers) where
  -- an operation on two numbers has this exact result, which is one of the integers; a remainder is taken by a quotient that is one, too
  abbrev pub IsHeld : Operation → ℤ → ℤ → ℤ → Type 0
  IsHeld plus a b z = Has integers z
  IsHeld minus a b z = Has integers z
  IsHeld times a b z = Has integers z
  IsHeld over a b z = Has integers z
  IsHeld remainder a b z = Has integers (int_div a b) × Has integers z

  abbrev mutual
    -- from the first state the expression may have this value, and leave the second state. It is evaluated from the left, each operand in
    -- the state that the one before leaves. What isn't evaluated needs no value: the right side of `&&` where the left one is false, that
    -- of `||` where it is true, and one side of `?:`. `nondet()`, a call and an element may have any of the integers, and the exact result
    -- of an operation has to be one of them
    pub May : Expression → State → ℤ → State → Type 0
    May (number v at) x z y = (z ≡ v) × Has integers z × (y ≡ x)
    May (variable i at) x z y = (z ≡ get_or x i (pos 0)) × (y ≡ x)
    May (unknown at) x z y = Has integers z × (y ≡ x)
    May (call es at) x z y = AllMay es x y × Has integers z
    May (element is at) x z y = AreIndexes is x y × Has integers z
    May (stepped direction moment i sign at) x z y =
        (w : ℤ) × Gives (step_by direction) (get_or x i (pos 0)) (pos 1) w × Has integers w
        × (z ≡ value_at moment (get_or x i (pos 0)) w) × (y ≡ put (pos 0) x i w)
    May (grouped at e) x z y = May e x z y
    May (negative at e) x z y = (a : ℤ) × May e x a y × (z ≡ neg_ℤ a) × Has integers z
    May (positive at e) x z y = May e x z y
    May (inverse at e) x z y = (a : ℤ) × (t : Bool) × May e x a y × Tells t a × (z ≡ pos 1 -ℤ truth_number t)
    May (joined o sign e f) x z y =
        (u : State) × (a b : ℤ) × May e x a u × May f u b y × Gives o a b z × IsHeld o a b z
    May (compared rel sign e f) x z y =
        (u : State) × (a b : ℤ) × (t : Bool) × May e x a u × May f u b y × Compares t rel a b × (z ≡ truth_number t)
    May (both c d) x z y =
        (May c x (pos 0) y × (z ≡ pos 0))
        ⊎ ((u : State) × (a b : ℤ) × (t : Bool) × May c x a u × (a ≢ pos 0) × May d u b y × Tells t b × (z ≡ truth_number t))
    May (either c d) x z y =
        ((a : ℤ) × May c x a y × (a ≢ pos 0) × (z ≡ pos 1))
        ⊎ ((u : State) × (b : ℤ) × (t : Bool) × May c x (pos 0) u × May d u b y × Tells t b × (z ≡ truth_number t))
    May (chosen sign c e f) x z y =
        ((u : State) × (a : ℤ) × May c x a u × (a ≢ pos 0) × May e u z y) ⊎ ((u : State) × May c x (pos 0) u × May f u z y)

    -- each of them may have some value
    pub AllMay : Expressions → State → State → Type 0
    AllMay none x y = y ≡ x
    AllMay (more e es) x y = (u : State) × (z : ℤ) × May e x z u × AllMay es u y

    -- each index may have some value within its extent
    pub AreIndexes : Subscripts → State → State → Type 0
    AreIndexes no_subscript x y = y ≡ x
    AreIndexes (subscript extent bracket e is) x y = (u : State) × (i : ℤ) × May e x i u × IsIndex extent i × AreIndexes is u y

-- an operation of this sign has no value, since the number on its right is 0, as a check of it says
abbrev pub DividesByZero : Operation → (sign : ℕ) → Check → ℤ → Type 0
DividesByZero plus sign about b = ⊥
DividesByZero minus sign about b = ⊥
DividesByZero times sign about b = ⊥
DividesByZero over sign about b = (about ≡ record { kind = Divisor; at = sign }) × (b ≡ pos 0)
DividesByZero remainder sign about b = (about ≡ record { kind = Divisor; at = sign }) × (b ≡ pos 0)

module _ (integers : Integers) where
  -- an operation at this place has this exact result, which is none of the integers, as a check of it says
  abbrev pub Exceeds : (place : ℕ) → Check → ℤ → Type 0
  Exceeds place about z = (about ≡ record { kind = Range; at = place }) × ¬ (Has integers z)

  -- an operation of this sign with these operands overflows, as a check of it says
  abbrev pub Overflows : Operation → (sign : ℕ) → Check → ℤ → ℤ → Type 0
  Overflows o sign about a b = (about ≡ record { kind = Range; at = sign }) × ((z : ℤ) × Gives o a b z × ¬ (IsHeld integers o a b z))

  -- an operation of this sign with these operands has no value, as a check of it says
  abbrev pub Fails : Operation → (sign : ℕ) → Check → ℤ → ℤ → Type 0
  Fails o sign about a b = DividesByZero o sign about b ⊎ Overflows o sign about a b

  abbrev mutual
    -- evaluated from the left at the state, the expression may come to an operation without a value, where this check isn't true
    pub Breaks : Expression → State → Check → Type 0
    Breaks (number v at) x about = Exceeds at about v
    Breaks (variable i at) x about = ⊥
    Breaks (unknown at) x about = ⊥
    Breaks (call es at) x about = SomeBreaks es x about
    Breaks (element is at) x about = IndexBreaks is x about
    Breaks (stepped direction moment i sign at) x about = Overflows (step_by direction) sign about (get_or x i (pos 0)) (pos 1)
    Breaks (grouped at e) x about = Breaks e x about
    Breaks (negative at e) x about =
        Breaks e x about ⊎ ((a : ℤ) × (u : State) × May integers e x a u × Exceeds at about (neg_ℤ a))
    Breaks (positive at e) x about = Breaks e x about
    Breaks (inverse at e) x about = Breaks e x about
    Breaks (joined o sign e f) x about =
        Breaks e x about
        ⊎ (((a : ℤ) × (u : State) × May integers e x a u × Breaks f u about)
        ⊎ ((u v : State) × (a b : ℤ) × May integers e x a u × May integers f u b v × Fails o sign about a b))
    Breaks (compared rel sign e f) x about =
        Breaks e x about ⊎ ((a : ℤ) × (u : State) × May integers e x a u × Breaks f u about)
    Breaks (both c d) x about =
        Breaks c x about ⊎ ((a : ℤ) × (u : State) × May integers c x a u × (a ≢ pos 0) × Breaks d u about)
    Breaks (either c d) x about = Breaks c x about ⊎ ((u : State) × May integers c x (pos 0) u × Breaks d u about)
    Breaks (chosen sign c e f) x about =
        Breaks c x about
        ⊎ (((a : ℤ) × (u : State) × May integers c x a u × (a ≢ pos 0) × Breaks e u about)
        ⊎ ((u : State) × May integers c x (pos 0) u × Breaks f u about))

    -- one of them may, those before it having values
    pub SomeBreaks : Expressions → State → Check → Type 0
    SomeBreaks none x about = ⊥
    SomeBreaks (more e es) x about =
        Breaks e x about ⊎ ((z : ℤ) × (u : State) × May integers e x z u × SomeBreaks es u about)

    -- an index may, or may leave its extent, those before it being within theirs
    pub IndexBreaks : Subscripts → State → Check → Type 0
    IndexBreaks no_subscript x about = ⊥
    IndexBreaks (subscript extent bracket e is) x about =
        Breaks e x about
        ⊎ (((i : ℤ) × (u : State) × May integers e x i u × ¬ (IsIndex extent i)
        × (about ≡ record { kind = Index; at = bracket }))
        ⊎ ((i : ℤ) × (u : State) × May integers e x i u × IsIndex extent i × IndexBreaks is u about))
