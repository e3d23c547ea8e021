-- Where a reader is: the text, the tokens still to come, the number of the function's variables, and the integers by which it computes.
use Rattle.std.specs.Prelude.{◌≡◌, ◌≤◌, ℕ, ℤ, List, [], ◌∷◌, length, Option, None}
use Rattle.base_integers.specs.declared.integers.Integers.{Integers}
use Rattle.source_grammar.specs.Tokens.{Kind, a_name, a_number, other_sign, Token, token}

-- what a reader reads, and how far it has come
pub record Reading : Type 0 where
  pub text : List ℕ
  -- the tokens still to come
  pub ahead : List Token
  -- how many variables the function has, which is the number of the first hidden one
  pub variables : ℕ
  -- the integers by which it computes
  pub integers : Integers

-- the tokens behind the first
abbrev pub behind_first : List Token → List Token
behind_first [] = []
behind_first (t ∷ ts) = ts

-- the kind of a token, or that of nothing that stands in a function
abbrev pub first_kind : List Token → Kind
first_kind [] = other_sign
first_kind (token k a ∷ ts) = k

-- the place of the first token
abbrev pub first_place : List Token → ℕ
first_place [] = 0
first_place (token k a ∷ ts) = a

-- the bytes of a name
abbrev pub name_in : Kind → List ℕ
name_in (a_name x) = x.text
name_in k = []

-- the number that a name stands for
abbrev pub constant_in : Kind → Option ℤ
constant_in (a_name x) = x.value
constant_in k = None

-- the value of a number
abbrev pub number_in : Kind → ℕ
number_in (a_number n) = n
number_in k = 0

-- the reader has come to these tokens
abbrev pub at_tokens : Reading → List Token → Reading
at_tokens r ts = record r { ahead = ts }

-- the reader has passed one token
abbrev pub passed : Reading → Reading
passed r = at_tokens r (behind_first r.ahead)

-- A reader has only gone on: it reads the same text of the same function by the same integers, and no more tokens are to come.
pub record GoesOn (before after : Reading) : Type 0 where
  pub text : after.text ≡ before.text
  pub variables : after.variables ≡ before.variables
  pub integers : after.integers ≡ before.integers
  pub fewer : length after.ahead ≤ length before.ahead
