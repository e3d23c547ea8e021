-- Tokens at other places mean the same function.
use Rattle.std.specs.Prelude.{◌≡◌, ℕ, List, length, Ok}
use Rattle.source_grammar.specs.Tokens.{Token}
use Rattle.source_grammar.specs.Grammar.{Function, Reads}
use Rattle.source_grammar.specs.Faults.{whole, Finds}
use Rattle.source_tree.specs.Statements.{Statements}
use Rattle.source_core.specs.Core.{core_in}
use Rattle.source_meaning.specs.Walk.{walk}
use Rattle.acsl_shift.specs.Moves.{moved, without_lines}
use Rattle.acsl_shift.specs.Sources.{without_places}
use Rattle.base_integers.specs.declared.integers.Integers.{Integers}

-- what a function means at other places: the same variables, and statements that are the same without their lines and places
pub record Stays (integers : Integers) (other : ℕ → ℕ) (f : Function) (names : List (List ℕ)) (body : Statements) : Type 0 where
  -- its statements
  pub now : Statements
  -- it means them, with the same variables
  pub means : walk integers other f ≡ Ok (names, now)
  -- they are the same without their lines and places
  pub same : without_places now ≡ without_places body
  -- so are those of the core, but for their lines and the places of their checks
  pub core : without_lines (core_in integers (length names) now) ≡ without_lines (core_in integers (length names) body)

-- Tokens that read as a function read as one also where each stands at another place, and it means the same there, whichever text gives
-- the lines.
abbrev pub TokensMayMove : Type 0
TokensMayMove = (integers : Integers) (to : ℕ → ℕ) (tokens : List Token) (f : Function) → Reads tokens f
    → (now : Function) × Reads (moved to tokens) now
    × ((line other : ℕ → ℕ) (names : List (List ℕ)) (body : Statements) → walk integers line f ≡ Ok (names, body)
    → Stays integers other now names body)

-- Tokens that are a whole function with no fault in its grammar are one at other places.
abbrev pub WholeMayMove : Type 0
WholeMayMove = (to : ℕ → ℕ) (tokens : List Token) → Finds whole tokens → Finds whole (moved to tokens)
