-- What stands where an operand has to stand, and is no name and no number.
use Rattle.std.proofs.Common.{◌≡◌, ℕ, List, Ok, refl}
use Rattle.lang_grammar.specs.Grammar.{Kind, a_name}
use Rattle.lang_meaning.specs.Walk.{State}
use Rattle.lang_meaning.specs.Feed.{Frame, at, signed, wanted}
use Rattle.lang_reader.specs.Modes.{unnamed}

-- where an operand has to stand, a token that is no name and no number is no fault: `signed` says what is pending and read next
pub plain_wanted : (line : ℕ → ℕ) (width : ℕ) (st : State) (fs : List Frame) (k : Kind) (a : ℕ) → wanted line width st fs (unnamed k) a
    ≡ Ok (at st (signed fs (unnamed k) a).0 (signed fs (unnamed k) a).1)
plain_wanted line width st fs (a_name x) a = refl
plain_wanted line width st fs _ a = refl
