-- What the tokens of a text mean: a program, or the first fault.
use Rattle.std.specs.Prelude.{◌≡◌, ◌⊎◌, ℕ, List, Result, Err}
use Rattle.lang_grammar.specs.Grammar.{Token, Program, Reads}
use Rattle.lang_grammar.specs.Faults.{unexpected, nested, Fine, Finds}
use Rattle.lang_tokens.specs.Lines.{line_at}
use Rattle.lang_tree.specs.Tree.{Statements}
use Rattle.lang_meaning.specs.declared.fault.ParseFault.{ParseFault}
use Rattle.lang_meaning.specs.declared.fault.ParseFault.TheVariants as fault
use Rattle.lang_meaning.specs.declared.fault.Limit.TheVariants.{Nesting}
use Rattle.lang_meaning.specs.Walk.{walk}

-- the variables in order of declaration, and the statements
abbrev pub Answer : Type 0
Answer = Result (List (List ℕ) × Statements) ParseFault

-- The tokens read as a program, and no construct is one too many.
abbrev pub IsRead : List Token → Type 0
IsRead ts = (p : Program) × Reads ts p × Fine ts

-- The first token that is unexpected or opens one construct too many is the fault; else the tokens read as a program, and its walk decides.
abbrev pub Means : List ℕ → List Token → Answer → Type 0
Means text ts r =
    ((a : ℕ) × Finds (unexpected a) ts × (r ≡ Err (fault.Unexpected a)))
    ⊎ (((a : ℕ) × Finds (nested a) ts × (r ≡ Err (fault.Limit a Nesting)))
    ⊎ ((p : Program) × Reads ts p × Fine ts × (r ≡ walk (line_at text) p)))
