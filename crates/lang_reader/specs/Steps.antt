-- Steps that several tokens take.
use Rattle.std.specs.Prelude.{ℕ, List, ◌∷◌, Option, Ok}
use Rattle.lang_tree.specs.Tree.{nil}
use Rattle.lang_tree.specs.declared.form.Form.{Form}
use Rattle.lang_meaning.specs.Results.{◌>>=◌}
use Rattle.lang_meaning.specs.Walk.{State, counted, declared_by}
use Rattle.lang_meaning.specs.Feed.{Frame, Within, under, Mode, stands, at, Outcome, pushed}

-- a variable is declared, with what it takes, and this is read next
abbrev pub declared_then : (ℕ → ℕ) → List ℕ → ℕ → Option Form → State → List Frame → Mode → Outcome
declared_then line x a o st fs m = declared_by line x a o st >>= λ r. Ok (at r.0 (pushed r.1 fs) m)

-- a statement counts, and what stands within it begins
abbrev pub counted_then : ℕ → State → List Frame → Within → Outcome
counted_then a st fs w = counted a st >>= λ now. Ok (at now (under w nil ∷ fs) stands)
