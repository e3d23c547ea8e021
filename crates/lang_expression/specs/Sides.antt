-- What comes of the right side of an assignment.
use Rattle.std.specs.Prelude.{ℕ, List, Option, Result, Ok}
use Rattle.lang_tree.specs.declared.form.Form.{Form}
use Rattle.lang_meaning.specs.declared.fault.ParseFault.{ParseFault}
use Rattle.lang_meaning.specs.Results.{◌>>=◌}
use Rattle.lang_meaning.specs.Walk.{State, one, assignment}
use Rattle.lang_meaning.specs.Feed.{Frame, Outcome, settled}

-- The right side is this: the variable takes it, at this line.
abbrev pub assigned_then : ℕ → Result (Option Form) ParseFault → ℕ → State → List Frame → Outcome
assigned_then line side i st fs = side >>= λ o. Ok (settled st fs (one (assignment i o line)))
