-- What words that begin with `solve` ask for.
use Rattle.std.specs.Prelude.{◌≡◌, List, ◌∷◌, Some, codes}
use Rattle.clap.specs.Words.{Text}
use Rattle.ask_words.specs.Request.{request_of}
use Rattle.ask_words.specs.declared.format.Format.{Format}
use Rattle.ask_words.specs.declared.request.Analysis.{Analysis}
use Rattle.ask_words.specs.declared.request.Purpose.TheVariants.{Report}
use Rattle.ask_words.specs.declared.request.Request.{Request}
use Rattle.ask_words.specs.declared.request.Request.TheVariants.{Analyse}

-- Whatever words follow `solve`: where they ask for something, it is the report of an analysis, in a format.
abbrev pub SolveReports : Type 0
SolveReports = (rest : List Text) (request : Request Text) → request_of (codes "solve" ∷ rest) ≡ Some request
    → (a : Analysis Text) × (format : Format) × (request ≡ Analyse Report a format)
