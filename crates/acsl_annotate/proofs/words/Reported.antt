-- What words that are as those of `solve` ask for.
use Rattle.std.proofs.Common.{◌≡◌, ◌∷◌, ℕ, Bool, true, false, List, [], Some, None, codes, if◌then◌else◌}
use Rattle.ask_files.specs.Files.{Request}
use Rattle.ask_words.specs.Laws.{SolveReports}
use Rattle.ask_words.specs.Request.{request_of}
use Rattle.ask_words.specs.declared.format.Format.{Format}
use Rattle.ask_words.specs.declared.request.Analysis.{Analysis}
use Rattle.ask_words.specs.declared.request.Purpose.TheVariants.{Report}
use Rattle.ask_words.specs.declared.request.Request.TheVariants.{Analyse}

clash : (request : Request) → request_of [] ≡ None → request_of [] ≡ Some request → ⊥
clash request nothing e = cc

-- behind `solve` the report of an analysis, without words nothing
pub reported : (plain : Bool) (rest : List (List ℕ)) (request : Request) → SolveReports → request_of [] ≡ None
    → request_of (if plain then codes "solve" ∷ rest else []) ≡ Some request
    → (a : Analysis (List ℕ)) × (format : Format) × (request ≡ Analyse Report a format)
reported true rest request law nothing e = law rest request e
reported false rest request law nothing e = absurd (clash request nothing e)
