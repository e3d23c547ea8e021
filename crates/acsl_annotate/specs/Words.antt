-- The words, as those of `solve`.
use Rattle.std.specs.Prelude.{◌≡◌, ◌∷◌, ℕ, Bool, List, [], Some, codes, if◌then◌else◌, is_some}
use Rattle.ask_words.specs.Request.{request_of}
use Rattle.ask_words.specs.declared.format.Format.{Format}
use Rattle.ask_words.specs.declared.request.Analysis.{Analysis}
use Rattle.ask_words.specs.declared.request.Purpose.TheVariants.{Report}
use Rattle.ask_words.specs.declared.request.Request.TheVariants.{Analyse}
use Rattle.ask_files.specs.Files.{Request}

-- the words are a program and options that `certify` has too: all those of `solve` but the format, since an annotated text has one
abbrev pub are_plain : List (List ℕ) → Bool
are_plain words = is_some (request_of (codes "certify" ∷ words))

-- the words of `tmpl` that ask for the report of the same analysis; none, which ask for nothing, where it isn't so
abbrev pub as_solve : List (List ℕ) → List (List ℕ)
as_solve words = if are_plain words then codes "solve" ∷ words else []

-- the words are such ones
abbrev pub IsSolve : List (List ℕ) → Type 0
IsSolve words = (rest : List (List ℕ)) × (words ≡ as_solve rest)

-- where they ask for something, it is the report of an analysis
abbrev pub WordsReport : Type 0
WordsReport = (words : List (List ℕ)) (request : Request) → IsSolve words → request_of words ≡ Some request
    → (a : Analysis (List ℕ)) × (format : Format) × (request ≡ Analyse Report a format)
