-- Where the files of a request are read, its texts are within their limits.
use Rattle.std.proofs.Common.{◌≡◌, ◌≤◌, ◌+◌, ℕ, Bool, true, false, List, [], ◌∷◌, length, refl, sym, subst, arith, if◌then◌else◌}
use Rattle.std.specs.Prelude.{Option, Some, None, nat_lt}
use Rattle.base_limits.specs.declared.limits.TheConstants.{MOST_IMPROVEMENTS}
use Rattle.ask_words.specs.declared.request.Analysis.{Analysis}
use Rattle.ask_words.specs.declared.request.Domain.{Domain}
use Rattle.ask_words.specs.declared.request.Domain.TheVariants.{Intervals, Zones, Octagons, Packs, Rows}
use Rattle.top_answer.specs.Commands.{IsWithin}
use Rattle.ask_files.specs.Files.{NamedFile, analysis_with, domain_with, most_bytes, rows_before, rows_files, text_at, unread}
use Rattle.ask_files.specs.declared.which.ReadCause.{ReadCause}
use Rattle.ask_files.specs.declared.which.Which.TheVariants as which
use Rattle.top_texts.specs.Short.{HasShortRows, IsShort}

some_none : (c : ReadCause) → Some c ≡ None → ⊥
some_none c e = cc

if_none : (b : Bool) (c : ReadCause) (o : Option ReadCause) → (if b then Some c else o) ≡ None → (b ≡ false) × (o ≡ None)
if_none true c o e = absurd (some_none c e)
if_none false c o e = (refl, e)

not_less : (m n : ℕ) → nat_lt m n ≡ false → n ≤ m
not_less m n e = grind arith

-- the first file of some that are read has a text within its limit, and the others are read after it
pub read_first : (file : NamedFile) (files : List NamedFile) (contents : List (List ℕ)) → unread (file ∷ files) contents ≡ None
    → (text : List ℕ) × (rest : List (List ℕ)) × (contents ≡ text ∷ rest) × (length text ≤ most_bytes file.0) × (unread files rest ≡ None)
read_first file files [] e = absurd (some_none _ e)
read_first file files (text ∷ rest) e =
    let read = if_none (nat_lt (most_bytes file.0) (length text)) _ (unread files rest) e in
    (text, rest, refl, not_less (most_bytes file.0) (length text) read.0, read.1)

-- the rows that follow are short
rows_short : (domain : Domain (List ℕ)) (later : List NamedFile) (text : List ℕ) (rest : List (List ℕ))
    → unread (rows_before domain later) rest ≡ None → HasShortRows (domain_with domain (text_at (text ∷ rest) 1))
rows_short Intervals later text rest e = tt
rows_short Zones later text rest e = tt
rows_short Octagons later text rest e = tt
rows_short Packs later text rest e = tt
rows_short (Rows file) later text rest e =
    let read = read_first (which.Rows, file) later rest e in
    subst (λ r. IsShort (text_at (text ∷ r) 1)) (sym read.2) read.3

-- the claims that follow the rows are short
pub claims_short : (domain : Domain (List ℕ)) (claims text : List ℕ) (rest : List (List ℕ))
    → unread (rows_before domain ((which.Claims, claims) ∷ [])) rest ≡ None → IsShort (text_at (text ∷ rest) (1 + rows_files domain))
claims_short Intervals claims text rest e =
    let read = read_first (which.Claims, claims) [] rest e in subst (λ r. IsShort (text_at (text ∷ r) 1)) (sym read.2) read.3
claims_short Zones claims text rest e =
    let read = read_first (which.Claims, claims) [] rest e in subst (λ r. IsShort (text_at (text ∷ r) 1)) (sym read.2) read.3
claims_short Octagons claims text rest e =
    let read = read_first (which.Claims, claims) [] rest e in subst (λ r. IsShort (text_at (text ∷ r) 1)) (sym read.2) read.3
claims_short Packs claims text rest e =
    let read = read_first (which.Claims, claims) [] rest e in subst (λ r. IsShort (text_at (text ∷ r) 1)) (sym read.2) read.3
claims_short (Rows file) claims text rest e =
    let rows = read_first (which.Rows, file) ((which.Claims, claims) ∷ []) rest e in
    let read = read_first (which.Claims, claims) [] rows.1 rows.4 in
    subst (λ r. IsShort (text_at (text ∷ r) 2)) (sym rows.2) (subst (λ r. IsShort (text_at (text ∷ rows.0 ∷ r) 2)) (sym read.2) read.3)

-- the texts of an analysis are within their limits
pub within : (file : NamedFile) (analysis : Analysis (List ℕ)) (later : List NamedFile) (contents : List (List ℕ))
    → analysis.improvements ≤ MOST_IMPROVEMENTS → unread (file ∷ rows_before analysis.domain later) contents ≡ None
    → IsWithin (most_bytes file.0) (analysis_with analysis contents)
within file analysis later contents limit e =
    let read = read_first file (rows_before analysis.domain later) contents e in
    subst (λ c. IsWithin (most_bytes file.0) (analysis_with analysis c)) (sym read.2)
    (record { short = read.3; short_rows = rows_short analysis.domain later read.0 read.1 read.4; limit = limit })

-- a text that is read alone is within its limit
pub first_short : (file : NamedFile) (later : List NamedFile) (contents : List (List ℕ)) → unread (file ∷ later) contents ≡ None
    → length (text_at contents 0) ≤ most_bytes file.0
first_short file later contents e =
    let read = read_first file later contents e in
    subst (λ c. length (text_at c 0) ≤ most_bytes file.0) (sym read.2) read.3
