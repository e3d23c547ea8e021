-- What the directives of a file define.
use Rattle.std.specs.Prelude.{◌+◌, ◌==◌, ◌&&◌, not, ℕ, ℤ, pos, negsuc, Bool, true, false, List, [], ◌∷◌, slice_range, Option, Some, None}
use Rattle.std.specs.Prelude.{codes, filter, take, flat_map, if◌then◌else◌}
use Rattle.std.specs.List.{position_or_len}
use Rattle.std.specs.Str.{bytes_eq}
use Rattle.base_integers.specs.declared.integers.Width.{Width}
use Rattle.base_integers.specs.declared.integers.Width.TheVariants.{Bits32}
use Rattle.base_integers.specs.declared.integers.Integers.{Integers}
use Rattle.base_integers.specs.declared.integers.Integers.TheVariants.{Mathematical, Machine}
use Rattle.base_integers.specs.Integers.{greatest}
use Rattle.lang_tokens.specs.declared.sign.Sign.TheVariants as sign
use Rattle.lang_tokens.specs.declared.token.Aside.TheVariants as aside
use Rattle.lang_tokens.specs.declared.token.Kind.{Kind}
use Rattle.lang_tokens.specs.declared.token.Kind.TheVariants as kind
use Rattle.lang_tokens.specs.declared.token.Token.{Token}
use Rattle.source_tokens.specs.declared.definition.Definition.{Definition}
use Rattle.source_tokens.specs.View.{bytes_of}
use Rattle.source_constants.specs.declared.part.Part.{Part}
use Rattle.source_constants.specs.declared.part.Part.TheVariants as part
use Rattle.source_constants.specs.Parts.{parts_of, opposite}

-- tokens of this kind stand in no directive
abbrev pub is_code : Kind → Bool
is_code (kind.Aside a) = false
is_code k = true

-- the tokens that stand in no directive
abbrev pub code_of : List Token → List Token
code_of ts = filter (λ (t : Token). is_code t.kind) ts

-- those that stand in one
abbrev pub asides_of : List Token → List Token
asides_of ts = filter (λ (t : Token). not (is_code t.kind)) ts

-- a token of this kind is the `#` that begins a directive
abbrev pub is_hash : Kind → Bool
is_hash (kind.Aside aside.Hash) = true
is_hash k = false

-- how many tokens stand before the next directive
abbrev pub len_to_hash : List Token → ℕ
len_to_hash ts = position_or_len (λ (t : Token). is_hash t.kind) ts

-- the directives among these tokens of directives, each by its tokens behind its `#`
abbrev pub directives_of : List Token → List (List Token)
directives_of [] = []
directives_of (t ∷ ts) = if is_hash t.kind then take (len_to_hash ts) ts ∷ directives_of ts else directives_of ts

-- a name stands for a number where these stand behind it: a number, with a minus before it or not, in one pair of parentheses or not
abbrev pub number_of : List Part → Option ℤ
number_of (part.Number n ∷ []) = Some n
number_of (part.Minus ∷ part.Number n ∷ []) = Some (opposite n)
number_of (part.LeftParen ∷ part.Number n ∷ part.RightParen ∷ []) = Some n
number_of (part.LeftParen ∷ part.Minus ∷ part.Number n ∷ part.RightParen ∷ []) = Some (opposite n)
number_of ps = None

-- a token of this kind of a directive is a `(`
abbrev pub is_paren : Kind → Bool
is_paren (kind.Aside (aside.Sign sign.LeftParen)) = true
is_paren k = false

-- a `(` stands at once behind a name that ends at this place: what is defined has parameters
abbrev pub has_parameters : (end : ℕ) → List Token → Bool
has_parameters end [] = false
has_parameters end (t ∷ ts) = is_paren t.kind && (t.at == end)

-- the number that a name stands for that ends at this place, with these tokens behind it
abbrev pub number_behind : (text : List ℕ) → (end : ℕ) → List Token → Option ℤ
number_behind text end ts = if has_parameters end ts then None else number_of (parts_of text ts)

-- the definition of a word for this number, or for none
abbrev pub stands_for : (text : List ℕ) → Token → Option ℤ → Definition
stands_for text x v = record { name = bytes_of text x; at = x.at; value = v; by_item = false }

-- what `define` makes of this token, with these behind it: a reserved word stands for no number
abbrev pub replaced : (text : List ℕ) → Token → List Token → List Definition
replaced text x ts = elim x.kind [
  | kind.Aside a ↦ elim a [
    | aside.Name ↦ stands_for text x (number_behind text (x.at + x.len) ts) ∷ []
    | aside.Word w ↦ stands_for text x None ∷ []
    | _ ↦ []
  ]
  | _ ↦ []
]

-- the integers whose limits a file may ask for
abbrev pub width_of : Integers → Width
width_of Mathematical = Bits32
width_of (Machine width) = width

-- the limits of a width
abbrev pub limits : Width → (at : ℕ) → List Definition
limits width at =
    record { name = codes "INT_MAX"; at = at; value = Some (pos (greatest width)); by_item = false }
    ∷ record { name = codes "INT_MIN"; at = at; value = Some (negsuc (greatest width)); by_item = false } ∷ []

-- the word of a directive is this one
abbrev pub is_word : (text : List ℕ) → Token → List ℕ → Bool
is_word text t word = bytes_eq (bytes_of text t) word

-- the text is this from the first of two tokens to the second
abbrev pub is_spelled : (text : List ℕ) → (first last : Token) → List ℕ → Bool
is_spelled text first last bytes = bytes_eq (slice_range text first.at (last.at + last.len)) bytes

-- the first is `include`, and from the second to the third the text is `<limits.h>`
abbrev pub is_limits : (text : List ℕ) → Token → (first last : Token) → Bool
is_limits text w first last = is_word text w (codes "include") && is_spelled text first last (codes "<limits.h>")

-- the place of `<limits.h>`, at once and alone behind `include`
abbrev pub limits_at : (text : List ℕ) → List Token → Option ℕ
limits_at text (w ∷ a ∷ b ∷ c ∷ d ∷ e ∷ []) =
    if is_limits text w a e then Some a.at else None
limits_at text ts = None

-- what `include` defines: with `<limits.h>` the limits of the integers
abbrev pub included : Integers → (text : List ℕ) → List Token → List Definition
included integers text ts = elim (limits_at text ts) [ None ↦ [] | Some at ↦ limits (width_of integers) at ]

-- what a directive with these tokens behind its `#` defines
abbrev pub defined_by : Integers → (text : List ℕ) → List Token → List Definition
defined_by integers text [] = []
defined_by integers text (w ∷ []) = []
defined_by integers text (w ∷ x ∷ ts) =
    if is_word text w (codes "define") then replaced text x ts else included integers text (w ∷ x ∷ ts)

-- what the directives define whose tokens these are, in order
abbrev pub all_defined : Integers → (text : List ℕ) → List Token → List Definition
all_defined integers text asides = flat_map (defined_by integers text) (directives_of asides)

-- what the directives among tokens define
abbrev pub by_directives : Integers → (text : List ℕ) → List Token → List Definition
by_directives integers text ts = all_defined integers text (asides_of ts)
