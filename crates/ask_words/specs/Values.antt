-- What the value of an option means.
use Rattle.std.specs.Prelude.{◌&&◌, ◌==◌, ℕ, List, [], ◌∷◌, length, find, Option, Some, None, if◌then◌else◌, nat_le, nat_lt, codes}
use Rattle.std.specs.Prelude.{option_and_then, option_map}
use Rattle.std.specs.Char.{is_ascii_digit}
use Rattle.std.specs.List.{list_all}
use Rattle.std.specs.Str.{bytes_eq}
use Rattle.std.specs.Str.Parse.{digits_value}
use Rattle.clap.specs.Words.{Text}
use Rattle.base_integers.specs.declared.integers.Integers.{Integers}
use Rattle.base_integers.specs.declared.integers.Integers.TheVariants.{Mathematical, Machine}
use Rattle.base_integers.specs.declared.integers.Width.TheVariants.{Bits8, Bits16, Bits32}
use Rattle.ask_words.specs.declared.format.Format.{Format}
use Rattle.ask_words.specs.declared.format.Format.TheVariants as format
use Rattle.ask_words.specs.declared.request.Policy.{Policy}
use Rattle.ask_words.specs.declared.request.Policy.TheVariants.{Best, First}
use Rattle.ask_words.specs.declared.request.Domain.{Domain}
use Rattle.ask_words.specs.declared.request.Domain.TheVariants.{Intervals, Zones, Octagons, Packs, Rows}

-- one to ten decimal digits whose number lies between `least` and `most`
abbrev pub number_in : (least most : ℕ) → Text → Option ℕ
number_in least most text =
    if nat_lt 0 (length text) && (nat_le (length text) 10 && (list_all is_ascii_digit text
    && (nat_le least (digits_value 10 text) && nat_le (digits_value 10 text) most)))
    then Some (digits_value 10 text) else None

-- the integers of a machine that have so many bits
abbrev pub machine_in : (bits : ℕ) → Option Integers
machine_in bits =
    if bits == 8 then Some (Machine Bits8)
    else (if bits == 16 then Some (Machine Bits16) else (if bits == 32 then Some (Machine Bits32) else None))

-- the integers of a machine, where the number of their bits is given, and else the mathematical ones
abbrev pub integers_in : (bits : Option Text) → Option Integers
integers_in None = Some Mathematical
integers_in (Some word) = option_and_then machine_in (number_in 8 32 word)

-- what a word stands for in a table
abbrev pub meaning_in : {A : Type 0} → List (Text × A) → Text → Option A
meaning_in table word = option_map (λ row. row.1) (find (λ row. bytes_eq word row.0) table)

-- the rules by which an edge is picked
abbrev pub policies : List (Text × Policy)
policies = (codes "best", Best) ∷ (codes "first", First) ∷ []

-- the formats of an output
abbrev pub formats : List (Text × Format)
formats = (codes "text", format.Text) ∷ (codes "json", format.Json) ∷ []

-- the formats of verdicts on checks
abbrev pub check_formats : List (Text × Format)
check_formats = (codes "text", format.Text) ∷ (codes "json", format.Json) ∷ (codes "sarif", format.Sarif) ∷ []

-- the domains that need no file
abbrev pub built_in_domains : List (Text × Domain Text)
built_in_domains = (codes "intervals", Intervals) ∷ (codes "zones", Zones) ∷ (codes "octagons", Octagons) ∷ (codes "packs", Packs) ∷ []

-- a file of rows is given exactly where the domain is `rows`
abbrev pub domain_in : Text → (rows : Option Text) → Option (Domain Text)
domain_in word None = meaning_in built_in_domains word
domain_in word (Some file) = meaning_in ((codes "rows", Rows file) ∷ []) word
