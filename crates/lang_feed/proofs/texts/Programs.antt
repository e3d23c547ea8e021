-- What is read of a text, and what the second pass gives, is what the text means.
use Rattle.std.proofs.Common.{◌≡◌, ◌∙◌, inl, inr, ◌-◌, ℕ, List, map, min, Ok, Err, refl, sym, ap₂}
use Rattle.lang_grammar.specs.Grammar.{Token, Program, program, Reads}
use Rattle.lang_grammar.specs.Faults.{Scan, whole, short, unexpected, nested, Finds}
use Rattle.lang_grammar.specs.Verdicts.{scan}
use Rattle.lang_grammar.specs.Machine.{start}
use Rattle.lang_grammar.proofs.faults.Scanned.{scan_finds}
use Rattle.lang_tokens.specs.Lines.{line_at}
use Rattle.lang_tree.specs.Tree.{Statements}
use Rattle.lang_meaning.specs.declared.fault.ParseFault.TheVariants as fault
use Rattle.lang_meaning.specs.declared.fault.Limit.TheVariants.{Nesting}
use Rattle.lang_meaning.specs.Results.{◌>>=◌}
use Rattle.lang_meaning.specs.Walk.{walk, width_of, declared_items}
use Rattle.lang_meaning.specs.Feed.{feed, begin, result_of}
use Rattle.lang_meaning.specs.Meaning.{Answer, IsRead, Means}
use Rattle.lang_feed.proofs.feed.Statements.{program_fed}
use Rattle.lang_meaning.proofs.limits.Programs.{IsProgram, walk_fits, ok_fits}
use Rattle.lang_grammar.specs.View.{tokens_of, plain_token}
use Rattle.lang_tokens.specs.declared.token.Token as lex_token
use Rattle.lang_feed.specs.Width.{total, mark}
use Rattle.lang_feed.proofs.counts.WholeTexts.{EndsWell, begun_is_whole, width_is}
use Rattle.lang_tree.specs.declared.limits.TheConstants.{MOST_VARIABLES}

-- where the token at place a is found to be unexpected, that fault is what the text means
pub found_unexpected : (text : List ℕ) (a : ℕ) (ts : List Token) → Finds (unexpected a) ts → Means text ts (Err (fault.Unexpected a))
found_unexpected text a ts f = inl (a, f, refl)

-- where the token at place a is found to open one construct too many, that fault is what the text means
pub found_nested : (text : List ℕ) (a : ℕ) (ts : List Token) → Finds (nested a) ts → Means text ts (Err (fault.Limit a Nesting))
found_nested text a ts f = inr (inl (a, f, refl))

-- tokens that are found to be a whole program read as one, with no construct too many
pub whole_is_read : (ts : List Token) → Finds whole ts → IsRead ts
whole_is_read ts ((p, r), f) = (p, r, f)

-- tokens that are found to begin a program, and whose last is the end of a text, read as one, with no construct too many
pub short_is_read : (ts : List Token) → EndsWell ts → Finds short ts → IsRead ts
short_is_read ts e f = let r = begun_is_whole ts e f.0 in (r.0, r.1, f)

-- The second pass over what is read gives its meaning, at the width of the text.
pub walked_is : (line : ℕ → ℕ) (ts : List Token) (n : ℕ) (p : Program) → Reads ts p → n ≡ width_of p
    → (feed line n ts begin >>= λ s. result_of s) ≡ walk line p
walked_is line ts n (program a b c ps d e is r g h) k w =
    ap₂ (λ (m : ℕ) (x : List Token). feed line m x begin >>= λ s. result_of s) w (sym k.spelled)
    ∙ program_fed line (min MOST_VARIABLES (declared_items is)) a b c ps d e is r g h k.good

-- what is given is a program within the limits
pub given_fits : (line : ℕ → ℕ) (ts : List Token) (n : ℕ) (r : IsRead ts) (x : List (List ℕ) × Statements) → n ≡ width_of r.0
    → (feed line n ts begin >>= λ s. result_of s) ≡ Ok x → IsProgram x
given_fits line ts n (p, k, f) x w e = ok_fits (walk line p) x (walk_fits line p) (sym (walked_is line ts n p k w) ∙ e)

-- What the second pass gives of tokens that read as a program, at the width of that program, is what the text means.
pub read_means : (text : List ℕ) (ts : List Token) (n : ℕ) (r : IsRead ts) → n ≡ width_of r.0
    → Means text ts (feed (line_at text) n ts begin >>= λ s. result_of s)
read_means text ts n (p, k, f) w = inr (inr (p, k, f, walked_is (line_at text) ts n p k w))

-- the width of the program that tokens read as is the number of their marks but one, at most the greatest number of variables
pub read_width : (text : List ℕ) (ts : List lex_token.Token) (n : ℕ) (r : IsRead (tokens_of text ts))
    → n ≡ min MOST_VARIABLES (total mark (map plain_token ts) - 1) → n ≡ width_of r.0
read_width text ts n (program a b c ps d e is r g h, k, f) w = width_is text ts a b c ps d e is r g h n k w

-- Every text means something.
pub some_meaning : (text : List ℕ) (ts : List Token) → EndsWell ts → (wanted : Answer) × Means text ts wanted
some_meaning text ts e = by_scan (scan start ts) (scan_finds ts) where
  by_scan : (s : Scan) → Finds s ts → (wanted : Answer) × Means text ts wanted
  by_scan whole ((p, r), f) = (walk (line_at text) p, inr (inr (p, r, f, refl)))
  by_scan short f = let r = begun_is_whole ts e f.0 in (walk (line_at text) r.0, inr (inr (r.0, r.1, f, refl)))
  by_scan (unexpected a) f = (Err (fault.Unexpected a), inl (a, f, refl))
  by_scan (nested a) f = (Err (fault.Limit a Nesting), inr (inl (a, f, refl)))
