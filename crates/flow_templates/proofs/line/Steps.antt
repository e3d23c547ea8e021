-- What a line reads as.
use Rattle.std.proofs.Common.{◌≡◌, ◌+◌, ℕ, List, [], ◌∷◌, ◌++◌, length, map, IsFalse, Option, None, Some, MatchOption, Vec, Global, eqb, ap}
use Rattle.std.proofs.Common.{sym, subst}
use Rattle.std.proofs.Common.{◌∙◌, arith}
use Rattle.std.proofs.lemmas.Int.{ints}
use Rattle.std.specs.List.{list_any}
use Rattle.lang_tokens.specs.declared.lexicon.Lexicon.TheVariants.{Own}
use Rattle.lang_tokens.specs.declared.token.Token.{Token}
use Rattle.lang_tokens.specs.declared.token.Kind.{Kind}
use Rattle.lang_tokens.specs.declared.token.Kind.TheVariants as kind
use Rattle.lang_tokens.specs.Lexemes.{IsToken}
use Rattle.lang_tokens.specs.Reading.{Reads, end_at}
use Rattle.lang_tokens.specs.TokenLists.{AreTokensAfter, AreTokensOf}
use Rattle.lang_tokens.proofs.reading.Once.{one_token_list}
use Rattle.flow_templates.specs.declared.term.Term.{Term}
use Rattle.flow_templates.specs.Grammar.{Amount, amount, symbols_of, Spells, ReadsTerms}
use Rattle.flow_templates.specs.Kept.{kept_amount, IsUnsigned, AllFit, SpellsKept, NoRow, ReadsKept}
use Rattle.flow_templates.proofs.grammar.Spelling.{one_spelling}

-- a line reads as one list of amounts at most
pub one_terms : (line : List ℕ) (a b : List Amount) → ReadsTerms line a → ReadsTerms line b → a ≡ b
one_terms line a b r s =
    let same : r.tokens ≡ s.tokens = one_token_list Own line r.tokens s.tokens r.reads s.reads in
    let spelled : Spells (symbols_of line s.tokens) r.terms = subst (λ tokens. Spells (symbols_of line tokens) r.terms) same r.spelled in
    sym r.stand_for ∙ (ap (map amount) (one_spelling (symbols_of line s.tokens) r.terms s.terms spelled s.spelled) ∙ s.stand_for)

unsigned_token : (k : Kind) (bytes : List ℕ) → IsToken k bytes → IsUnsigned k
unsigned_token (kind.Number value) bytes h = rw h.value_is (omega (arith, ints))
unsigned_token _ bytes h = tt

front_fits : (line : List ℕ) (place : ℕ) (front : List Token) → AreTokensAfter line place front
    → AllFit line (front ++ end_at (length line) ∷ [])
front_fits line place [] h = (record { within = omega arith; unsigned = tt }, tt)
front_fits line place (t ∷ ts) h =
    (record { within = h.0.within; unsigned = unsigned_token t.kind _ h.0.is_token }, front_fits line (t.at + t.len) ts h.1)

-- the tokens of a line lie on it
pub tokens_fit : (line : List ℕ) (tokens : List Token) → AreTokensOf line tokens → AllFit line tokens
tokens_fit line tokens h = subst (AllFit line) h.ended (front_fits line 0 h.front h.placed)

-- a line without tokens is no row
pub untold_is_none : (line : List ℕ) → ((tokens : List Token) → Reads Own line tokens → ⊥) → (amounts : List Amount)
    → ReadsTerms line amounts
    → ⊥
untold_is_none line h amounts r = h r.tokens r.reads

-- tokens that spell no row are none
unspelled_is_none : (line : List ℕ) (tokens : List Token) → Reads Own line tokens → NoRow (symbols_of line tokens) → (amounts : List Amount)
    → ReadsTerms line amounts → ⊥
unspelled_is_none line tokens reads h amounts r =
    h r.terms (subst (λ ts. Spells (symbols_of line ts) r.terms) (one_token_list Own line r.tokens tokens r.reads reads) r.spelled)

reads_kept : (line : List ℕ) (tokens : List Token) (kept : List Term) → IsFalse (list_any (λ b. eqb b 47) line) → Reads Own line tokens
    → SpellsKept (symbols_of line tokens) kept → ReadsKept line kept
reads_kept line tokens kept slash reads h =
    let here : ReadsTerms line (map kept_amount kept) = record {
      no_slash = slash;
      tokens = tokens;
      reads = reads;
      terms = h.terms;
      spelled = h.spelled;
      stand_for = h.stand_for;
    } in
    record { reads = here; only = λ amounts r. one_terms line amounts (map kept_amount kept) r here }

-- what the tokens of a line tell of it
pub terms_told : (line : List ℕ) (tokens : List Token) (found : Option (Vec Term Global)) → IsFalse (list_any (λ b. eqb b 47) line)
    → Reads Own line tokens → MatchOption found (NoRow (symbols_of line tokens)) (λ terms. SpellsKept (symbols_of line tokens) terms.items)
    → MatchOption found ((amounts : List Amount) → ReadsTerms line amounts → ⊥) (λ terms. ReadsKept line terms.items)
terms_told line tokens None slash reads h = unspelled_is_none line tokens reads h
terms_told line tokens (Some terms) slash reads h = reads_kept line tokens terms.items slash reads h
