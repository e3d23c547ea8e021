-- Tokens that end with `End` and begin a sentence are one; and the width of a sentence.
use Rattle.std.proofs.Common.{◌≡◌, ◌∙◌, ◌++◌, ◌+◌, ◌-◌, ℕ, zero, suc, List, [], ◌∷◌, length, map, min, refl, sym, ap, ap₂, subst, arith}
use Rattle.std.proofs.Common.{append_assoc}
use Rattle.std.proofs.lemmas.List.{append-nil, map-append}
use Rattle.lang_grammar.specs.Grammar.{Kind, left_paren, right_paren, left_brace, right_brace, comma, int_word, main_word, the_end, Token}
use Rattle.lang_grammar.specs.Grammar.{token, Items}
use Rattle.lang_grammar.specs.Grammar.{spell_items, Parameters, spell_parameters, Return, spell_return, Program, program, spell, Reads}
use Rattle.lang_grammar.specs.Grammar.{Begins}
use Rattle.lang_grammar.specs.View.{kind_of, plain_kind, token_of, tokens_of, plain_token}
use Rattle.lang_tokens.specs.declared.token.Kind.TheVariants as lex
use Rattle.lang_tokens.specs.declared.token.Kind as lex_kind
use Rattle.lang_tokens.specs.declared.token.Token as lex_token
use Rattle.lang_tokens.specs.Reading.{end_at}
use Rattle.lang_tokens.specs.TokenLists.{AreTokensOf}
use Rattle.lang_meaning.specs.Walk.{declared_items}
use Rattle.lang_feed.specs.Width.{total, mark}
use Rattle.lang_feed.proofs.counts.Counts.{total_append, times, IsPlain, front, front_total}
use Rattle.lang_tree.specs.declared.limits.TheConstants.{MOST_VARIABLES}

-- the end of a text
abbrev pub ending : Kind → ℕ
ending the_end = 1
ending _ = 0

-- a plain kind of token is not the end of a text
pub ending_none : (k : Kind) → IsPlain k → ending k ≡ 0
ending_none comma h = absurd h
ending_none int_word h = absurd h
ending_none the_end h = absurd h
ending_none _ h = refl

mark_none : (k : Kind) → IsPlain k → mark k ≡ 0
mark_none comma h = absurd h
mark_none int_word h = absurd h
mark_none the_end h = absurd h
mark_none _ h = refl

times_zero : (n : ℕ) → times n 0 ≡ 0
times_zero zero = refl
times_zero (suc n) = omega (arith, times_zero n)

times_one : (n : ℕ) → times n 1 ≡ n
times_one zero = refl
times_one (suc n) = omega (arith, times_one n)

abbrev body : ℕ → ℕ → ℕ → Parameters → ℕ → ℕ → Items → Return → ℕ → List Token
body a b c ps d e is r g = front ending 0 ending_none refl refl a b c ps d e is r g

spell_body : (a b c : ℕ) (ps : Parameters) (d e : ℕ) (is : Items) (r : Return) (g h : ℕ)
    → spell (program a b c ps d e is r g h) ≡ body a b c ps d e is r g ++ token the_end h ∷ []
spell_body a b c ps d e is r g h =
    ap (λ x. token int_word a ∷ token main_word b ∷ token left_paren c ∷ x)
    (ap (λ x. spell_parameters ps ++ token right_paren d ∷ token left_brace e ∷ x)
    (ap (λ x. spell_items is ++ x) (sym (append_assoc (spell_return r) (token right_brace g ∷ []) (token the_end h ∷ [])))
    ∙ sym (append_assoc (spell_items is) (spell_return r ++ token right_brace g ∷ []) (token the_end h ∷ [])))
    ∙ sym (append_assoc (spell_parameters ps)
    (token right_paren d ∷ token left_brace e ∷ (spell_items is ++ (spell_return r ++ token right_brace g ∷ []))) (token the_end h ∷ [])))

-- where the end stands once, nothing follows it
ends_there : (xs ys rest : List Token) (a b : ℕ) → total ending ys ≡ 0 → xs ++ token the_end a ∷ rest ≡ ys ++ token the_end b ∷ []
    → rest ≡ []
ends_there [] [] rest a b z e = cc
ends_there [] (token k c ∷ ys) rest a b z e = let i : k ≡ the_end = cc in let j : ending the_end + total ending ys ≡ 0 =
    subst (λ (x : Kind). ending x + total ending ys ≡ 0) i z in absurd (omega (arith, j))
ends_there (x ∷ []) [] rest a b z e = cc
ends_there (x ∷ y ∷ xs) [] rest a b z e = cc
ends_there (x ∷ xs) (token k c ∷ ys) rest a b z e = ends_there xs ys rest a b (omega (arith, z)) (cc)

-- the last token is the end
abbrev pub EndsWell : List Token → Type 0
EndsWell ts = (xs : List Token) × (a : ℕ) × (ts ≡ xs ++ token the_end a ∷ [])

-- tokens that begin a program, and whose last is the end of a text, are a whole program
pub begun_is_whole : (ts : List Token) → EndsWell ts → Begins ts → (p : Program) × Reads ts p
begun_is_whole ts (xs, a, e) (program i j c ps d f is r g h, rest, k) = (
  program i j c ps d f is r g h,
  record {
    spelled = k.spelled
        ∙ ap (λ x. ts ++ x) (ends_there xs (body i j c ps d f is r g) rest a h
        (front_total ending 0 ending_none refl refl i j c ps d f is r g
        ∙ omega (arith, times_zero (declared_items is))) (sym (append_assoc xs (token the_end a ∷ []) rest) ∙ ap (λ x. x ++ rest) (sym e)
        ∙ sym k.spelled ∙ spell_body i j c ps d f is r g h)) ∙ append-nil ts;
    good = k.good;
  },
)

-- ---- tokens of a text
pub ends_well : (text : List ℕ) (ts : List lex_token.Token) → AreTokensOf text ts → EndsWell (tokens_of text ts)
ends_well text ts h = (
  tokens_of text h.front,
  length text,
  ap (tokens_of text) (sym h.ended)
      ∙ map-append (token_of text) h.front (end_at (length text) ∷ []),
)

mark_same : (bytes : List ℕ) (k : lex_kind.Kind) → mark (plain_kind k) ≡ mark (kind_of bytes k)
mark_same bytes (lex.Word w) = refl
mark_same bytes _ = refl

marks_same : (text : List ℕ) (ts : List lex_token.Token) → total mark (map plain_token ts) ≡ total mark (tokens_of text ts)
marks_same text [] = refl
marks_same text (t ∷ ts) = ap₂ (λ (x y : ℕ). x + y) (mark_same _ t.kind) (marks_same text ts)

-- the marks of a program, but for one, are its variables
pub width_is : (text : List ℕ) (ts : List lex_token.Token) (a b c : ℕ) (ps : Parameters) (d e : ℕ) (is : Items) (r : Return) (g h n : ℕ)
    → Reads (tokens_of text ts) (program a b c ps d e is r g h) → n ≡ min MOST_VARIABLES (total mark (map plain_token ts) - 1)
    → n ≡ min MOST_VARIABLES (declared_items is)
width_is text ts a b c ps d e is r g h n k w =
    w ∙ ap (λ m. min MOST_VARIABLES (m - 1)) (marks_same text ts ∙ ap (total mark) (sym k.spelled ∙ spell_body a b c ps d e is r g h)
    ∙ total_append mark (body a b c ps d e is r g) (token the_end h ∷ [])
    ∙ ap (λ m. m + 0) (front_total mark 1 mark_none refl refl a b c ps d e is r g))
    ∙ ap (min MOST_VARIABLES) (omega (arith, times_one (declared_items is)))
