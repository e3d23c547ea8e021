-- The brackets of elements, and what is spelled between them.
use Rattle.std.proofs.Common.{◌≡◌, ◌∙◌, ◌+◌, ◌≤◌, ◌<◌, ℕ, ℤ, suc, List, [], ◌∷◌, ◌++◌, length, map, drop, get_or, Option, None, Some, refl}
use Rattle.std.proofs.Common.{sym, ap}
use Rattle.std.proofs.Common.{append_assoc, arith}
use Rattle.std.proofs.lemmas.List.{at_drop_more, at_drop_all}
use Rattle.lang_tokens.specs.declared.token.Token as lex_token
use Rattle.lang_tokens.specs.declared.token.Kind as lex_kind
use Rattle.source_grammar.specs.Tokens.{Kind, Token, token, Prefix, negative, positive, negation, left_bracket, right_bracket, sign_of}
use Rattle.source_grammar.specs.Tokens.{a_name, a_number}
use Rattle.source_grammar.specs.Grammar.{Expr, Arguments, MoreArguments, Subscripts, number, variable, element, call, stepped_behind}
use Rattle.source_grammar.specs.Grammar.{stepped_before, free, grouped, prefixed, joined, chosen, no_arguments, arguments, last_argument}
use Rattle.source_grammar.specs.Grammar.{next_argument, last_subscript, next_subscript, spell_expr, spell_arguments}
use Rattle.source_grammar.specs.Grammar.{spell_more_arguments, spell_subscripts}
use Rattle.source_grammar.specs.View.{plain_kind}
use Rattle.source_meaning.specs.Expressions.{subscript_count}
use Rattle.source_tokens.specs.declared.definition.Definition.{Definition}
use Rattle.source_tokens.specs.Constants.{constant_at}
use Rattle.source_tokens.specs.View.{bytes_of, kind_of, tokens_of}
use Rattle.source_reader.specs.Reading.{first_kind}
use Rattle.source_reader.specs.Brackets.{bracket_in, bracket_of, opened_in, Counts}
use Rattle.source_reader.specs.declared.brackets.Brackets.{Brackets}
use Rattle.source_reader.specs.declared.brackets.Bracket.{Bracket}
use Rattle.source_reader.specs.declared.brackets.Bracket.TheVariants.{Other}

-- how many brackets open outside of others at this depth, up to the first token outside of them that opens none
abbrev opened : ℕ → List Token → ℕ
opened depth ts = opened_in depth (map bracket_of ts)

-- the brackets among these tokens match, so behind them the depth is as before
record Passes (xs : List Token) : Type 0 where
  on : (depth : ℕ) (ts : List Token) → opened (suc depth) (xs ++ ts) ≡ opened (suc depth) ts

nothing : Passes []
nothing = record { on = λ depth ts. refl }

both : {xs ys : List Token} → Passes xs → Passes ys → Passes (xs ++ ys)
both {xs} {ys} f g = record {
  on = λ depth ts. ap (opened (suc depth)) (append_assoc xs ys ts) ∙ f.on depth (ys ++ ts) ∙ g.on depth ts;
}

behind : {k : Kind} {a : ℕ} {xs : List Token} → bracket_in k ≡ Other → Passes xs → Passes (token k a ∷ xs)
behind {xs} e f = record {
  on = λ depth ts. ap (λ b. opened_in (suc depth) (b ∷ map bracket_of (xs ++ ts))) e ∙ f.on depth ts;
}

no_bracket : (p : Prefix) → bracket_in (sign_of p) ≡ Other
no_bracket negative = refl
no_bracket positive = refl
no_bracket negation = refl

mutual
  passes_expr : (e : Expr) → Passes (spell_expr e)
  passes_expr (number n a) = behind refl nothing
  passes_expr (variable x a) = behind refl nothing
  passes_expr (element x a is) = behind refl (passes_subscripts is)
  passes_expr (call x a b es c) = behind refl (behind refl (both (passes_arguments es) (behind refl nothing)))
  passes_expr (stepped_behind x a g b) = behind refl (behind refl nothing)
  passes_expr (stepped_before g a x b) = behind refl (behind refl nothing)
  passes_expr (free a b c) = behind refl (behind refl (behind refl nothing))
  passes_expr (grouped a e b) = behind refl (both (passes_expr e) (behind refl nothing))
  passes_expr (prefixed p a e) = behind (no_bracket p) (passes_expr e)
  passes_expr (joined e o a f) = both (passes_expr e) (behind refl (passes_expr f))
  passes_expr (chosen c a e b f) = both (passes_expr c) (behind refl (both (passes_expr e) (behind refl (passes_expr f))))

  passes_arguments : (es : Arguments) → Passes (spell_arguments es)
  passes_arguments no_arguments = nothing
  passes_arguments (arguments e es) = both (passes_expr e) (passes_more es)

  passes_more : (es : MoreArguments) → Passes (spell_more_arguments es)
  passes_more last_argument = nothing
  passes_more (next_argument a e es) = behind refl (both (passes_expr e) (passes_more es))

  passes_subscripts : (is : Subscripts) → Passes (spell_subscripts is)
  passes_subscripts (last_subscript a e b) = record {
    on = λ depth ts. ap (opened (suc (suc depth))) (append_assoc (spell_expr e) (token right_bracket b ∷ []) ts)
        ∙ (passes_expr e).on (suc depth) (token right_bracket b ∷ ts);
  }
  passes_subscripts (next_subscript a e b is) = record {
    on = λ depth ts.
        ap (opened (suc (suc depth))) (append_assoc (spell_expr e) (token right_bracket b ∷ spell_subscripts is) ts)
        ∙ (passes_expr e).on (suc depth) (token right_bracket b ∷ (spell_subscripts is ++ ts)) ∙ (passes_subscripts is).on depth ts;
  }

ends : (ts : List Token) → (first_kind ts ≡ left_bracket → ⊥) → opened 0 ts ≡ 0
ends [] h = refl
ends (token left_bracket a ∷ ts) h = absurd (h refl)
ends (token right_bracket a ∷ ts) h = refl
ends (token _ a ∷ ts) h = refl

-- the indexes of an element are counted, where no further one comes
pub counts_subscripts : (is : Subscripts) (ts : List Token) → (first_kind ts ≡ left_bracket → ⊥)
    → opened_in 0 (map bracket_of (spell_subscripts is ++ ts)) ≡ subscript_count is
counts_subscripts (last_subscript a e b) ts h =
    ap (λ us. suc (opened 1 us)) (append_assoc (spell_expr e) (token right_bracket b ∷ []) ts)
    ∙ ap suc ((passes_expr e).on 0 (token right_bracket b ∷ ts)) ∙ ap suc (ends ts h)
counts_subscripts (next_subscript a e b is) ts h =
    ap (λ us. suc (opened 1 us)) (append_assoc (spell_expr e) (token right_bracket b ∷ spell_subscripts is) ts)
    ∙ ap suc ((passes_expr e).on 0 (token right_bracket b ∷ (spell_subscripts is ++ ts))) ∙ ap suc (counts_subscripts is ts h)

-- the bracket of a token of the code
abbrev pub code_bracket : lex_token.Token → Bracket
code_bracket t = bracket_in (kind_of [] None t.kind)

plain_bracket : (k : Kind) → bracket_in (plain_kind k) ≡ bracket_in k
plain_bracket (a_name x) = refl
plain_bracket (a_number n) = refl
plain_bracket _ = refl

-- what a token's symbol says of it
pub code_bracket_is : (b : Bracket) (k : Kind) (t : lex_token.Token) → b ≡ bracket_in k
    → ((bytes : List ℕ) (value : Option ℤ) → k ≡ plain_kind (kind_of bytes value t.kind)) → b ≡ code_bracket t
code_bracket_is b k t e f = e ∙ ap bracket_in (f [] None) ∙ plain_bracket (kind_of [] None t.kind)

-- the brackets of the tokens are those of the code's
pub code_brackets : (constants : List Definition) (text : List ℕ) (ts : List lex_token.Token)
    → map code_bracket ts ≡ map bracket_of (tokens_of constants text ts)
code_brackets constants text [] = refl
code_brackets constants text (t ∷ ts) = ap (λ b. b ∷ map code_bracket ts) (own t.kind) ∙ ap (λ bs. own_bracket ∷ bs)
    (code_brackets constants text ts) where
      value : Option ℤ
      value = constant_at constants (bytes_of text t) t.at

      own_bracket : Bracket
      own_bracket = bracket_in (kind_of (bytes_of text t) value t.kind)

      own : (k : lex_kind.Kind) → bracket_in (kind_of [] None k) ≡ bracket_in (kind_of (bytes_of text t) value k)
      own lex_kind.TheVariants.Name = refl
      own _ = refl

-- the count goes on from here, with the rest of the tokens, within so many
abbrev pub CountsOn : Brackets → ℕ → List lex_token.Token → Type 0
CountsOn b i items =
    (b.opened + opened_in b.depth (map code_bracket (drop i items)) ≡ opened_in 0 (map code_bracket items)) × (b.opened + b.depth ≤ i + i)

at_token : (items : List lex_token.Token) (i : ℕ) (d : lex_token.Token) (t : Bracket) (k : Kind) → i < length items → t ≡ bracket_in k
    → ((bytes : List ℕ) (value : Option ℤ) → k ≡ plain_kind (kind_of bytes value (get_or items i d).kind))
    → map code_bracket (drop i items) ≡ t ∷ map code_bracket (drop (i + 1) items)
at_token items i d t k h e f = at_drop_more (map code_bracket) items i d h
    ∙ ap (λ b. b ∷ map code_bracket (drop (i + 1) items)) (sym (code_bracket_is t k (get_or items i d) e f))

-- it goes on behind one more token
pub counts_more : (items : List lex_token.Token) (i : ℕ) (d : lex_token.Token) (b c : Brackets) (t : Bracket) (k : Kind)
    → i < length items → t ≡ bracket_in k
    → ((bytes : List ℕ) (value : Option ℤ) → k ≡ plain_kind (kind_of bytes value (get_or items i d).kind))
    → CountsOn b i items → Counts b t (Some c) → CountsOn c (i + 1) items
counts_more items i d b c t k h e f was more = (
  sym (more.0 (map code_bracket (drop (i + 1) items)))
      ∙ ap (λ bs. b.opened + opened_in b.depth bs) (sym (at_token items i d t k h e f)) ∙ was.0,
  (let l = was.1 in let m = more.1 in omega (arith, l, m)),
)

-- or ends there
pub counts_no_more : (items : List lex_token.Token) (i : ℕ) (d : lex_token.Token) (b : Brackets) (t : Bracket) (k : Kind)
    → i < length items → t ≡ bracket_in k
    → ((bytes : List ℕ) (value : Option ℤ) → k ≡ plain_kind (kind_of bytes value (get_or items i d).kind))
    → CountsOn b i items → Counts b t None → b.opened ≡ opened_in 0 (map code_bracket items)
counts_no_more items i d b t k h e f was none =
    let z = none (map code_bracket (drop (i + 1) items)) in
    let o = ap (opened_in b.depth) (at_token items i d t k h e f) in
    let w = was.0 in omega (arith, z, o, w)

-- or behind the last token
pub counts_all : (items : List lex_token.Token) (i : ℕ) (b : Brackets) → length items ≤ i → CountsOn b i items
    → b.opened ≡ opened_in 0 (map code_bracket items)
counts_all items i b h was =
    let o = at_drop_all (λ ts. opened_in b.depth (map code_bracket ts)) items i h in let w = was.0 in omega (arith, o, w)
