-- What the second pass gives of an expression is what it means.
use Rattle.std.proofs.Common.{◌≡◌, ◌∙◌, ◌+◌, ◌-◌, ◌++◌, ◌<◌, ◌≤◌, inl, inr, ℕ, zero, suc, List, [], ◌∷◌, length, map, take, drop, get_or}
use Rattle.std.proofs.Common.{Result, Ok, Err, refl, sym, ap, ap₂, subst}
use Rattle.std.proofs.Common.{arith, append_assoc}
use Rattle.std.proofs.Math.Seq.{take-append_seam}
use Rattle.std.proofs.lemmas.List.{drop-map, drop_more, length-append, length-drop, length-map, take_rest}
use Rattle.std.specs.Prelude.{slice_range}
use Rattle.lang_grammar.specs.Grammar.{the_end, semicolon, Token, token, Expr, spell_expr, Groups}
use Rattle.lang_grammar.specs.Expressions.{IsLongest, Reach, reaches, runs_out, stops_at, nests_at, FindsExpr}
use Rattle.lang_grammar.specs.Reaches.{expression_start, reach, reach_of}
use Rattle.lang_grammar.specs.declared.expression.Extent as code_extent
use Rattle.lang_grammar.specs.View.{token_of, tokens_of}
use Rattle.lang_grammar.proofs.phrase.Found.{reach_finds}
use Rattle.lang_tokens.specs.Lines.{line_at}
use Rattle.lang_tokens.specs.Reading.{end_at}
use Rattle.lang_tokens.specs.TokenLists.{AreTokensAfter, AreTokensOf}
use Rattle.lang_tokens.specs.declared.token.Token as lex_token
use Rattle.lang_meaning.specs.declared.fault.ParseFault.{ParseFault}
use Rattle.lang_meaning.specs.declared.fault.ParseFault.TheVariants as fault
use Rattle.lang_meaning.specs.declared.fault.Limit.TheVariants.{Nesting}
use Rattle.lang_meaning.specs.Expressions.{Meaning, knowing, meaning_of, first_place, meant}
use Rattle.lang_meaning.specs.ExpressionAnswers.{ExpressionAnswer, ExpressionMeans, HasLongest, IsRefused}
use Rattle.lang_feed.specs.Readings.{value_there, valued, reading_of}
use Rattle.lang_meaning.specs.Feed.{wants, has, Machine, at, Outcome, feed, feed_one}
use Rattle.lang_meaning.specs.Results.{◌>>=◌}
use Rattle.lang_meaning.specs.Walk.{Value, a_form, a_truth, a_nondet, State}
use Rattle.lang_feed.proofs.feed.Expressions.{fed_expr}
use Rattle.lang_feed.proofs.feed.SmallConditions.{walk_small, Same, small_then, few_same}
use Rattle.lang_meaning.proofs.results.Binds.{bind_assoc, bind_same}
use Rattle.lang_feed.proofs.counts.Counts.{expr_total, total_append}
use Rattle.lang_feed.proofs.counts.WholeTexts.{EndsWell, ending, ending_none, ends_well}
use Rattle.lang_feed.specs.Width.{total}

-- ---- tokens that end with `End` do not end within an expression
drop_end : (xs : List Token) (t : Token) (i : ℕ) → i < length (xs ++ t ∷ []) → (ys : List Token) × (drop i (xs ++ t ∷ []) ≡ ys ++ t ∷ [])
drop_end xs t zero h = (xs, refl)
drop_end [] t (suc i) h = absurd (omega arith)
drop_end (x ∷ xs) t (suc i) h = drop_end xs t i (omega (arith, h))

ends_behind : (ts : List Token) (from : ℕ) → EndsWell ts → from < length ts → EndsWell (drop from ts)
ends_behind ts from (xs, a, e) h =
    let d = drop_end xs (token the_end a) from (subst (λ (x : List Token). from < length x) e h) in (d.0, a, ap (drop from) e ∙ d.1)

tokens_length : (text : List ℕ) (ts : List lex_token.Token) (from : ℕ) → from < length ts → from < length (tokens_of text ts)
tokens_length text ts from h = let i = length-map ts (token_of text) in omega (arith, h, i)

-- from any of its tokens on, the last of a text's tokens is its end
pub ends_from : (text : List ℕ) (ts : List lex_token.Token) (from : ℕ) → AreTokensOf text ts → from < length ts
    → EndsWell (drop from (tokens_of text ts))
ends_from text ts from a h = ends_behind (tokens_of text ts) from (ends_well text ts a) (tokens_length text ts from h)

-- tokens whose last is the end of a text do not run out within an expression
pub never_out : (ts : List Token) → EndsWell ts → FindsExpr runs_out ts → ⊥
never_out ts (xs, a, e) ((p, rest, r), f) =
    let i : spell_expr p ≡ xs ++ token the_end a ∷ rest = r.spelled ∙ ap (λ x. x ++ rest) e ∙ append_assoc xs (token the_end a ∷ []) rest in
    let n : 0 ≡ total ending (xs ++ token the_end a ∷ rest) = sym (expr_total ending 0 ending_none refl refl p) ∙ ap (total ending) i in
    let m : total ending (xs ++ token the_end a ∷ rest) ≡ total ending xs + (1 + total ending rest) =
    total_append ending xs (token the_end a ∷ rest) in
    omega (arith, n, m)

-- what is found of the tokens from one on
pub found_from : (text : List ℕ) (ts : List lex_token.Token) (from : ℕ) (s x : code_extent.Extent) → s ≡ x
    → FindsExpr (reach_of s) (tokens_of text (slice_range ts from (length ts)))
    → FindsExpr (reach_of x) (drop from (tokens_of text ts))
found_from text ts from s x e f =
    let i = ap (tokens_of text) (take_rest ts from) ∙ sym (drop-map (token_of text) from ts) in
    subst (λ (y : List Token). FindsExpr (reach_of x) y) i (subst (λ y. FindsExpr (reach_of y)
    (tokens_of text (slice_range ts from (length ts)))) e f)

-- Every place where tokens may begin with an expression means something.
pub some_meaning : (text : List ℕ) (ts : List Token) (from : ℕ) (names : List (List ℕ)) → EndsWell (drop from ts)
    → (wanted : ExpressionAnswer) × ExpressionMeans text ts from names wanted
some_meaning text ts from names w = by_reach (reach expression_start (drop from ts)) (reach_finds (drop from ts)) where
  by_reach : (x : Reach) → FindsExpr x (drop from ts) → (wanted : ExpressionAnswer) × ExpressionMeans text ts from names wanted
  by_reach (reaches n) (e, l) = (meant text names (first_place (drop from ts)) e >>= (λ m. Ok (m, from + n)), inr (inr (e, n, l, refl)))
  by_reach runs_out f = absurd (never_out (drop from ts) w f)
  by_reach (stops_at a) f = (Err (fault.Unexpected a), inl (a, f, refl))
  by_reach (nests_at a) f = (Err (fault.Limit a Nesting), inr (inl (a, f, refl)))

-- where the token at place a is found to be unexpected in an expression, the tokens are refused with that fault, whatever the names
pub refused_stops : (text : List ℕ) (ts : List Token) (from a : ℕ) → FindsExpr (stops_at a) (drop from ts)
    → IsRefused text ts from (fault.Unexpected a)
refused_stops text ts from a f = λ names. inl (a, f, refl)

-- where the token at place a is found to open one construct too many, the tokens are refused with that fault, whatever the names
pub refused_nests : (text : List ℕ) (ts : List Token) (from a : ℕ) → FindsExpr (nests_at a) (drop from ts)
    → IsRefused text ts from (fault.Limit a Nesting)
refused_nests text ts from a f = λ names. inr (inl (a, f, refl))

-- ---- the second pass
feed_append : (line : ℕ → ℕ) (width : ℕ) (xs ys : List Token) (s : Machine)
    → feed line width (xs ++ ys) s ≡ feed line width xs s >>= λ r. feed line width ys r
feed_append line width [] ys s = refl
feed_append line width (x ∷ xs) ys s =
    bind_same (feed_one line width s x) (λ r. feed line width (xs ++ ys) r) (λ r. feed line width xs r >>= λ q. feed line width ys q)
    (λ r. feed_append line width xs ys r)
    ∙ sym (bind_assoc (feed_one line width s x) (λ r. feed line width xs r) (λ q. feed line width ys q))

bind_ok : {A : Type 0} (r : Result A ParseFault) → r >>= (λ x. Ok x) ≡ r
bind_ok (Ok x) = refl
bind_ok (Err e) = refl

module _ (line : ℕ → ℕ) (width : ℕ) (st : State) where
  valued_is : (a : ℕ) (e : Expr) → Groups 0 e → valued line width st a (spell_expr e) ≡ walk_small line width st e
  valued_is a e g =
      let t = token semicolon a in
      let s = at st [] wants in
      bind_same (feed line width (spell_expr e) s) (λ r. feed_one line width r t >>= λ q. value_there a q)
      (λ r. feed line width (t ∷ []) r >>= λ q. value_there a q) (λ r. ap (λ (x : Outcome). x >>= λ q. value_there a q)
      (sym (bind_ok (feed_one line width r t))))
      ∙ sym (bind_assoc (feed line width (spell_expr e) s) (λ r. feed line width (t ∷ []) r) (λ q. value_there a q))
      ∙ ap (λ (x : Outcome). x >>= λ q. value_there a q) (sym (feed_append line width (spell_expr e) (t ∷ []) s)
      ∙ fed_expr line width st e 0 [] t [] g tt tt)
      ∙ bind_assoc (walk_small line width st e) (λ v. feed line width (t ∷ []) (at st [] (has v))) (λ q. value_there a q)
      ∙ bind_ok (walk_small line width st e)

meaning_respects : (line : ℕ → ℕ) (width a : ℕ) (v w : Value) → Same v w → meaning_of a v ≡ meaning_of a w
meaning_respects line width a (a_form f b) w e = ap (meaning_of a) e
meaning_respects line width a (a_nondet b) w e = ap (meaning_of a) e
meaning_respects line width a (a_truth c) (a_truth d) e = ap (λ r. r >>= λ x. Ok (Rattle.lang_meaning.specs.Expressions.a_condition x))
    (few_same line width a c d e)
meaning_respects line width a (a_truth c) (a_form f b) e = absurd e
meaning_respects line width a (a_truth c) (a_nondet b) e = absurd e

-- The second pass over the tokens of an expression gives what the expression means, with the number of the token behind it.
pub reading_is : (text : List ℕ) (names : List (List ℕ)) (a : ℕ) (e : Expr) (next : ℕ) → Groups 0 e
    → reading_of text names a (spell_expr e) next ≡ meant text names a e >>= λ m. Ok (m, next)
reading_is text names a e next g =
    ap (λ (r : Result Value ParseFault). r >>= λ v. meaning_of a v >>= λ m. Ok (m, next))
    (valued_is (line_at text) (length names) (knowing names) a e g)
    ∙ sym (bind_assoc (walk_small (line_at text) (length names) (knowing names) e) (λ v. meaning_of a v) (λ m. Ok (m, next)))
    ∙ small_then (line_at text) (length names) (knowing names) e (λ v. meaning_of a v) (λ m. Ok (m, next))
    (meaning_respects (line_at text) (length names) a)

-- ---- the tokens of the code
take-map : {X Y : Type 0} (f : X → Y) (n : ℕ) (xs : List X) → map f (take n xs) ≡ take n (map f xs)
take-map f zero xs = refl
take-map f (suc n) [] = refl
take-map f (suc n) (x ∷ xs) = ap (λ ys. f x ∷ ys) (take-map f n xs)

module _ (text : List ℕ) (ts : List lex_token.Token) (from n : ℕ) (e : Expr) (l : IsLongest (drop from (tokens_of text ts)) n e) where
  spelled : tokens_of text (slice_range ts from (from + n)) ≡ spell_expr e
  spelled =
      let i : from + n - from ≡ n = omega arith in
      ap (λ k. map (token_of text) (take k (drop from ts))) i ∙ take-map (token_of text) n (drop from ts)
      ∙ ap (take n) (sym (drop-map (token_of text) from ts) ∙ l.split)
      ∙ ap (λ k. take k (l.front ++ l.next ∷ l.rest)) (sym l.size) ∙ take-append_seam l.front (l.next ∷ l.rest) ∙ sym l.reads.spelled

first_is : (text : List ℕ) (ts : List lex_token.Token) (from : ℕ) (d : lex_token.Token) → from < length ts
    → first_place (drop from (tokens_of text ts)) ≡ (get_or ts from d).at
first_is text ts from d h = ap first_place (drop-map (token_of text) from ts ∙ ap (map (token_of text)) (drop_more ts from d h))

-- What the second pass gives is meant.
pub reading_means : (text : List ℕ) (ts : List lex_token.Token) (from n : ℕ) (d : lex_token.Token) (names : List (List ℕ))
    → from < length ts
    → HasLongest (drop from (tokens_of text ts)) n
    → ExpressionMeans text (tokens_of text ts) from names (reading_of text names (get_or ts from d).at
    (tokens_of text (slice_range ts from (from + n))) (from + n))
reading_means text ts from n d names h (e, l) = inr (inr (
  e,
  n,
  l,
  ap₂ (λ x y. reading_of text names x y (from + n)) (sym (first_is text ts from d h)) (spelled text ts from n e l)
      ∙ reading_is text names (first_place (drop from (tokens_of text ts))) e (from + n) l.reads.good,
))

-- ---- how many tokens there are
few_after : (text : List ℕ) (place : ℕ) (ts : List lex_token.Token) → place ≤ length text → AreTokensAfter text place ts
    → place + length ts ≤ length text
few_after text place [] p h = omega arith
few_after text place (t ∷ ts) p h =
    let i = few_after text (t.at + t.len) ts h.0.within h.1 in let j = h.0.after in let k = h.0.some in omega (arith, i, j, k)

-- a text has at most one token more than it has bytes
pub few_tokens : (text : List ℕ) (ts : List lex_token.Token) → AreTokensOf text ts → length ts ≤ length text + 1
few_tokens text ts h =
    let i = few_after text 0 h.front (omega arith) h.placed in
    let j = ap length (sym h.ended) ∙ length-append h.front (end_at (length text) ∷ []) in omega (arith, i, j)

-- behind the longest expression there is a token
pub longest_within : (text : List ℕ) (ts : List lex_token.Token) (from n : ℕ) → from < length ts
    → HasLongest (drop from (tokens_of text ts)) n → from + n < length ts
longest_within text ts from n h (e, l) =
    let i = length-map ts (token_of text) in
    let j = sym (length-drop from (tokens_of text ts)) ∙ ap length l.split ∙ length-append l.front (l.next ∷ l.rest) in
    let k = l.size in omega (arith, h, i, j, k)
