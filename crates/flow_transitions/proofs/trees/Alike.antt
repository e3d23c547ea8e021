-- Tokens that stand in no expression don't matter to how far one reaches.
use Rattle.std.proofs.Common.{◌≡◌, ◌∙◌, ◌++◌, ◌⊎◌, inl, inr, ℕ, zero, suc, Bool, true, false, List, [], ◌∷◌, drop, refl, sym, ap}
use Rattle.std.proofs.Common.{ap₂, subst}
use Rattle.lang_grammar.specs.Expressions.{BeginsExpr, IsLongest, FindsExpr, stops_at, nests_at}
use Rattle.lang_grammar.specs.Grammar.{Kind, demand_word, other_word, Prefix, negative, positive, negation, sign_of, Token}
use Rattle.lang_grammar.specs.Grammar.{token}
use Rattle.lang_grammar.specs.Grammar.{Expr, number, variable, free, grouped, prefixed, joined, spell_expr}
use Rattle.lang_grammar.specs.View.{tokens_of, kind_of}
use Rattle.lang_tokens.specs.declared.word.Word.TheVariants as word
use Rattle.lang_tokens.specs.declared.token.Kind as lex_kind
use Rattle.lang_tokens.specs.declared.token.Token as lex_token
use Rattle.flow_transitions.specs.AutoGrammar.{kind_here, tokens_here}

-- it stands in no expression
abbrev pub is_foreign : Kind → Bool
is_foreign (demand_word d) = true
is_foreign other_word = true
is_foreign _ = false

abbrev AllOwn : List Token → Type 0
AllOwn [] = Unit {0}
AllOwn (token k a ∷ ts) = (is_foreign k ≡ false) × AllOwn ts

own_append : (xs ys : List Token) → AllOwn xs → AllOwn ys → AllOwn (xs ++ ys)
own_append [] ys g h = h
own_append (token k a ∷ xs) ys g h = (g.0, own_append xs ys g.1 h)

own_front : (xs ys : List Token) → AllOwn (xs ++ ys) → AllOwn xs
own_front [] ys g = tt
own_front (token k a ∷ xs) ys g = (g.0, own_front xs ys g.1)

own_next : (xs : List Token) (k : Kind) (a : ℕ) → AllOwn (xs ++ token k a ∷ []) → is_foreign k ≡ false
own_next [] k a g = g.0
own_next (token l b ∷ xs) k a g = own_next xs k a g.1

sign_own : (p : Prefix) → is_foreign (sign_of p) ≡ false
sign_own negative = refl
sign_own positive = refl
sign_own negation = refl

expr_own : (e : Expr) → AllOwn (spell_expr e)
expr_own (number n a) = (refl, tt)
expr_own (variable x a) = (refl, tt)
expr_own (free a b c) = (refl, (refl, (refl, tt)))
expr_own (grouped a e b) = (refl, own_append (spell_expr e) _ (expr_own e) (refl, tt))
expr_own (prefixed p a e) = (sign_own p, expr_own e)
expr_own (joined e o a f) = own_append (spell_expr e) _ (expr_own e) (refl, expr_own f)

begun_own : (xs : List Token) → BeginsExpr xs → AllOwn xs
begun_own xs (e, rest, r) = let g : AllOwn (xs ++ rest) = subst AllOwn r.spelled (expr_own e) in own_front xs rest g

-- they are the same, or both stand in no expression
abbrev Same : Kind → Kind → Type 0
Same k l = (k ≡ l) ⊎ ((is_foreign k ≡ true) × (is_foreign l ≡ true))

abbrev pub Alike : List Token → List Token → Type 0
Alike [] [] = Unit {0}
Alike (token k a ∷ xs) (token l b ∷ ys) = Same k l × (a ≡ b) × Alike xs ys
Alike [] (y ∷ ys) = ⊥
Alike (x ∷ xs) [] = ⊥

both_ways : {b : Bool} → b ≡ true → b ≡ false → ⊥
both_ways i j = let k : true ≡ false = sym i ∙ j in cc

-- what an expression begins with is there, too
split_there : (front : List Token) (k : Kind) (a : ℕ) (rest ys : List Token) → AllOwn front → Alike (front ++ token k a ∷ rest) ys
    → (l : Kind) × (more : List Token) × (ys ≡ front ++ token l a ∷ more) × Same k l
split_there [] k a rest [] o h = absurd h
split_there [] k a rest (token l b ∷ ys) o h = (l, ys, ap (λ c. token l c ∷ ys) (sym h.1), h.0)
split_there (token m c ∷ front) k a rest [] o h = absurd h
split_there (token m c ∷ front) k a rest (token l b ∷ ys) o h =
    let q = split_there front k a rest ys o.1 h.2 in (
      q.0,
      q.1,
      ap₂ (λ (z : Token) zs. z ∷ zs) (ap₂ token (sym (same h.0)) (sym h.1)) q.2,
      q.3,
    ) where
      same : Same m l → m ≡ l
      same (inl e) = e
      same (inr (e, f)) = absurd (both_ways e o.0)

stops_there : (front : List Token) (k l : Kind) (a : ℕ) → Same k l → (BeginsExpr (front ++ token k a ∷ []) → ⊥)
    → BeginsExpr (front ++ token l a ∷ []) → ⊥
stops_there front k l a (inl e) n b = n (subst (λ z. BeginsExpr (front ++ token z a ∷ [])) (sym e) b)
stops_there front k l a (inr (e, f)) n b = both_ways f (own_next front l a (begun_own _ b))

same_next : (front : List Token) (k l : Kind) (a : ℕ) → Same k l → BeginsExpr (front ++ token k a ∷ []) → l ≡ k
same_next front k l a (inl e) b = sym e
same_next front k l a (inr (e, f)) b = absurd (both_ways e (own_next front k a (begun_own _ b)))

-- tokens that are alike have the same longest expression at their front
pub longest_there : (xs ys : List Token) (n : ℕ) (e : Expr) → Alike xs ys → IsLongest xs n e → IsLongest ys n e
longest_there xs ys n e h l = on l.next l.split l.ends where
  own : AllOwn l.front
  own = subst AllOwn l.reads.spelled (expr_own e)

  on : (t : Token) → xs ≡ l.front ++ t ∷ l.rest → (BeginsExpr (l.front ++ t ∷ []) → ⊥) → IsLongest ys n e
  on (token k a) split ends =
      let q = split_there l.front k a l.rest ys own (subst (λ z. Alike z ys) split h) in
      record {
        front = l.front;
        next = token q.0 a;
        rest = q.1;
        split = q.2;
        size = l.size;
        reads = l.reads;
        ends = stops_there l.front k q.0 a q.3 ends;
        fine = l.fine;
      }

-- tokens that are alike have the first unexpected one of their expression at the same place
pub stops_alike : (xs ys : List Token) (a : ℕ) → Alike xs ys → FindsExpr (stops_at a) xs → FindsExpr (stops_at a) ys
stops_alike xs ys a h (front, k, rest, split, fine, unread, stops) =
    let q = split_there front k a rest ys (begun_own front fine.0) (subst (λ z. Alike z ys) split h) in
    (front, q.0, q.1, q.2, fine, unread, stops_there front k q.0 a q.3 stops)

-- tokens that are alike have the first of an expression that is too deep at the same place
pub nests_alike : (xs ys : List Token) (a : ℕ) → Alike xs ys → FindsExpr (nests_at a) xs → FindsExpr (nests_at a) ys
nests_alike xs ys a h (front, k, rest, split, fine, begins, deep) =
    let q = split_there front k a rest ys (begun_own front fine.0) (subst (λ z. Alike z ys) split h) in
    let same : k ≡ q.0 = sym (same_next front k q.0 a q.3 begins) in
    (front, k, q.1, q.2 ∙ ap (λ z. front ++ token z a ∷ q.1) (sym same), fine, begins, deep)

-- ---- the tokens of a text
alike_kind : (b : List ℕ) (k : lex_kind.Kind) → Same (kind_of b k) (kind_here b k)
alike_kind b (lex_kind.TheVariants.Word word.VerifierAssume) = inr (refl, refl)
alike_kind b (lex_kind.TheVariants.Word word.Assert) = inr (refl, refl)
alike_kind b (lex_kind.TheVariants.Word word.VerifierAssert) = inr (refl, refl)
alike_kind b (lex_kind.TheVariants.Word _) = inl refl
alike_kind b _ = inl refl

alike_back : (b : List ℕ) (k : lex_kind.Kind) → Same (kind_here b k) (kind_of b k)
alike_back b (lex_kind.TheVariants.Word word.VerifierAssume) = inr (refl, refl)
alike_back b (lex_kind.TheVariants.Word word.Assert) = inr (refl, refl)
alike_back b (lex_kind.TheVariants.Word word.VerifierAssert) = inr (refl, refl)
alike_back b (lex_kind.TheVariants.Word _) = inl refl
alike_back b _ = inl refl

-- the tokens of a text are alike to the language's grammar and to that of transition systems
pub alike_here : (text : List ℕ) (ts : List lex_token.Token) (i : ℕ) → Alike (drop i (tokens_of text ts)) (drop i (tokens_here text ts))
alike_here text [] zero = tt
alike_here text [] (suc i) = tt
alike_here text (t ∷ ts) zero = (alike_kind _ t.kind, refl, alike_here text ts zero)
alike_here text (t ∷ ts) (suc i) = alike_here text ts i

-- the same the other way round
pub here_alike : (text : List ℕ) (ts : List lex_token.Token) (i : ℕ) → Alike (drop i (tokens_here text ts)) (drop i (tokens_of text ts))
here_alike text [] zero = tt
here_alike text [] (suc i) = tt
here_alike text (t ∷ ts) zero = (alike_back _ t.kind, refl, here_alike text ts zero)
here_alike text (t ∷ ts) (suc i) = here_alike text ts i
