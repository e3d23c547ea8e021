-- Where claims end: at their first `;`, since no expression has one.
use Rattle.std.proofs.Common.{◌≡◌, ◌∙◌, ◌++◌, ◌⊎◌, inl, inr, ℕ, List, [], ◌∷◌, Bool, true, false, refl, sym, ap, ap₂, subst, append_assoc}
use Rattle.lang_grammar.specs.Expressions.{BeginsExpr}
use Rattle.lang_grammar.specs.Grammar.{Kind, a_name, colon, semicolon, Prefix, negative, positive, negation, sign_of, Token, token}
use Rattle.lang_grammar.specs.Grammar.{Expr, number, variable, free, grouped, prefixed, joined, spell_expr, Groups}
use Rattle.ask_claims.specs.Grammar.{Written, claim_then, claims_then, AllGroup}

-- ---- claims and what follows them
pub claim_append : (c : Written) (xs ys : List Token) → claim_then c xs ++ ys ≡ claim_then c (xs ++ ys)
claim_append c xs ys =
    ap (λ zs. token (a_name c.name) c.name_at ∷ token colon c.colon_at ∷ zs)
    (append_assoc (spell_expr c.expr) (token semicolon c.semicolon_at ∷ xs) ys)

-- tokens behind claims and what follows them stand behind what follows
pub claims_append : (cs : List Written) (xs ys : List Token) → claims_then cs xs ++ ys ≡ claims_then cs (xs ++ ys)
claims_append [] xs ys = refl
claims_append (c ∷ cs) xs ys = claim_append c (claims_then cs xs) ys ∙ ap (claim_then c) (claims_append cs xs ys)

-- one claim more stands before what follows the others
pub claims_more : (cs : List Written) (c : Written) (xs : List Token) → claims_then (cs ++ c ∷ []) xs ≡ claims_then cs (claim_then c xs)
claims_more [] c xs = refl
claims_more (d ∷ cs) c xs = ap (claim_then d) (claims_more cs c xs)

-- claims that group as they must, with one that does behind them, group as they must
pub group_more : (cs : List Written) (c : Written) → AllGroup cs → Groups 0 c.expr → AllGroup (cs ++ c ∷ [])
group_more [] c g h = (h, tt)
group_more (d ∷ cs) c g h = (g.0, group_more cs c g.1 h)

-- ---- no `;` stands in an expression
abbrev pub ends_claim : Kind → Bool
ends_claim semicolon = true
ends_claim _ = false

-- none of these tokens is a `;`
abbrev pub GoesOn : List Token → Type 0
GoesOn [] = Unit {0}
GoesOn (token k a ∷ ts) = (ends_claim k ≡ false) × GoesOn ts

goes_append : (xs ys : List Token) → GoesOn xs → GoesOn ys → GoesOn (xs ++ ys)
goes_append [] ys g h = h
goes_append (token k a ∷ xs) ys g h = (g.0, goes_append xs ys g.1 h)

goes_front : (xs ys : List Token) → GoesOn (xs ++ ys) → GoesOn xs
goes_front [] ys g = tt
goes_front (token k a ∷ xs) ys g = (g.0, goes_front xs ys g.1)

sign_goes : (p : Prefix) → ends_claim (sign_of p) ≡ false
sign_goes negative = refl
sign_goes positive = refl
sign_goes negation = refl

-- no token of an expression is a `;`
pub expr_goes : (e : Expr) → GoesOn (spell_expr e)
expr_goes (number n a) = (refl, tt)
expr_goes (variable x a) = (refl, tt)
expr_goes (free a b c) = (refl, (refl, (refl, tt)))
expr_goes (grouped a e b) = (refl, goes_append (spell_expr e) _ (expr_goes e) (refl, tt))
expr_goes (prefixed p a e) = (sign_goes p, expr_goes e)
expr_goes (joined e o a f) = goes_append (spell_expr e) _ (expr_goes e) (refl, expr_goes f)

-- no token of what begins an expression is a `;`
pub begun_goes : (begun : List Token) → BeginsExpr begun → GoesOn begun
begun_goes begun (e, rest, r) = let g : GoesOn (begun ++ rest) = subst GoesOn r.spelled (expr_goes e) in goes_front begun rest g

-- two lists without `;` that end at a `;` are the same
pub cut : (xs ys us vs : List Token) (a b : ℕ) → GoesOn xs → GoesOn ys → xs ++ token semicolon a ∷ us ≡ ys ++ token semicolon b ∷ vs
    → (xs ≡ ys) × (us ≡ vs) × (a ≡ b)
cut [] [] us vs a b g h e = (refl, cc, cc)
cut [] (token k c ∷ ys) us vs a b g h e = let i : ends_claim semicolon ≡ ends_claim k = (let j : semicolon ≡ k = cc in ap ends_claim j) in
    absurd (both i h.0) where
      both : {b : Bool} → true ≡ b → b ≡ false → ⊥
      both i j = let k : true ≡ false = i ∙ j in cc
cut (token k c ∷ xs) [] us vs a b g h e = let i : ends_claim semicolon ≡ ends_claim k = (let j : semicolon ≡ k = cc in ap ends_claim j) in
    absurd (both i g.0) where
      both : {b : Bool} → true ≡ b → b ≡ false → ⊥
      both i j = let k : true ≡ false = i ∙ j in cc
cut (token k c ∷ xs) (token l d ∷ ys) us vs a b g h e =
    let i : token k c ≡ token l d = cc in
    let r = cut xs ys us vs a b g.1 h.1 (cc) in (ap₂ (λ (z : Token) zs. z ∷ zs) i r.0, r.1, r.2)

-- where a list without `;` and one token begin what ends at a `;`, that token is this `;`, or stands before it
pub next_within : (begun xs rest vs : List Token) (t : Token) (b : ℕ) → GoesOn begun → begun ++ t ∷ rest ≡ xs ++ token semicolon b ∷ vs
    → ((begun ≡ xs) × (t ≡ token semicolon b)) ⊎ ((more : List Token) × (xs ≡ (begun ++ t ∷ []) ++ more))
next_within [] [] rest vs t b g e = inl (refl, cc)
next_within [] (x ∷ xs) rest vs t b g e = inr (xs, cc)
next_within (token k c ∷ begun) [] rest vs t b g e = let i : k ≡ semicolon = cc in let j : true ≡ false = sym (ap ends_claim i) ∙ g.0 in cc
next_within (token k c ∷ begun) (x ∷ xs) rest vs t b g e = on (next_within begun xs rest vs t b g.1 (cc)) where
  head : token k c ≡ x
  head = cc

  on : ((begun ≡ xs) × (t ≡ token semicolon b)) ⊎ ((more : List Token) × (xs ≡ (begun ++ t ∷ []) ++ more))
      → ((token k c ∷ begun ≡ x ∷ xs) × (t ≡ token semicolon b)) ⊎ ((more : List Token) × (x ∷ xs ≡ (token k c ∷ begun ++ t ∷ []) ++ more))
  on (inl (i, j)) = inl (ap₂ (λ (z : Token) zs. z ∷ zs) head i, j)
  on (inr (more, i)) = inr (more, ap₂ (λ (z : Token) zs. z ∷ zs) (sym head) i)
