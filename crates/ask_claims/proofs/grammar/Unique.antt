-- Tokens read as one list of claims.
use Rattle.std.proofs.Common.{◌≡◌, ◌∙◌, ◌++◌, ℕ, List, [], ◌∷◌, refl, sym, ap₂}
use Rattle.lang_grammar.specs.Grammar.{semicolon, the_end, Token, token, Expr, spell_expr}
use Rattle.lang_grammar.proofs.phrase.Once.{reads_once}
use Rattle.ask_claims.specs.Grammar.{Written, claims_then, AllGroup, ReadsClaims}
use Rattle.ask_claims.proofs.grammar.Spelling.{expr_goes, cut}

abbrev written : List ℕ → ℕ → ℕ → Expr → ℕ → Written
written x a b e p = record { name = x; name_at = a; colon_at = b; expr = e; semicolon_at = p }

same_claim : (x y : List ℕ) (a b p q r s : ℕ) (e f : Expr) → x ≡ y → a ≡ b → p ≡ q → e ≡ f → r ≡ s → written x a p e r ≡ written y b q f s
same_claim x y a b p q r s e f h i j k l = cc

claims_same : (cs ds : List Written) (e f : ℕ) → AllGroup cs → AllGroup ds
    → claims_then cs (token the_end e ∷ []) ≡ claims_then ds (token the_end f ∷ []) → cs ≡ ds
claims_same [] [] e f g h i = refl
claims_same [] (d ∷ ds) e f g h i = cc
claims_same (c ∷ cs) [] e f g h i = cc
claims_same (c ∷ cs) (d ∷ ds) e f g h i =
    let name : c.name ≡ d.name = cc in
    let name_at : c.name_at ≡ d.name_at = cc in
    let colon_at : c.colon_at ≡ d.colon_at = cc in
    let t : spell_expr c.expr ++ token semicolon c.semicolon_at ∷ claims_then cs (token the_end e ∷ [])
    ≡ spell_expr d.expr ++ token semicolon d.semicolon_at ∷ claims_then ds (token the_end f ∷ []) = cc in
    let q = cut (spell_expr c.expr) (spell_expr d.expr) (claims_then cs (token the_end e ∷ [])) (claims_then ds (token the_end f ∷ []))
    c.semicolon_at d.semicolon_at
    (expr_goes c.expr) (expr_goes d.expr) t in
    let expr : c.expr ≡ d.expr = reads_once (spell_expr c.expr) c.expr d.expr (record { spelled = refl; good = g.0 })
    (record { spelled = sym q.0; good = h.0 }) in
    ap₂ (λ (x : Written) y. x ∷ y) (same_claim c.name d.name c.name_at d.name_at c.colon_at d.colon_at c.semicolon_at d.semicolon_at c.expr
    d.expr name name_at colon_at expr q.2)
    (claims_same cs ds e f g.1 h.1 q.1)

-- tokens read as one list of claims alone
pub reads_one : (tokens : List Token) (cs ds : List Written) → ReadsClaims tokens cs → ReadsClaims tokens ds → cs ≡ ds
reads_one tokens cs ds r s = claims_same cs ds r.end_at s.end_at r.good s.good (r.spelled ∙ sym s.spelled)
