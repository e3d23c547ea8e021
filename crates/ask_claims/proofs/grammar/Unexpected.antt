-- Which token is unexpected behind whole claims and a part of one.
use Rattle.std.proofs.Common.{◌≡◌, ◌∙◌, ◌++◌, ◌⊎◌, inl, inr, ℕ, List, [], ◌∷◌, Bool, true, false, refl, sym, ap, subst, append_assoc}
use Rattle.std.proofs.lemmas.List.{append-nil}
use Rattle.lang_grammar.specs.Expressions.{ReadsExpr, BeginsExpr}
use Rattle.lang_grammar.specs.Grammar.{Kind, a_name, colon, semicolon, the_end, Token, token, Expr, number, spell_expr, Groups}
use Rattle.ask_claims.specs.Grammar.{Written, claim_then, claims_then, AllGroup, Begins, IsUnexpected}
use Rattle.ask_claims.proofs.grammar.Spelling.{claim_append, claims_append, claims_more, group_more, ends_claim, expr_goes, begun_goes, cut}
use Rattle.ask_claims.proofs.grammar.Spelling.{next_within}

-- ---- what a token is
abbrev pub names_claim : Kind → Bool
names_claim (a_name x) = true
names_claim _ = false

abbrev pub ends_text : Kind → Bool
ends_text the_end = true
ends_text _ = false

abbrev pub ends_name : Kind → Bool
ends_name colon = true
ends_name _ = false

-- nothing is both true and false
pub both_ways : {b : Bool} → b ≡ true → b ≡ false → ⊥
both_ways i j = let k : true ≡ false = sym i ∙ j in cc

either_way : (b : Bool) → (b ≡ true → ⊥) → b ≡ false
either_way true h = absurd (h refl)
either_way false h = refl

-- ---- what begins a file
abbrev written : List ℕ → ℕ → ℕ → Expr → ℕ → Written
written x a b e p = record { name = x; name_at = a; colon_at = b; expr = e; semicolon_at = p }

begins_part : (cs : List Written) (c : Written) (part more : List Token) → AllGroup cs → Groups 0 c.expr → claim_then c [] ≡ part ++ more
    → Begins (claims_then cs part)
begins_part cs c part more g h e = (
  cs ++ c ∷ [],
  more ++ token the_end 0 ∷ [],
  record {
    end_at = 0;
    spelled = claims_more cs c (token the_end 0 ∷ [])
        ∙ ap (claims_then cs) (sym (claim_append c [] (token the_end 0 ∷ [])) ∙ ap (λ x. x ++ token the_end 0 ∷ []) e
        ∙ append_assoc part more (token the_end 0 ∷ []))
        ∙ sym (claims_append cs part (more ++ token the_end 0 ∷ []));
    good = group_more cs c g h;
  },
)

begins_all : (cs : List Written) → AllGroup cs → Begins (claims_then cs [])
begins_all cs g = (cs, token the_end 0 ∷ [], record { end_at = 0; spelled = sym (claims_append cs [] (token the_end 0 ∷ [])); good = g })

begins_end : (cs : List Written) (a : ℕ) → AllGroup cs → Begins (claims_then cs (token the_end a ∷ []))
begins_end cs a g = (cs, [], record { end_at = a; spelled = sym (append-nil (claims_then cs (token the_end a ∷ []))); good = g })

-- behind whole claims a file goes on with claims, or ends
behind : (cs : List Written) (xs : List Token) → Begins (claims_then cs xs)
    → (ds : List Written) × (rest : List Token) × (e : ℕ) × (xs ++ rest ≡ claims_then ds (token the_end e ∷ [])) × AllGroup ds
behind [] xs (ds, rest, r) = (ds, rest, r.end_at, sym r.spelled, r.good)
behind (c ∷ cs) xs ([], rest, r) = let i : token the_end r.end_at ∷ [] ≡ claim_then c (claims_then cs xs) ++ rest = r.spelled in cc
behind (c ∷ cs) xs (d ∷ ds, rest, r) =
    let i : claim_then d (claims_then ds (token the_end r.end_at ∷ [])) ≡ claim_then c (claims_then cs xs) ++ rest = r.spelled in
    let t : spell_expr d.expr ++ token semicolon d.semicolon_at ∷ claims_then ds (token the_end r.end_at ∷ [])
    ≡ (spell_expr c.expr ++ token semicolon c.semicolon_at ∷ claims_then cs xs) ++ rest = cc in
    let q = cut (spell_expr d.expr) (spell_expr c.expr) (claims_then ds (token the_end r.end_at ∷ [])) (claims_then cs xs ++ rest)
    d.semicolon_at c.semicolon_at
    (expr_goes d.expr) (expr_goes c.expr) (t ∙ append_assoc (spell_expr c.expr) (token semicolon c.semicolon_at ∷ claims_then cs xs)
    rest) in
    behind cs xs (ds, rest, record { end_at = r.end_at; spelled = q.1; good = r.good.1 })

-- a token is unexpected where no claims and no end go on with it
refused : (cs : List Written) (part : List Token) (t : Token) → Begins (claims_then cs part)
    → ((ds : List Written) (rest : List Token) (e : ℕ) → (part ++ t ∷ []) ++ rest ≡ claims_then ds (token the_end e ∷ []) → AllGroup ds → ⊥)
    → IsUnexpected (claims_then cs part) t
refused cs part t b none =
    (b, λ h. let q = behind cs (part ++ t ∷ []) (subst Begins (claims_append cs part (t ∷ [])) h) in none q.0 q.1 q.2 q.3 q.4)

-- and no claims and no end go on with an unexpected one
taken : (cs : List Written) (part : List Token) (t : Token) → IsUnexpected (claims_then cs part) t
    → Begins (claims_then cs (part ++ t ∷ [])) → ⊥
taken cs part t u b = u.1 (subst Begins (sym (claims_append cs part (t ∷ []))) b)

module _ (cs : List Written) (g : AllGroup cs) where
  -- ---- at the beginning of a claim
  pub unexpected_start : (k : Kind) (a : ℕ) → names_claim k ≡ false → ends_text k ≡ false → IsUnexpected (claims_then cs []) (token k a)
  unexpected_start k a n f = refused cs [] (token k a) (begins_all cs g) none where
    none : (ds : List Written) (rest : List Token) (e : ℕ) → ([] ++ token k a ∷ []) ++ rest ≡ claims_then ds (token the_end e ∷ [])
        → AllGroup ds → ⊥
    none [] rest e i o = let j : k ≡ the_end = cc in both_ways (ap ends_text j) f
    none (d ∷ ds) rest e i o = let j : k ≡ a_name d.name = cc in both_ways (ap names_claim j) n

  -- a token that is unexpected behind whole claims is neither a name nor the end
  pub start_refused : (k : Kind) (a : ℕ) → IsUnexpected (claims_then cs []) (token k a) → (names_claim k ≡ false) × (ends_text k ≡ false)
  start_refused (a_name x) a u = absurd (taken cs [] (token (a_name x) a) u
      (begins_part cs (written x a 0 (number 0 0) 0) (token (a_name x) a ∷ []) _ g tt refl))
  start_refused the_end a u = absurd (taken cs [] (token the_end a) u (begins_end cs a g))
  start_refused _ a u = (refl, refl)

  -- ---- behind its name
  pub unexpected_colon : (x : List ℕ) (a : ℕ) (k : Kind) (b : ℕ) → ends_name k ≡ false
      → IsUnexpected (claims_then cs (token (a_name x) a ∷ [])) (token k b)
  unexpected_colon x a k b n = refused cs (token (a_name x) a ∷ []) (token k b)
      (begins_part cs (written x a 0 (number 0 0) 0) (token (a_name x) a ∷ []) _ g tt refl) none where
        none : (ds : List Written) (rest : List Token) (e : ℕ) → (token (a_name x) a ∷ token k b ∷ []) ++ rest
            ≡ claims_then ds (token the_end e ∷ []) → AllGroup ds → ⊥
        none [] rest e i o = cc
        none (d ∷ ds) rest e i o = let j : k ≡ colon = cc in both_ways (ap ends_name j) n

  -- a token that is unexpected behind a claim's name is no `:`
  pub colon_refused : (x : List ℕ) (a : ℕ) (k : Kind) (b : ℕ) → IsUnexpected (claims_then cs (token (a_name x) a ∷ [])) (token k b)
      → ends_name k ≡ false
  colon_refused x a colon b u =
      absurd (taken cs (token (a_name x) a ∷ []) (token colon b) u (begins_part cs (written x a b (number 0 0) 0)
      (token (a_name x) a ∷ token colon b ∷ []) _ g tt refl))
  colon_refused x a _ b u = refl

  module _ (x : List ℕ) (a b : ℕ) where
    abbrev opened : List Token → List Token
    opened begun = token (a_name x) a ∷ token colon b ∷ begun

    begins_with : (begun : List Token) → BeginsExpr begun → Begins (claims_then cs (opened begun))
    begins_with begun (e, rest, r) =
        begins_part cs (written x a b e 0) (opened begun) (rest ++ token semicolon 0 ∷ []) g r.good
        (ap opened (ap (λ y. y ++ token semicolon 0 ∷ []) r.spelled ∙ append_assoc begun rest (token semicolon 0 ∷ [])))

    -- where a claim goes on behind its colon, so does its expression, or it is at its end
    goes_on : (begun : List Token) (t : Token) → BeginsExpr begun → (ds : List Written) (rest : List Token) (e : ℕ)
        → (opened begun ++ t ∷ []) ++ rest ≡ claims_then ds (token the_end e ∷ []) → AllGroup ds
        → ((f : Expr) × (p : ℕ) × ReadsExpr begun f × (t ≡ token semicolon p)) ⊎ BeginsExpr (begun ++ t ∷ [])
    goes_on begun t h [] rest e i o = cc
    goes_on begun t h (d ∷ ds) rest e i o = on (next_within begun (spell_expr d.expr) rest (claims_then ds (token the_end e ∷ [])) t
        d.semicolon_at (begun_goes begun h) same) where
          same : begun ++ t ∷ rest ≡ spell_expr d.expr ++ token semicolon d.semicolon_at ∷ claims_then ds (token the_end e ∷ [])
          same = let j : (begun ++ t ∷ []) ++ rest ≡ spell_expr d.expr ++ token semicolon d.semicolon_at
              ∷ claims_then ds (token the_end e ∷ []) = cc in
              sym (append_assoc begun (t ∷ []) rest) ∙ j

          good : Groups 0 d.expr
          good = o.0

          on : ((begun ≡ spell_expr d.expr) × (t ≡ token semicolon d.semicolon_at))
              ⊎ ((more : List Token) × (spell_expr d.expr ≡ (begun ++ t ∷ []) ++ more))
              → ((f : Expr) × (p : ℕ) × ReadsExpr begun f × (t ≡ token semicolon p)) ⊎ BeginsExpr (begun ++ t ∷ [])
          on (inl (j, k)) = inl (d.expr, d.semicolon_at, record { spelled = sym j; good = good }, k)
          on (inr (more, j)) = inr (d.expr, more, record { spelled = j; good = good })

    -- ---- within its expression
    pub unexpected_within : (begun : List Token) (t : Token) → BeginsExpr begun → ((e : Expr) → ReadsExpr begun e → ⊥)
        → (BeginsExpr (begun ++ t ∷ []) → ⊥)
        → IsUnexpected (claims_then cs (opened begun)) t
    unexpected_within begun t h unread stops = refused cs (opened begun) t (begins_with begun h)
        (λ ds rest e i o. on (goes_on begun t h ds rest e i o)) where
          on : ((f : Expr) × (p : ℕ) × ReadsExpr begun f × (t ≡ token semicolon p)) ⊎ BeginsExpr (begun ++ t ∷ []) → ⊥
          on (inl (f, p, r, j)) = unread f r
          on (inr j) = stops j

    -- a token that is unexpected behind what begins an expression goes on with none
    pub within_refused : (begun : List Token) (t : Token) → IsUnexpected (claims_then cs (opened begun)) t → BeginsExpr (begun ++ t ∷ [])
        → ⊥
    within_refused begun t u h = taken cs (opened begun) t u (begins_with (begun ++ t ∷ []) h)

    -- ---- behind its expression
    pub unexpected_semicolon : (e : Expr) (k : Kind) (p : ℕ) → Groups 0 e → ends_claim k ≡ false
        → (BeginsExpr (spell_expr e ++ token k p ∷ []) → ⊥)
        → IsUnexpected (claims_then cs (opened (spell_expr e))) (token k p)
    unexpected_semicolon e k p good n stops =
        refused cs (opened (spell_expr e)) (token k p) (begins_with (spell_expr e) begun)
        (λ ds rest f i o. on (goes_on (spell_expr e) (token k p) begun ds rest f i o)) where
          begun : BeginsExpr (spell_expr e)
          begun = (e, [], record { spelled = sym (append-nil (spell_expr e)); good = good })

          on : ((f : Expr) × (q : ℕ) × ReadsExpr (spell_expr e) f × (token k p ≡ token semicolon q))
              ⊎ BeginsExpr (spell_expr e ++ token k p ∷ []) → ⊥
          on (inl (f, q, r, j)) = let i : k ≡ semicolon = cc in both_ways (ap ends_claim i) n
          on (inr j) = stops j

    -- a token that is unexpected behind a whole expression is no `;`, and goes on with none
    pub semicolon_refused : (e : Expr) (k : Kind) (p : ℕ) → Groups 0 e → IsUnexpected (claims_then cs (opened (spell_expr e))) (token k p)
        → (ends_claim k ≡ false) × (BeginsExpr (spell_expr e ++ token k p ∷ []) → ⊥)
    semicolon_refused e k p good u = (on k u, within_refused (spell_expr e) (token k p) u) where
      on : (k : Kind) → IsUnexpected (claims_then cs (opened (spell_expr e))) (token k p) → ends_claim k ≡ false
      on semicolon u = absurd (taken cs (opened (spell_expr e)) (token semicolon p) u
          (begins_part cs (written x a b e p) (opened (spell_expr e) ++ token semicolon p ∷ []) [] g good
          (sym (append-nil (opened (spell_expr e) ++ token semicolon p ∷ [])))))
      on _ u = refl
