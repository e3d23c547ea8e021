-- The machine has a stack exactly where the tokens so far begin an expression.
use Rattle.std.proofs.Common.{◌≡◌, ◌∙◌, ◌++◌, ◌⊎◌, inl, inr, ℕ, List, [], ◌∷◌, Option, Some, None, refl, sym, ap, subst}
use Rattle.std.proofs.lemmas.List.{append-nil}
use Rattle.lang_grammar.specs.Grammar.{semicolon, Token, token, Expr, spell_expr, Groups}
use Rattle.lang_grammar.specs.Machine.{until_semicolon, Goal, more, run}
use Rattle.lang_grammar.specs.Depth.{opens_expr}
use Rattle.lang_grammar.specs.Verdicts.{trace}
use Rattle.lang_grammar.specs.Faults.{AllShallow}
use Rattle.lang_grammar.specs.Expressions.{ReadsExpr, BeginsExpr, OpensExpr, FineExpr}
use Rattle.lang_grammar.specs.Reaches.{expression_start}
use Rattle.lang_grammar.proofs.depth.Deep.{expr_trace}
use Rattle.lang_grammar.proofs.faults.Exact.{append_same}
use Rattle.lang_grammar.proofs.faults.Scanned.{trace_front, trace_length}
use Rattle.lang_grammar.proofs.grammar.Complete.{expr_run}
use Rattle.lang_grammar.proofs.machine.Back.{holds}
use Rattle.lang_grammar.proofs.machine.BackPieces.{expr_then, ExprThen}
use Rattle.lang_grammar.proofs.machine.Finish.{finish, finishes, run_front, none_front}

-- what is left behind a whole expression
abbrev pub at_end : List Goal
at_end = more until_semicolon 0 ∷ []

-- tokens that read as an expression leave its end alone to come
pub reads_run : (front : List Token) (e : Expr) → ReadsExpr front e → run expression_start front ≡ Some at_end
reads_run front e r = ap (run expression_start) (sym r.spelled ∙ sym (append-nil (spell_expr e))) ∙ expr_run e until_semicolon 0 0 [] []

-- what is before the last token, or all
cut_last : (front after y : List Token) (t : Token) → front ++ after ≡ y ++ t ∷ []
    → ((rest : List Token) × (front ++ rest ≡ y)) ⊎ ((front ≡ y ++ t ∷ []) × (after ≡ []))
cut_last [] after y t e = inl (y, refl)
cut_last (f ∷ []) after [] t e = inr (cc, cc)
cut_last (f ∷ g ∷ front) after [] t e = cc
cut_last (f ∷ front) after (x ∷ y) t e = on (cut_last front after y t (cc)) where
  on : ((rest : List Token) × (front ++ rest ≡ y)) ⊎ ((front ≡ y ++ t ∷ []) × (after ≡ []))
      → ((rest : List Token) × (f ∷ (front ++ rest) ≡ x ∷ y)) ⊎ ((f ∷ front ≡ x ∷ (y ++ t ∷ [])) × (after ≡ []))
  on (inl (rest, h)) = let i : f ≡ x = cc in inl (rest, cc)
  on (inr (h, i)) = let j : f ≡ x = cc in inr (cc, i)

-- what is accepted is an expression and `;`
accepted_expr : (w : List Token) → run expression_start w ≡ Some [] → (e : Expr) × (a : ℕ) × (w ≡ spell_expr e ++ token semicolon a ∷ [])
    × Groups 0 e
accepted_expr w h = on (expr_then until_semicolon 0 0 [] w (holds w expression_start h)) where
  on : ExprThen until_semicolon [] w → (e : Expr) × (a : ℕ) × (w ≡ spell_expr e ++ token semicolon a ∷ []) × Groups 0 e
  on (e, u, v, q, g, (a, r), n) = (e, a, q ∙ ap (λ x. spell_expr e ++ x) (r ∙ ap (λ x. token semicolon a ∷ x) n), g)

-- Where something has still to come, the tokens begin an expression.
pub alive_expr : (front : List Token) (g : Goal) (gs : List Goal) → run expression_start front ≡ Some (g ∷ gs) → BeginsExpr front
alive_expr front g gs h = on (accepted_expr (front ++ finish (g ∷ gs))
    (run_front expression_start (g ∷ gs) front (finish (g ∷ gs)) h ∙ finishes (g ∷ gs))) where
      by_cut : (e : Expr) (a : ℕ) → Groups 0 e → ((rest : List Token) × (front ++ rest ≡ spell_expr e))
          ⊎ ((front ≡ spell_expr e ++ token semicolon a ∷ []) × (finish (g ∷ gs) ≡ [])) → BeginsExpr front
      by_cut e a k (inl (rest, q)) = (e, rest, record { spelled = sym q; good = k })
      by_cut e a k (inr (q, n)) =
          let i : run expression_start front ≡ Some [] = ap (run expression_start) q
          ∙ expr_run e until_semicolon 0 0 [] (token semicolon a ∷ []) in cc

      on : (e : Expr) × (a : ℕ) × (front ++ finish (g ∷ gs) ≡ spell_expr e ++ token semicolon a ∷ []) × Groups 0 e → BeginsExpr front
      on (e, a, q, k) = by_cut e a k (cut_last front (finish (g ∷ gs)) (spell_expr e) (token semicolon a) q)

nothing_more : (rest : List Token) → run [] rest ≡ Some at_end → ⊥
nothing_more [] h = cc
nothing_more (token k a ∷ ts) h = cc

-- Where the tokens begin an expression, something has still to come.
pub begins_alive : (front : List Token) → BeginsExpr front → (g : Goal) × (gs : List Goal) × (run expression_start front ≡ Some (g ∷ gs))
begins_alive front (e, rest, r) = on (run expression_start front) refl where
  on : (o : Option (List Goal)) → run expression_start front ≡ o → (g : Goal) × (gs : List Goal)
      × (run expression_start front ≡ Some (g ∷ gs))
  on None h = let i = none_front expression_start front rest h in let j = reads_run (front ++ rest) e r in cc
  on (Some []) h = absurd (nothing_more rest (sym (run_front expression_start [] front rest h) ∙ reads_run (front ++ rest) e r))
  on (Some (g ∷ gs)) h = (g, gs, h)

-- Where the end alone is left, the tokens read as an expression.
pub end_reads : (front : List Token) → run expression_start front ≡ Some at_end → (e : Expr) × ReadsExpr front e
end_reads front h = on (accepted_expr (front ++ token semicolon 0 ∷ [])
    (run_front expression_start at_end front (token semicolon 0 ∷ []) h)) where
      same_front : (xs ys : List Token) (t s : Token) → xs ++ t ∷ [] ≡ ys ++ s ∷ [] → xs ≡ ys
      same_front [] [] t s e = refl
      same_front [] (y ∷ []) t s e = cc
      same_front [] (y ∷ z ∷ ys) t s e = cc
      same_front (x ∷ []) [] t s e = cc
      same_front (x ∷ z ∷ xs) [] t s e = cc
      same_front (x ∷ xs) (y ∷ ys) t s e = let i = same_front xs ys t s (cc) in let j : x ≡ y = cc in cc

      on : (e : Expr) × (a : ℕ) × (front ++ token semicolon 0 ∷ [] ≡ spell_expr e ++ token semicolon a ∷ []) × Groups 0 e
          → (e : Expr) × ReadsExpr front e
      on (e, a, q, g) = (e, record { spelled = sym (same_front front (spell_expr e) (token semicolon 0) (token semicolon a) q); good = g })

-- ---- what is open
-- the trace of a front says what each expression that begins with it opens
pub opens_front : (front : List Token) (now : List Goal) → run expression_start front ≡ Some now
    → OpensExpr front (trace expression_start front)
opens_front front now h = (
  trace_length front expression_start now h,
  λ e rest r. (
    trace now rest,
    sym (append-nil (opens_expr 0 e)) ∙ sym (expr_trace e until_semicolon 0 0 [] [] r.good)
        ∙ ap (trace expression_start) (append-nil (spell_expr e) ∙ r.spelled) ∙ trace_front front rest expression_start now h,
  ),
)

-- the numbers of what a front opens are those of its trace
pub depths_same : (front : List Token) (now : List Goal) (depths : List (Option ℕ)) → run expression_start front ≡ Some now
    → BeginsExpr front → OpensExpr front depths
    → depths ≡ trace expression_start front
depths_same front now depths h (e, rest, r) o =
    let i = opens_front front now h in append_same depths (trace expression_start front) _ _ (o.0 ∙ sym i.0)
    (sym (o.1 e rest r).1 ∙ (i.1 e rest r).1)

-- a front that is traced within the limit and has something to come is fine
pub fine_expr : (front : List Token) (g : Goal) (gs : List Goal) → run expression_start front ≡ Some (g ∷ gs)
    → AllShallow (trace expression_start front) → FineExpr front
fine_expr front g gs h s = (alive_expr front g gs h, (trace expression_start front, opens_front front (g ∷ gs) h, s))

-- the trace of a fine front is within the limit
pub shallow_of : (front : List Token) (now : List Goal) → run expression_start front ≡ Some now → FineExpr front
    → AllShallow (trace expression_start front)
shallow_of front now h (b, (depths, o, s)) = subst AllShallow (depths_same front now depths h b o) s
