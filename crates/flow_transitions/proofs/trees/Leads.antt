-- The reading from tokens on to later ones, one token or one expression at a time.
use Rattle.std.proofs.Common.{◌≡◌, ◌∙◌, ◌+◌, ◌++◌, ◌<◌, ◌≤◌, inr, ⊎_elim, ℕ, List, [], ◌∷◌, length, map, drop, Ok, Err}
use Rattle.std.proofs.Common.{refl, sym, ap, ap₂}
use Rattle.std.proofs.Math.Seq.{drop-append_seam}
use Rattle.std.proofs.lemmas.Bool.{cases_lt}
use Rattle.std.proofs.lemmas.List.{drop-drop, drop-map, drop_all}
use Rattle.lang_tokens.specs.declared.token.Token as lex_token
use Rattle.lang_grammar.specs.Expressions.{IsLongest, BeginsExpr, FineExpr}
use Rattle.lang_grammar.specs.Grammar.{Kind, Token, token, Expr, spell_expr, Groups}
use Rattle.lang_grammar.specs.View.{tokens_of}
use Rattle.lang_meaning.specs.declared.fault.ParseFault.{ParseFault}
use Rattle.lang_meaning.specs.Expressions.{Meaning, first_place, meant}
use Rattle.lang_meaning.specs.ExpressionAnswers.{ExpressionMeans}
use Rattle.flow_transitions.specs.declared.fault.AutoFault.{AutoFault}
use Rattle.flow_transitions.specs.declared.fault.AutoFault.TheVariants as fault
use Rattle.flow_transitions.specs.AutoSymbols.{seen_at}
use Rattle.flow_transitions.specs.AutoReading.{Progress, a_token, an_expression, wanted_at, token_at, expression_at}
use Rattle.flow_transitions.specs.AutoGrammar.{tokens_here}
use Rattle.flow_transitions.proofs.progress.Steps.{Goes, Fails, token_goes, token_fails, expression_goes, expression_fails, refused_fails}
use Rattle.flow_transitions.proofs.trees.Alike.{here_alike, longest_there}
use Rattle.flow_transitions.proofs.trees.Here.{seen_here, there, kind_at, drop_here, token_seen, place_seen}
use Rattle.flow_transitions.proofs.trees.Means.{first_same, next_with}

-- there is a token where some are left
some_left : (xs ys : List Token) (t : Token) → [] ≡ xs ++ t ∷ ys → ⊥
some_left [] ys t e = cc
some_left (x ∷ xs) ys t e = cc

-- the first token of a longest expression has the place at which the expression begins
longest_place : (ts : List Token) (n : ℕ) (e : Expr) → IsLongest ts n e → first_place ts ≡ first_place (spell_expr e)
longest_place ts n e l = ap first_place (l.split ∙ ap (λ y. y ++ l.next ∷ l.rest) (sym l.reads.spelled)) ∙ first_same e (l.next ∷ l.rest)

module _ (text : List ℕ) (tokens : List lex_token.Token) where
  abbrev pub rest : ℕ → List Token
  rest i = drop i (tokens_here text tokens)

  -- Before these tokens the reading goes on from here, and comes to there before those.
  abbrev pub Leads : Progress → List Token → Progress → List Token → Type 0
  Leads r xs s ys = (i : ℕ) → rest i ≡ xs → (j : ℕ) × (rest j ≡ ys) × Goes text tokens r i s j

  -- Before these tokens the reading ends with this fault.
  abbrev pub Refuses : Progress → List Token → AutoFault → Type 0
  Refuses r xs f = (i : ℕ) → rest i ≡ xs → Fails text tokens r i f

  -- the reading is where it is
  pub stays : (r : Progress) (xs : List Token) → Leads r xs r xs
  stays r xs i e = (i, e, λ answer h. h)

  -- one way behind another
  pub chain : (r s t : Progress) (xs ys zs : List Token) → Leads r xs s ys → Leads s ys t zs → Leads r xs t zs
  chain r s t xs ys zs f g i e = let p = f i e in let q = g p.0 p.1 in (q.0, q.1, λ answer h. p.2 answer (q.2 answer h))

  -- a way that ends with a fault
  pub chain_refuses : (r s : Progress) (xs ys : List Token) (f : AutoFault) → Leads r xs s ys → Refuses s ys f → Refuses r xs f
  chain_refuses r s xs ys f h g i e = let p = h i e in p.2 (Err f) (g p.0 p.1)

  -- a number before which tokens are left is that of a token
  left_within : (i : ℕ) (xs ys : List Token) (t : Token) → rest i ≡ xs ++ t ∷ ys → i < length tokens
  left_within i xs ys t e =
      ⊎_elim (λ (l : i < length tokens). l)
      (λ (l : length tokens ≤ i). absurd (some_left xs ys t (sym (drop-map _ i tokens ∙ ap (map _) (drop_all i tokens l)) ∙ e)))
      (cases_lt i (length tokens))

  -- ---- a token
  module _ (r : Progress) (k : Kind) (a : ℕ) (ys : List Token) (w : wanted_at r.stand ≡ a_token) where
    -- what the reading sees of the token that stands there
    token_is : (i : ℕ) → rest i ≡ token k a ∷ ys
        → (token_at r.stand r (seen_at text tokens i) ≡ token_at r.stand r (seen_here text k a)) × (rest (i + 1) ≡ ys)
    token_is i e =
        let l = left_within i [] ys (token k a) e in
        let here : token (kind_at text tokens i) (there text tokens i).at ∷ rest (i + 1) ≡ token k a ∷ ys = sym (drop_here text tokens i l)
        ∙ e in
        let kind : kind_at text tokens i ≡ k = cc in
        let place : (there text tokens i).at ≡ a = cc in
        let behind : rest (i + 1) ≡ ys = cc in
        (token_seen text tokens i r.stand r l ∙ ap₂ (λ y p. token_at r.stand r (seen_here text y p)) kind place, behind)

    -- a token leads on
    pub token_leads : (s : Progress) → token_at r.stand r (seen_here text k a) ≡ Ok s → Leads r (token k a ∷ ys) s ys
    token_leads s h i e = let q = token_is i e in (i + 1, q.1, token_goes text tokens r s i w (q.0 ∙ h))

    -- a token is refused
    pub token_refuses : (f : AutoFault) → token_at r.stand r (seen_here text k a) ≡ Err f → Refuses r (token k a ∷ ys) f
    token_refuses f h i e = token_fails text tokens r i f w ((token_is i e).0 ∙ h)

  -- ---- an expression
  module _ (r : Progress) (w : wanted_at r.stand ≡ an_expression) (i : ℕ) where
    -- the tokens as the language's grammar has them
    abbrev lex_rest : List Token
    lex_rest = drop i (tokens_of text tokens)

    -- the longest expression is the same among them, and its first token stands where it stands
    module _ (n : ℕ) (e : Expr) (l : IsLongest (rest i) n e) where
      longest : IsLongest lex_rest n e
      longest = longest_there (rest i) lex_rest n e (here_alike text tokens i) l

      place : first_place lex_rest ≡ first_place (spell_expr e)
      place = longest_place lex_rest n e longest

      seen_place : (seen_at text tokens i).at ≡ first_place (spell_expr e)
      seen_place =
          let q = left_within i l.front l.rest l.next l.split in
          place_seen text tokens i q ∙ sym (ap first_place (drop_here text tokens i q)) ∙ longest_place (rest i) n e l

      -- it means this
      means : (m : Meaning) → meant text r.variables (first_place (spell_expr e)) e ≡ Ok m
          → ExpressionMeans text (tokens_of text tokens) i r.variables (Ok (m, i + n))
      means m h = inr (inr (
        e,
        n,
        longest,
        sym (ap (next_with (i + n)) (ap (λ p. meant text r.variables p e) place ∙ h)),
      ))

      -- an expression is refused as what it means
      pub meant_fails : (p : ParseFault) → meant text r.variables (first_place (spell_expr e)) e ≡ Err p
          → Fails text tokens r i (fault.Parse p)
      meant_fails p h =
          let q : ExpressionMeans text (tokens_of text tokens) i r.variables (Err p) = inr (inr (
            e,
            n,
            longest,
            sym (ap (next_with (i + n)) (ap (λ p. meant text r.variables p e) place ∙ h)),
          )) in
          refused_fails text tokens r i p (fault.Parse p) w q refl

      -- an expression is refused in its place
      pub use_fails : (m : Meaning) (f : AutoFault) → meant text r.variables (first_place (spell_expr e)) e ≡ Ok m
          → expression_at r.stand (first_place (spell_expr e)) m r ≡ Err f → Fails text tokens r i f
      use_fails m f h k = expression_fails text tokens r i (i + n) m f w (means m h)
          (ap (λ p. expression_at r.stand p m r) seen_place ∙ k)

      -- an expression is what has to stand there
      pub use_goes : (m : Meaning) (s : Progress) → meant text r.variables (first_place (spell_expr e)) e ≡ Ok m
          → expression_at r.stand (first_place (spell_expr e)) m r ≡ Ok s → Goes text tokens r i s (i + n)
      use_goes m s h k = expression_goes text tokens r s i (i + n) m w (means m h)
          (ap (λ p. expression_at r.stand p m r) seen_place ∙ k)

  -- an expression leads on, where the token behind it ends it
  pub expression_leads : (r s : Progress) (m : Meaning) (e : Expr) (t : Token) (ys : List Token) → wanted_at r.stand ≡ an_expression
      → Groups 0 e → FineExpr (spell_expr e)
      → (BeginsExpr (spell_expr e ++ t ∷ []) → ⊥) → meant text r.variables (first_place (spell_expr e)) e ≡ Ok m
      → expression_at r.stand (first_place (spell_expr e)) m r ≡ Ok s → Leads r (spell_expr e ++ t ∷ ys) s (t ∷ ys)
  expression_leads r s m e t ys w g fine ends h k i split =
      let n = length (spell_expr e) in
      let l : IsLongest (rest i) n e = record {
        front = spell_expr e;
        next = t;
        rest = ys;
        split = split;
        size = refl;
        reads = record { spelled = refl; good = g };
        ends = ends;
        fine = fine;
      } in (
        i + n,
        sym (drop-drop n i (tokens_here text tokens)) ∙ ap (drop n) split ∙ drop-append_seam (spell_expr e) (t ∷ ys),
        use_goes r w i n e l m s h k,
      )
