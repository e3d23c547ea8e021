-- Claims one by one.
use Rattle.std.proofs.Common.{◌≡◌, ◌∙◌, ◌++◌, ◌<◌, ◌≤◌, ℕ, true, false, List, [], ◌∷◌, length, map, drop, Ok, Err, refl, sym, ap}
use Rattle.std.proofs.Common.{ap₂, subst, arith}
use Rattle.std.proofs.lemmas.List.{length-append, map-append}
use Rattle.std.specs.Prelude.{All}
use Rattle.std.proofs.lemmas.List.Elements.{All-nil, All-push}
use Rattle.flow_edges.specs.declared.point.Point.{Point}
use Rattle.lang_grammar.specs.Grammar.{Token, token}
use Rattle.lang_grammar.specs.View.{kind_of, tokens_of}
use Rattle.lang_tokens.specs.TokenLists.{AreTokensOf}
use Rattle.lang_tokens.specs.declared.token.Kind as lex_kind
use Rattle.lang_tokens.specs.declared.token.Token as lex_token
use Rattle.ask_claims.specs.declared.claim.Claim.{Claim}
use Rattle.ask_claims.specs.declared.fault.ClaimFault.{ClaimFault}
use Rattle.ask_claims.specs.Claims.{Stated, Says, AllSay, FirstFault, at_start, too_many, unexpected, ClaimsMean, Stands, stated_of}
use Rattle.ask_claims.specs.Grammar.{Written, claims_then, AllGroup}
use Rattle.ask_claims.specs.Steps.{token_at, bytes_of, is_end, surplus, BeginsClaim}
use Rattle.ask_claims.proofs.claims.Kinds.{word_other, sign_other, drop_token, end_is, end_last}
use Rattle.ask_claims.proofs.claims.Means.{all_group}
use Rattle.ask_claims.proofs.grammar.Spelling.{claims_more}
use Rattle.ask_claims.proofs.grammar.Unexpected.{names_claim, ends_text, unexpected_start}

module _ (text : List ℕ) (names : List (List ℕ)) (points : List Point) where
  all_more : (cs : List Written) (ss : List Stated) (c : Written) (s : Stated) → AllSay text names points cs ss → Says text names points c s
      → AllSay text names points (cs ++ c ∷ []) (ss ++ s ∷ [])
  all_more [] [] c s h m = (m, tt)
  all_more (d ∷ cs) (t ∷ ss) c s h m = (h.0, all_more cs ss c s h.1 m)
  all_more [] (t ∷ ss) c s h m = absurd h
  all_more (d ∷ cs) [] c s h m = absurd h

  -- behind 64 claims a name and any other token but the end are at fault
  surplus_fault : (cs : List Written) (k : lex_kind.Kind) (bytes : List ℕ) (a : ℕ) (tokens rest : List Token) → AllGroup cs → length cs ≡ 64
      → is_end k ≡ false
      → tokens ≡ token (kind_of bytes k) a ∷ rest → FirstFault text names points cs tokens (surplus k a)
  surplus_fault cs k bytes a tokens rest g full goes starts = on k goes starts where
    other : (k : lex_kind.Kind) (f : ClaimFault) → tokens ≡ token (kind_of bytes k) a ∷ rest
        → (names_claim (kind_of bytes k) ≡ false) × (ends_text (kind_of bytes k) ≡ false)
        → f ≡ surplus (lex_kind.TheVariants.Number (Rattle.std.specs.Prelude.pos 0)) a → FirstFault text names points cs tokens f
    other k f starts o is = unexpected [] (kind_of bytes k) a rest starts (unexpected_start cs g (kind_of bytes k) a o.0 o.1)
        (at_start refl) is

    on : (k : lex_kind.Kind) → is_end k ≡ false → tokens ≡ token (kind_of bytes k) a ∷ rest
        → FirstFault text names points cs tokens (surplus k a)
    on lex_kind.TheVariants.Name goes starts = too_many bytes a rest starts full refl
    on lex_kind.TheVariants.End goes starts = cc
    on (lex_kind.TheVariants.Word w) goes starts = other (lex_kind.TheVariants.Word w) _ starts (word_other w) refl
    on (lex_kind.TheVariants.Sign s) goes starts = other (lex_kind.TheVariants.Sign s) _ starts (sign_other s) refl
    on (lex_kind.TheVariants.Number n) goes starts = other (lex_kind.TheVariants.Number n) _ starts (refl, refl) refl
    on (lex_kind.TheVariants.Foreign f) goes starts = other (lex_kind.TheVariants.Foreign f) _ starts (refl, refl) refl
    on (lex_kind.TheVariants.Aside s) goes starts = other (lex_kind.TheVariants.Aside s) _ starts (refl, refl) refl

  module _ (tokens : List lex_token.Token) where
    -- what the loop over the claims keeps: the tokens begin with claims that say what was read, and go on with the next token
    abbrev pub Keeps : List Claim → ℕ → Type 0
    Keeps claims next =
        (cs : List Written) × (tokens_of text tokens ≡ claims_then cs (drop next (tokens_of text tokens)))
        × AllSay text names points cs (map stated_of claims) × (length cs ≡ length claims) × (next < length tokens) × (length claims ≤ 64)
        × All (Stands names points) claims

    -- before the first token no claim has been read
    pub begins : (claims : List Claim) → claims ≡ [] → 0 < length tokens → Keeps claims 0
    begins claims e h = subst (λ cs. Keeps cs 0) (sym e) ([], refl, tt, refl, h, omega arith, All-nil (Stands names points))

    -- a claim that is read, and put behind fewer than 64 others, is one more of them
    pub keeps_on : (claims now : List Claim) (c : Claim) (next after : ℕ) → Keeps claims next → length claims < 64
        → BeginsClaim text names points tokens next (Ok (stated_of c, after)) → Stands names points c → after < length tokens
        → now ≡ claims ++ c ∷ [] → Keeps now after
    keeps_on claims now c next after k h b s w e =
        let size = length-append claims (c ∷ []) in
        let grown = length-append k.0 (b.0 ∷ []) in
        let same = k.3 in
        subst (λ cs. Keeps cs after) (sym e) (
          k.0 ++ b.0 ∷ [],
          k.1 ∙ ap (claims_then k.0) b.1 ∙ sym (claims_more k.0 b.0 (drop after (tokens_of text tokens))),
          subst (λ ss. AllSay text names points (k.0 ++ b.0 ∷ []) ss) (sym (map-append stated_of claims (c ∷ [])))
              (all_more k.0 (map stated_of claims) b.0 (stated_of c) k.2 b.2),
          omega (arith, size, grown, same),
          w,
          omega (arith, size, h),
          All-push (Stands names points) claims c k.6 s,
        )

    -- where the end of the text comes, the claims that were read are what the tokens mean
    pub lead_end : (claims : List Claim) (next : ℕ) → AreTokensOf text tokens → is_end (token_at tokens next).kind ≡ true
        → Keeps claims next
        → ClaimsMean text names points (tokens_of text tokens) (Ok (map stated_of claims))
    lead_end claims next are h k = (
      k.0,
      record {
        end_at = (token_at tokens next).at;
        spelled = sym (k.1 ∙ ap (claims_then k.0) (drop_token text tokens next k.4
            ∙ ap₂ (λ z y. token z (token_at tokens next).at ∷ y) (end_is (bytes_of text (token_at tokens next)) (token_at tokens next).kind
            h) (end_last text tokens next are h)));
        good = all_group text names points k.0 (map stated_of claims) k.2;
      },
      k.2,
      let same = k.3 in let few = k.5 in omega (arith, same, few),
    )

    -- where fewer than 64 claims have been read, the fault of the next one is what the tokens mean
    pub lead_fault : (claims : List Claim) (next : ℕ) (f : ClaimFault) → length claims < 64
        → BeginsClaim text names points tokens next (Err f) → Keeps claims next
        → ClaimsMean text names points (tokens_of text tokens) (Err f)
    lead_fault claims next f h b k =
        let same = k.3 in (
          k.0,
          map stated_of claims,
          drop next (tokens_of text tokens),
          k.1,
          k.2,
          omega (arith, same, h),
          b k.0 (all_group text names points k.0 (map stated_of claims) k.2) (omega (arith, same, h)),
        )

    -- behind 64 claims any token but the end makes one claim too many, or is unexpected
    pub lead_count : (claims : List Claim) (next : ℕ) → 64 ≤ length claims → is_end (token_at tokens next).kind ≡ false → Keeps claims next
        → ClaimsMean text names points (tokens_of text tokens) (Err (surplus (token_at tokens next).kind (token_at tokens next).at))
    lead_count claims next h goes k =
        let same = k.3 in
        let few = k.5 in (
          k.0,
          map stated_of claims,
          drop next (tokens_of text tokens),
          k.1,
          k.2,
          omega (arith, same, few),
          surplus_fault k.0 (token_at tokens next).kind (bytes_of text (token_at tokens next)) (token_at tokens next).at
              (drop next (tokens_of text tokens)) _
              (all_group text names points k.0 (map stated_of claims) k.2) (omega (arith, same, few, h)) goes
              (drop_token text tokens next k.4),
        )
