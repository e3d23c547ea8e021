-- What a text says is one thing.
use Rattle.std.proofs.Common.{◌≡◌, ◌∙◌, ◌+◌, ◌≤◌, ◌<◌, inl, inr, ℕ, suc, Bool, true, false, List, [], ◌∷◌, length, nat_lt, Result, Ok}
use Rattle.std.proofs.Common.{Err, refl, sym, ap, ap₂, subst, arith}
use Rattle.std.proofs.lemmas.Bool.{ltb-false}
use Rattle.lang_grammar.specs.Grammar.{Token}
use Rattle.lang_grammar.specs.View.{tokens_of}
use Rattle.flow_edges.specs.declared.point.Point.{Point}
use Rattle.lang_tokens.specs.declared.lexicon.Lexicon.TheVariants.{Own}
use Rattle.lang_tokens.proofs.reading.Once.{one_token_list, one_text_fault, no_fault}
use Rattle.lang_tokens.specs.Reading.{Reads}
use Rattle.lang_tokens.specs.declared.token.Token as lex_token
use Rattle.ask_claims.specs.declared.fault.ClaimFault.{ClaimFault}
use Rattle.ask_claims.specs.declared.fault.ClaimFault.TheVariants as fault
use Rattle.ask_claims.specs.Grammar.{Written, claim_then, claims_then, AllGroup}
use Rattle.ask_claims.specs.Claims.{Stated, StatedClaims, Says, AllSay, ClaimsMean, FileMeans, Answers, Gives}
use Rattle.ask_claims.proofs.claims.Turns.{Turn, ends, fails, claims, TurnIs, turn_once, claim_turn, end_turn, fault_turn}

-- nothing comes behind it
abbrev IsLast : Turn → Type 0
IsLast (claims s rest) = ⊥
IsLast t = Unit {0}

module _ (text : List ℕ) (names : List (List ℕ)) (points : List Point) where
  -- the expressions of claims without fault group as they must
  pub all_group : (cs : List Written) (ss : List Stated) → AllSay text names points cs ss → AllGroup cs
  all_group [] ss h = tt
  all_group (c ∷ cs) (s ∷ ss) h = (h.0.good, all_group cs ss h.1)
  all_group (c ∷ cs) [] h = absurd h

  few : (n : ℕ) → n < 64 → nat_lt n 64 ≡ true
  few n h = on (nat_lt n 64) refl where
    on : (b : Bool) → nat_lt n 64 ≡ b → b ≡ true
    on true e = refl
    on false e = absurd (let i = ltb-false n 64 e in omega arith)

  -- where a claim comes next, nothing else does
  goes_on : (c : Written) (s : Stated) (rest xs : List Token) (n : ℕ) (t : Turn) → Says text names points c s → n < 64
      → xs ≡ claim_then c rest
      → TurnIs text names points (nat_lt n 64) xs t → t ≡ claims s rest
  goes_on c s rest xs n t h l e m =
      turn_once text names points true (claim_then c rest) t (claims s rest)
      (subst (λ b. TurnIs text names points b (claim_then c rest) t) (few n l)
      (subst (λ y. TurnIs text names points (nat_lt n 64) y t) e m))
      (claim_turn text names points c s rest h)

  last_none : (t : Turn) (s : Stated) (rest : List Token) → IsLast t → t ≡ claims s rest → ⊥
  last_none t s rest l e = subst IsLast e l

  -- claims that tokens begin with, and what comes behind them, are one thing
  compare : (cs ds : List Written) (ss us : List Stated) (t u : Turn) (n k m : ℕ) (xs ys : List Token)
      → claims_then cs xs ≡ claims_then ds ys
      → AllSay text names points cs ss → AllSay text names points ds us → k ≡ n + length cs → m ≡ n + length ds → k ≤ 64 → m ≤ 64
      → TurnIs text names points (nat_lt k 64) xs t → TurnIs text names points (nat_lt m 64) ys u → IsLast t → IsLast u
      → (ss ≡ us) × (t ≡ u)
  compare [] [] [] [] t u n k m xs ys e g h i j _ _ a b l o =
      let same : k ≡ m = omega arith in
      (refl, turn_once text names points (nat_lt m 64) ys t u (subst₂' e same a) b) where
        subst₂' : xs ≡ ys → k ≡ m → TurnIs text names points (nat_lt k 64) xs t → TurnIs text names points (nat_lt m 64) ys t
        subst₂' e f a = subst (λ y. TurnIs text names points (nat_lt m 64) y t) e
            (subst (λ y. TurnIs text names points (nat_lt y 64) xs t) f a)
  compare [] (d ∷ ds) [] (v ∷ us) t u n k m xs ys e g h i j _ q a b l o =
      absurd (last_none t v (claims_then ds ys) l (goes_on d v (claims_then ds ys) xs k t h.0 (omega arith) e a))
  compare (c ∷ cs) [] (s ∷ ss) [] t u n k m xs ys e g h i j p _ a b l o =
      absurd (last_none u s (claims_then cs xs) o (goes_on c s (claims_then cs xs) ys m u g.0 (omega arith) (sym e) b))
  compare (c ∷ cs) (d ∷ ds) (s ∷ ss) (v ∷ us) t u n k m xs ys e g h i j p q a b l o =
      let r : claims v (claims_then ds ys) ≡ claims s (claims_then cs xs) =
      turn_once text names points true (claim_then c (claims_then cs xs)) (claims v (claims_then ds ys)) (claims s (claims_then cs xs))
      (subst (λ y. TurnIs text names points true y (claims v (claims_then ds ys))) (sym e)
      (claim_turn text names points d v (claims_then ds ys) h.0))
      (claim_turn text names points c s (claims_then cs xs) g.0) in
      let same : s ≡ v = cc in
      let z = compare cs ds ss us t u (suc n) k m xs ys (cc) g.1 h.1 (omega arith) (omega arith) p q a b l o in
      (ap₂ (λ (x : Stated) y. x ∷ y) same z.0, z.1)
  compare [] ds (s ∷ ss) us t u n k m xs ys e g h i j p q a b l o = absurd g
  compare (c ∷ cs) ds [] us t u n k m xs ys e g h i j p q a b l o = absurd g
  compare cs [] ss (v ∷ us) t u n k m xs ys e g h i j p q a b l o = absurd h
  compare cs (d ∷ ds) ss [] t u n k m xs ys e g h i j p q a b l o = absurd h

  claims_once : (tokens : List Token) (r s : StatedClaims) → ClaimsMean text names points tokens r → ClaimsMean text names points tokens s
      → r ≡ s
  claims_once tokens (Ok ss) (Ok us) (cs, reads, say, l) (ds, again, also, k) =
      ap Ok (compare cs ds ss us ends ends 0 (0 + length cs) (0 + length ds) _ _ (reads.spelled ∙ sym again.spelled) say also refl refl
      (omega arith) (omega arith)
      (end_turn text names points (nat_lt (0 + length cs) 64) reads.end_at)
      (end_turn text names points (nat_lt (0 + length ds) 64) again.end_at) tt tt).0
  claims_once tokens (Ok ss) (Err f) (cs, reads, say, l) (ds, us, rest, e, also, k, first) =
      let r = compare cs ds ss us ends (fails f) 0 (0 + length cs) (length ds) _ rest (reads.spelled ∙ e) say also refl (omega arith)
      (omega arith) k
      (end_turn text names points (nat_lt (0 + length cs) 64) reads.end_at)
      (fault_turn text names points ds (all_group ds us also) rest f first) tt tt in
      let i : ends ≡ fails f = r.1 in cc
  claims_once tokens (Err f) (Ok us) (cs, ss, rest, e, say, l, first) (ds, again, also, k) =
      let r = compare cs ds ss us (fails f) ends 0 (length cs) (0 + length ds) rest _ (sym e ∙ sym again.spelled) say also (omega arith)
      refl l (omega arith)
      (fault_turn text names points cs (all_group cs ss say) rest f first)
      (end_turn text names points (nat_lt (0 + length ds) 64) again.end_at) tt tt in
      let i : fails f ≡ ends = r.1 in cc
  claims_once tokens (Err f) (Err g) (cs, ss, rest, e, say, l, first) (ds, us, more, h, also, k, again) =
      let r = compare cs ds ss us (fails f) (fails g) 0 (length cs) (length ds) rest more (sym e ∙ h) say also (omega arith) (omega arith) l
      k
      (fault_turn text names points cs (all_group cs ss say) rest f first)
      (fault_turn text names points ds (all_group ds us also) more g again) tt tt in
      let i : fails f ≡ fails g = r.1 in let j : f ≡ g = cc in ap Err j

  -- tokens mean one list of claims, or one fault
  pub file_once : (r s : StatedClaims) → FileMeans text names points r → FileMeans text names points s → r ≡ s
  file_once r s (inl (f, h, e)) (inl (g, i, k)) = e ∙ ap (λ x. Err (fault.Lex x)) (one_text_fault Own text f g h i) ∙ sym k
  file_once r s (inl (f, h, e)) (inr (tokens, i, m)) = absurd (no_fault Own text tokens f i h)
  file_once r s (inr (tokens, h, m)) (inl (f, i, e)) = absurd (no_fault Own text tokens f h i)
  file_once r s (inr (tokens, h, m)) (inr (others, i, n)) =
      claims_once (tokens_of text others) r s
      (subst (λ (x : List lex_token.Token). ClaimsMean text names points (tokens_of text x) r)
      (one_token_list Own text tokens others h i) m) n

-- what is meant is answered
pub exact_by : {A : Type 0} (view : A → List Stated) (text : List ℕ) (names : List (List ℕ)) (points : List Point)
    (result : Result A ClaimFault)
    → Answers view (FileMeans text names points) result → (wanted : StatedClaims) → FileMeans text names points wanted
    → Gives view result wanted
exact_by view text names points (Ok x) h wanted m = file_once text names points wanted (Ok (view x)) m h
exact_by view text names points (Err f) h wanted m = λ n. file_once text names points wanted (Err f) m (h n)

-- the claims of a text's tokens are those of the text
pub file_of : {A : Type 0} (view : A → List Stated) (text : List ℕ) (names : List (List ℕ)) (points : List Point)
    (tokens : List lex_token.Token) (result : Result A ClaimFault)
    → Reads Own text tokens → Answers view (ClaimsMean text names points (tokens_of text tokens)) result
    → Answers view (FileMeans text names points) result
file_of view text names points tokens (Ok x) h a = inr (tokens, h, a)
file_of view text names points tokens (Err f) h a = λ n. inr (tokens, h, a n)
