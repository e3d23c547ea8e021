-- Faults of the parser as faults of claims, and what a claim is that was read.
use Rattle.std.proofs.Common.{◌≡◌, ◌∙◌, ◌+◌, ◌<◌, ℕ, List, length, Some, Result, Ok, Err, IsTrue, refl, sym, ap, subst}
use Rattle.std.specs.Prelude.{false}
use Rattle.std.specs.Result.{IsErrAnd, IfOk}
use Rattle.lang_grammar.specs.View.{tokens_of}
use Rattle.flow_edges.specs.declared.point.Point.{Point}
use Rattle.lang_tokens.specs.declared.token.Token.{Token}
use Rattle.lang_meaning.specs.Expressions.{Meaning}
use Rattle.lang_meaning.specs.ExpressionAnswers.{ExpressionAnswer, ExpressionMeans}
use Rattle.lang_meaning.specs.declared.fault.ParseFault.{ParseFault}
use Rattle.lang_meaning.specs.declared.fault.ParseFault.TheVariants as parse
use Rattle.lang_tree.specs.Cases.{cases_of}
use Rattle.lang_tree.specs.Limits.{is_tested}
use Rattle.lang_tree.specs.View.{condition_of}
use Rattle.ask_claims.specs.Truth.{is_decided}
use Rattle.ask_claims.specs.declared.claim.Claim.{Claim}
use Rattle.ask_claims.specs.declared.fault.ClaimFault.{ClaimFault}
use Rattle.ask_claims.specs.declared.fault.ClaimFault.TheVariants as fault
use Rattle.ask_claims.specs.Claims.{of_parse, parsed, Stated, point_of, Stands, Answers, Gives}
use Rattle.ask_claims.specs.Steps.{finished, headed, token_at}
use Rattle.ask_claims.proofs.claims.Binds.{then_ok, then_err}

-- the claim whose name is token i goes on behind its head, or is refused there
abbrev pub GoesOn : List ℕ → List (List ℕ) → List Token → ℕ → Result (ℕ × List ℕ) ClaimFault → Result (Stated × ℕ) ClaimFault → Type 0
GoesOn text names tokens i (Err f) r = r ≡ Err f
GoesOn text names tokens i (Ok h) r = (w : ExpressionAnswer) × ExpressionMeans text (tokens_of text tokens) (i + 2) names w
    × (r ≡ finished tokens i h w)

-- what the code finds at the claim whose name is token i, with the number of the token behind it, or its first fault
abbrev pub ClaimMeans : List ℕ → List (List ℕ) → List Point → List Token → ℕ → Result (Stated × ℕ) ClaimFault → Type 0
ClaimMeans text names points tokens i r = GoesOn text names tokens i (headed points text (token_at tokens i) (token_at tokens (i + 1))) r

-- what is meant is handed on as what follows from it
pub answers_then : {A B : Type 0} (view : A → B) (Means Says : Result B ClaimFault → Type 0) (r : Result A ClaimFault)
    → ((x : Result B ClaimFault) → Means x → Says x) → Answers view Means r → Answers view Says r
answers_then view Means Says (Ok x) f m = f (Ok (view x)) m
answers_then view Means Says (Err e) f m = λ n. f (Err e) (m n)

-- a fault of the parser that is handed on
pub parse_handed : {A B : Type 0} (view : A → B) (r : Result A ClaimFault) (p : ParseFault) (w : Result B ParseFault)
    → IsErrAnd r (λ y. y ≡ of_parse p)
    → ((p ≡ parse.NoMemory → ⊥) → w ≡ Err p) → Gives view r (parsed w)
parse_handed view (Ok x) p w h f = absurd h
parse_handed view (Err e) p w h f = λ n. ap parsed (f (λ m. n (h ∙ ap of_parse m))) ∙ ap Err (sym h)

-- a fault that is handed on
pub handed : {A B : Type 0} (view : A → B) (Means : Result B ClaimFault → Type 0) (r : Result A ClaimFault) (f : ClaimFault)
    → IsErrAnd r (λ y. y ≡ f)
    → ((f ≡ fault.NoMemory → ⊥) → Means (Err f)) → Answers view Means r
handed view Means (Ok x) f h m = absurd h
handed view Means (Err e) f h m = λ n. subst (λ y. Means (Err y)) (sym h) (m (λ k. n (h ∙ k)))

module _ (text : List ℕ) (names : List (List ℕ)) (points : List Point) (tokens : List Token) (i : ℕ) (name colon : Token)
    (is_name : name ≡ token_at tokens i)
    (behind : colon ≡ token_at tokens (i + 1)) where
  head_is : headed points text (token_at tokens i) (token_at tokens (i + 1)) ≡ headed points text name colon
  head_is = ap (λ x. headed points text x (token_at tokens (i + 1))) (sym is_name) ∙ ap (headed points text name) (sym behind)

  -- the claim is refused at its head
  pub refused_there : (f : ClaimFault) → headed points text name colon ≡ Err f → ClaimMeans text names points tokens i (Err f)
  refused_there f e = subst (λ x. GoesOn text names tokens i x (Err f)) (sym (head_is ∙ e)) refl

  module _ (h : ℕ × List ℕ) (head : headed points text name colon ≡ Ok h) (w : ExpressionAnswer)
      (means : ExpressionMeans text (tokens_of text tokens) (i + 2) names w) where
    -- it goes on with what its expression is
    pub goes_by : (r : Result (Stated × ℕ) ClaimFault) → r ≡ finished tokens i h w → ClaimMeans text names points tokens i r
    goes_by r e = subst (λ x. GoesOn text names tokens i x r) (sym (head_is ∙ head)) (w, means, e)

    -- a fault of the claim's expression is that of the claim
    pub stopped_there : (f : ClaimFault) → parsed w ≡ Err f → ClaimMeans text names points tokens i (Err f)
    stopped_there f e = goes_by (Err f) (sym (then_err _ e))

    -- what follows from the meaning of its expression is what the claim is, or its fault
    pub finished_there : {A : Type 0} (view : A → Stated × ℕ) (m : Meaning × ℕ) (result : Result A ClaimFault) → parsed w ≡ Ok m
        → Gives view result (finished tokens i h (Ok m))
        → Answers view (ClaimMeans text names points tokens i) result
    finished_there {A = A} view m result e g = on result g where
      same : finished tokens i h w ≡ finished tokens i h (Ok m)
      same = then_ok _ e refl

      on : (result : Result A ClaimFault) → Gives view result (finished tokens i h (Ok m))
          → Answers view (ClaimMeans text names points tokens i) result
      on (Ok x) g = goes_by (Ok (view x)) (sym (same ∙ g))
      on (Err f) g = λ n. goes_by (Err f) (sym (same ∙ g n))

-- a verdict may be asked on what was read
pub stands_by : (names : List (List ℕ)) (points : List Point) (point : ℕ) (label : List ℕ) (result : Result (Claim × ℕ) ClaimFault)
    → point_of label points ≡ Some point
    → point < length points → IfOk result (λ r. IsTrue (is_tested (length names) (condition_of r.0.cond)))
    → IfOk result (λ r. IsTrue (is_decided (condition_of r.0.cond)))
    → IfOk result (λ r. r.0.against ≡ cases_of false (condition_of r.0.cond)) → IfOk result (λ r. (r.0.point ≡ point) × (r.0.label ≡ label))
    → IfOk result (λ r. Stands names points r.0)
stands_by names points point label (Ok r) n w t d a e = record {
  within = subst (λ p. p < length points) (sym e.0) w;
  named = ap (λ x. point_of x points) e.1 ∙ n ∙ ap Some (sym e.0);
  condition = t;
  decided = d;
  against = a;
}
stands_by names points point label (Err f) n w t d a e = tt
