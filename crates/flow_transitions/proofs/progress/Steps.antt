-- Steps of the reading, one token or one expression at a time.
use Rattle.std.proofs.Common.{◌≡◌, ◌∙◌, ℕ, ◌+◌, List, refl, sym, ap, subst, Result, Ok, Err}
use Rattle.std.specs.Prelude.{Some, None, IsErrAnd}
use Rattle.lang_tokens.specs.declared.token.Token.{Token}
use Rattle.lang_grammar.specs.View.{tokens_of}
use Rattle.lang_meaning.specs.declared.fault.ParseFault.{ParseFault}
use Rattle.lang_meaning.specs.Expressions.{Meaning}
use Rattle.lang_meaning.specs.ExpressionAnswers.{ExpressionMeans}
use Rattle.flow_transitions.specs.declared.fault.AutoFault.{AutoFault}
use Rattle.flow_transitions.specs.declared.fault.AutoFault.TheVariants as fault
use Rattle.flow_transitions.specs.declared.reading.symbol.Symbol.{Symbol}
use Rattle.flow_transitions.specs.AutoSymbols.{Seen, seen_at}
use Rattle.flow_transitions.specs.AutoReading.{Stand, Progress, going_if, behind_sign, unexpected_fault, token_at, a_token, an_expression}
use Rattle.flow_transitions.specs.AutoReading.{wanted_at, expression_at}
use Rattle.flow_transitions.specs.AutoReading.{AutoAnswer, ReadsTo, failed, by_token, by_expression, no_expression, Advances}

-- one step leads on to another, and a step to a fault
abbrev pub Goes : List ℕ → List Token → Progress → ℕ → Progress → ℕ → Type 0
Goes text tokens r i s j = (answer : AutoAnswer) → ReadsTo text tokens (Ok s) j answer → ReadsTo text tokens (Ok r) i answer

abbrev pub Fails : List ℕ → List Token → Progress → ℕ → AutoFault → Type 0
Fails text tokens r i f = ReadsTo text tokens (Ok r) i (Err f)

-- a fault of a part is passed on
pub passed_on : {X : Type 0} (text : List ℕ) (tokens : List Token) (r : Progress) (i : ℕ) (result : Result X AutoFault)
    (after : X → Progress) (next : X → ℕ) (g : AutoFault) →
    IsErrAnd result (λ f. f ≡ g) → ((g ≡ fault.NoMemory → ⊥) → Fails text tokens r i g) → Advances text tokens r i result after next
passed_on text tokens r i (Ok x) after next g h k = absurd h
passed_on text tokens r i (Err f) after next g h k = λ n. subst (λ z. Fails text tokens r i z) (sym h) (k (λ e. n (h ∙ e)))

module _ (text : List ℕ) (tokens : List Token) where
  -- the number of the token that the reading comes to may be written another way
  pub moved : (r s : Progress) (i j k : ℕ) → j ≡ k → Goes text tokens r i s j → Goes text tokens r i s k
  moved r s i j k e h answer g = h answer (subst (λ n. ReadsTo text tokens (Ok s) n answer) (sym e) g)

  -- a token whose step goes on leads on to the next token
  pub token_goes : (r s : Progress) (i : ℕ) → wanted_at r.stand ≡ a_token → token_at r.stand r (seen_at text tokens i) ≡ Ok s
      → Goes text tokens r i s (i + 1)
  token_goes r s i w e answer h = by_token (Ok r) i answer r refl w (subst (λ x. ReadsTo text tokens x (i + 1) answer) (sym e) h)

  -- a token whose step is a fault is the answer
  pub token_fails : (r : Progress) (i : ℕ) (f : AutoFault) → wanted_at r.stand ≡ a_token
      → token_at r.stand r (seen_at text tokens i) ≡ Err f → Fails text tokens r i f
  token_fails r i f w e = by_token (Ok r) i (Err f) r refl w (failed (token_at r.stand r (seen_at text tokens i)) (i + 1) (Err f) f e refl)

  -- where signs alone stand
  abbrev pub IsSigned : Progress → Type 0
  IsSigned r = (y : Seen) → token_at r.stand r y ≡ going_if r y (behind_sign y.at r.stand y.symbol)

  -- a sign that stands there leads on to the stand behind it
  pub sign_goes : (r : Progress) (i : ℕ) (w : Symbol) (next : Stand) → wanted_at r.stand ≡ a_token → IsSigned r
      → (seen_at text tokens i).symbol ≡ w →
      behind_sign (seen_at text tokens i).at r.stand w ≡ Some next → Goes text tokens r i (record r { stand = next }) (i + 1)
  sign_goes r i w next t signed e b =
      let y = seen_at text tokens i in
      token_goes r (record r { stand = next }) i t (signed y ∙ ap (λ z. going_if r y (behind_sign y.at r.stand z)) e ∙ ap (going_if r y) b)

  -- a sign that leads nowhere is unexpected
  pub sign_fails : (r : Progress) (i : ℕ) (f : AutoFault) → wanted_at r.stand ≡ a_token → IsSigned r
      → f ≡ unexpected_fault (seen_at text tokens i) →
      behind_sign (seen_at text tokens i).at r.stand (seen_at text tokens i).symbol ≡ None → Fails text tokens r i f
  sign_fails r i f t signed e b =
      let y = seen_at text tokens i in
      token_fails r i f t (signed y ∙ ap (going_if r y) b ∙ ap Err (sym e))

  -- an expression whose step goes on leads on to the token behind it
  pub expression_goes : (r s : Progress) (i next : ℕ) (m : Meaning) → wanted_at r.stand ≡ an_expression
      → ExpressionMeans text (tokens_of text tokens) i r.variables (Ok (m, next)) →
      expression_at r.stand (seen_at text tokens i).at m r ≡ Ok s → Goes text tokens r i s next
  expression_goes r s i next m w h e answer k = by_expression (Ok r) i answer r m next refl w h
      (subst (λ x. ReadsTo text tokens x next answer) (sym e) k)

  -- an expression whose step is a fault is the answer
  pub expression_fails : (r : Progress) (i next : ℕ) (m : Meaning) (f : AutoFault) → wanted_at r.stand ≡ an_expression
      → ExpressionMeans text (tokens_of text tokens) i r.variables (Ok (m, next)) →
      expression_at r.stand (seen_at text tokens i).at m r ≡ Err f → Fails text tokens r i f
  expression_fails r i next m f w h e = by_expression (Ok r) i (Err f) r m next refl w h
      (failed (expression_at r.stand (seen_at text tokens i).at m r) next (Err f) f e refl)

  -- a fault of an expression is the answer
  pub refused_fails : (r : Progress) (i : ℕ) (p : ParseFault) (f : AutoFault) → wanted_at r.stand ≡ an_expression
      → ExpressionMeans text (tokens_of text tokens) i r.variables (Err p) →
      f ≡ fault.Parse p → Fails text tokens r i f
  refused_fails r i p f w h e = no_expression (Ok r) i (Err f) r p refl w h (ap Err e)
