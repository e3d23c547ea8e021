-- Steps of the reading along an edge's acts.
use Rattle.std.proofs.Common.{◌≡◌, ◌∙◌, ℕ, ◌+◌, List, ◌∷◌, [], ◌++◌, Ok, Err, refl, sym, ap}
use Rattle.std.specs.Prelude.{Option, Some, None}
use Rattle.lang_tokens.specs.declared.token.Token.{Token}
use Rattle.lang_grammar.specs.View.{tokens_of}
use Rattle.lang_tree.specs.declared.form.Form.{Form}
use Rattle.lang_tree.specs.Tree.{Condition, Statement, assume}
use Rattle.lang_meaning.specs.declared.fault.ParseFault.{ParseFault}
use Rattle.lang_meaning.specs.declared.fault.ParseFault.TheVariants as parse
use Rattle.lang_meaning.specs.Names.{place_of}
use Rattle.lang_meaning.specs.Walk.{assignment}
use Rattle.lang_meaning.specs.Expressions.{Meaning, as_truth}
use Rattle.lang_meaning.specs.ExpressionAnswers.{ExpressionMeans}
use Rattle.flow_transitions.specs.declared.auto_edge.AutoEdge.{AutoEdge}
use Rattle.flow_transitions.specs.declared.fault.AutoFault.{AutoFault}
use Rattle.flow_transitions.specs.declared.fault.AutoFault.TheVariants as fault
use Rattle.flow_transitions.specs.declared.reading.point_name.PointName.{PointName}
use Rattle.flow_transitions.specs.declared.reading.symbol.Symbol.{Symbol}
use Rattle.flow_transitions.specs.declared.reading.symbol.Symbol.TheVariants as symbol
use Rattle.flow_transitions.specs.AutoSymbols.{Seen, seen_at}
use Rattle.flow_transitions.specs.AutoReading.{progress, Progress, Stand, at_act, at_paren, at_condition, past_condition, at_equal}
use Rattle.flow_transitions.specs.AutoReading.{at_right_side, past_act, at_edge, with_act}
use Rattle.flow_transitions.specs.AutoReading.{going, unexpected_fault, act_or_end, assigned_if, as_side, assumed, assigned}
use Rattle.flow_transitions.proofs.progress.Steps.{Goes, Fails, token_goes, token_fails, sign_goes, sign_fails, expression_goes}
use Rattle.flow_transitions.proofs.progress.Steps.{expression_fails, refused_fails}
use Rattle.flow_transitions.proofs.progress.Signs.{no_paren, no_closing, no_equal, no_semicolon}

module _ (text : List ℕ) (tokens : List Token) (names : List (List ℕ)) (points : List PointName) (edges : List AutoEdge)
    (e : AutoEdge) where
  abbrev at : Stand → Progress
  at stand = progress names points edges stand

  abbrev there : ℕ → Seen
  there i = seen_at text tokens i

  -- ---- an assumption
  pub assume_goes : (i line : ℕ) → (there i).symbol ≡ symbol.Assume → line ≡ (there i).line
      → Goes text tokens (at (at_act e)) i (at (at_paren e line)) (i + 1)
  assume_goes i line w l =
      token_goes text tokens (at (at_act e)) (at (at_paren e line)) i refl
      (ap (λ y. act_or_end y e (at (at_act e)) (there i)) w ∙ ap (λ n. going (at (at_act e)) (at_paren e n)) (sym l))

  -- behind `assume` a `(` leads on to the condition
  pub paren_goes : (i line : ℕ) → (there i).symbol ≡ symbol.LeftParen →
      Goes text tokens (at (at_paren e line)) i (at (at_condition e line)) (i + 1)
  paren_goes i line w = sign_goes text tokens (at (at_paren e line)) i symbol.LeftParen (at_condition e line) refl (λ y. refl) w refl

  -- behind `assume` any other token is unexpected
  pub paren_fails : (i line : ℕ) (f : AutoFault) → f ≡ unexpected_fault (there i) → ((there i).symbol ≡ symbol.LeftParen → ⊥)
      → Fails text tokens (at (at_paren e line)) i f
  paren_fails i line f h n = sign_fails text tokens (at (at_paren e line)) i f refl (λ y. refl) h
      (no_paren (there i).at e line (there i).symbol n)

  -- an expression that is a condition leads on to what stands behind it
  pub condition_goes : (i line next : ℕ) (m : Meaning) (c : Condition) → ExpressionMeans text (tokens_of text tokens) i names (Ok (m, next))
      →
      assumed (as_truth (there i).at m) e line (at (at_condition e line))
      ≡ going (at (at_condition e line)) (past_condition e (assume c line)) →
      Goes text tokens (at (at_condition e line)) i (at (past_condition e (assume c line))) next
  condition_goes i line next m c h k = expression_goes text tokens (at (at_condition e line)) (at (past_condition e (assume c line))) i next
      m refl h k

  -- a fault of the condition's expression is the answer
  pub condition_refused : (i line : ℕ) (p : ParseFault) (f : AutoFault) → ExpressionMeans text (tokens_of text tokens) i names (Err p)
      → f ≡ fault.Parse p →
      Fails text tokens (at (at_condition e line)) i f
  condition_refused i line p f h k = refused_fails text tokens (at (at_condition e line)) i p f refl h k

  -- an expression that is no condition is refused with its fault
  pub condition_fails : (i line next : ℕ) (m : Meaning) (f : AutoFault)
      → ExpressionMeans text (tokens_of text tokens) i names (Ok (m, next)) →
      assumed (as_truth (there i).at m) e line (at (at_condition e line)) ≡ Err f → Fails text tokens (at (at_condition e line)) i f
  condition_fails i line next m f h k = expression_fails text tokens (at (at_condition e line)) i next m f refl h k

  -- behind the condition a `)` leads on to the end of the act
  pub closing_goes : (i : ℕ) (act : Statement) → (there i).symbol ≡ symbol.RightParen
      → Goes text tokens (at (past_condition e act)) i (at (past_act e act)) (i + 1)
  closing_goes i act w = sign_goes text tokens (at (past_condition e act)) i symbol.RightParen (past_act e act) refl (λ y. refl) w refl

  -- behind the condition any other token is unexpected
  pub closing_fails : (i : ℕ) (act : Statement) (f : AutoFault) → f ≡ unexpected_fault (there i)
      → ((there i).symbol ≡ symbol.RightParen → ⊥) → Fails text tokens (at (past_condition e act)) i f
  closing_fails i act f h n = sign_fails text tokens (at (past_condition e act)) i f refl (λ y. refl) h
      (no_closing (there i).at e act (there i).symbol n)

  -- from `assume` on the reading comes to the condition
  pub condition_reached : (i line : ℕ) → (there i).symbol ≡ symbol.Assume → line ≡ (there i).line
      → (there (i + 1)).symbol ≡ symbol.LeftParen
      → Goes text tokens (at (at_act e)) i (at (at_condition e line)) (i + 1 + 1)
  condition_reached i line w l p = λ answer h. assume_goes i line w l answer (paren_goes (i + 1) line p answer h)

  -- ---- the end of an act
  pub end_goes : (i : ℕ) (act : Statement) → (there i).symbol ≡ symbol.Semicolon
      → Goes text tokens (at (past_act e act)) i (at (at_act (with_act e act))) (i + 1)
  end_goes i act w = sign_goes text tokens (at (past_act e act)) i symbol.Semicolon (at_act (with_act e act)) refl (λ y. refl) w refl

  -- where an act ends any token but `;` is unexpected
  pub end_fails : (i : ℕ) (act : Statement) (f : AutoFault) → f ≡ unexpected_fault (there i) → ((there i).symbol ≡ symbol.Semicolon → ⊥)
      → Fails text tokens (at (past_act e act)) i f
  end_fails i act f h n = sign_fails text tokens (at (past_act e act)) i f refl (λ y. refl) h
      (no_semicolon (there i).at e act (there i).symbol n)

  -- ---- an assignment
  pub variable_goes : (i var line : ℕ) → (there i).symbol ≡ symbol.Name → line ≡ (there i).line → place_of (there i).bytes names ≡ Some var
      →
      Goes text tokens (at (at_act e)) i (at (at_equal e var line)) (i + 1)
  variable_goes i var line w l p =
      token_goes text tokens (at (at_act e)) (at (at_equal e var line)) i refl
      (ap (λ y. act_or_end y e (at (at_act e)) (there i)) w ∙ ap (λ o. assigned_if o e (at (at_act e)) (there i)) p
      ∙ ap (λ n. going (at (at_act e)) (at_equal e var n)) (sym l))

  -- a name that is assigned and is no variable is unknown
  pub variable_fails : (i : ℕ) (f : AutoFault) → (there i).symbol ≡ symbol.Name → place_of (there i).bytes names ≡ None
      → f ≡ fault.Parse (parse.UnknownName (there i).at) →
      Fails text tokens (at (at_act e)) i f
  variable_fails i f w p h =
      token_fails text tokens (at (at_act e)) i f refl
      (ap (λ y. act_or_end y e (at (at_act e)) (there i)) w ∙ ap (λ o. assigned_if o e (at (at_act e)) (there i)) p ∙ ap Err (sym h))

  -- behind a variable a `=` leads on to the right side, and keeps its place
  pub equal_goes : (i var line sign : ℕ) → (there i).symbol ≡ symbol.Equal → sign ≡ (there i).at
      → Goes text tokens (at (at_equal e var line)) i (at (at_right_side e var line sign)) (i + 1)
  equal_goes i var line sign w s =
      sign_goes text tokens (at (at_equal e var line)) i symbol.Equal (at_right_side e var line sign) refl (λ y. refl) w
      (ap (λ n. Some (at_right_side e var line n)) (sym s))

  -- behind a variable any other token is unexpected
  pub equal_fails : (i var line : ℕ) (f : AutoFault) → f ≡ unexpected_fault (there i) → ((there i).symbol ≡ symbol.Equal → ⊥)
      → Fails text tokens (at (at_equal e var line)) i f
  equal_fails i var line f h n = sign_fails text tokens (at (at_equal e var line)) i f refl (λ y. refl) h
      (no_equal (there i).at e var line (there i).symbol n)

  -- from the variable on the reading comes to the right side
  pub side_reached : (i var line : ℕ) → (there i).symbol ≡ symbol.Name → line ≡ (there i).line → place_of (there i).bytes names ≡ Some var
      → (there (i + 1)).symbol ≡ symbol.Equal
      → Goes text tokens (at (at_act e)) i (at (at_right_side e var line (there (i + 1)).at)) (i + 1 + 1)
  side_reached i var line w l p s = λ answer h.
      variable_goes i var line w l p answer (equal_goes (i + 1) var line (there (i + 1)).at s refl answer h)

  -- an expression that is a right side leads on to the end of the assignment
  pub side_goes : (i var line sign next : ℕ) (m : Meaning) (side : Option Form)
      → ExpressionMeans text (tokens_of text tokens) i names (Ok (m, next)) →
      assigned (as_side sign m) e var line (at (at_right_side e var line sign))
      ≡ going (at (at_right_side e var line sign)) (past_act e (assignment var side line)) →
      Goes text tokens (at (at_right_side e var line sign)) i (at (past_act e (assignment var side line))) next
  side_goes i var line sign next m side h k =
      expression_goes text tokens (at (at_right_side e var line sign)) (at (past_act e (assignment var side line))) i next m refl h k

  -- a fault of the right side's expression is the answer
  pub side_refused : (i var line sign : ℕ) (p : ParseFault) (f : AutoFault) → ExpressionMeans text (tokens_of text tokens) i names (Err p)
      → f ≡ fault.Parse p →
      Fails text tokens (at (at_right_side e var line sign)) i f
  side_refused i var line sign p f h k = refused_fails text tokens (at (at_right_side e var line sign)) i p f refl h k

  -- an expression that is no right side is refused with its fault
  pub side_fails : (i var line sign next : ℕ) (m : Meaning) (f : AutoFault)
      → ExpressionMeans text (tokens_of text tokens) i names (Ok (m, next)) →
      assigned (as_side sign m) e var line (at (at_right_side e var line sign)) ≡ Err f
      → Fails text tokens (at (at_right_side e var line sign)) i f
  side_fails i var line sign next m f h k = expression_fails text tokens (at (at_right_side e var line sign)) i next m f refl h k

  -- ---- no act
  no_act : (i : ℕ) (s : Symbol) → (s ≡ symbol.RightBrace → ⊥) → (s ≡ symbol.Assume → ⊥) → (s ≡ symbol.Name → ⊥) →
      act_or_end s e (at (at_act e)) (there i) ≡ Err (unexpected_fault (there i))
  no_act i symbol.RightBrace h k l = absurd (h refl)
  no_act i symbol.Assume h k l = absurd (k refl)
  no_act i symbol.Name h k l = absurd (l refl)
  no_act i s h k l = refl

  -- where an act may begin, a token that is no `}`, `assume` or name is unexpected
  pub act_fails : (i : ℕ) (f : AutoFault) → f ≡ unexpected_fault (there i) → ((there i).symbol ≡ symbol.RightBrace → ⊥)
      → ((there i).symbol ≡ symbol.Assume → ⊥) →
      ((there i).symbol ≡ symbol.Name → ⊥) → Fails text tokens (at (at_act e)) i f
  act_fails i f h k l m = token_fails text tokens (at (at_act e)) i f refl (no_act i (there i).symbol k l m ∙ ap Err (sym h))

  -- a `}` ends the edge, and puts it behind the others
  pub brace_goes : (i : ℕ) → (there i).symbol ≡ symbol.RightBrace → Goes text tokens (at (at_act e)) i
      (progress names points (edges ++ e ∷ []) at_edge) (i + 1)
  brace_goes i w =
      token_goes text tokens (at (at_act e)) (progress names points (edges ++ e ∷ []) at_edge) i refl
      (ap (λ y. act_or_end y e (at (at_act e)) (there i)) w)
