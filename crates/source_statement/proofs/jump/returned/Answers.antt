use Rattle.std.proofs.Common.{◌≡◌, ◌∙◌, ◌∷◌, ℕ, List, Result, Ok, Err, refl, sym, ap, subst}
use Rattle.lang_tokens.specs.Lines.{line_at}
use Rattle.source_grammar.specs.Tokens.{Token, token, semicolon}
use Rattle.source_grammar.specs.Grammar.{Optional, absent, present, GoodOptional, spell_expr}
use Rattle.source_tree.specs.Expressions.{more, none}
use Rattle.source_tree.specs.Statements.{Statements, evaluates, nil}
use Rattle.source_core.specs.Elaborated.{elaborated, evaluated}
use Rattle.source_meaning.specs.Names.{State, among}
use Rattle.source_meaning.specs.Expressions.{read}
use Rattle.source_meaning.specs.Statements.{read_evaluated, read_returned}
use Rattle.source_value.specs.Stands.{Stands, StandsEvaluated}
use Rattle.source_value.specs.declared.value.Value.{Value}
use Rattle.source_value.specs.declared.value.Evaluated.{Evaluated}
use Rattle.source_reader.specs.Answers.{Answers}
use Rattle.source_reader.specs.declared.stop.Stop.{Stop}
use Rattle.source_reader.specs.Reading.{Reading, first_kind}
use Rattle.source_change.specs.Tests.{WasRead}
use Rattle.source_change.proofs.firsts.Going.{came_to}
use Rattle.source_change.proofs.results.Answered.{err_then, ok_then, weaker}
use Rattle.source_change.specs.Pushed.{WasEvaluated}
use Rattle.source_statement.specs.Onto.{onto_optional}
use Rattle.source_statement.specs.Starts.{start_in, start_of}
use Rattle.source_change.proofs.lists.Pushed.{none_pushed}
use Rattle.source_statement.proofs.parts.Pushes.{err_on, on_ok}
use Rattle.source_statement.proofs.parts.Read.{at_first, one_evaluated}
use Rattle.source_statement.proofs.parts.Starting.{no_expr, says_semicolon}
use Rattle.base_integers.specs.declared.integers.Integers.{Integers}
use Rattle.source_statement.proofs.jump.returned.Goals as goal

pub returns-in-Semicolon-clause-reads : goal.returns-in-Semicolon-clause-reads
returns-in-Semicolon-clause-reads c = λ t b rest g e. on t b rest e where
  on : (t : Optional) (b : ℕ) (rest : List Token) → c.args.reader.now.ahead ≡ onto_optional t (token semicolon b ∷ rest)
      → Answers {A = Unit {0}} (λ _ r. WasRead c.args.reader.now.integers c.args.reader.now.variables
      (token semicolon b ∷ rest) c.args.reader.now c.args.reader.now
      c.args.known.now c.args.out.now.items c.args.out.now.items r) (Ok tt)
      (read_returned c.args.reader.now.integers (line_at c.args.reader.now.text) c.args.reader.now.variables c.args.known.now c.args.at t)
  on absent b rest e = (
    (c.args.known.now, nil),
    refl,
    record {
      known = refl;
      out = none_pushed c.args.reader.now.integers c.args.reader.now.variables c.args.out.now.items;
      reader = at_first c.args.reader.now (token semicolon b ∷ rest) e;
    },
  )
  on (present x) b rest e = absurd (no_expr x (token semicolon b ∷ rest)
      (ap (λ ts. start_in (first_kind ts)) (sym e) ∙ sym c.coming.ensures ∙ ap start_of c.in-Semicolon.is))

pub returns-in_err-value : goal.returns-in_err-value
returns-in_err-value c = record {
  reads = λ t b rest g e. on t b rest g e;
  shorter = err_on c.from_residual.result _ _ c.from_residual.ensures.1;
} where
  on : (t : Optional) (b : ℕ) (rest : List Token) → GoodOptional t
      → c.args.reader.now.ahead ≡ onto_optional t (token semicolon b ∷ rest)
      → Answers {A = Unit {0}} (λ _ r. WasRead c.args.reader.now.integers c.args.reader.now.variables
      (token semicolon b ∷ rest) c.args.reader.now
      c.expression.new.reader c.args.known.now c.args.out.now.items c.args.out.now.items r) c.from_residual.result
      (read_returned c.args.reader.now.integers (line_at c.args.reader.now.text) c.args.reader.now.variables c.args.known.now c.args.at t)
  on absent b rest g e = absurd (c.in_default.not-Semicolon (says_semicolon c.coming.result
      (c.coming.ensures ∙ ap (λ ts. start_in (first_kind ts)) e)))
  on (present x) b rest g e =
      let old : Reading = c.args.reader.now in
      let new : Reading = c.expression.new.reader in
      let integers : Integers = old.integers in
      let n : ℕ = old.variables in
      let line : ℕ → ℕ = line_at old.text in
      let at : ℕ = c.args.at in
      let st : State = c.args.known.now in
      let ts : List Token = token semicolon b ∷ rest in
      let res : Result (Unit {0}) Stop = c.from_residual.result in
      let s : Stop = c.in_err-value.field-0.0 in
      let here : State = among (spell_expr x) st in
      let A : Integers → ℕ → ℕ → State → Type 0 = λ j l v st. Answers (λ (w : Value) y. Stands v w (elaborated j l y v)
      × (new.ahead ≡ ts)) (Err s) (read j l st x v) in
      let raw : A c.site-site.result.integers c.site-site.result.line c.site-site.result.variables c.scope-scope.result =
      c.in_err-value.ensures.reads x ts g tt e in
      let around : A c.site-site.result.integers c.site-site.result.line c.site-site.result.variables here =
      subst (λ st. A c.site-site.result.integers c.site-site.result.line c.site-site.result.variables st)
      (c.scope-scope.ensures.expression x ts e refl) raw in
      let lined : A integers (line at) c.site-site.result.variables here = subst
      (λ l. A integers l c.site-site.result.variables here) c.site-site.ensures.line
      (subst (λ j. A j c.site-site.result.line c.site-site.result.variables here) c.site-site.ensures.integers around) in
      let a : A integers (line at) n here = subst (λ v. A integers (line at) v here) c.site-site.ensures.variables lined in
      let is : Unit {0} → State × Statements → Type 0 = λ u r. WasRead integers n ts old new st c.args.out.now.items
      c.args.out.now.items r in
      err_then (λ (w : Value) y. Stands n w (elaborated integers (line at) y n)
      × (new.ahead ≡ ts)) is res s (read integers (line at) here x n)
      (λ y. read_evaluated integers line n st at (evaluates (more y none) (line at))) c.from_residual.ensures.1 a

pub returns : goal.returns
returns c = record {
  reads = λ t b rest g e. on t b rest g e;
  shorter = on_ok c.push_evaluated.result c.in_ok-value.ensures.goes.fewer;
} where
  on : (t : Optional) (b : ℕ) (rest : List Token) → GoodOptional t
      → c.args.reader.now.ahead ≡ onto_optional t (token semicolon b ∷ rest)
      → Answers {A = Unit {0}} (λ _ r. WasRead c.args.reader.now.integers c.args.reader.now.variables
      (token semicolon b ∷ rest) c.args.reader.now
      c.expression.new.reader c.push_evaluated.new.known c.args.out.now.items c.push_evaluated.new.out.items r) c.push_evaluated.result
      (read_returned c.args.reader.now.integers (line_at c.args.reader.now.text) c.args.reader.now.variables c.args.known.now c.args.at t)
  on absent b rest g e = absurd (c.in_default.not-Semicolon (says_semicolon c.coming.result
      (c.coming.ensures ∙ ap (λ ts. start_in (first_kind ts)) e)))
  on (present x) b rest g e =
      let old : Reading = c.args.reader.now in
      let new : Reading = c.expression.new.reader in
      let integers : Integers = old.integers in
      let n : ℕ = old.variables in
      let line : ℕ → ℕ = line_at old.text in
      let at : ℕ = c.args.at in
      let st : State = c.args.known.now in
      let ts : List Token = token semicolon b ∷ rest in
      let value : Value = c.in_ok-value.value in
      let all : Evaluated = record { prelude = value.prelude; next = value.next } in
      let res : Result (Unit {0}) _ = c.push_evaluated.result in
      let here : State = among (spell_expr x) st in
      let A : Integers → ℕ → ℕ → State → Type 0 = λ j l v st. Answers (λ (w : Value) y. Stands v w (elaborated j l y v)
      × (new.ahead ≡ ts)) (Ok value) (read j l st x v) in
      let by : c.site-site.result.integers ≡ integers = c.site-site.ensures.integers in
      let raw : A c.site-site.result.integers c.site-site.result.line c.site-site.result.variables c.scope-scope.result =
      c.in_ok-value.ensures.reads x ts g tt e in
      let around : A c.site-site.result.integers c.site-site.result.line c.site-site.result.variables here =
      subst (λ st. A c.site-site.result.integers c.site-site.result.line c.site-site.result.variables st)
      (c.scope-scope.ensures.expression x ts e refl) raw in
      let lined : A integers (line at) c.site-site.result.variables here = subst
      (λ l. A integers l c.site-site.result.variables here) c.site-site.ensures.line
      (subst (λ j. A j c.site-site.result.line c.site-site.result.variables here) by around) in
      let a : A integers (line at) n here = subst (λ v. A integers (line at) v here) c.site-site.ensures.variables lined in
      let is : Unit {0} → State × Statements
      → Type 0 = λ u r. WasRead integers n ts old new c.push_evaluated.new.known c.args.out.now.items c.push_evaluated.new.out.items r in
      ok_then (λ (w : Value) y. Stands n w (elaborated integers (line at) y n)
      × (new.ahead ≡ ts)) is value res (read integers (line at) here x n)
      (λ y. read_evaluated integers line n st at (evaluates (more y none) (line at))) a
      (λ y s.
      let B : Integers → ℕ → Type 0 = λ j v. StandsEvaluated v all (evaluated j (line at) (more y none) v)
      → Answers {A = Unit {0}} (λ _ r. WasEvaluated j v c.push_evaluated.new.known c.args.out.now.items c.push_evaluated.new.out.items r)
      res
      (read_evaluated j line v st at (evaluates (more y none) (line at))) in
      let f : B integers n = subst (λ v. B integers v) c.site-site.ensures.variables (subst (λ j. B j c.site-site.result.variables) by
      (c.push_evaluated.ensures line (more y none) c.site-site.ensures.line)) in
      weaker {A = Unit {0}} (λ _ r. WasEvaluated integers n c.push_evaluated.new.known c.args.out.now.items
      c.push_evaluated.new.out.items r) is res
      (read_evaluated integers line n st at (evaluates (more y none) (line at)))
      (λ u r k. record { known = k.0; out = k.1; reader = came_to old new ts c.in_ok-value.ensures.goes s.1 })
      (f (one_evaluated integers n (line at) n y value s.0)))
