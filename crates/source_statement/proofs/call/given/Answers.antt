use Rattle.std.proofs.Common.{◌≡◌, ◌∙◌, ◌∷◌, ◌++◌, ℕ, List, Option, Some, None, Result, Ok, refl, sym, ap, subst}
use Rattle.source_grammar.specs.Tokens.{Name, Token, token, right_paren, semicolon}
use Rattle.source_grammar.specs.Grammar.{spell_arguments}
use Rattle.source_tree.specs.Expressions.{Expressions}
use Rattle.source_core.specs.Elaborated.{evaluated}
use Rattle.source_meaning.specs.declared.fault.FunctionFault.{FunctionFault}
use Rattle.source_meaning.specs.Results.{◌>>=◌}
use Rattle.source_meaning.specs.Names.{State, Thing, as_called, thing_of}
use Rattle.source_meaning.specs.Expressions.{read_arguments}
use Rattle.source_value.specs.Stands.{StandsEvaluated}
use Rattle.source_value.specs.declared.value.Evaluated.{Evaluated}
use Rattle.source_reader.specs.Answers.{Answers}
use Rattle.source_reader.specs.declared.stop.Stop.{Stop}
use Rattle.source_reader.specs.Reading.{Reading, at_tokens, behind_first, passed}
use Rattle.source_change.specs.Tests.{name_of}
use Rattle.source_change.proofs.firsts.Going.{came_to}
use Rattle.source_change.proofs.results.Answered.{err_same, weaker}
use Rattle.base_integers.specs.declared.integers.Integers.{Integers}
use Rattle.source_statement.proofs.call.given.Goals as goal

-- a name that may be called
called_ok : {A : Type 0} (at : ℕ) (t : Option Thing) (y : A) (u : Unit {0}) → Ok u ≡ as_called at t tt → as_called at t y ≡ Ok y
called_ok at None y u e = refl
called_ok at (Some t) y u e = absurd cc

-- what comes behind it
called_then : {A C D : Type 0} (Was : C → D → Type 0) (res : Result C Stop) (w : Result A FunctionFault) (y : A)
    (f : A → Result D FunctionFault) → w ≡ Ok y → Answers Was res (f y) → Answers Was res (w >>= f)
called_then {A} Was res w y f e a = let P : Result A FunctionFault → Type 0 = λ v. Answers Was res (v >>= f) in subst P (sym e) a

-- the arguments were read up to tokens
abbrev Are : Reading → List Token → Integers → ℕ → ℕ → Evaluated → Expressions → Type 0
Are new ts integers l v w ys = StandsEvaluated v w (evaluated integers l ys v) × (new.ahead ≡ ts)

-- so was what stands behind them
abbrev Were : Reading → Reading → List Token → Integers → ℕ → ℕ → Evaluated → Expressions → Type 0
Were old new ts integers l v w ys = StandsEvaluated v w (evaluated integers l ys v) × (new ≡ at_tokens old ts)

pub returns-in_err-all-clause-reads : goal.returns-in_err-all-clause-reads
returns-in_err-all-clause-reads c = λ b es d i rest g e.
    let old : Reading = c.args.reader.now in
    let integers : Integers = c.args.site.integers in
    let l : ℕ = c.args.site.line in
    let n : ℕ = c.args.site.variables in
    let st : State = c.args.scope.now in
    let x : Name = name_of c.args.first.now in
    let at : ℕ = c.args.first.now.at in
    let ts : List Token = token right_paren d ∷ token semicolon i ∷ rest in
    let mid : c.skip.new.self ≡ at_tokens old (spell_arguments es ++ ts) = c.skip.ensures ∙ ap (λ ts. at_tokens old (behind_first ts)) e in
    let new : Reading = c.arguments.new.reader in
    let called : as_called at (thing_of x st) es ≡ Ok es = called_ok at (thing_of x st) es c.in_ok-called.field-0
    (c.in_ok-called.ensures ∙ ap (λ y. as_called at (thing_of (record { text = y; value = c.args.first.now.value }) st) tt)
    c.bytes.ensures.bytes) in
    let is = Were old new rest integers l n in
    called_then is c.from_residual-in_err-all.result (as_called at (thing_of x st) es) es (λ es. read_arguments integers l st es n) called
    (err_same (Are new ts integers l n) is c.from_residual-in_err-all.result c.in_err-all.field-0.0 (read_arguments integers l st es n)
    c.from_residual-in_err-all.ensures.1 (c.in_err-all.ensures.reads es ts g refl (ap (λ (r : Reading). r.ahead) mid)))

pub returns-clause-reads : goal.returns-clause-reads
returns-clause-reads c = λ b es d i rest g e.
    let old : Reading = c.args.reader.now in
    let integers : Integers = c.args.site.integers in
    let l : ℕ = c.args.site.line in
    let n : ℕ = c.args.site.variables in
    let st : State = c.args.scope.now in
    let x : Name = name_of c.args.first.now in
    let at : ℕ = c.args.first.now.at in
    let ts : List Token = token right_paren d ∷ token semicolon i ∷ rest in
    let mid : c.skip.new.self ≡ at_tokens old (spell_arguments es ++ ts) = c.skip.ensures ∙ ap (λ ts. at_tokens old (behind_first ts)) e in
    let new : Reading = c.arguments.new.reader in
    let called : as_called at (thing_of x st) es ≡ Ok es = called_ok at (thing_of x st) es c.in_ok-called.field-0
    (c.in_ok-called.ensures ∙ ap (λ y. as_called at (thing_of (record { text = y; value = c.args.first.now.value }) st) tt)
    c.bytes.ensures.bytes) in
    let is = Were old c.take-2.new.self rest integers l n in
    called_then is (Ok c.in_ok-all.all) (as_called at (thing_of x st) es) es (λ es. read_arguments integers l st es n) called
    (weaker (Are new ts integers l n) is (Ok c.in_ok-all.all) (read_arguments integers l st es n)
    (λ w ys h. (
      h.0,
      c.in_ok-take-2.ensures.2 ∙ ap passed (c.in_ok-take.ensures.2
          ∙ ap passed (came_to c.skip.new.self new ts c.in_ok-all.ensures.goes h.1 ∙ ap (λ (r : Reading). at_tokens r ts) mid)),
    ))
    (c.in_ok-all.ensures.reads es ts g refl (ap (λ (r : Reading). r.ahead) mid)))
