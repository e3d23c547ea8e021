use Rattle.std.proofs.Common.{◌≡◌, ◌∙◌, ℕ, List, Result, sym, ap, subst}
use Rattle.source_grammar.specs.Tokens.{Name, Token}
use Rattle.source_grammar.proofs.grammar.Follow.{part_expr}
use Rattle.source_tree.specs.Statements.{Change}
use Rattle.source_meaning.specs.declared.fault.FunctionFault.{FunctionFault}
use Rattle.source_meaning.specs.Names.{State}
use Rattle.source_reader.specs.Answers.{Answers}
use Rattle.source_reader.specs.Reading.{Reading, at_tokens, first_kind}
use Rattle.source_change.specs.Onto.{onto_effect}
use Rattle.source_change.specs.Changed.{Aim, StandsChange, StandsTarget, aim, done_to}
use Rattle.source_change.specs.Tests.{name_of}
use Rattle.source_change.specs.declared.deeds.Changed.{Changed}
use Rattle.source_change.specs.declared.places.Target.{Target}
use Rattle.source_change.proofs.changed.Aims.{changed_so}
use Rattle.source_change.proofs.changed.Updated.{effect_follows}
use Rattle.source_change.proofs.results.Answered.{err_then, ok_then, weaker}
use Rattle.base_integers.specs.declared.integers.Integers.{Integers}
use Rattle.source_change.proofs.changes.behind_name.Goals as goal

-- a place was read up to tokens
abbrev Placed : (integers : Integers) (v l : ℕ) → Reading → Reading → List Token → Target → Aim → Type 0
Placed integers v l old new ts t a = StandsTarget integers v l t a × (new ≡ at_tokens old ts)

-- so was what is done to it
abbrev Done : (integers : Integers) (v l : ℕ) → Reading → Reading → List Token → Changed → Change → Type 0
Done integers v l old new ts t g = StandsChange integers v l t g × (new ≡ at_tokens old ts)

pub returns-in_err-target-clause-reads : goal.returns-in_err-target-clause-reads
returns-in_err-target-clause-reads c = λ i f rest gi gf e h.
    let old : Reading = c.args.reader.now in
    let mid : Reading = c.place.new.reader in
    let k : Integers = c.args.site.integers in
    let l : ℕ = c.args.site.line in
    let v : ℕ = c.args.site.variables in
    let st : State = c.args.scope.now in
    let x : Name = name_of c.args.first.now in
    let a : ℕ = c.args.first.now.at in
    let is = Done k v l old mid rest in
    let P : Result Change FunctionFault → Type 0 = λ w. Answers is c.from_residual.result w in
    subst P (sym (changed_so k v l st x a i f))
    (err_then (Placed k v l old mid (onto_effect f rest)) is c.from_residual.result c.in_err-target.field-0.0 (aim k v l st x a i)
    (λ t. done_to k v l st t f) c.from_residual.ensures.1
    (c.in_err-target.ensures.reads i (onto_effect f rest) gi e (effect_follows f rest)))

pub returns-clause-reads : goal.returns-clause-reads
returns-clause-reads c = λ i f rest gi gf e h.
    let old : Reading = c.args.reader.now in
    let mid : Reading = c.place.new.reader in
    let new : Reading = c.effect.new.reader in
    let k : Integers = c.args.site.integers in
    let l : ℕ = c.args.site.line in
    let v : ℕ = c.args.site.variables in
    let st : State = c.args.scope.now in
    let x : Name = name_of c.args.first.now in
    let a : ℕ = c.args.first.now.at in
    let is = Done k v l old new rest in
    let P : Result Change FunctionFault → Type 0 = λ w. Answers is c.effect.result w in
    subst P (sym (changed_so k v l st x a i f))
    (ok_then (Placed k v l old mid (onto_effect f rest)) is c.in_ok-target.target c.effect.result (aim k v l st x a i)
    (λ t. done_to k v l st t f) (c.in_ok-target.ensures.reads i (onto_effect f rest) gi e (effect_follows f rest))
    (λ t s. weaker (Done k v l mid new rest) is c.effect.result (done_to k v l st t f)
    (λ w g d. (d.0, d.1 ∙ ap (λ (r : Reading). at_tokens r rest) s.1))
    (c.effect.ensures.reads t f rest s.0 gf (ap (λ (r : Reading). r.ahead) s.1) (part_expr (first_kind rest) h))))
