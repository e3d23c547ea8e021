use Rattle.std.proofs.Common.{◌≡◌, ◌∙◌, ℕ, List, Result, sym, ap, subst}
use Rattle.source_grammar.specs.Symbols.{direction_of}
use Rattle.source_grammar.specs.Tokens.{Name, Token}
use Rattle.source_grammar.specs.Grammar.{Place, place, GoodPlace, Effect, steps}
use Rattle.source_grammar.proofs.grammar.Follow.{AfterPart, part_place}
use Rattle.source_tree.specs.Statements.{Change}
use Rattle.source_meaning.specs.declared.fault.FunctionFault.{FunctionFault}
use Rattle.source_meaning.specs.Names.{State}
use Rattle.source_meaning.specs.Changes.{changed}
use Rattle.source_reader.specs.Answers.{Answers}
use Rattle.source_reader.specs.Reading.{Reading, at_tokens, first_kind}
use Rattle.source_change.specs.Onto.{onto_index, onto_place}
use Rattle.source_change.specs.Changed.{Aim, StandsChange, StandsTarget, aim, done_to}
use Rattle.source_change.specs.Tests.{WasTaken, name_of}
use Rattle.source_change.specs.declared.deeds.Changed.{Changed}
use Rattle.source_change.specs.declared.names.Named.{Named}
use Rattle.source_change.specs.declared.places.Target.{Target}
use Rattle.source_change.proofs.changed.Aims.{changed_so}
use Rattle.source_change.proofs.firsts.Taken.{taken_is}
use Rattle.source_change.proofs.results.Answered.{err_never, err_then, ok_then, weaker}
use Rattle.base_integers.specs.declared.integers.Integers.{Integers}
use Rattle.source_change.proofs.changes.step_before.Goals as goal

-- a place was read up to tokens
abbrev Placed : (integers : Integers) (v l : ℕ) → Reading → Reading → List Token → Target → Aim → Type 0
Placed integers v l old new ts t a = StandsTarget integers v l t a × (new ≡ at_tokens old ts)

-- so was what is done to it
abbrev Done : (integers : Integers) (v l : ℕ) → Reading → Reading → List Token → Changed → Change → Type 0
Done integers v l old new ts t g = StandsChange integers v l t g × (new ≡ at_tokens old ts)

pub returns-in_err-first-clause-reads : goal.returns-in_err-first-clause-reads
returns-in_err-first-clause-reads c = λ p rest gp f h. on p rest f where
  on : (p : Place) (rest : List Token) → c.args.reader.now.ahead ≡ onto_place p rest
      → Answers (Done c.args.site.integers c.args.site.variables c.args.site.line c.args.reader.now c.take_name.new.reader rest)
      c.from_residual.result
      (changed c.args.site.integers c.args.site.variables c.args.site.line c.args.scope.now p
      (steps (direction_of c.args.direction) c.args.at))
  on (place x a i) rest f =
      err_never (λ (n : Named) q. WasTaken (onto_index i rest) c.args.reader.now c.take_name.new.reader n q)
      (Done c.args.site.integers c.args.site.variables c.args.site.line c.args.reader.now c.take_name.new.reader rest)
      c.from_residual.result c.in_err-first.field-0.0 (x, a)
      (changed c.args.site.integers c.args.site.variables c.args.site.line c.args.scope.now (place x a i)
      (steps (direction_of c.args.direction) c.args.at))
      c.from_residual.ensures.1 (c.in_err-first.ensures.reads x a (onto_index i rest) f)

pub returns-in_err-target-clause-reads : goal.returns-in_err-target-clause-reads
returns-in_err-target-clause-reads c = λ p rest gp f h. on p rest gp f h where
  on : (p : Place) (rest : List Token) → GoodPlace p → c.args.reader.now.ahead ≡ onto_place p rest → AfterPart (first_kind rest)
      → Answers (Done c.args.site.integers c.args.site.variables c.args.site.line c.args.reader.now c.place.new.reader rest)
      c.from_residual-in_err-target.result
      (changed c.args.site.integers c.args.site.variables c.args.site.line c.args.scope.now p
      (steps (direction_of c.args.direction) c.args.at))
  on (place x a i) rest gp f h =
      let old : Reading = c.args.reader.now in
      let mid : Reading = c.take_name.new.reader in
      let k : Integers = c.args.site.integers in
      let l : ℕ = c.args.site.line in
      let v : ℕ = c.args.site.variables in
      let st : State = c.args.scope.now in
      let by : Effect = steps (direction_of c.args.direction) c.args.at in
      let n : Named = c.in_ok-first.first in
      let t = taken_is (onto_index i rest) old mid n x a (c.in_ok-first.ensures.reads x a (onto_index i rest) f) in
      let is = Done k v l old c.place.new.reader rest in
      let P : Name → ℕ → Type 0 = λ y b. Answers is c.from_residual-in_err-target.result (changed k v l st (place y b i) by) in
      let Q : Result Change FunctionFault → Type 0 = λ w. Answers is c.from_residual-in_err-target.result w in
      subst (λ y. P y a) t.0 (subst (λ b. P (name_of n) b) t.1 (subst Q (sym (changed_so k v l st (name_of n) n.at i by))
      (err_then (Placed k v l mid c.place.new.reader rest) is c.from_residual-in_err-target.result c.in_err-target.field-0.0
      (aim k v l st (name_of n) n.at i) (λ t. done_to k v l st t by) c.from_residual-in_err-target.ensures.1
      (c.in_err-target.ensures.reads i rest gp (ap (λ (r : Reading). r.ahead) t.2) (part_place (first_kind rest) h)))))

pub returns-clause-reads : goal.returns-clause-reads
returns-clause-reads c = λ p rest gp f h. on p rest gp f h where
  on : (p : Place) (rest : List Token) → GoodPlace p → c.args.reader.now.ahead ≡ onto_place p rest → AfterPart (first_kind rest)
      → Answers (Done c.args.site.integers c.args.site.variables c.args.site.line c.args.reader.now c.place.new.reader rest)
      c.stepped.result
      (changed c.args.site.integers c.args.site.variables c.args.site.line c.args.scope.now p
      (steps (direction_of c.args.direction) c.args.at))
  on (place x a i) rest gp f h =
      let old : Reading = c.args.reader.now in
      let mid : Reading = c.take_name.new.reader in
      let new : Reading = c.place.new.reader in
      let k : Integers = c.args.site.integers in
      let l : ℕ = c.args.site.line in
      let v : ℕ = c.args.site.variables in
      let st : State = c.args.scope.now in
      let by : Effect = steps (direction_of c.args.direction) c.args.at in
      let n : Named = c.in_ok-first.first in
      let t = taken_is (onto_index i rest) old mid n x a (c.in_ok-first.ensures.reads x a (onto_index i rest) f) in
      let is = Done k v l old new rest in
      let P : Name → ℕ → Type 0 = λ y b. Answers is c.stepped.result (changed k v l st (place y b i) by) in
      let Q : Result Change FunctionFault → Type 0 = λ w. Answers is c.stepped.result w in
      subst (λ y. P y a) t.0 (subst (λ b. P (name_of n) b) t.1 (subst Q (sym (changed_so k v l st (name_of n) n.at i by))
      (ok_then (Placed k v l mid new rest) is c.in_ok-target.target c.stepped.result (aim k v l st (name_of n) n.at i)
      (λ t. done_to k v l st t by)
      (c.in_ok-target.ensures.reads i rest gp (ap (λ (r : Reading). r.ahead) t.2) (part_place (first_kind rest) h))
      (λ u s. weaker (λ (w : Changed) g. StandsChange k v l w g) is c.stepped.result (done_to k v l st u by)
      (λ w g e. (e, s.1 ∙ ap (λ (r : Reading). at_tokens r rest) t.2)) (c.stepped.ensures u st s.0)))))
