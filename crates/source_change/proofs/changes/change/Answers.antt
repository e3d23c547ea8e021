use Rattle.std.proofs.Common.{◌≡◌, ◌∙◌, ℕ, List, Option, Some, None, sym, ap, subst}
use Rattle.source_grammar.specs.Symbols.{direction_of}
use Rattle.source_grammar.specs.Tokens as g
use Rattle.source_grammar.specs.Tokens.{Name, Token}
use Rattle.source_grammar.specs.Grammar.{place, steps, Update, GoodUpdate, update, step_before, spell_update}
use Rattle.source_grammar.proofs.grammar.Follow.{AfterPart}
use Rattle.source_tree.specs.Statements.{Change}
use Rattle.source_meaning.specs.Names.{State, among}
use Rattle.source_meaning.specs.Changes.{changed}
use Rattle.source_reader.specs.Answers.{Answers}
use Rattle.source_reader.specs.Reading.{Reading, at_tokens, behind_first, first_kind, first_place}
use Rattle.source_change.specs.Nexts.{step_in}
use Rattle.source_change.specs.Onto.{onto_index, onto_place, onto_effect, onto_update}
use Rattle.source_change.specs.Changed.{StandsChange, changed_by}
use Rattle.source_change.specs.Tests.{WasTaken, name_of}
use Rattle.source_change.specs.declared.deeds.Changed.{Changed}
use Rattle.source_change.specs.declared.names.Named.{Named}
use Rattle.source_change.proofs.firsts.Ends.{part_ends}
use Rattle.source_change.proofs.firsts.Taken.{taken_is}
use Rattle.source_change.proofs.results.Answered.{err_never, weaker}
use Rattle.source_change.proofs.spelled.Changes.{update_onto}
use Rattle.base_integers.specs.declared.integers.Integers.{Integers}
use Rattle.source_change.proofs.changes.change.Goals as goal

-- a change was read up to tokens
abbrev Done : (integers : Integers) (v l : ℕ) → Reading → Reading → List Token → Changed → Change → Type 0
Done integers v l old new ts t g = StandsChange integers v l t g × (new ≡ at_tokens old ts)

pub returns-in_err-first-in-None-clause-reads : goal.returns-in_err-first-in-None-clause-reads
returns-in_err-first-in-None-clause-reads c = λ u rest gu f h. on u rest f where
  on : (u : Update) (rest : List Token) → c.args.reader.now.ahead ≡ onto_update u rest
      → Answers (Done c.args.site.integers c.args.site.variables c.args.site.line c.args.reader.now c.take_name.new.reader rest)
      c.from_residual.result
      (changed_by c.args.site.integers c.args.site.variables c.args.site.line (among (spell_update u) c.args.known.now) u)
  on (update (place x a i) e) rest f =
      err_never (λ (n : Named) q. WasTaken (onto_index i (onto_effect e rest)) c.args.reader.now c.take_name.new.reader n q)
      (Done c.args.site.integers c.args.site.variables c.args.site.line c.args.reader.now c.take_name.new.reader rest)
      c.from_residual.result c.in_err-first-in-None.field-0.0 (x, a)
      (changed_by c.args.site.integers c.args.site.variables c.args.site.line (among (spell_update (update (place x a i) e))
      c.args.known.now) (update (place x a i) e))
      c.from_residual.ensures.1 (c.in_err-first-in-None.ensures.reads x a (onto_index i (onto_effect e rest)) f)
  on (step_before d a p) rest f =
      let e : Option g.Direction = None in
      let k : e ≡ Some d = c.in-None.ensures ∙ ap (λ ts. step_in (first_kind ts)) f in absurd cc

pub returns-in-Some-clause-reads : goal.returns-in-Some-clause-reads
returns-in-Some-clause-reads c = λ u rest gu f h. on u rest gu f h where
  on : (u : Update) (rest : List Token) → GoodUpdate u → c.args.reader.now.ahead ≡ onto_update u rest → AfterPart (first_kind rest)
      → Answers (Done c.args.site.integers c.args.site.variables c.args.site.line c.args.reader.now c.step_before.new.reader rest)
      c.step_before.result
      (changed_by c.args.site.integers c.args.site.variables c.args.site.line (among (spell_update u) c.args.known.now) u)
  on (update (place x a i) e) rest gu f h =
      let d = direction_of c.in-Some.direction in
      let e : Option g.Direction = None in
      let k : Some d ≡ e = c.in-Some.ensures ∙ ap (λ ts. step_in (first_kind ts)) f in absurd cc
  on (step_before d a p) rest gu f h =
      let old : Reading = c.args.reader.now in
      let new : Reading = c.step_before.new.reader in
      let k : Integers = c.args.site.integers in
      let l : ℕ = c.args.site.line in
      let v : ℕ = c.args.site.variables in
      let u : Update = step_before d a p in
      let mid : c.skip.new.self ≡ at_tokens old (onto_place p rest) = c.skip.ensures ∙ ap (λ ts. at_tokens old (behind_first ts)) f in
      let around : c.scope-scope.result ≡ among (spell_update u) c.args.known.now =
      c.scope-scope.ensures.change u rest (f ∙ sym (update_onto u rest)) (part_ends (first_kind rest) h) in
      let e : Option g.Direction = Some (direction_of c.in-Some.direction) in
      let way : e ≡ Some d = c.in-Some.ensures ∙ ap (λ ts. step_in (first_kind ts)) f in
      let same : direction_of c.in-Some.direction ≡ d = cc in
      let here : c.at-at.result ≡ a = c.at-at.ensures ∙ ap first_place f in
      let is = Done k v l old new rest in
      let P : State → g.Direction → ℕ → Type 0 = λ st d a. Answers is c.step_before.result (changed k v l st p (steps d a)) in
      subst (λ st. P st d a) around (subst (λ d. P c.scope-scope.result d a) same
      (subst (λ a. P c.scope-scope.result (direction_of c.in-Some.direction) a) here
      (weaker (Done k v l c.skip.new.self new rest) is c.step_before.result
      (changed k v l c.scope-scope.result p (steps (direction_of c.in-Some.direction) c.at-at.result))
      (λ w g e. (e.0, e.1 ∙ ap (λ (r : Reading). at_tokens r rest) mid))
      (c.step_before.ensures.reads p rest gu (ap (λ (r : Reading). r.ahead) mid) h))))

pub returns-in_ok-first-in-None-clause-reads : goal.returns-in_ok-first-in-None-clause-reads
returns-in_ok-first-in-None-clause-reads c = λ u rest gu f h. on u rest gu f h where
  on : (u : Update) (rest : List Token) → GoodUpdate u → c.args.reader.now.ahead ≡ onto_update u rest → AfterPart (first_kind rest)
      → Answers (Done c.args.site.integers c.args.site.variables c.args.site.line c.args.reader.now c.behind_name.new.reader rest)
      c.behind_name.result
      (changed_by c.args.site.integers c.args.site.variables c.args.site.line (among (spell_update u) c.args.known.now) u)
  on (update (place x a i) e) rest gu f h =
      let old : Reading = c.args.reader.now in
      let mid : Reading = c.take_name.new.reader in
      let new : Reading = c.behind_name.new.reader in
      let k : Integers = c.args.site.integers in
      let l : ℕ = c.args.site.line in
      let v : ℕ = c.args.site.variables in
      let u : Update = update (place x a i) e in
      let n : Named = c.in_ok-first-in-None.first in
      let ts : List Token = onto_index i (onto_effect e rest) in
      let t = taken_is ts old mid n x a (c.in_ok-first-in-None.ensures.reads x a ts f) in
      let around : c.scope-scope.result ≡ among (spell_update u) c.args.known.now =
      c.scope-scope.ensures.change u rest (f ∙ sym (update_onto u rest)) (part_ends (first_kind rest) h) in
      let is = Done k v l old new rest in
      let P : State → Name → ℕ → Type 0 = λ st y b. Answers is c.behind_name.result (changed k v l st (place y b i) e) in
      subst (λ st. P st x a) around (subst (λ y. P c.scope-scope.result y a) t.0
      (subst (λ b. P c.scope-scope.result (name_of n) b) t.1
      (weaker (Done k v l mid new rest) is c.behind_name.result (changed k v l c.scope-scope.result (place (name_of n) n.at i) e)
      (λ w g d. (d.0, d.1 ∙ ap (λ (r : Reading). at_tokens r rest) t.2))
      (c.behind_name.ensures.reads i e rest gu.0 gu.1 (ap (λ (r : Reading). r.ahead) t.2) h))))
  on (step_before d a p) rest gu f h =
      let e : Option g.Direction = None in
      let k : e ≡ Some d = c.in-None.ensures ∙ ap (λ ts. step_in (first_kind ts)) f in absurd cc
