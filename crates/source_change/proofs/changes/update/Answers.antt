use Rattle.std.proofs.Common.{◌≡◌, ◌∙◌, ℕ, List, Result, sym, ap, ap₂, subst}
use Rattle.std.specs.declared.alloc.Global.{Global}
use Rattle.std.specs.declared.vec.Vec.{Vec}
use Rattle.lang_tokens.specs.Lines.{line_at}
use Rattle.lang_tree.specs.declared.deed.Deed.{Deed}
use Rattle.source_grammar.specs.Tokens.{Token}
use Rattle.source_grammar.specs.Grammar.{spell_update}
use Rattle.source_tree.specs.Statements.{Change}
use Rattle.source_core.specs.Core.{change_deeds}
use Rattle.source_meaning.specs.declared.fault.FunctionFault.{FunctionFault}
use Rattle.source_meaning.specs.Names.{State, among}
use Rattle.source_reader.specs.Answers.{Answers}
use Rattle.source_reader.specs.Reading.{Reading, at_tokens, first_place}
use Rattle.source_change.specs.Changed.{StandsChange, changed_by, counted_change}
use Rattle.source_change.specs.Tests.{WasChanged, WasCounted}
use Rattle.source_change.specs.declared.deeds.Changed.{Changed}
use Rattle.source_change.proofs.changed.Updated.{place_of, place_comes, update_so}
use Rattle.source_change.proofs.results.Answered.{err_then, ok_then, weaker}
use Rattle.base_integers.specs.declared.integers.Integers.{Integers}
use Rattle.source_change.proofs.changes.update.Goals as goal

-- a change was read up to tokens
abbrev Done : (integers : Integers) (v l : ℕ) → Reading → Reading → List Token → Changed → Change → Type 0
Done integers v l old new ts t g = StandsChange integers v l t g × (new ≡ at_tokens old ts)

-- so was its statement
abbrev Read : (integers : Integers) (n : ℕ) → List Token → Reading → Reading → State → Vec Deed Global → State × Change → Type 0
Read integers n rest old new met v r = WasChanged integers n rest old new met v.items r

pub returns-in_err-changed-clause-reads : goal.returns-in_err-changed-clause-reads
returns-in_err-changed-clause-reads c = λ u rest gu f h.
    let old : Reading = c.args.reader.now in
    let new : Reading = c.change.new.reader in
    let k : Integers = c.site-site.result.integers in
    let l : ℕ = c.site-site.result.line in
    let v : ℕ = c.site-site.result.variables in
    let at : ℕ = c.at-at.result in
    let st : State = c.args.known.now in
    let is = Read old.integers old.variables rest old new st in
    let P : Result (State × Change) FunctionFault → Type 0 = λ w. Answers is c.from_residual.result w in
    let here : at ≡ place_of u = c.at-at.ensures ∙ ap first_place f ∙ place_comes u rest in
    subst P (sym (update_so old.integers (line_at old.text) old.variables st u k l v at c.site-site.ensures.integers
    c.site-site.ensures.line c.site-site.ensures.variables here))
    (err_then (Done k v l old new rest) is c.from_residual.result c.in_err-changed.field-0.0
    (changed_by k v l (among (spell_update u) st) u) (λ g. counted_change k v l at st g) c.from_residual.ensures.1
    (c.in_err-changed.ensures.reads u rest gu f h))

pub returns-clause-reads : goal.returns-clause-reads
returns-clause-reads c = λ u rest gu f h.
    let old : Reading = c.args.reader.now in
    let new : Reading = c.change.new.reader in
    let k : Integers = c.site-site.result.integers in
    let l : ℕ = c.site-site.result.line in
    let v : ℕ = c.site-site.result.variables in
    let at : ℕ = c.at-at.result in
    let st : State = c.args.known.now in
    let is = Read old.integers old.variables rest old new c.counted_change.new.known in
    let P : Result (State × Change) FunctionFault → Type 0 = λ w. Answers is c.counted_change.result w in
    let here : at ≡ place_of u = c.at-at.ensures ∙ ap first_place f ∙ place_comes u rest in
    subst P (sym (update_so old.integers (line_at old.text) old.variables st u k l v at c.site-site.ensures.integers
    c.site-site.ensures.line c.site-site.ensures.variables here))
    (ok_then (Done k v l old new rest) is c.in_ok-changed.changed c.counted_change.result
    (changed_by k v l (among (spell_update u) st) u) (λ g. counted_change k v l at st g) (c.in_ok-changed.ensures.reads u rest gu f h)
    (λ g d. weaker (λ (w : Vec Deed Global) r. WasCounted k v c.counted_change.new.known w.items r) is c.counted_change.result
    (counted_change k v l at st g)
    (λ w r m. record {
      known = m.0;
      deeds = m.1 ∙ ap₂ (λ k n. change_deeds k n r.1) c.site-site.ensures.integers c.site-site.ensures.variables;
      reader = d.1;
    })
    (c.counted_change.ensures g d.0)))
