use Rattle.std.proofs.Common.{◌≡◌, ◌∙◌, ◌≤◌, ℕ, true, false, ap, subst, arith, length, List, Ok, Err, rules}
use Rattle.std.specs.declared.alloc.Global.{Global}
use Rattle.std.specs.declared.vec.Vec.{Vec}
use Rattle.lang_tokens.specs.Lines.{line_at}
use Rattle.lang_tree.specs.declared.deed.Deed.{Deed}
use Rattle.source_grammar.specs.Tokens.{Token}
use Rattle.source_meaning.specs.Changes.{read_update}
use Rattle.source_meaning.specs.Statements.{read_more_updates}
use Rattle.source_reader.specs.Answers.{Answers}
use Rattle.source_reader.specs.Reading.{Reading, at_tokens, behind_first, first_kind, passed}
use Rattle.source_reader.specs.declared.stop.Stop.{Stop}
use Rattle.source_reader.proofs.Going.{behind_fewer}
use Rattle.source_change.specs.Nexts.{is_comma}
use Rattle.source_change.specs.Onto.{onto_update, onto_more_updates}
use Rattle.source_change.specs.Tests.{WasChanged, WereChanged}
use Rattle.source_change.proofs.loops.Updates.{next_left, less_left, fault_left, none_left}
use Rattle.source_change.proofs.results.Answered.{err_cases}
use Rattle.base_integers.specs.declared.integers.Integers.{Integers}
use Rattle.source_change.proofs.changes.more_updates.Goals as goal

less : (r s : Reading) → s ≡ passed r → length s.ahead ≤ length r.ahead
less r s e = let l : length s.ahead ≡ length (behind_first r.ahead) = ap (λ (r : Reading). length r.ahead) e in
    let k = behind_fewer r.ahead in omega (arith, l, k)

pub returns-clause-reads : goal.returns-clause-reads
returns-clause-reads c = λ us rest g e f. none_left c.args.reader.now.integers
    (line_at c.args.reader.now.text) c.args.reader.now.variables us rest c.args.reader.now
    c.changes.reader c.args.known.now c.changes.known c.args.deeds.now.items c.changes.deeds.items tt
    (c.changes.invariant.left us rest g e f)
    (let h : is_comma (first_kind c.changes.reader.ahead) ≡ false = search rules in h)

pub changes-preserved : goal.changes-preserved
changes-preserved c = record {
  left = λ us rest g e f.
      let first : Reading = c.args.reader.now in
      let integers : Integers = first.integers in
      let line : ℕ → ℕ = line_at first.text in
      let n : ℕ = first.variables in
      let h : is_comma (first_kind c.changes.reader.ahead) ≡ true = search rules in
      let x = next_left integers line n us rest first c.changes.reader c.args.known.now c.changes.known c.args.deeds.now.items
      c.changes.deeds.items
      (c.changes.invariant.left us rest g e f) f h in
      let ts : List Token = onto_more_updates x.vs rest in
      let mid : c.skip.new.self ≡ at_tokens first (onto_update x.u ts) = c.skip.ensures ∙ x.reader in
      let P : Reading → Type 0 = λ m. Answers (λ
      (ds : Vec Deed Global) r. WasChanged m.integers m.variables ts m c.update.new.reader c.update.new.known
      ds.items r) (Ok c.in_ok-more.more) (read_update m.integers (line_at m.text) m.variables c.changes.known x.u) in
      less_left integers line n us rest first c.changes.reader c.update.new.reader c.args.known.now c.changes.known c.update.new.known
      c.args.deeds.now.items c.changes.deeds.items c.append.new.deeds.items c.in_ok-more.more x
      (subst P mid (c.in_ok-more.ensures.reads x.u ts x.good (ap (λ (r : Reading). r.ahead) mid) x.follow)) c.in_ok-append.ensures;
  fewer =
      let a = less c.changes.reader c.skip.new.self c.skip.ensures in
      let b = c.in_ok-more.ensures.shorter in
      let d = c.changes.invariant.fewer in
      omega (arith, a, b, d);
}

pub returns-in_err-more-clause-reads : goal.returns-in_err-more-clause-reads
returns-in_err-more-clause-reads c = λ us rest g e f.
    let first : Reading = c.args.reader.now in
    let integers : Integers = first.integers in
    let line : ℕ → ℕ = line_at first.text in
    let n : ℕ = first.variables in
    let h : is_comma (first_kind c.changes.reader.ahead) ≡ true = search rules in
    let x = next_left integers line n us rest first c.changes.reader c.args.known.now c.changes.known c.args.deeds.now.items
    c.changes.deeds.items
    (c.changes.invariant.left us rest g e f) f h in
    let ts : List Token = onto_more_updates x.vs rest in
    let mid : c.skip.new.self ≡ at_tokens first (onto_update x.u ts) = c.skip.ensures ∙ x.reader in
    let s : Stop = c.in_err-more.field-0.0 in
    let P : Reading → Type 0 = λ m. Answers (λ (ds : Vec Deed Global) r. WasChanged m.integers m.variables ts m c.update.new.reader
    c.update.new.known
    ds.items r) (Err s) (read_update m.integers (line_at m.text) m.variables c.changes.known x.u) in
    let a = subst P mid (c.in_err-more.ensures.reads x.u ts x.good (ap (λ (r : Reading). r.ahead) mid) x.follow) in
    err_cases {A = Unit {0}} (λ _ r. WereChanged integers n rest first c.update.new.reader c.update.new.known c.args.deeds.now.items
    c.changes.deeds.items r) c.from_residual.result s (read_more_updates integers line n c.args.known.now us) c.from_residual.ensures.1
    (λ t k. fault_left integers line n {A = Unit {0}} (λ _ r. WereChanged integers n rest first c.update.new.reader c.update.new.known
    c.args.deeds.now.items
    c.changes.deeds.items r) us rest first c.changes.reader c.update.new.reader c.args.known.now c.changes.known c.update.new.known
    c.args.deeds.now.items c.changes.deeds.items s t x k a)
