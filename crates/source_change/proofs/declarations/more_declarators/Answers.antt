use Rattle.std.proofs.Common.{◌≡◌, ◌∙◌, ◌≤◌, ℕ, true, false, ap, subst, arith, length, List, Ok, Err, rules}
use Rattle.lang_tokens.specs.Lines.{line_at}
use Rattle.source_grammar.specs.Tokens.{Token}
use Rattle.source_meaning.specs.Statements.{read_declarator, read_more_declarators}
use Rattle.source_reader.specs.Answers.{Answers}
use Rattle.source_reader.specs.Reading.{Reading, at_tokens, behind_first, first_kind, passed}
use Rattle.source_reader.specs.declared.stop.Stop.{Stop}
use Rattle.source_reader.proofs.Going.{behind_fewer}
use Rattle.source_change.proofs.results.Answered.{err_cases}
use Rattle.source_change.specs.Nexts.{is_comma}
use Rattle.source_change.specs.Onto.{onto_declarator, onto_more_declarators}
use Rattle.source_change.specs.Tests.{WasRead}
use Rattle.source_change.proofs.loops.Declarators.{all_left, next_left, less_left, fault_left, none_left}
use Rattle.base_integers.specs.declared.integers.Integers.{Integers}
use Rattle.source_change.proofs.declarations.more_declarators.Goals as goal

pub names-init : goal.names-init
names-init c = record {
  left = λ xs rest g e f. all_left c.args.reader.now.integers
      (line_at c.args.reader.now.text) c.args.reader.now.variables xs rest c.args.reader.now c.args.known.now
      c.args.out.now.items g e;
  fewer = omega arith;
}

pub returns-clause-reads : goal.returns-clause-reads
returns-clause-reads c = λ xs rest g e f. none_left c.args.reader.now.integers
    (line_at c.args.reader.now.text) c.args.reader.now.variables xs rest c.args.reader.now
    c.names.reader c.args.known.now c.names.known c.args.out.now.items c.names.out.items tt (c.names.invariant.left xs rest g e f)
    (let h : is_comma (first_kind c.names.reader.ahead) ≡ false = search rules in h)

less : (r s : Reading) → s ≡ passed r → length s.ahead ≤ length r.ahead
less r s e = let l : length s.ahead ≡ length (behind_first r.ahead) = ap (λ (r : Reading). length r.ahead) e in
    let k = behind_fewer r.ahead in omega (arith, l, k)

pub names-preserved : goal.names-preserved
names-preserved c = record {
  left = λ xs rest g e f.
      let first : Reading = c.args.reader.now in
      let integers : Integers = first.integers in
      let line : ℕ → ℕ = line_at first.text in
      let n : ℕ = first.variables in
      let h : is_comma (first_kind c.names.reader.ahead) ≡ true = search rules in
      let x = next_left integers line n xs rest first c.names.reader c.args.known.now c.names.known c.args.out.now.items c.names.out.items
      (c.names.invariant.left xs rest g e f) f h in
      let ts : List Token = onto_more_declarators x.zs rest in
      let mid : c.skip.new.self ≡ at_tokens first (onto_declarator x.x ts) = c.skip.ensures ∙ x.reader in
      let P : Reading → Type 0 = λ m. Answers {A = Unit {0}} (λ _ r. WasRead m.integers m.variables ts m c.declarator.new.reader
      c.declarator.new.known
      c.names.out.items c.declarator.new.out.items r) (Ok tt) (read_declarator m.integers (line_at m.text) m.variables c.names.known x.x) in
      less_left integers line n xs rest first c.names.reader c.declarator.new.reader c.args.known.now c.names.known c.declarator.new.known
      c.args.out.now.items c.names.out.items c.declarator.new.out.items tt x
      (subst P mid (c.in_ok-declarator.ensures.reads x.x ts x.good (ap (λ (r : Reading). r.ahead) mid) x.follow));
  fewer =
      let a = less c.names.reader c.skip.new.self c.skip.ensures in
      let b = c.in_ok-declarator.ensures.shorter in
      let d = c.names.invariant.fewer in
      omega (arith, a, b, d);
}

pub returns-in_err-declarator-clause-reads : goal.returns-in_err-declarator-clause-reads
returns-in_err-declarator-clause-reads c = λ xs rest g e f.
    let first : Reading = c.args.reader.now in
    let integers : Integers = first.integers in
    let line : ℕ → ℕ = line_at first.text in
    let n : ℕ = first.variables in
    let h : is_comma (first_kind c.names.reader.ahead) ≡ true = search rules in
    let x = next_left integers line n xs rest first c.names.reader c.args.known.now c.names.known c.args.out.now.items c.names.out.items
    (c.names.invariant.left xs rest g e f) f h in
    let ts : List Token = onto_more_declarators x.zs rest in
    let mid : c.skip.new.self ≡ at_tokens first (onto_declarator x.x ts) = c.skip.ensures ∙ x.reader in
    let s : Stop = c.in_err-declarator.field-0.0 in
    let P : Reading → Type 0 = λ m. Answers {A = Unit {0}} (λ _ r. WasRead m.integers m.variables ts m c.declarator.new.reader
    c.declarator.new.known
    c.names.out.items c.declarator.new.out.items r) (Err s) (read_declarator m.integers (line_at m.text) m.variables c.names.known x.x) in
    let a = subst P mid (c.in_err-declarator.ensures.reads x.x ts x.good (ap (λ (r : Reading). r.ahead) mid) x.follow) in
    err_cases {A = Unit {0}} (λ _ r. WasRead integers n rest first c.declarator.new.reader c.declarator.new.known c.args.out.now.items
    c.declarator.new.out.items r) c.from_residual.result s (read_more_declarators integers line n c.args.known.now xs)
    c.from_residual.ensures.1
    (λ t k. fault_left integers line n {A = Unit {0}}
    (λ _ r. WasRead integers n rest first c.declarator.new.reader c.declarator.new.known c.args.out.now.items
    c.declarator.new.out.items r) xs rest first c.names.reader c.declarator.new.reader c.args.known.now c.names.known c.declarator.new.known
    c.args.out.now.items c.names.out.items c.declarator.new.out.items s t x k a)
