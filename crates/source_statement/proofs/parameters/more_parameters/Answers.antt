use Rattle.std.proofs.Common.{◌≡◌, ◌∙◌, ◌≤◌, ◌∷◌, ℕ, sym, ap, subst, arith, length, List, Ok, Err}
use Rattle.lang_tokens.specs.Lines.{line_at}
use Rattle.source_grammar.specs.Tokens.{Token, token, right_paren}
use Rattle.source_meaning.specs.Walk.{read_parameter, read_more_parameters}
use Rattle.source_reader.specs.Answers.{Answers}
use Rattle.source_reader.specs.Reading.{Reading, at_tokens, behind_first, first_kind, passed}
use Rattle.source_reader.specs.declared.stop.Stop.{Stop}
use Rattle.source_reader.proofs.Going.{behind_fewer}
use Rattle.source_change.proofs.results.Answered.{err_cases}
use Rattle.source_change.specs.Tests.{WasRead}
use Rattle.source_statement.specs.Onto.{onto_parameter, onto_more_parameters}
use Rattle.source_statement.specs.Starts.{start_in, start_of, a_comma}
use Rattle.source_statement.proofs.parts.Parameters.{all_left, next_left, less_left, fault_left, none_left}
use Rattle.source_statement.proofs.parts.Starting.{says_comma}
use Rattle.base_integers.specs.declared.integers.Integers.{Integers}
use Rattle.source_statement.proofs.parameters.more_parameters.Goals as goal

pub more-init : goal.more-init
more-init c = record {
  left = λ ps b rest e. all_left c.args.reader.now.integers (line_at c.args.reader.now.text) c.args.reader.now.variables ps
      (token right_paren b ∷ rest)
      c.args.reader.now c.args.known.now c.args.out.now.items e;
  fewer = omega arith;
}

less : (r s : Reading) → s ≡ passed r → length s.ahead ≤ length r.ahead
less r s e = let l : length s.ahead ≡ length (behind_first r.ahead) = ap (λ (r : Reading). length r.ahead) e in
    let k = behind_fewer r.ahead in omega (arith, l, k)

pub more-preserved : goal.more-preserved
more-preserved c = record {
  left = λ ps b rest e.
      let first : Reading = c.args.reader.now in
      let n : ℕ = first.variables in
      let h : start_in (first_kind c.more.reader.ahead) ≡ a_comma = sym c.coming.ensures ∙ ap start_of c.in-Comma.is in
      let x = next_left first.integers (line_at first.text) n ps b rest first c.more.reader c.args.known.now c.more.known
      c.args.out.now.items
      c.more.out.items (c.more.invariant.left ps b rest e) h in
      let ts : List Token = onto_more_parameters x.zs (token right_paren b ∷ rest) in
      let mid : c.skip.new.self ≡ at_tokens first (onto_parameter x.x ts) = c.skip.ensures ∙ x.reader in
      let P : Reading → Type 0 = λ m. Answers {A = Unit {0}} (λ _ r. WasRead m.integers m.variables ts m c.parameter.new.reader
      c.parameter.new.known
      c.more.out.items c.parameter.new.out.items r) (Ok tt) (read_parameter m.integers (line_at m.text) c.more.known x.x) in
      less_left first.integers (line_at first.text) n ps (token right_paren b ∷ rest) first c.more.reader c.parameter.new.reader
      c.args.known.now
      c.more.known c.parameter.new.known c.args.out.now.items c.more.out.items c.parameter.new.out.items tt x
      (subst P mid (c.in_ok-parameter.ensures.reads x.x ts (ap (λ (r : Reading). r.ahead) mid) x.follow));
  fewer =
      let a = less c.more.reader c.skip.new.self c.skip.ensures in
      let d = c.in_ok-parameter.ensures.shorter in
      let i = c.more.invariant.fewer in
      omega (arith, a, d, i);
}

pub returns-in_err-parameter-clause-reads : goal.returns-in_err-parameter-clause-reads
returns-in_err-parameter-clause-reads c = λ ps b rest e.
    let first : Reading = c.args.reader.now in
    let integers : Integers = first.integers in
    let n : ℕ = first.variables in
    let line : ℕ → ℕ = line_at first.text in
    let w : List Token = token right_paren b ∷ rest in
    let h : start_in (first_kind c.more.reader.ahead) ≡ a_comma = sym c.coming.ensures ∙ ap start_of c.in-Comma.is in
    let x = next_left integers line n ps b rest first c.more.reader c.args.known.now c.more.known c.args.out.now.items
    c.more.out.items (c.more.invariant.left ps b rest e) h in
    let ts : List Token = onto_more_parameters x.zs w in
    let mid : c.skip.new.self ≡ at_tokens first (onto_parameter x.x ts) = c.skip.ensures ∙ x.reader in
    let s : Stop = c.in_err-parameter.field-0.0 in
    let P : Reading → Type 0 = λ m. Answers {A = Unit {0}} (λ _ r. WasRead m.integers m.variables ts m c.parameter.new.reader
    c.parameter.new.known
    c.more.out.items c.parameter.new.out.items r) (Err s) (read_parameter m.integers (line_at m.text) c.more.known x.x) in
    let a = subst P mid (c.in_err-parameter.ensures.reads x.x ts (ap (λ (r : Reading). r.ahead) mid) x.follow) in
    err_cases {A = Unit {0}} (λ _ r. WasRead integers n w first c.parameter.new.reader c.parameter.new.known c.args.out.now.items
    c.parameter.new.out.items r) c.from_residual.result s (read_more_parameters integers line c.args.known.now ps) c.from_residual.ensures.1
    (λ t k. fault_left integers line n {A = Unit {0}} (λ _ r. WasRead integers n w first c.parameter.new.reader c.parameter.new.known
    c.args.out.now.items
    c.parameter.new.out.items r) ps w first c.more.reader c.parameter.new.reader c.args.known.now c.more.known c.parameter.new.known
    c.args.out.now.items c.more.out.items c.parameter.new.out.items s t x k a)

pub returns : goal.returns
returns c = record {
  reads = λ ps b rest e. none_left c.args.reader.now.integers (line_at c.args.reader.now.text) c.args.reader.now.variables ps
      (token right_paren b ∷ rest)
      c.args.reader.now c.more.reader c.args.known.now c.more.known c.args.out.now.items c.more.out.items tt
      (c.more.invariant.left ps b rest e)
      (λ h. c.in_default.not-Comma (says_comma c.coming.result (c.coming.ensures ∙ h)));
  shorter = c.more.invariant.fewer;
}
