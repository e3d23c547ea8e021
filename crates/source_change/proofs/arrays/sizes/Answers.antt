use Rattle.std.proofs.Common.{◌≡◌, ◌∙◌, ◌≤◌, ◌∷◌, ◌++◌, true, false, ap, sym, subst, arith, length, List, Result, Ok, rules}
use Rattle.source_grammar.specs.Tokens.{Token, token, right_bracket}
use Rattle.source_tree.specs.Expressions.{Extent}
use Rattle.source_tree.specs.Extents.{extent_of}
use Rattle.source_tree.specs.declared.extent.Extent as code_extent
use Rattle.source_meaning.specs.declared.fault.FunctionFault.{FunctionFault}
use Rattle.source_meaning.specs.Names.{State}
use Rattle.source_meaning.specs.Results.{◌>>=◌}
use Rattle.source_meaning.specs.Arrays.{read_size}
use Rattle.source_reader.specs.Answers.{Answers}
use Rattle.source_reader.specs.Marks.{mark_in}
use Rattle.source_reader.specs.Reading.{Reading, at_tokens, behind_first, first_kind, passed}
use Rattle.source_reader.proofs.Going.{behind_fewer}
use Rattle.source_change.specs.Arrays.{WereSized, onto_some_sizes, read_some_sizes}
use Rattle.source_change.specs.Nexts.{is_bracket}
use Rattle.source_change.specs.Onto.{onto_size}
use Rattle.source_change.proofs.loops.Sizes.{all_left, next_left, less_left, none_left}
use Rattle.source_change.proofs.results.Answered.{err_then}
use Rattle.source_change.proofs.arrays.sizes.Goals as goal

pub sizes-init : goal.sizes-init
sizes-init c = record {
  left = λ ss rest e f. all_left c.args.known.now ss rest c.args.reader.now c.args.extents.now.items e;
  fewer = omega arith;
}

pub returns-clause-reads : goal.returns-clause-reads
returns-clause-reads c = λ ss rest e f. none_left c.args.known.now ss rest c.args.reader.now c.sizes.reader c.args.extents.now.items
    c.sizes.extents.items tt (c.sizes.invariant.left ss rest e f)
    (let h : is_bracket (first_kind c.sizes.reader.ahead) ≡ false = search rules in h)

less : (r s : Reading) → s ≡ passed r → length s.ahead ≤ length r.ahead
less r s e = let l : length s.ahead ≡ length (behind_first r.ahead) = ap (λ (r : Reading). length r.ahead) e in
    let k = behind_fewer r.ahead in omega (arith, l, k)

-- a size was read up to tokens
abbrev Sized : Reading → Reading → List Token → code_extent.Extent → Extent → Type 0
Sized old new ts e x = (extent_of e ≡ x) × (new ≡ at_tokens old ts)

pub returns-in_err-extent-clause-reads : goal.returns-in_err-extent-clause-reads
returns-in_err-extent-clause-reads c = λ ss rest e f.
    let first : Reading = c.args.reader.now in
    let st : State = c.args.known.now in
    let h : is_bracket (first_kind c.sizes.reader.ahead) ≡ true = search rules in
    let x = next_left st ss rest first c.sizes.reader c.args.extents.now.items c.sizes.extents.items (c.sizes.invariant.left ss rest e f) f
    h in
    let ts : List Token = token right_bracket x.close ∷ onto_some_sizes x.zs rest in
    let mid : c.skip.new.self ≡ at_tokens first (onto_size x.s ts) = c.skip.ensures ∙ x.reader in
    let is : Unit {0} → List Extent → Type 0 = λ _ es. WereSized rest first c.size.new.reader c.args.extents.now.items
    c.sizes.extents.items es in
    let P : Result (List Extent) FunctionFault → Type 0 = λ w. Answers is c.from_residual.result w in
    subst P (sym x.goes) (err_then (Sized c.skip.new.self c.size.new.reader ts) is c.from_residual.result c.in_err-extent.field-0.0
    (read_size st x.s) (λ y. read_some_sizes st x.zs >>= λ es. Ok (x.done ++ (y ∷ es))) c.from_residual.ensures.1
    (c.in_err-extent.ensures.reads x.s ts (ap (λ (r : Reading). r.ahead) mid)))

pub returns-in_err-take-clause-reads : goal.returns-in_err-take-clause-reads
returns-in_err-take-clause-reads c = λ ss rest e f.
    let first : Reading = c.args.reader.now in
    let st : State = c.args.known.now in
    let h : is_bracket (first_kind c.sizes.reader.ahead) ≡ true = search rules in
    let x = next_left st ss rest first c.sizes.reader c.args.extents.now.items c.sizes.extents.items (c.sizes.invariant.left ss rest e f) f
    h in
    let ts : List Token = token right_bracket x.close ∷ onto_some_sizes x.zs rest in
    let mid : c.skip.new.self ≡ at_tokens first (onto_size x.s ts) = c.skip.ensures ∙ x.reader in
    let a = c.in_ok-extent.ensures.reads x.s ts (ap (λ (r : Reading). r.ahead) mid) in
    absurd (c.in_err-take.ensures.0 (ap (λ (r : Reading). mark_in (first_kind r.ahead)) a.2.1))

pub sizes-preserved : goal.sizes-preserved
sizes-preserved c = record {
  left = λ ss rest e f.
      let first : Reading = c.args.reader.now in
      let st : State = c.args.known.now in
      let h : is_bracket (first_kind c.sizes.reader.ahead) ≡ true = search rules in
      let x = next_left st ss rest first c.sizes.reader c.args.extents.now.items c.sizes.extents.items (c.sizes.invariant.left ss rest e f)
      f h in
      let ts : List Token = token right_bracket x.close ∷ onto_some_sizes x.zs rest in
      let mid : c.skip.new.self ≡ at_tokens first (onto_size x.s ts) = c.skip.ensures ∙ x.reader in
      let a = c.in_ok-extent.ensures.reads x.s ts (ap (λ (r : Reading). r.ahead) mid) in
      less_left st ss rest first c.sizes.reader c.take.new.self c.args.extents.now.items c.sizes.extents.items c.push.new.self.items
      c.in_ok-extent.extent x a.0 a.1 a.2.0
      (c.in_ok-take.ensures.2 ∙ ap passed (a.2.1 ∙ ap (λ (r : Reading). at_tokens r ts) mid)) c.in_ok-push.ensures.items;
  fewer =
      let a = less c.sizes.reader c.skip.new.self c.skip.ensures in
      let b = c.in_ok-extent.ensures.shorter in
      let d = less c.size.new.reader c.take.new.self c.in_ok-take.ensures.2 in
      let g = c.sizes.invariant.fewer in
      omega (arith, a, b, d, g);
}
