use Rattle.std.proofs.Common.{◌≡◌, ◌+◌, ◌-◌, true, false, None, Some, sym, ap, ◌∙◌, arith}
use Rattle.std.specs.Str.{bytes_eq}
use Rattle.json.specs.Json.{members, read_key, value}
use Rattle.json.proofs.Grammar.{read_key-shorter}
use Rattle.base_values.proofs.Counts.{count_ends, count_other, count_same, plus, tally}
use Rattle.base_values.proofs.members.count.Goals as goal

pub members-preserved-then-eq : goal.members-preserved-then-eq
members-preserved-then-eq c =
    let l = c.members in
    let n = l.invariant.0 in
    let name = c.in-Some.name.now in
    let s = c.next_key.new.self in
    let r = c.skip_value.new.self in
    let named : read_key l.reader ≡ Some (Some name, s) = grind arith in
    let less = read_key-shorter l.reader (Some name) s named in
    let lesser = c.in_ok-skip_value.ensures.shorter in
    let same : bytes_eq name c.args.key.now ≡ true = grind arith in
    let more : c.in_ok-found.found ≡ l.found + 1 = grind arith in (
      n - 1,
      omega (arith, l.invariant.1),
      count_same (value 126) c.args.key.now n name l.reader s (omega (arith, l.invariant.1)) named r l.found _ same
          c.in_ok-skip_value.ensures.value l.invariant.2
          ∙ ap (λ m. plus m (tally c.args.key.now (members (value 126) (n - 1) r))) (sym more),
    )

pub members-preserved : goal.members-preserved
members-preserved c =
    let l = c.members in
    let n = l.invariant.0 in
    let name = c.in-Some.name.now in
    let s = c.next_key.new.self in
    let r = c.skip_value.new.self in
    let named : read_key l.reader ≡ Some (Some name, s) = grind arith in
    let less = read_key-shorter l.reader (Some name) s named in
    let lesser = c.in_ok-skip_value.ensures.shorter in
    let other : bytes_eq name c.args.key.now ≡ false = grind arith in (
      n - 1,
      omega (arith, l.invariant.1),
      count_other (value 126) c.args.key.now n name l.reader s (omega (arith, l.invariant.1)) named r _ l.found other
          c.in_ok-skip_value.ensures.value l.invariant.2,
    )

pub returns : goal.returns
returns c =
    let l = c.members in
    let over : read_key l.reader ≡ Some (None, c.next_key.new.self) = grind arith in
    count_ends (value 126) c.args.key.now l.invariant.0 l.reader c.next_key.new.self l.found _ l.invariant.1 over l.invariant.2
