use Rattle.std.proofs.Common.{◌≡◌, ◌-◌, ◌<◌, true, false, Some, ap, ◌∙◌, arith}
use Rattle.std.specs.Str.{bytes_eq}
use Rattle.json.specs.Json.{members, read_key, value}
use Rattle.json.proofs.Grammar.{read_key-shorter}
use Rattle.base_values.specs.Places.{last_at}
use Rattle.base_values.proofs.Counts.{last_here, latest, pass_other, pass_same, tally}
use Rattle.base_values.proofs.members.find_last.Goals as goal
use Rattle.base_values.proofs.members.find_last.Goals.{then-eq+else-left-eq1, else-eq}

pub returns-then-left-eq1 : goal.returns-then-left-eq1
returns-then-left-eq1 c =
    let l = c.members in
    let name = c.in-Some.name.now in
    let s = c.next_key.new.self in
    let named : read_key l.reader ≡ Some (Some name, s) = grind arith in
    let less = read_key-shorter l.reader (Some name) s named in
    let same : bytes_eq name c.args.key.now ≡ true = grind arith in
    let one : l.left ≡ 1 = omega arith in
    last_here (value 126) c.args.key.now l.invariant.0 name l.reader s (omega (arith, l.invariant.1)) named _ same
    (l.invariant.3 ∙ ap Some one) l.invariant.4

pub members-preserved : goal.members-preserved
members-preserved c =
    let l = c.members in
    let n = l.invariant.0 in
    let key = c.args.key.now in
    let name = c.in-Some.name.now in
    let s = c.next_key.new.self in
    let r = c.skip_value.new.self in
    let named : read_key l.reader ≡ Some (Some name, s) = grind arith in
    let less = read_key-shorter l.reader (Some name) s named in
    let lesser = c.in_ok-skip_value.ensures.shorter in
    let some : 0 < n = omega (arith, l.invariant.1) in
    let skip = c.in_ok-skip_value.ensures.value in
    let rest : (0 < c.if-eq.left) × (tally key (members (value 126) (n - 1) r) ≡ Some c.if-eq.left)
    × (last_at key c.args.reader.now ≡ latest key (members (value 126) (n - 1) r)) =
    elim c.if-eq.branch [
      | then-eq+else-left-eq1 w ↦
          let same : bytes_eq name key ≡ true = grind arith in
          let more : 1 < l.left = omega (arith, l.invariant.2) in
          let is : l.left - 1 ≡ c.if-eq.left = grind arith in
          let pass = pass_same (value 126) key n name l.reader s some named r l.left _ same skip l.invariant.3 more l.invariant.4 in
          (omega arith, pass.0 ∙ ap Some is, pass.1)
      | else-eq w ↦
          let other : bytes_eq name key ≡ false = grind arith in
          let is : l.left ≡ c.if-eq.left = grind arith in
          let pass = pass_other (value 126) key n name l.reader s some named r l.left _ other skip l.invariant.3 l.invariant.4 in
          (omega (arith, l.invariant.2), pass.0 ∙ ap Some is, pass.1)
    ] in
    (n - 1, omega (arith, l.invariant.1), rest.0, rest.1, rest.2)
