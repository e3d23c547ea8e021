use Rattle.std.proofs.Common.{◌∙◌, ap, arith}
use Rattle.std.proofs.lemmas.List.{length-set}
use Rattle.base_numbers.specs.Rational.{zero_ℚ}
use Rattle.lang_tree.specs.Meaning.{put}
use Rattle.flow_systems.proofs.values.Kept.{put_among, rest_among, put_after, rest_after}
use Rattle.flow_systems.proofs.values.Values.put.Goals as goal

pub invariant_of-self : goal.invariant_of-self
invariant_of-self c =
    let size = c.self.invariant.0 in
    let few = c.self.invariant.1 in (
      length-set c.self.inside.list c.args.variable c.args.value ∙ size,
      omega arith,
      rest_after c.self.inside.len c.self.inside.list (omega (arith, size, few)) c.self.invariant.2 c.args.variable c.args.value
          c.if-self-variable.true
          (omega (arith, size)),
    )

pub returns-then-self-variable : goal.returns-then-self-variable
returns-then-self-variable c =
    let size = c.self.invariant.0 in
    let few = c.self.invariant.1 in
    put_after c.self.inside.len c.self.inside.list (omega (arith, size, few)) c.self.invariant.2 c.args.variable c.args.value
    c.if-self-variable.true
    (omega (arith, size))
    ∙ ap (λ r. put zero_ℚ r c.args.variable c.args.value) c.self.view_is

pub returns-else-self-variable : goal.returns-else-self-variable
returns-else-self-variable c =
    let size = c.self.invariant.0 in
    let few = c.self.invariant.1 in
    put_among c.self.inside.len c.self.inside.list c.args.variable c.args.value (omega (arith, size, few)) c.if-self-variable.false
    ∙ ap (λ r. put zero_ℚ r c.args.variable c.args.value) c.self.view_is
