use Rattle.std.proofs.Common.{◌≡◌, ◌+◌, pos, arith}
use Rattle.flow_templates.specs.Domains.{multiple}
use Rattle.flow_rationals.proofs.made.Steps.{ranged_more}
use Rattle.flow_rationals.proofs.made.Within.{rows_within}
use Rattle.flow_rationals.proofs.build.rows.Goals as goal

pub loop-name-preserved : goal.loop-name-preserved
loop-name-preserved c =
    ranged_more (multiple (c.args.names + 1) (pos 1)) c.loop-name.name _ _ _ c.loop-name.invariant c.in_ok-push.ensures.items
    c.in_ok-multiple.ensures

pub new-requires : goal.new-requires
new-requires c =
    let all : c.loop-name.name ≡ c.args.names = omega arith in
    rows_within c.args.names c.loop-name.name _ c.loop-name.invariant all c.requires.some c.requires.few
