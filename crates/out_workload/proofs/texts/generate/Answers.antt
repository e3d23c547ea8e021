use Rattle.std.proofs.Common.{List, ℕ, ◌++◌, ap, ◌∙◌}
use Rattle.out_workload.specs.Texts.{front_text}
use Rattle.out_workload.proofs.texts.TextSteps.{begun, begun_more, begun_whole}
use Rattle.out_workload.proofs.texts.generate.Goals as goal

pub loop-init : goal.loop-init
loop-init c = begun c.args.seed c.args.loops c.extend_from_slice.new.self.items c.requires.seed
    (c.in_ok-extend_from_slice.ensures.items ∙ ap (λ (x : List ℕ). x ++ front_text) c.new-text.ensures.items)

pub push_drawn-requires : goal.push_drawn-requires
push_drawn-requires c = c.loop.invariant.small

pub loop-preserved : goal.loop-preserved
loop-preserved c = begun_more c.args.seed c.args.loops c.loop.text.items c.push_drawn.new.text.items c.loop.state c.in_ok-state.state
    c.loop.counter c.loop-test.true c.in_ok-state.ensures.small c.in_ok-state.ensures.state c.in_ok-state.ensures.text c.loop.invariant

pub returns : goal.returns
returns c = begun_whole c.args.seed c.args.loops c.loop.text.items c.extend_from_slice-2.new.self.items c.loop.state c.loop.counter
    c.loop-test.false c.in_ok-extend_from_slice-2.ensures.items c.loop.invariant
