use Rattle.out_workload.proofs.texts.TextSteps.{six_parts}
use Rattle.out_workload.proofs.summaries.summary.Goals as goal

pub returns : goal.returns
returns c =
    six_parts c.new-text.result.items c.push_bench.new.text.items c.push_program.new.text.items c.push_points.new.text.items
    c.push_unknowns.new.text.items c.push_counted.new.text.items c.push_exit.new.text.items
    _ _ _ _ _ _
    c.new-text.ensures.items
    c.in_ok-push_bench.ensures
    c.in_ok-push_program.ensures
    c.in_ok-push_points.ensures
    c.in_ok-push_unknowns.ensures
    c.in_ok-push_counted.ensures
    c.in_ok-push_exit.ensures
