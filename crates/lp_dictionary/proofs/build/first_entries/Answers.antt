use Rattle.std.proofs.Common.{◌++◌, length, map, ap, ◌∙◌}
use Rattle.lp_dictionary.specs.declared.problem.Row.{Row}
use Rattle.lp_dictionary.specs.Build.{goals_entries, slacks_entries}
use Rattle.lp_dictionary.proofs.build.first_entries.Goals as goal

pub returns : goal.returns
returns g c =
    let m = g.F.OrderedField.meaning in
    c.in_ok-push_goals.ensures
    ∙ ap (λ x. x ++ goals_entries c.args.auxiliary c.args.problem.now.goal) c.in_ok-push_slacks.ensures
    ∙ ap (λ x. slacks_entries c.args.auxiliary (map (λ (r : Row _). r.coeffs) x) (map (λ (r : Row _). m r.side) x) (length x)
    ++ goals_entries c.args.auxiliary c.args.problem.now.goal) c.deref.ensures.value
