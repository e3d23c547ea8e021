use Rattle.std.proofs.Common.{◌∙◌, ◌++◌, List, map, ap, sym, subst}
use Rattle.std.specs.Prelude.{IsTrue, ℤ}
use Rattle.flow_systems.specs.SystemLimits.{is_over}
use Rattle.theory_validity.specs.Words.{guard_forms}
use Rattle.theory_transformers.specs.EdgeProblems.{source_limits, guard_limits}
use Rattle.solve_transformer.specs.Splits.{pairs, bounds_at, split_limit, limit_of}
use Rattle.solve_transformer.proofs.build.Built.{built_exact, built_shaped}
use Rattle.solve_transformer.proofs.build.edge_problem.Goals as goal

pub returns : goal.returns
returns c = λ system z edge row over s.
    let a = c.in_ok-source_rows.ensures system.variables (subst (λ (t : List (List ℤ)). IsTrue (is_over system.variables t)) (sym s.rows)
    over) in
    let b = c.in_ok-guard_rows.ensures c.args.width (guard_forms system.variables edge.actions) s.limits in
    let rows = b ∙ ap (λ xs. xs ++ map (split_limit c.args.width) (guard_limits (λ u. u) (guard_forms system.variables edge.actions)))
    (a ∙ ap (λ xs. map limit_of xs ++ map (split_limit c.args.width) (source_limits (λ r u. u) system.variables
    (bounds_at c.args.source.now) c.args.template.now)) c.in_ok-rows.ensures.items) in
    let goal = c.in_ok-goal.ensures ∙ ap pairs c.as_slice.ensures in (
      built_exact system z edge row c.args.width c.args.template.now c.args.source.now c.args.guards.now c.args.form.now s
          (record { rows = c.guard_rows.new.rows; goal = c.in_ok-goal.goal }) rows goal,
      built_shaped system z edge row c.args.width c.args.template.now c.args.source.now c.args.guards.now c.args.form.now s
          (record { rows = c.guard_rows.new.rows; goal = c.in_ok-goal.goal }) rows goal c.requires.few_rows c.requires.few_guards
          c.requires.few_columns,
    )
