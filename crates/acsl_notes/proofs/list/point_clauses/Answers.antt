use Rattle.std.proofs.Common.{◌∙◌}
use Rattle.std.proofs.lemmas.Result.{IfOk-weaker}
use Rattle.acsl_notes.proofs.said.Bounds.{point_says}
use Rattle.acsl_notes.proofs.list.point_clauses.Goals as goal

pub returns : goal.returns
returns c =
    IfOk-weaker c.clauses.result _ _
    (λ said e. e ∙ point_says c.args.known.now c.args.rows.now c.args.bounds.now c.point_bounds.result.now c.args.point c.requires.some
    c.requires.within c.point_bounds.ensures)
    c.clauses.ensures
