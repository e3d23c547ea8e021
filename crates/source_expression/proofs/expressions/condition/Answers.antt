-- An expression as a condition.
use Rattle.std.proofs.Common.{◌≡◌, ◌∙◌, ap}
use Rattle.source_core.specs.Elaborated.{elaborated}
use Rattle.source_meaning.specs.Expressions.{as_condition, first_of, read}
use Rattle.source_reader.specs.Reading.{first_place}
use Rattle.source_reader.specs.Placed.{placed}
use Rattle.source_expression.specs.Sides.{IsTestedOf}
use Rattle.source_expression.proofs.Answering.{answers_of, beside, ok_then}
use Rattle.source_expression.proofs.Shapes.{first_place_of}
use Rattle.source_expression.proofs.Worked.{tested_answers}
use Rattle.source_expression.proofs.expressions.condition.Goals as goal

pub returns-clause-reads : goal.returns-clause-reads
returns-clause-reads c = λ e rest g a q.
    let site = c.args.site in
    let h = c.args.next in
    let r = c.in_ok-value.ensures.reads e rest g a q in
    let f : c.at-first.result ≡ first_of e = c.at-first.ensures ∙ ap first_place q ∙ first_place_of e rest in
    ok_then (λ v x. IsTestedOf site h v x × (c.expression.new.reader.ahead ≡ rest)) c.placed.result
    (read site.integers site.line c.args.known.now e h) r.0
    (λ x. as_condition site.integers site.line (first_of e) h x) r.1
    (beside (IsTestedOf site h) (c.expression.new.reader.ahead ≡ rest) c.placed.result (as_condition site.integers site.line
    (first_of e) h r.0) r.2.1
    (answers_of (IsTestedOf site h) c.placed.result (placed (first_of e) c.into_condition.result)
    (as_condition site.integers site.line (first_of e) h r.0) (c.placed.ensures ∙ ap (λ n. placed n c.into_condition.result) f)
    (tested_answers site h r.0 c.into_condition.result (first_of e) (c.into_condition.ensures
    (elaborated site.integers site.line r.0 h) r.2.0))))
