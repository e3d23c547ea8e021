use Rattle.std.proofs.Common.{◌≡◌, ◌∙◌, ◌∷◌, Ok, ap}
use Rattle.source_tree.specs.Expressions.{before}
use Rattle.source_grammar.specs.Tokens.{token, a_name, step_sign}
use Rattle.source_meaning.specs.Names.{stepped_of}
use Rattle.source_meaning.specs.Expressions as meaning
use Rattle.source_value.specs.Steps.{direction_of}
use Rattle.source_reader.specs.Reading.{first_kind}
use Rattle.source_expression.specs.Signs.{direction_in}
use Rattle.source_expression.proofs.Shapes.{direction_plain}
use Rattle.source_expression.proofs.Leaves.{passed_to, place_is, found_is}
use Rattle.source_expression.proofs.Stepped.{step_read}
use Rattle.source_expression.proofs.names.stepped_before.Goals as goal

pub returns-clause-reads : goal.returns-clause-reads
returns-clause-reads c = λ d a x b rest q.
    let st = c.args.known.now in
    let old = c.args.reader.now in
    let all = token (a_name x) b ∷ rest in
    let sign = c.at-sign.result in
    let p = passed_to old (step_sign d) a all q c.skip.new.self c.skip.ensures in
    let f = found_is st c.skip.new.self c.name.result.now c.constant.result c.at.result c.name.ensures.bytes c.constant.ensures c.at.ensures
    x b rest p (λ y n. stepped_of y n sign st) (Ok c.in_ok-var.var) c.in_ok-var.ensures in
    let k = c.direction_in-direction.ensures ∙ ap direction_in c.symbol.ensures ∙ direction_plain (first_kind old.ahead)
    ∙ ap (λ ts. direction_in (first_kind ts)) q in
    step_read c.args.site c.args.next st x b a (meaning.direction_of d) before a (c.skip-2.new.self.ahead ≡ rest) c.in_ok-var.var sign
    (direction_of c.direction_in-direction.result) c.in_ok-stepped.field-0 (place_is old (step_sign d) a all q sign c.at-sign.ensures) f k
    c.in_ok-stepped.ensures (passed_to c.skip.new.self (a_name x) b rest p c.skip-2.new.self c.skip-2.ensures)
