use Rattle.std.proofs.Common.{◌≡◌, ◌∙◌, ◌∷◌, Ok, ap}
use Rattle.source_tree.specs.Expressions.{behind}
use Rattle.source_grammar.specs.Tokens.{token, a_name, step_sign}
use Rattle.source_meaning.specs.Names.{stepped_of}
use Rattle.source_meaning.specs.Expressions as meaning
use Rattle.source_value.specs.Steps.{direction_of}
use Rattle.source_reader.specs.Reading.{first_kind}
use Rattle.source_reader.proofs.Going.{goes_then, passed_goes}
use Rattle.source_expression.specs.Signs.{direction_in}
use Rattle.source_expression.proofs.Shapes.{direction_plain}
use Rattle.source_expression.proofs.Leaves.{passed_to, place_is, found_is}
use Rattle.source_expression.proofs.Stepped.{step_read}
use Rattle.source_expression.proofs.names.stepped_behind.Goals as goal

pub returns-clause-reads : goal.returns-clause-reads
returns-clause-reads c = λ x a d b rest q.
    let st = c.args.known.now in
    let old = c.args.reader.now in
    let all = token (step_sign d) b ∷ rest in
    let sign = c.at-sign.result in
    let p = passed_to old (a_name x) a all q c.skip.new.self c.skip.ensures in
    let f = found_is st old c.name-name.result.now c.constant-constant.result c.at-at.result c.name-name.ensures.bytes
    c.constant-constant.ensures c.at-at.ensures x a all q (λ y n. stepped_of y n sign st) (Ok c.in_ok-var.var) c.in_ok-var.ensures in
    let k = c.direction_in.ensures ∙ ap direction_in c.symbol.ensures ∙ direction_plain (first_kind c.skip.new.self.ahead)
    ∙ ap (λ ts. direction_in (first_kind ts)) p in
    step_read c.args.site c.args.next st x a b (meaning.direction_of d) behind a (c.skip-2.new.self.ahead ≡ rest) c.in_ok-var.var sign
    (direction_of c.direction_in.result) c.in_ok-stepped.field-0 (place_is c.skip.new.self (step_sign d) b rest p sign c.at-sign.ensures) f
    k c.in_ok-stepped.ensures (passed_to c.skip.new.self (step_sign d) b rest p c.skip-2.new.self c.skip-2.ensures)

pub returns-clause-goes : goal.returns-clause-goes
returns-clause-goes c = goes_then _ _ _ (passed_goes c.args.reader.now c.skip.new.self c.skip.ensures)
    (passed_goes c.skip.new.self c.skip-2.new.self c.skip-2.ensures)
