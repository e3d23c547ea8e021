-- Each function of the cycle answers what is wanted of what it reads, behind what it calls.
use Rattle.std.proofs.Common.{◌≡◌, ◌∙◌, ◌+◌, ◌++◌, ◌∷◌, suc, [], Some, Ok, Err, refl, sym}
use Rattle.std.proofs.Common.{ap, subst, arith, append_assoc, ◌≤◌, length, map}
use Rattle.std.proofs.lemmas.List.{length-map}
use Rattle.std.specs.Option.{option_map}
use Rattle.source_tree.specs.Expressions as made
use Rattle.source_tree.specs.Expressions.{Expression}
use Rattle.source_core.specs.Elaborated.{elaborated}
use Rattle.source_grammar.specs.Tokens.{token, infix_sign, question, colon, left_paren, right_paren, left_bracket, right_bracket}
use Rattle.source_grammar.specs.Tokens.{a_name, level, sign_of}
use Rattle.source_grammar.specs.Symbols.{op_of, symbol_kind}
use Rattle.source_grammar.specs.View.{plain_kind}
use Rattle.source_grammar.specs.Grammar.{Groups, spell_expr, spell_arguments, spell_subscripts}
use Rattle.source_tree.specs.Extents.{extent_of}
use Rattle.source_meaning.specs.Results.{◌>>=◌}
use Rattle.source_meaning.specs.Names.{array_of, as_called, passable, thing_of}
use Rattle.source_meaning.specs.Expressions as meaning
use Rattle.source_meaning.specs.Expressions.{first_of, ranged, read, read_arguments, right_of}
use Rattle.source_reader.specs.Answers.{Answers}
use Rattle.source_value.specs.declared.value.Value.{Value}
use Rattle.source_reader.specs.Reading.{Reading, behind_first, first_kind, first_place}
use Rattle.source_reader.proofs.Going.{behind_fewer, mark_less, goes_then, passed_goes, same_goes, stays}
use Rattle.source_reader.specs.declared.mark.Mark.TheVariants as mark
use Rattle.source_reader.specs.Placed.{placed}
use Rattle.source_expression.specs.Signs.{asks_conditions, is_closing, is_comma, is_question, prefix_of, sign_in, work_in}
use Rattle.source_expression.specs.declared.signs.Opening.TheVariants as opening
use Rattle.source_expression.specs.Sides.{IsRead}
use Rattle.source_expression.specs.Joins.{Stops}
use Rattle.source_expression.proofs.Answering.{beside, handed, ok_then}
use Rattle.source_expression.proofs.Shapes.{first_place_of, sign_plain, question_plain, no_opening}
use Rattle.source_expression.proofs.Joined.{goes_next, goes_last}
use Rattle.source_expression.proofs.Leaves.{passed_to, place_is, found_is}
use Rattle.source_expression.proofs.Parts.{called_ok}
use Rattle.source_expression.proofs.Whole.{operand_opens, parts, behind_operand, operand_ahead, operand_stops}
use Rattle.source_expression.proofs.Whole.{operand_fault, operand_read, whole_fault}
use Rattle.source_expression.proofs.Whole.{whole_read, whole_choice}
use Rattle.source_expression.proofs.Behind.{read_with, right_passed, right_kept, half, half_fault, whole, level_more, right_fault}
use Rattle.source_expression.proofs.Behind.{right_read}
use Rattle.source_expression.proofs.Given.{closing_plain, comma_plain, none_read, first_fault, first_read, next_fault, next_read}
use Rattle.source_expression.proofs.Given.{listing_last, argument_passed, argument_read, ends_after}
use Rattle.source_expression.proofs.Listed.{one_fault, one_done}
use Rattle.source_expression.proofs.Indexed.{element_named, index_whole, indexing_first, indexing_fault, indexing_more, indexing_last}
use Rattle.source_expression.proofs.Indexed.{extents_from}
use Rattle.source_expression.proofs.+expressions.Goals as goal

-- ---- a choice
pub expressions::choice-returns-in_err-_between-clause-goes : goal.expressions::choice-returns-in_err-_between-clause-goes
expressions::choice-returns-in_err-_between-clause-goes t c = goes_then _ _ _
    (goes_then _ _ _ (passed_goes c.args.reader.now c.take.new.self c.in_ok-sign.ensures.2) c.expression.ensures.goes)
    (same_goes c.expression.new.reader c.take-2.new.self c.in_err-_between.ensures.2)

pub expressions::choice-returns-in_err-no-clause-goes : goal.expressions::choice-returns-in_err-no-clause-goes
expressions::choice-returns-in_err-no-clause-goes t c = goes_then _ _ _ (goes_then _ _ _
    (goes_then _ _ _ (passed_goes c.args.reader.now c.take.new.self c.in_ok-sign.ensures.2) c.expression.ensures.goes)
    (passed_goes c.expression.new.reader c.take-2.new.self c.in_ok-_between.ensures.2)) c.expression-2.ensures.goes

pub expressions::choice-returns-in_err-no-2-clause-goes : goal.expressions::choice-returns-in_err-no-2-clause-goes
expressions::choice-returns-in_err-no-2-clause-goes t c = goes_then _ _ _ (goes_then _ _ _
    (goes_then _ _ _ (passed_goes c.args.reader.now c.take.new.self c.in_ok-sign.ensures.2) c.expression.ensures.goes)
    (passed_goes c.expression.new.reader c.take-2.new.self c.in_ok-_between.ensures.2)) c.expression-2.ensures.goes

pub expressions::choice-returns-clause-goes : goal.expressions::choice-returns-clause-goes
expressions::choice-returns-clause-goes t c = goes_then _ _ _ (goes_then _ _ _
    (goes_then _ _ _ (passed_goes c.args.reader.now c.take.new.self c.in_ok-sign.ensures.2) c.expression.ensures.goes)
    (passed_goes c.expression.new.reader c.take-2.new.self c.in_ok-_between.ensures.2)) c.expression-2.ensures.goes

pub expressions::choice-returns-in_err-no-clause-reads : goal.expressions::choice-returns-in_err-no-clause-reads
expressions::choice-returns-in_err-no-clause-reads t c = λ x h sign between e f rest i ge gf a q.
    let site = c.args.site in
    let st = c.args.known.now in
    let behind = token colon between ∷ (spell_expr f ++ rest) in
    let ra = read_with site c.in_ok-condition.condition.next c.passable-passable.result (passable st) e behind (Ok c.in_ok-yes.yes)
    c.expression.new.reader c.passable-passable.ensures (c.in_ok-yes.ensures.reads e behind ge tt
    (passed_to c.args.reader.now question sign (spell_expr e ++ behind) q c.take.new.self c.in_ok-sign.ensures.2)) in
    let hc = half site st h c.args.first x e (c.expression.new.reader.ahead ≡ behind) c.into_condition.result c.in_ok-condition.condition
    c.in_ok-yes.yes c.in_ok-yes-2.yes c.in_ok-condition.ensures (c.into_condition.ensures (elaborated site.integers site.line x h) i) ra
    c.in_ok-yes-2.ensures in
    half_fault site st h c.args.first x e (c.expression-2.new.reader.ahead ≡ rest) (c.expression-2.new.reader.ahead ≡ rest)
    c.in_ok-condition.condition c.in_ok-yes-2.yes sign f c.from_residual-in_err-no.result c.in_err-no.field-0.0 hc
    c.from_residual-in_err-no.ensures.1 (read_with site c.in_ok-yes-2.yes.next c.passable-passable.result (passable st) f rest
    (Err c.in_err-no.field-0.0) c.expression-2.new.reader c.passable-passable.ensures (c.in_err-no.ensures.reads f rest gf a
    (passed_to c.expression.new.reader colon between (spell_expr f ++ rest) ra.2.1 c.take-2.new.self c.in_ok-_between.ensures.2)))

pub expressions::choice-returns-clause-reads : goal.expressions::choice-returns-clause-reads
expressions::choice-returns-clause-reads t c = λ x h sign between e f rest i ge gf a q.
    let site = c.args.site in
    let st = c.args.known.now in
    let behind = token colon between ∷ (spell_expr f ++ rest) in
    let ra = read_with site c.in_ok-condition.condition.next c.passable-passable.result (passable st) e behind (Ok c.in_ok-yes.yes)
    c.expression.new.reader c.passable-passable.ensures (c.in_ok-yes.ensures.reads e behind ge tt
    (passed_to c.args.reader.now question sign (spell_expr e ++ behind) q c.take.new.self c.in_ok-sign.ensures.2)) in
    let hc = half site st h c.args.first x e (c.expression.new.reader.ahead ≡ behind) c.into_condition.result c.in_ok-condition.condition
    c.in_ok-yes.yes c.in_ok-yes-2.yes c.in_ok-condition.ensures (c.into_condition.ensures (elaborated site.integers site.line x h) i) ra
    c.in_ok-yes-2.ensures in
    let rb = read_with site c.in_ok-yes-2.yes.next c.passable-passable.result (passable st) f rest (Ok c.in_ok-no.no)
    c.expression-2.new.reader c.passable-passable.ensures (c.in_ok-no.ensures.reads f rest gf a
    (passed_to c.expression.new.reader colon between (spell_expr f ++ rest) ra.2.1 c.take-2.new.self c.in_ok-_between.ensures.2)) in
    whole site st h c.args.first x e (c.expression-2.new.reader.ahead ≡ rest) (c.expression-2.new.reader.ahead ≡ rest)
    c.in_ok-condition.condition c.in_ok-yes-2.yes c.in_ok-no-2.no sign f c.in_ok-no.no c.chosen.result c.placed-2.result hc rb
    c.in_ok-no-2.ensures c.chosen.ensures
    (c.placed-2.ensures ∙ ap (λ n. placed n c.chosen.result)
    (place_is c.args.reader.now question sign (spell_expr e ++ behind) q c.in_ok-sign.sign c.in_ok-sign.ensures.1))
    rb.2.1

pub expressions::choice-expression-requires-2 : goal.expressions::choice-expression-requires-2
expressions::choice-expression-requires-2 t c =
    let a = mark_less mark.Question c.args.reader.now.ahead c.in_ok-sign.ensures.0 in
    let b : length c.take.new.self.ahead ≡ length (behind_first c.args.reader.now.ahead) =
    ap (λ (r : Reading). length r.ahead) c.in_ok-sign.ensures.2 in
    let d = c.expression.ensures.goes.fewer in
    let e = behind_fewer c.expression.new.reader.ahead in
    let f : length c.take-2.new.self.ahead ≡ length (behind_first c.expression.new.reader.ahead) =
    ap (λ (r : Reading). length r.ahead) c.in_ok-_between.ensures.2 in
    (omega (arith, a, b, d, e, f), tt)

-- ---- an expression
pub expressions::expression-returns-in_err-value-clause-reads : goal.expressions::expression-returns-in_err-value-clause-reads
expressions::expression-returns-in_err-value-clause-reads t c =
    whole_fault c.args.site c.args.known.now c.args.next c.args.reader.now c.from_residual.result c.in_err-value.field-0.0
    c.joins.new.reader c.joins.new.reader c.from_residual.ensures.1 c.in_err-value.ensures.reads

pub expressions::expression-returns-then-is_question-clause-reads : goal.expressions::expression-returns-then-is_question-clause-reads
expressions::expression-returns-then-is_question-clause-reads t c =
    whole_choice c.args.site c.args.known.now c.args.next c.args.reader.now c.at-first.result c.in_ok-value.value c.joins.new.reader
    c.choice.new.reader c.choice.result c.at-first.ensures c.in_ok-value.ensures.reads
    (sym (c.is_question.ensures ∙ ap is_question c.symbol.ensures ∙ question_plain (first_kind c.joins.new.reader.ahead))
    ∙ c.if-is_question.true) c.choice.ensures.reads

pub expressions::expression-returns-else-is_question-clause-reads : goal.expressions::expression-returns-else-is_question-clause-reads
expressions::expression-returns-else-is_question-clause-reads t c =
    whole_read c.args.site c.args.known.now c.args.next c.args.reader.now c.in_ok-value.value c.joins.new.reader
    c.in_ok-value.ensures.reads
    (sym (c.is_question.ensures ∙ ap is_question c.symbol.ensures ∙ question_plain (first_kind c.joins.new.reader.ahead))
    ∙ c.if-is_question.false)

-- ---- a sign with its right side
pub expressions::join-returns-in_err-right-clause-reads : goal.expressions::join-returns-in_err-right-clause-reads
expressions::join-returns-in_err-right-clause-reads t c = λ x h j rest i o g s q.
    let e : c.level.result + 1 ≡ suc (level j.op) = level_more c.level.result (op_of c.args.op) j.op c.level.ensures o in
    let p = passed_to c.args.reader.now (infix_sign j.op) j.at (spell_expr j.right ++ rest) q c.skip.new.self c.skip.ensures in
    right_fault c.args.site c.args.known.now h c.args.first x j c.work_of-work.result
    (c.work_of-work.ensures ∙ ap work_in (sym o)) c.in_ok-left.left (c.in_ok-left.ensures x h i)
    (c.right_side.new.reader.ahead ≡ rest) (c.right_side.new.reader.ahead ≡ rest) c.next.result c.from_residual-in_err-right.result
    c.in_err-right.field-0.0 c.next.ensures c.from_residual-in_err-right.ensures.1
    (c.in_err-right.ensures.reads j.right rest (omega arith) (subst (λ n. Groups n j.right) (sym e) g)
    (subst (λ n. Stops n rest) (sym e) s) p)

pub expressions::join-returns-clause-reads : goal.expressions::join-returns-clause-reads
expressions::join-returns-clause-reads t c = λ x h j rest i o g s q.
    let e : c.level.result + 1 ≡ suc (level j.op) = level_more c.level.result (op_of c.args.op) j.op c.level.ensures o in
    let p = passed_to c.args.reader.now (infix_sign j.op) j.at (spell_expr j.right ++ rest) q c.skip.new.self c.skip.ensures in
    let r = c.in_ok-right.ensures.reads j.right rest (omega arith) (subst (λ n. Groups n j.right) (sym e) g)
    (subst (λ n. Stops n rest) (sym e) s) p in
    right_read c.args.site c.args.known.now h c.args.first x j c.work_of-work.result
    (c.work_of-work.ensures ∙ ap work_in (sym o)) c.in_ok-left.left (c.in_ok-left.ensures x h i)
    (c.right_side.new.reader.ahead ≡ rest) (c.right_side.new.reader.ahead ≡ rest) c.next.result c.at-at.result c.at-first.result
    c.in_ok-right.right c.joined.result c.next.ensures
    (place_is c.args.reader.now (infix_sign j.op) j.at (spell_expr j.right ++ rest) q c.at-at.result c.at-at.ensures)
    (c.at-first.ensures ∙ ap first_place p ∙ first_place_of j.right rest) r c.joined.ensures r.2.1

-- ---- the right side of a sign
pub expressions::right_side-returns-then-asks_conditions-clause-reads
    : goal.expressions::right_side-returns-then-asks_conditions-clause-reads
expressions::right_side-returns-then-asks_conditions-clause-reads t c = λ e rest l g s q.
    let b = asks_conditions c.args.work in
    read_with c.args.site c.args.next c.passable.result (right_of b c.args.known.now) e rest c.joins.result c.joins.new.reader
    (right_passed b c.passable.result c.args.known.now (sym c.asks_conditions.ensures ∙ c.if-asks_conditions.true) c.passable.ensures)
    (c.joins.ensures.reads e rest l g s q)

pub expressions::right_side-returns-else-asks_conditions-clause-reads
    : goal.expressions::right_side-returns-else-asks_conditions-clause-reads
expressions::right_side-returns-else-asks_conditions-clause-reads t c = λ e rest l g s q.
    let b = asks_conditions c.args.work in
    let st = c.args.known.now in
    read_with c.args.site c.args.next st (right_of b st) e rest c.joins-else-asks_conditions.result
    c.joins-else-asks_conditions.new.reader (right_kept b st (sym c.asks_conditions.ensures ∙ c.if-asks_conditions.false))
    (c.joins-else-asks_conditions.ensures.reads e rest l g s q)

-- ---- signs in a row
pub expressions::joins-returns-in_err-value-clause-reads : goal.expressions::joins-returns-in_err-value-clause-reads
expressions::joins-returns-in_err-value-clause-reads t c = λ e rest l g s q.
    let site = c.args.site in
    let st = c.args.known.now in
    let old = c.args.reader.now in
    let least = c.args.least in
    let p = parts site st c.args.next least e rest l g s old q in
    operand_fault site st c.args.next least e rest l g s old q c.from_residual.result c.in_err-value.field-0.0 c.operand.new.reader
    c.operand.new.reader c.from_residual.ensures.1
    (c.in_err-value.ensures.reads p.operand (behind_operand site st c.args.next least e rest l g s old q) p.groups
    (operand_stops site st c.args.next least e rest l g s old q) (operand_ahead site st c.args.next least e rest l g s old q))

pub expressions::joins-signs-init : goal.expressions::joins-signs-init
expressions::joins-signs-init t c = record {
  reads = λ e rest l g s q.
      let site = c.args.site in
      let st = c.args.known.now in
      let old = c.args.reader.now in
      let least = c.args.least in
      let p = parts site st c.args.next least e rest l g s old q in
      operand_read site st c.args.next least e rest l g s old q c.in_ok-value.value c.operand.new.reader c.at-first.result
      c.at-first.ensures
      (c.in_ok-value.ensures.reads p.operand (behind_operand site st c.args.next least e rest l g s old q) p.groups
      (operand_stops site st c.args.next least e rest l g s old q) (operand_ahead site st c.args.next least e rest l g s old q));
  goes = c.operand.ensures.goes;
}

pub expressions::joins-returns-in_err-value-2-clause-reads : goal.expressions::joins-returns-in_err-value-2-clause-reads
expressions::joins-returns-in_err-value-2-clause-reads t c = λ e rest l g s q.
    let site = c.args.site in
    let st = c.args.known.now in
    let n = sym (c.in-Some.ensures ∙ ap (sign_in c.args.least) c.symbol.ensures
    ∙ sign_plain c.args.least (first_kind c.signs.reader.ahead)) in
    handed (λ v x. IsRead site c.args.next v x × (c.join.new.reader.ahead ≡ rest))
    (λ v x. IsRead site c.args.next v x × (c.join.new.reader.ahead ≡ rest)) c.from_residual-in_err-value-2.result
    c.in_err-value-2.field-0.0 (read site.integers site.line st e c.args.next) c.from_residual-in_err-value-2.ensures.1
    (goes_next site st c.args.next c.args.least c.at-first.result e rest s c.signs.value c.signs.reader.ahead (op_of c.in-Some.op)
    (Err c.in_err-value-2.field-0.0) c.join.new.reader (c.signs.invariant.reads e rest l g s q) n c.in_err-value-2.ensures.reads)

pub expressions::joins-signs-preserved : goal.expressions::joins-signs-preserved
expressions::joins-signs-preserved t c = record {
  reads = λ e rest l g s q.
      let n = sym (c.in-Some.ensures ∙ ap (sign_in c.args.least) c.symbol.ensures
      ∙ sign_plain c.args.least (first_kind c.signs.reader.ahead)) in
      goes_next c.args.site c.args.known.now c.args.next c.args.least c.at-first.result e rest s c.signs.value c.signs.reader.ahead
      (op_of c.in-Some.op) (Ok c.in_ok-value-2.value) c.join.new.reader (c.signs.invariant.reads e rest l g s q) n
      c.in_ok-value-2.ensures.reads;
  goes = goes_then _ _ _ c.signs.invariant.goes c.join.ensures.goes;
}

pub expressions::joins-returns-clause-reads : goal.expressions::joins-returns-clause-reads
expressions::joins-returns-clause-reads t c = λ e rest l g s q.
    let d = c.in_default in
    let n = sym (ap (option_map op_of) (sym c.in_default.is) ∙ c.sign_in.ensures ∙ ap (sign_in c.args.least) c.symbol.ensures
    ∙ sign_plain c.args.least (first_kind c.signs.reader.ahead)) in
    goes_last c.args.site c.args.known.now c.args.next c.args.least c.at-first.result e rest s c.signs.value c.signs.reader
    (c.signs.invariant.reads e rest l g s q) n

-- ---- operands
pub operands::operand-returns-in-Some-Number-clause-reads : goal.operands::operand-returns-in-Some-Number-clause-reads
operands::operand-returns-in-Some-Number-clause-reads t c = λ e rest g s q.
    let i = c.in-Some-Number in
    operand_opens c.args.site c.args.known.now c.args.next c.args.reader.now c.number.result c.number.new.reader e rest
    (symbol_kind c.symbol.result) (symbol_kind c.second.result) opening.Number g s q c.symbol.ensures c.second.ensures
    (ap Some (sym i.field-0-is) ∙ sym i.is ∙ c.opening_in.ensures)
    (λ v a q. c.number.ensures.reads v a c.args.known.now rest q)

pub operands::operand-returns-in-Some-Variable-clause-reads : goal.operands::operand-returns-in-Some-Variable-clause-reads
operands::operand-returns-in-Some-Variable-clause-reads t c = λ e rest g s q.
    let i = c.in-Some-Variable in
    operand_opens c.args.site c.args.known.now c.args.next c.args.reader.now c.named.result c.named.new.reader e rest
    (symbol_kind c.symbol.result) (symbol_kind c.second.result) opening.Variable g s q c.symbol.ensures c.second.ensures
    (ap Some (sym i.field-0-is) ∙ sym i.is ∙ c.opening_in.ensures)
    (λ x a q. c.named.ensures.reads x a rest q)

pub operands::operand-returns-in-Some-Element-clause-reads : goal.operands::operand-returns-in-Some-Element-clause-reads
operands::operand-returns-in-Some-Element-clause-reads t c = λ e rest g s q.
    let i = c.in-Some-Element in
    operand_opens c.args.site c.args.known.now c.args.next c.args.reader.now c.named_element.result c.named_element.new.reader e rest
    (symbol_kind c.symbol.result) (symbol_kind c.second.result) opening.Element g s q c.symbol.ensures c.second.ensures
    (ap Some (sym i.field-0-is) ∙ sym i.is ∙ c.opening_in.ensures)
    (λ x a is g q. c.named_element.ensures.reads x a is rest g s q)

pub operands::operand-returns-in-Some-SteppedBehind-clause-reads : goal.operands::operand-returns-in-Some-SteppedBehind-clause-reads
operands::operand-returns-in-Some-SteppedBehind-clause-reads t c = λ e rest g s q.
    let i = c.in-Some-SteppedBehind in
    operand_opens c.args.site c.args.known.now c.args.next c.args.reader.now c.stepped_behind.result c.stepped_behind.new.reader e rest
    (symbol_kind c.symbol.result) (symbol_kind c.second.result) opening.SteppedBehind g s q c.symbol.ensures c.second.ensures
    (ap Some (sym i.field-0-is) ∙ sym i.is ∙ c.opening_in.ensures)
    (λ x a d b q. c.stepped_behind.ensures.reads x a d b rest q)

pub operands::operand-returns-in-Some-SteppedBefore-clause-reads : goal.operands::operand-returns-in-Some-SteppedBefore-clause-reads
operands::operand-returns-in-Some-SteppedBefore-clause-reads t c = λ e rest g s q.
    let i = c.in-Some-SteppedBefore in
    operand_opens c.args.site c.args.known.now c.args.next c.args.reader.now c.stepped_before.result c.stepped_before.new.reader e rest
    (symbol_kind c.symbol.result) (symbol_kind c.second.result) opening.SteppedBefore g s q c.symbol.ensures c.second.ensures
    (ap Some (sym i.field-0-is) ∙ sym i.is ∙ c.opening_in.ensures)
    (λ d a x b q. c.stepped_before.ensures.reads d a x b rest q)

pub operands::operand-returns-in-Some-Call-clause-reads : goal.operands::operand-returns-in-Some-Call-clause-reads
operands::operand-returns-in-Some-Call-clause-reads t c = λ e rest g s q.
    let i = c.in-Some-Call in
    operand_opens c.args.site c.args.known.now c.args.next c.args.reader.now c.call.result c.call.new.reader e rest
    (symbol_kind c.symbol.result) (symbol_kind c.second.result) opening.Call g s q c.symbol.ensures c.second.ensures
    (ap Some (sym i.field-0-is) ∙ sym i.is ∙ c.opening_in.ensures)
    (λ x a b es d g q. c.call.ensures.reads x a b d es rest g (q
    ∙ ap (λ ts. token (a_name x) a ∷ token left_paren b ∷ ts) (append_assoc (spell_arguments es) (token right_paren d ∷ []) rest)))

pub operands::operand-returns-in-Some-Unknown-clause-reads : goal.operands::operand-returns-in-Some-Unknown-clause-reads
operands::operand-returns-in-Some-Unknown-clause-reads t c = λ e rest g s q.
    let i = c.in-Some-Unknown in
    operand_opens c.args.site c.args.known.now c.args.next c.args.reader.now c.unknown.result c.unknown.new.reader e rest
    (symbol_kind c.symbol.result) (symbol_kind c.second.result) opening.Unknown g s q c.symbol.ensures c.second.ensures
    (ap Some (sym i.field-0-is) ∙ sym i.is ∙ c.opening_in.ensures)
    (λ a b d q. c.unknown.ensures.reads a b d c.args.known.now rest q)

pub operands::operand-returns-in-Some-Grouped-clause-reads : goal.operands::operand-returns-in-Some-Grouped-clause-reads
operands::operand-returns-in-Some-Grouped-clause-reads t c = λ e rest g s q.
    let i = c.in-Some-Grouped in
    operand_opens c.args.site c.args.known.now c.args.next c.args.reader.now c.grouped.result c.grouped.new.reader e rest
    (symbol_kind c.symbol.result) (symbol_kind c.second.result) opening.Grouped g s q c.symbol.ensures c.second.ensures
    (ap Some (sym i.field-0-is) ∙ sym i.is ∙ c.opening_in.ensures)
    (λ a e b g q. c.grouped.ensures.reads a b e rest g (q
    ∙ ap (λ ts. token left_paren a ∷ ts) (append_assoc (spell_expr e) (token right_paren b ∷ []) rest)))

pub operands::operand-returns-in-Some-Prefixed-clause-reads : goal.operands::operand-returns-in-Some-Prefixed-clause-reads
operands::operand-returns-in-Some-Prefixed-clause-reads t c = λ e rest g s q.
    let i = c.in-Some-Prefixed in
    operand_opens c.args.site c.args.known.now c.args.next c.args.reader.now c.prefixed.result c.prefixed.new.reader e rest
    (symbol_kind c.symbol.result) (symbol_kind c.second.result) (opening.Prefixed c.in-Some-Prefixed.prefix) g s q c.symbol.ensures
    c.second.ensures
    (ap Some (sym i.field-0-is) ∙ sym i.is ∙ c.opening_in.ensures)
    (λ a e g q. c.prefixed.ensures.reads a e rest g s q)

pub operands::operand-returns-in-None-clause-reads : goal.operands::operand-returns-in-None-clause-reads
operands::operand-returns-in-None-clause-reads t c = λ e rest g s q.
    no_opening e rest (symbol_kind c.symbol.result) (symbol_kind c.second.result) g s
    (c.symbol.ensures ∙ ap (λ ts. plain_kind (first_kind ts)) q)
    (c.second.ensures ∙ ap (λ ts. plain_kind (first_kind (behind_first ts))) q) (sym c.in-None.is ∙ c.opening_in.ensures)

pub operands::prefixed-returns-clause-reads : goal.operands::prefixed-returns-clause-reads
operands::prefixed-returns-clause-reads t c = λ a e rest g s q.
    let site = c.args.site in
    let h = c.args.next in
    let p = prefix_of c.args.prefix in
    let out = c.signed.result in
    let w = passed_to c.args.reader.now (sign_of p) a (spell_expr e ++ rest) q c.skip.new.self c.skip.ensures in
    let r = c.in_ok-value.ensures.reads e rest g s w in
    let i = place_is c.args.reader.now (sign_of p) a (spell_expr e ++ rest) q c.at-sign.result c.at-sign.ensures in
    let j : c.at-first.result ≡ first_of e = c.at-first.ensures ∙ ap first_place w ∙ first_place_of e rest in
    ok_then (λ v x. IsRead site h v x × (c.operand.new.reader.ahead ≡ rest)) out (read site.integers site.line c.args.known.now e h) r.0
    (λ x. meaning.prefixed site.integers site.line p a (first_of e) h x) r.1
    (beside (IsRead site h) (c.operand.new.reader.ahead ≡ rest) out (meaning.prefixed site.integers site.line p a (first_of e) h r.0) r.2.1
    (subst (λ n. Answers (IsRead site h) out (meaning.prefixed site.integers site.line p a n h r.0)) j
    (subst (λ n. Answers (IsRead site h) out (meaning.prefixed site.integers site.line p n c.at-first.result h r.0)) i
    (c.signed.ensures r.0 h r.2.0))))

pub operands::grouped-returns-clause-reads : goal.operands::grouped-returns-clause-reads
operands::grouped-returns-clause-reads t c = λ a b e rest g q.
    let w = token right_paren b ∷ rest in
    let r = c.in_ok-value.ensures.reads e w g tt
    (passed_to c.args.reader.now left_paren a (spell_expr e ++ w) q c.take.new.self c.in_ok-_open.ensures.2) in (
      made.grouped a r.0,
      ap (λ w. w >>= λ e. Ok (made.grouped a e)) r.1,
      (r.2.0, passed_to c.expression.new.reader right_paren b rest r.2.1 c.take-2.new.self c.in_ok-_close.ensures.2),
    )

pub operands::named_element-returns-clause-reads : goal.operands::named_element-returns-clause-reads
operands::named_element-returns-clause-reads t c = λ x a is rest g s q.
    let site = c.args.site in
    let st = c.args.known.now in
    let all = spell_subscripts is ++ rest in
    let p = passed_to c.args.reader.now (a_name x) a all q c.skip.new.self c.skip.ensures in
    let extents = c.in_ok-extents.extents.now in
    let f = found_is st c.args.reader.now c.name-name.result.now c.constant-value.result c.at-at.result c.name-name.ensures.bytes
    c.constant-value.ensures c.at-at.ensures x a all q
    (λ y n. array_of y n c.subscripts.result st) (Ok (map extent_of extents)) c.in_ok-extents.ensures in
    element_named site st c.args.next x a is rest s c.skip.new.self p c.subscripts.result (map extent_of extents) c.subscripts.ensures f
    c.element.result c.element.new.reader (λ l. c.element.ensures.reads a is rest g (l ∙ length-map extents extent_of) p)

pub operands::call-returns-clause-reads : goal.operands::call-returns-clause-reads
operands::call-returns-clause-reads t c = λ x a b d es rest g q.
    let site = c.args.site in
    let st = c.args.known.now in
    let h = c.args.next in
    let out = c.call_behind.result in
    let close = token right_paren d ∷ rest in
    let all = token left_paren b ∷ (spell_arguments es ++ close) in
    let p = passed_to c.args.reader.now (a_name x) a all q c.skip.new.self c.skip.ensures in
    let r = c.in_ok-given.ensures.reads es close g refl
    (passed_to c.skip.new.self left_paren b (spell_arguments es ++ close) p c.take.new.self c.in_ok-_open.ensures.2) in
    let u : Unit {0} = tt in
    let f = found_is st c.args.reader.now c.name.result.now c.constant.result c.at.result c.name.ensures.bytes c.constant.ensures
    c.at.ensures x a all q (λ y n. as_called n (thing_of y st) u) (Ok u) c.in_ok-called.ensures in
    let As : Value → Expression → Type 0 = λ v x. IsRead site h v x × (c.call_behind.new.reader.ahead ≡ rest) in
    ok_then As out (as_called a (thing_of x st) a) a (λ a. read_arguments site.integers site.line st es h >>= λ es. Ok (made.call es a))
    (called_ok a (thing_of x st) a u f)
    (ok_then As out (read_arguments site.integers site.line st es h) r.0 (λ es. Ok (made.call es a)) r.1
    (c.call_behind.ensures.reads r.0 h a d rest r.2.0 r.2.1))

-- ---- arguments
pub lists::arguments-returns-then-is_closing-clause-reads : goal.lists::arguments-returns-then-is_closing-clause-reads
lists::arguments-returns-then-is_closing-clause-reads t c = λ es rest g k q.
    none_read c.args.site c.args.known.now c.args.next c.args.reader.now es rest g k q c.none-none.result
    (sym (c.is_closing.ensures ∙ ap is_closing c.symbol.ensures ∙ closing_plain (first_kind c.args.reader.now.ahead))
    ∙ c.if-is_closing.true) c.none-none.ensures

pub lists::arguments-returns-in_err-first-clause-reads : goal.lists::arguments-returns-in_err-first-clause-reads
lists::arguments-returns-in_err-first-clause-reads t c = λ es rest g k q.
    first_fault c.args.site c.args.known.now c.args.next c.args.reader.now es rest g k q c.none-none.result c.from_residual.result
    c.in_err-first.field-0.0 c.argument.new.reader
    (sym (c.is_closing.ensures ∙ ap is_closing c.symbol.ensures ∙ closing_plain (first_kind c.args.reader.now.ahead))
    ∙ c.if-is_closing.false) c.none-none.ensures c.from_residual.ensures.1 c.in_err-first.ensures.reads

pub lists::arguments-returns-clause-reads : goal.lists::arguments-returns-clause-reads
lists::arguments-returns-clause-reads t c = λ es rest g k q.
    first_read c.args.site c.args.known.now c.args.next c.args.reader.now es rest g k q c.none-none.result c.in_ok-first.first
    c.argument.new.reader c.more_arguments.new.reader c.more_arguments.result
    (sym (c.is_closing.ensures ∙ ap is_closing c.symbol.ensures ∙ closing_plain (first_kind c.args.reader.now.ahead))
    ∙ c.if-is_closing.false) c.none-none.ensures c.in_ok-first.ensures.reads c.more_arguments.ensures.reads

pub lists::more_arguments-returns-in_err-all-clause-reads : goal.lists::more_arguments-returns-in_err-all-clause-reads
lists::more_arguments-returns-in_err-all-clause-reads t c = λ xs h es rest i g k q.
    next_fault c.args.site c.args.known.now h xs es rest c.commas.all c.commas.reader c.skip.new.self
    (c.commas.invariant.reads xs h es rest i g k q) k
    (sym (c.is_comma.ensures ∙ ap is_comma c.symbol.ensures ∙ comma_plain (first_kind c.commas.reader.ahead)) ∙ c.commas-test.true)
    (ap (λ (r : Reading). r.ahead) c.skip.ensures) c.from_residual.result c.in_err-all.field-0.0 c.argument.new.reader
    c.from_residual.ensures.1 c.in_err-all.ensures.reads

pub lists::more_arguments-commas-preserved : goal.lists::more_arguments-commas-preserved
lists::more_arguments-commas-preserved t c = record {
  reads = λ xs h es rest i g k q.
      next_read c.args.site c.args.known.now h xs es rest c.commas.all c.commas.reader c.skip.new.self
      (c.commas.invariant.reads xs h es rest i g k q) k
      (sym (c.is_comma.ensures ∙ ap is_comma c.symbol.ensures ∙ comma_plain (first_kind c.commas.reader.ahead)) ∙ c.commas-test.true)
      (ap (λ (r : Reading). r.ahead) c.skip.ensures) c.in_ok-all.all c.argument.new.reader c.in_ok-all.ensures.reads;
  goes = goes_then _ _ _ (goes_then _ _ _ c.commas.invariant.goes (passed_goes c.commas.reader c.skip.new.self c.skip.ensures))
      c.argument.ensures.goes;
}

pub lists::more_arguments-returns-clause-reads : goal.lists::more_arguments-returns-clause-reads
lists::more_arguments-returns-clause-reads t c = λ xs h es rest i g k q.
    listing_last c.args.site c.args.known.now h xs es rest c.commas.all c.commas.reader (c.commas.invariant.reads xs h es rest i g k q)
    (sym (c.is_comma.ensures ∙ ap is_comma c.symbol.ensures ∙ comma_plain (first_kind c.commas.reader.ahead)) ∙ c.commas-test.false)

pub lists::argument-returns-then-is_array_alone-clause-reads : goal.lists::argument-returns-then-is_array_alone-clause-reads
lists::argument-returns-then-is_array_alone-clause-reads t c = λ xs h e rest i g k q.
    argument_passed c.args.site c.args.known.now h xs e rest c.args.before c.args.reader.now c.skip.new.self
    (sym (c.is_array_alone.ensures e rest q k) ∙ c.if-is_array_alone.true) i q (ap (λ (r : Reading). r.ahead) c.skip.ensures)

pub lists::argument-returns-else-is_array_alone-clause-reads : goal.lists::argument-returns-else-is_array_alone-clause-reads
lists::argument-returns-else-is_array_alone-clause-reads t c = λ xs h e rest i g k q.
    argument_read c.args.site c.args.known.now h xs e rest c.one.result c.one.new.reader
    (sym (c.is_array_alone.ensures e rest q k) ∙ c.if-is_array_alone.false)
    (c.one.ensures.reads xs h e rest i g (ends_after (first_kind rest) k) q)

pub lists::one-returns-in_err-value-clause-reads : goal.lists::one-returns-in_err-value-clause-reads
lists::one-returns-in_err-value-clause-reads t c = λ xs h e rest i g k q.
    one_fault c.args.site c.args.known.now h xs e rest c.args.before i g k c.args.reader.now q c.from_residual.result
    c.in_err-value.field-0.0 c.expression.new.reader c.from_residual.ensures.1 c.in_err-value.ensures.reads

pub lists::one-returns-clause-reads : goal.lists::one-returns-clause-reads
lists::one-returns-clause-reads t c = λ xs h e rest i g k q.
    one_done c.args.site c.args.known.now h xs e rest c.args.before i g k c.args.reader.now q c.in_ok-value.value c.in_ok-with.field-0
    c.expression.new.reader c.in_ok-value.ensures.reads c.in_ok-with.ensures

-- ---- indexes
pub subscripts::element-loop-extent-init : goal.subscripts::element-loop-extent-init
subscripts::element-loop-extent-init t c = record {
  reads = λ at is rest g l q.
      indexing_first c.args.site c.args.known.now c.args.next at (map extent_of c.args.extents.now) is rest c.none-all.result
      c.args.reader.now.ahead g (l ∙ sym (length-map c.args.extents.now extent_of)) q c.none-all.ensures;
  goes = stays c.args.reader.now;
}

pub subscripts::element-returns-in_err-all-clause-reads : goal.subscripts::element-returns-in_err-all-clause-reads
subscripts::element-returns-in_err-all-clause-reads t c = λ at is rest g l q.
    let es = c.args.extents.now in
    let i = c.loop-extent.extent-index in
    let m = length-map es extent_of in
    indexing_fault c.args.site c.args.known.now c.args.next at (map extent_of es) is rest i c.loop-extent.all _ c.loop-extent.reader
    c.index.new.reader c.from_residual.result c.in_err-all.field-0.0 (l ∙ sym m) (let k = c.loop-extent-test.true in omega (arith, k, m))
    (extents_from es i _ c.loop-extent-test.true) (c.loop-extent.invariant.reads at is rest g l q) c.from_residual.ensures.1
    c.in_err-all.ensures.reads

pub subscripts::element-loop-extent-preserved : goal.subscripts::element-loop-extent-preserved
subscripts::element-loop-extent-preserved t c =
    let es = c.args.extents.now in
    let i = c.loop-extent.extent-index in
    record {
      reads = λ at is rest g l q.
          let m = length-map es extent_of in
          indexing_more c.args.site c.args.known.now c.args.next at (map extent_of es) is rest i c.loop-extent.all c.in_ok-all.all _
          c.loop-extent.reader c.index.new.reader (let k = c.loop-extent-test.true in omega (arith, k, m))
          (extents_from es i _ c.loop-extent-test.true) (c.loop-extent.invariant.reads at is rest g l q) c.in_ok-all.ensures.reads;
      goes = goes_then _ _ _ c.loop-extent.invariant.goes c.index.ensures.goes;
    }

pub subscripts::element-returns-clause-reads : goal.subscripts::element-returns-clause-reads
subscripts::element-returns-clause-reads t c = λ at is rest g l q.
    let es = c.args.extents.now in
    let m = length-map es extent_of in
    let k : length es ≤ c.loop-extent.extent-index = omega arith in
    indexing_last c.args.site c.args.known.now c.args.next at (map extent_of es) is rest c.loop-extent.extent-index c.loop-extent.all
    c.into_any.result c.loop-extent.reader (l ∙ sym m) (omega (arith, k, m)) (c.loop-extent.invariant.reads at is rest g l q)
    c.into_any.ensures

pub subscripts::index-returns-clause-reads : goal.subscripts::index-returns-clause-reads
subscripts::index-returns-clause-reads t c = λ at ys h b d e rest i g q.
    let site = c.args.site in
    let st = c.args.known.now in
    let close = token right_bracket d ∷ rest in
    let p = passed_to c.args.reader.now left_bracket b (spell_expr e ++ close) q c.take.new.self c.in_ok-bracket.ensures.2 in
    let m = place_is c.args.reader.now left_bracket b (spell_expr e ++ close) q c.in_ok-bracket.bracket c.in_ok-bracket.ensures.1 in
    index_whole site st at ys h (extent_of c.args.extent) b e rest close c.args.before i c.expression.new.reader c.take-2.new.self
    c.in_ok-bracket.bracket m c.in_ok-value.value c.in_ok-number.number c.in_ok-checked.checked c.in_ok-joined.field-0 c.indexed.result
    (c.in_ok-value.ensures.reads e close g tt p) c.in_ok-number.ensures c.indexed.ensures (sym c.placed.ensures ∙ c.in_ok-checked.was)
    c.in_ok-joined.ensures
    (λ w. passed_to c.expression.new.reader right_bracket d rest w c.take-2.new.self c.in_ok-_close.ensures.2)
