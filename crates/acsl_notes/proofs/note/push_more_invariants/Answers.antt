use Rattle.std.proofs.Common.{◌+◌, ◌++◌, List, ℕ, ap, sym, ◌∙◌, append_assoc, drop, map}
use Rattle.acsl_notes.proofs.said.Items.{next_item}
use Rattle.acsl_notes.specs.Texts.{invariant_text, joined_on}
use Rattle.acsl_notes.specs.View.{clause_of, clauses_of_said}
use Rattle.acsl_notes.specs.declared.clause.Said.{Said}
use Rattle.acsl_notes.proofs.note.push_more_invariants.Goals as goal

pub loop-clause-preserved : goal.loop-clause-preserved
loop-clause-preserved c =
    let names = c.args.names.now in
    let rows = c.args.rows.now in
    let between = c.args.between.now in
    let said = c.args.said.now in
    let k = c.loop-clause.clause-index in
    let item = c.clause-item.result in
    let text = c.loop-clause.text.items in
    let left : List Said → List ℕ = λ items. joined_on between (map (invariant_text names) (clauses_of_said rows items)) in
    ap (λ t. t ++ left (drop (k + 1) said)) c.in_ok-push_invariant.ensures
    ∙ append_assoc text (between ++ invariant_text names (clause_of rows item)) (left (drop (k + 1) said))
    ∙ ap (λ items. text ++ left items) (sym (next_item said k item c.loop-clause-test.true c.clause-item.is))
    ∙ c.loop-clause.invariant
