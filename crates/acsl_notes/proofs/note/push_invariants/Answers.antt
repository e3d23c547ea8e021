use Rattle.std.proofs.Common.{◌++◌, ◌<◌, List, ℕ, length, ap, sym, ◌∙◌, append_assoc, arith, drop, map}
use Rattle.std.proofs.lemmas.List.{take_rest}
use Rattle.acsl_notes.proofs.said.Items.{next_item}
use Rattle.acsl_notes.specs.Texts.{invariant_text, joined, joined_on}
use Rattle.acsl_notes.specs.View.{clause_of, clauses_of_said}
use Rattle.acsl_notes.specs.declared.clause.Said.{Said}
use Rattle.acsl_notes.proofs.note.push_invariants.Goals as goal

pub returns-in_ok-push_more_invariants-in-len1-up : goal.returns-in_ok-push_more_invariants-in-len1-up
returns-in_ok-push_more_invariants-in-len1-up c =
    let names = c.args.names.now in
    let rows = c.args.rows.now in
    let between = c.args.between.now in
    let said = c.args.said.now in
    let item = c.first-item.result in
    let text = c.args.text.now.items in
    let some : 0 < length said = omega arith in
    let rest : List Said → List ℕ = λ items. joined_on between (map (invariant_text names) (clauses_of_said rows items)) in
    let left : List ℕ = rest (drop 1 said) in
    c.in_ok-push_more_invariants-in-len1-up.ensures
    ∙ ap (λ items. c.push_invariant.new.text.items ++ rest items) (take_rest said 1)
    ∙ ap (λ t. t ++ left) c.in_ok-push_invariant-in-len1-up.ensures
    ∙ append_assoc text (invariant_text names (clause_of rows item)) left
    ∙ ap (λ (items : List Said). text ++ joined between (map (invariant_text names) (clauses_of_said rows items)))
    (sym (next_item said 0 item some c.first-item.is))
