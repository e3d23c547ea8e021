use Rattle.std.proofs.Common.{◌≢◌, ◌++◌, ◌∷◌, [], cond, true≢false, ap, sym, ◌∙◌}
use Rattle.base_numbers.specs.Rational.{zero_ℚ}
use Rattle.lp_dictionary.proofs.Widths.{is_zero_yes, is_zero_no}
use Rattle.lp_dictionary.proofs.entry.push_value.Goals as goal

pub returns-in_ok-push-clause-pushed : goal.returns-in_ok-push-clause-pushed
returns-in_ok-push-clause-pushed g c =
    let m = g.F.OrderedField.meaning in
    let es = c.args.entries.now.items in
    let n : m c.args.value ≢ zero_ℚ = λ z. true≢false (sym (c.is_zero.ensures.1 z) ∙ c.if-not-is_zero.true) in
    c.in_ok-push.ensures.items ∙ sym (ap (λ b. cond b es (es ++ record { col = c.args.col; value = c.args.value } ∷ []))
    (is_zero_no (m c.args.value) n))

pub returns-else-not-is_zero-clause-pushed : goal.returns-else-not-is_zero-clause-pushed
returns-else-not-is_zero-clause-pushed g c =
    let m = g.F.OrderedField.meaning in
    let es = c.args.entries.now.items in
    sym (ap (λ b. cond b es (es ++ record { col = c.args.col; value = c.args.value } ∷ []))
    (is_zero_yes (m c.args.value) (c.is_zero.ensures.0 c.if-not-is_zero.false)))
