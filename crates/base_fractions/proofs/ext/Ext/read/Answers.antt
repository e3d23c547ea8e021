use Rattle.std.proofs.Common.{◌≡◌, [], ◌∷◌, Some, ap, sym, ◌∙◌, rules}
use Rattle.base_fractions.proofs.extended.Words.{only_neg, only_pos}
use Rattle.base_fractions.proofs.ext.Ext.read.Goals as goal

pub returns-then-eq-clause-back : goal.returns-then-eq-clause-back
returns-then-eq-clause-back c = λ e f h.
    let t : c.args.text.now ≡ 45 ∷ 105 ∷ 110 ∷ 102 ∷ [] = search rules in
    ap Some (only_neg e f (sym h ∙ t))

pub returns-then-eq-2-clause-back : goal.returns-then-eq-2-clause-back
returns-then-eq-2-clause-back c = λ e f h.
    let t : c.args.text.now ≡ 43 ∷ 105 ∷ 110 ∷ 102 ∷ [] = search rules in
    ap Some (only_pos e f (sym h ∙ t))
