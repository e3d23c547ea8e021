use Rattle.std.proofs.Common.{◌∙◌, ◌++◌, ◌∷◌, [], ap, subst, suc, sym, true}
use Rattle.source_items.specs.declared.mark.Bracket.{Bracket}
use Rattle.source_items.specs.Standing.{Takes}
use Rattle.source_items.proofs.division.Written.{same_is}
use Rattle.source_items.proofs.division.Stood.{closed}
use Rattle.source_items.proofs.division.close.Goals as goal

pub returns-in_ok-put-in-Some : goal.returns-in_ok-put-in-Some
returns-in_ok-put-in-Some c = λ st stands.
    let same = same_is c.in-Some.top c.args.bracket (sym c.if-not-same.ensures) in
    let m = stands.met.meets in
    let r = closed c.args.bracket st.base st.brackets c.args.index c.args.reading.now _ stands
    (c.in-Some.ensures.items ∙ ap (λ (b : Bracket). c.pop.new.self.items ++ b ∷ []) same)
    record { items = m.items; first = m.first; begun = m.begun } in
    subst (λ o. Takes true o c.put.new.reading (suc c.args.index)) (sym r.closes)
    (c.in_ok-put-in-Some.ensures (record { base = st.base; brackets = r.rest }) _ r.met r.next)
