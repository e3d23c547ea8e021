use Rattle.std.proofs.Common.{◌≡◌, to_z, of_z, w64, ◌∙◌, sym}
use Rattle.std.proofs.lemmas.Int.{to_z-of_z}
use Rattle.flow_templates.proofs.counted.Rows.{terms_first, terms_second, terms_third, numbers-sums, terms_more}
use Rattle.flow_templates.proofs.domains.combination.Goals.{then-k-first, else-k-first+then-k-second, else-k-first+else-k-second}
use Rattle.flow_templates.proofs.domains.combination.Goals as goal

pub loop-k-preserved : goal.loop-k-preserved
loop-k-preserved c =
    terms_more _ _ _ _ c.loop-k.k c.loop-k.invariant c.in_ok-push.ensures.items
    (elim c.if-k-first.branch [
      | then-k-first w ↦ w.coefficient-is ∙ sym (terms_first _ _ c.args.first c.args.second _ c.requires.different w.if-k-first.true)
      | else-k-first+then-k-second w ↦ w.coefficient-is ∙ sym (terms_second _ _ c.args.first c.args.second _ w.if-k-first.false
          w.if-k-second.true)
      | else-k-first+else-k-second w ↦ w.coefficient-is ∙ sym (terms_third _ _ c.args.first c.args.second _ w.if-k-first.false
          w.if-k-second.false)
    ])

pub new-requires : goal.new-requires
new-requires c =
    let first : to_z w64 (of_z w64 c.args.c) ≡ c.args.c = to_z-of_z w64 c.args.c c.ranges.c in
    let second : to_z w64 (of_z w64 c.args.d) ≡ c.args.d = to_z-of_z w64 c.args.d c.ranges.d in
    rw c.loop-k.invariant
    (numbers-sums _ _ _ _ _ c.requires.different (rw first c.requires.c_number) (rw second c.requires.d_number))
