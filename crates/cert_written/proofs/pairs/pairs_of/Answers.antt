use Rattle.std.proofs.Common.{◌∙◌, ap, sym}
use Rattle.cert_written.proofs.pairs.Sparse.{pushed, skipped}
use Rattle.cert_written.proofs.pairs.pairs_of.Goals as goal
use Rattle.cert_written.proofs.pairs.pairs_of.Goals.{then-not-is_nil+in_ok-push, else-not-is_nil}

pub loop-place-preserved : goal.loop-place-preserved
loop-place-preserved c =
    let qs = c.args.list.now in
    let i = c.loop-place.place in
    let q = c.index-list-place.result in
    elim c.if-not-is_nil.branch [
      | then-not-is_nil+in_ok-push w ↦ pushed qs i q c.loop-place.pairs.items c.if-not-is_nil.pairs.items c.loop-place-test.true
          c.index-list-place.is (sym c.is_nil.ensures ∙ w.if-not-is_nil.true) (ap (λ v. v.items) w.pairs-is ∙ w.in_ok-push.ensures.items)
          c.loop-place.invariant
      | else-not-is_nil w ↦ skipped qs i q c.if-not-is_nil.pairs.items c.loop-place-test.true c.index-list-place.is
          (sym c.is_nil.ensures ∙ w.if-not-is_nil.false) (ap (λ v. v.items) w.pairs-is ∙ c.loop-place.invariant)
    ]
