use Rattle.std.proofs.Common.{◌≡◌, ◌∙◌, sym, ap, length, arith}
use Rattle.lang_tree.proofs.DeedCount.{length-deeds_of}
use Rattle.lang_tree.proofs.deed.Deeds.count.Goals as goal

same : (c : goal.After-as_slice) → length c.as_slice.result.now ≡ length c.args.self.now
same c = sym (length-deeds_of c.as_slice.result.now) ∙ ap length c.as_slice.ensures

pub overflow_cast-result : goal.overflow_cast-result
overflow_cast-result c = let e = same c in omega (arith, e, c.requires)

pub returns : goal.returns
returns c = same c
