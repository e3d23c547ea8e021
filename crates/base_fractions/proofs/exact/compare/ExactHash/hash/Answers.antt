use Rattle.std.proofs.Common.{ℕ, ℤ, w64, of_z, ap, ap₂, sym, ◌∙◌}
use Rattle.std.specs.Hash.{le_bytes}
use Rattle.base_fractions.proofs.exact.Kept.{part_num, part_den}
use Rattle.base_fractions.proofs.exact.compare.ExactHash.hash.Goals as goal

pub returns : goal.returns
returns g c =
    c.hash-2.ensures
    ∙ ap₂ (λ s (d : ℕ). g.H.Hasher.write s (le_bytes 8 d))
    (c.hash.ensures ∙ ap (λ (z : ℤ). g.H.Hasher.write c.args.state.now (le_bytes 8 (of_z w64 z)))
    (sym (part_num c.self.invariant c.self.view_is)))
    (sym (part_den c.self.invariant c.self.view_is))
