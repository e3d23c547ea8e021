use Rattle.std.proofs.Common.{◌∙◌, ap, sym, arith, length}
use Rattle.std.specs.Prelude.{◌-◌}
use Rattle.source_names.specs.Entries.{names_in, place_of}
use Rattle.source_names.proofs.entries.Places.{place_forgotten}
use Rattle.source_names.proofs.table.Table.forget.Goals as goal

pub invariant_of-self : goal.invariant_of-self
invariant_of-self c =
    let l = c.forget.ensures.length in
    let h = c.self.invariant.1 in (
      (λ x. c.self.invariant.0 x ∙ sym (ap (place_of x) c.forget.ensures.names
          ∙ place_forgotten x (length (names_in c.self.inside.list.items) - c.args.before) (names_in c.self.inside.list.items))),
      omega arith,
    )
