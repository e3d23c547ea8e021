use Rattle.std.proofs.Common.{◌∙◌, ◌+◌, ◌∷◌, ◌++◌, [], pos, sym, ap, arith, Some, Vec, Global}
use Rattle.source_tokens.specs.declared.definition.Definition.{Definition}
use Rattle.source_constants.specs.Enumerations.{counted, parted, next_behind}
use Rattle.source_constants.proofs.enumerations.Ranges.{comma_ends, comma_kept, other_kept, moved}
use Rattle.source_constants.proofs.enumeration.counted.Goals as goal
use Rattle.source_constants.proofs.enumeration.counted.Goals.{then-is_comma+in-Some+in_ok-push, else-is_comma}

pub returns-in_default : goal.returns-in_default
returns-in_default c =
    comma_ends c.args.inside.now c.loop-index.index c.loop-index.first c.index-inside-index.result c.loop-index-test.true
    c.index-inside-index.is c.loop-index.list.items c.loop-index.next (counted (Some (pos 0)) (parted c.args.inside.now))
    c.loop-index.invariant.rest (sym c.is_comma.ensures ∙ c.if-is_comma.true) (sym c.in_default.is ∙ c.defined_as.ensures)

pub loop-index-preserved : goal.loop-index-preserved
loop-index-preserved c =
    let ps = c.args.inside.now in
    let whole = counted (Some (pos 0)) (parted ps) in
    elim c.if-is_comma.branch [
      | then-is_comma+in-Some+in_ok-push w ↦
          let d : Definition = w.in-Some.definition in
          record {
            order = omega arith;
            rest = moved ps (c.loop-index.index + 1) whole (c.loop-index.list.items ++ d ∷ []) c.if-is_comma.list.items
                (next_behind d.value) c.if-is_comma.next (c.loop-index.index + 1) c.if-is_comma.first
                (ap (λ (v : Vec Definition Global). v.items) w.list-is ∙ w.in_ok-push.ensures.items)
                (w.next-is ∙ w.next_behind-next.ensures) w.first-is
                (comma_kept ps c.loop-index.index c.loop-index.first c.index-inside-index.result c.loop-index-test.true
                c.index-inside-index.is c.loop-index.list.items c.loop-index.next whole c.loop-index.invariant.rest d
                (sym c.is_comma.ensures ∙ w.if-is_comma.true) (sym w.in-Some.is ∙ w.defined_as.ensures));
          }
      | else-is_comma w ↦ record {
        order = omega arith;
        rest = moved ps (c.loop-index.index + 1) whole c.loop-index.list.items c.if-is_comma.list.items c.loop-index.next c.if-is_comma.next
            c.loop-index.first c.if-is_comma.first (ap (λ (v : Vec Definition Global). v.items) w.list-is) w.next-is w.first-is
            (other_kept ps c.loop-index.index c.loop-index.first c.index-inside-index.result c.loop-index-test.true
            c.index-inside-index.is c.loop-index.list.items c.loop-index.next whole c.loop-index.invariant.rest c.loop-index.invariant.order
            (sym c.is_comma.ensures ∙ w.if-is_comma.false));
      }
    ]
