use Rattle.std.proofs.Common.{◌≡◌, ◌∙◌, ◌∷◌, [], refl, sym, ap, true, length}
use Rattle.std.proofs.lemmas.Bool.{and_from}
use Rattle.std.proofs.lemmas.Iterator.Adapters.{YieldsList-from_vec}
use Rattle.std.proofs.lemmas.Iterator.Consumers.{YieldsList-turn, YieldsList-end}
use Rattle.lang_tree.specs.DeedView.{condition_of, deed_of, deeds_of}
use Rattle.source_core.specs.Preludes.{all_under}
use Rattle.source_value.specs.Kept.{has_small, have_small}
use Rattle.source_value.proofs.kept.Kept.{none_kept, some_kept, all_both, deeds-append}
use Rattle.source_value.proofs.kept.Loops.{large_at, one_more, map-same}
use Rattle.source_value.proofs.prelude.all_under.Goals as goal

pub returns-then-not-has_small : goal.returns-then-not-has_small
returns-then-not-has_small c =
    let g = c.into_iter-deed-iterator.ensures.into_iter_gives in
    let y = YieldsList-from_vec c.args.deeds.items g.0 (g.1 ∙ c.args.deeds.ok.0) in
    let t = YieldsList-turn y c.loop-deed.yielded _ c.loop-deed.yielded_by _ c.next.new.self
    c.in-Some.deed c.in-Some.is c.next.ensures.steps in
    let above = condition_of c.args.above.now in
    let all = all_under above (deeds_of c.args.deeds.items) in
    none_kept (have_small all) all
    (large_at above c.args.deeds.items (length c.loop-deed.yielded) c.in-Some.deed t.0 t.1
    (ap has_small (sym c.in_ok-deed.ensures) ∙ sym c.has_small.ensures ∙ c.if-not-has_small.true))

pub loop-deed-preserved : goal.loop-deed-preserved
loop-deed-preserved c =
    let above = condition_of c.args.above.now in
    let list = c.loop-deed.list.items in
    let it = c.in_ok-deed.deed in (
      one_more above c.loop-deed.yielded list c.push.new.self.items c.in-Some.deed it c.loop-deed.invariant.0 c.in_ok-deed.ensures
          c.in_ok-push.ensures.items,
      ap (λ xs. have_small (deeds_of xs)) c.in_ok-push.ensures.items ∙ ap have_small (deeds-append list (it ∷ []))
          ∙ all_both (deeds_of list) (deed_of it ∷ []) c.loop-deed.invariant.1
          (and_from (has_small (deed_of it)) true (sym c.has_small.ensures ∙ c.if-not-has_small.false) refl),
    )

pub returns : goal.returns
returns c =
    let g = c.into_iter-deed-iterator.ensures.into_iter_gives in
    let y = YieldsList-from_vec c.args.deeds.items g.0 (g.1 ∙ c.args.deeds.ok.0) in
    let e = YieldsList-end y c.loop-deed.yielded _ c.loop-deed.yielded_by _ c.next.new.self c.in-None.is c.next.ensures.steps in
    let above = condition_of c.args.above.now in
    let all = all_under above (deeds_of c.args.deeds.items) in
    let list = deeds_of c.loop-deed.list.items in
    let q : list ≡ all =
    c.loop-deed.invariant.0 ∙ ap (λ zs. all_under above (deeds_of zs)) (sym (map-same c.loop-deed.yielded) ∙ e.0) in
    some_kept (have_small all) list all (ap have_small (sym q) ∙ c.loop-deed.invariant.1) q
