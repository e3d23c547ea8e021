use Rattle.std.proofs.Common.{◌≡◌, ◌∙◌, ap, sym, rules, true, false, Some, None}
use Rattle.std.specs.Option.{option_map}
use Rattle.lang_tree.specs.DeedView.{condition_of, deeds_of}
use Rattle.source_value.specs.Kept.{are_unchecked}
use Rattle.source_value.proofs.kept.Kept.{checks_kept, checks_lost, unchecked_kept}
use Rattle.source_value.proofs.prelude.deeds_under.Goals as goal

pub returns-in_ok-all_under-in-Some : goal.returns-in_ok-all_under-in-Some
returns-in_ok-all_under-in-Some c = λ n h k x ds l e f.
    let s : Some (condition_of c.in-Some.above.now) ≡ option_map (λ y. condition_of y.now) c.args.above = search rules in
    c.in_ok-all_under-in-Some.ensures ∙ checks_kept n h k x (condition_of c.in-Some.above.now) (deeds_of c.args.deeds.items) ds (s ∙ e) f

pub returns-then-are_unchecked : goal.returns-then-are_unchecked
returns-then-are_unchecked c = λ n h k x ds l e f.
    let u : are_unchecked (deeds_of c.args.deeds.items) ≡ true =
    ap (λ xs. are_unchecked (deeds_of xs)) (sym c.as_slice.ensures.value) ∙ sym c.are_unchecked.ensures ∙ c.if-are_unchecked.true in
    unchecked_kept n k x (deeds_of c.args.deeds.items) ds f u

pub returns-else-are_unchecked : goal.returns-else-are_unchecked
returns-else-are_unchecked c = λ n h k x ds l e f.
    let s : None ≡ option_map (λ y. condition_of y.now) c.args.above = search rules in
    let u : are_unchecked (deeds_of c.args.deeds.items) ≡ false =
    ap (λ xs. are_unchecked (deeds_of xs)) (sym c.as_slice.ensures.value) ∙ sym c.are_unchecked.ensures ∙ c.if-are_unchecked.false in
    checks_lost n h k x (deeds_of c.args.deeds.items) ds l (s ∙ e) f u
