use Rattle.std.proofs.Common.{◌≡◌, ◌∙◌, rules, Some}
use Rattle.lang_tree.specs.DeedView.{deeds_of}
use Rattle.source_value.proofs.kept.Kept.{both_kept}
use Rattle.source_value.proofs.prelude.Prelude.joined.Goals as goal

pub returns-in_ok-append-in-Some-Some : goal.returns-in_ok-append-in-Some-Some
returns-in_ok-append-in-Some-Some c = λ n h k ds es l e f.
    let s : Some (deeds_of c.in-Some-Some.deeds.items) ≡ c.args.self = search rules in
    let m : Some (deeds_of c.in-Some-Some.more.items) ≡ c.args.more = search rules in
    both_kept n h k c.in-Some-Some.deeds.items c.in-Some-Some.more.items c.append.new.self.items ds es
    c.in_ok-append-in-Some-Some.ensures.items (s ∙ e) (m ∙ f)
