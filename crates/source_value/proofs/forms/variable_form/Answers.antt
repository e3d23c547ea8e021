use Rattle.std.proofs.Common.{◌≡◌, ◌∙◌, ap, pos, refl, rules, ◌++◌, ◌∷◌, [], replicate}
use Rattle.lang_tree.specs.Numbers.{are_numbers}
use Rattle.source_value.proofs.numbers.Lists.{zeros_then}
use Rattle.source_value.proofs.forms.variable_form.Goals as goal

pub new-requires : goal.new-requires
new-requires c =
    let e : c.in_ok-list.list.items ≡ replicate c.args.var (pos 0) = search rules in
    ap are_numbers (c.in_ok-push.ensures.items ∙ ap (λ r. r ++ pos 1 ∷ []) e) ∙ zeros_then c.args.var (pos 1) refl
