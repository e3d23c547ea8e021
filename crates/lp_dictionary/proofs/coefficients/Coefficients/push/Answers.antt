use Rattle.std.proofs.Common.{◌+◌, ◌++◌, ◌∷◌, [], ap, sym, ◌∙◌, subst}
use Rattle.lp_dictionary.specs.Entries.{spread}
use Rattle.lp_dictionary.specs.Keeps.{Lists}
use Rattle.lp_dictionary.proofs.kept.Listing.{length-spread, spread_pushed, spread_lists, lists_rise}
use Rattle.std.proofs.lemmas.List.{length_push}
use Rattle.lp_dictionary.proofs.coefficients.Coefficients.push.Goals as goal

pub invariant_of-self-2 : goal.invariant_of-self-2
invariant_of-self-2 g c =
    let m = g.F.OrderedField.meaning in
    let n = c.self.inside.length in
    let es = c.self.inside.entries.items in
    let x = c.args.value in
    let xs = spread m n es ++ m x ∷ [] in
    let h = subst (Lists m xs) (sym c.in_ok-push_value.ensures.pushed) (spread_pushed m n es x c.self.invariant.0 c.self.invariant.1) in (
      lists_rise m xs c.push_value.new.entries.items c.in_ok-next.next h
          (c.in_ok-next.ensures ∙ ap (λ k. k + 1) (sym (length-spread m n es)) ∙ sym (length_push (spread m n es) (m x))),
      h.no_zero,
    )

pub returns-clause-pushed : goal.returns-clause-pushed
returns-clause-pushed g c =
    let m = g.F.OrderedField.meaning in
    let n = c.self.inside.length in
    let es = c.self.inside.entries.items in
    let x = c.args.value in
    let xs = spread m n es ++ m x ∷ [] in
    let h = subst (Lists m xs) (sym c.in_ok-push_value.ensures.pushed) (spread_pushed m n es x c.self.invariant.0 c.self.invariant.1) in
    spread_lists m xs c.push_value.new.entries.items c.in_ok-next.next h
    (c.in_ok-next.ensures ∙ ap (λ k. k + 1) (sym (length-spread m n es)) ∙ sym (length_push (spread m n es) (m x)))
    ∙ ap (λ ys. ys ++ m x ∷ []) c.self.view_is
