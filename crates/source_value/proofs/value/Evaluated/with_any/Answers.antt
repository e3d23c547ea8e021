use Rattle.std.proofs.Common.{◌∙◌, ◌++◌, ◌∷◌, [], ap, sym, refl, arith, append_assoc}
use Rattle.lang_tree.specs.Tree.{havocs}
use Rattle.source_core.specs.Elaborated.{held}
use Rattle.source_core.specs.Fits.{deeds_fit}
use Rattle.source_value.specs.Kept.{kept_deeds}
use Rattle.source_value.proofs.answers.Parts.{deeds_fit_both}
use Rattle.source_value.proofs.value.Evaluated.with_any.Goals as goal

pub returns : goal.returns
returns c = λ d s.
    let n = c.args.site.variables in
    let taken = havocs c.args.var c.args.site.line ∷ [] in
    let holds = held c.args.site.integers c.args.site.line c.args.var in
    let u = c.in_ok-held.ensures (record { prelude = d.prelude ++ taken; next = d.next }) (record {
      prelude = c.in_ok-with_havoc.ensures d.next d.prelude (omega (arith, s.next)) s.prelude
          ∙ ap (λ k. kept_deeds n k (d.prelude ++ taken)) s.next;
      next = s.next;
      numbers = deeds_fit_both d.prelude taken s.numbers refl;
    }) in
    record {
      prelude = u.prelude ∙ ap (kept_deeds n d.next) (append_assoc d.prelude taken holds);
      next = u.next;
      numbers = ap deeds_fit (sym (append_assoc d.prelude taken holds)) ∙ u.numbers;
    }
