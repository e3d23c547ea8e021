use Rattle.std.proofs.Common.{◌∙◌, ◌++◌, ◌∷◌, [], suc, true, refl, ap, append_assoc, arith}
use Rattle.std.proofs.lemmas.Bool.{and_from}
use Rattle.lang_tree.specs.Tree.{havocs, wheres}
use Rattle.source_core.specs.Fits.{condition_fits}
use Rattle.source_value.specs.Kept.{kept_deeds}
use Rattle.source_value.proofs.answers.Parts.{deeds_fit_both}
use Rattle.source_value.proofs.hidden.taken_where.Goals as goal

pub returns : goal.returns
returns c = λ d x s f e.
    let t = c.in_ok-after.ensures d s in
    let n = c.args.site.variables in
    let line = c.args.site.line in
    record {
      prelude = c.in_ok-with_where.ensures (suc d.next) (suc d.next) (d.prelude ++ havocs d.next line ∷ []) x (omega arith) t.prelude e
          ∙ ap (kept_deeds n (suc d.next)) (append_assoc d.prelude (havocs d.next line ∷ []) (wheres x line ∷ []));
      next = t.next;
      numbers = deeds_fit_both d.prelude (havocs d.next line ∷ wheres x line ∷ []) s.numbers (and_from (condition_fits x) true f refl);
    }
