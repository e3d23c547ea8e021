-- Forms and truths of the code behind their preludes.
use Rattle.std.proofs.Common.{◌≡◌, ◌∙◌, ℕ, ap}
use Rattle.std.proofs.lemmas.Bool.{and_from}
use Rattle.lang_tree.specs.declared.form.Form.{Form}
use Rattle.lang_tree.specs.Limits.{has_numbers}
use Rattle.source_core.specs.Elaborated as core
use Rattle.source_value.specs.declared.value.Outcome.TheVariants as outcome
use Rattle.source_value.specs.declared.value.Value.{Value}
use Rattle.source_value.specs.declared.value.Evaluated.{Evaluated}
use Rattle.source_value.specs.Answers.{IsForm}
use Rattle.source_core.specs.Fits.{deeds_fit}
use Rattle.source_value.specs.Stands.{Stands, StandsEvaluated}

-- a form behind a prelude that stands for one
pub form_stands : (n : ℕ) (v : Value) (before : Evaluated) (d : core.Evaluated) (x f : Form) → StandsEvaluated n before d
    → v.prelude ≡ before.prelude → v.result ≡ outcome.Form x → v.next ≡ before.next → IsForm x f
    → Stands n v (core.form_behind d.prelude d.next f)
form_stands n v before d x f s p r k i = record {
  prelude = p ∙ s.prelude;
  result = r ∙ ap outcome.Form i.0;
  next = k ∙ s.next;
  numbers = and_from (deeds_fit d.prelude) (has_numbers f) s.numbers i.1;
}
