use Rattle.theory_transformers.proofs.parts.PartsLaw.{parts_classes, parts_admissible}
use Rattle.theory_transformers.proofs.law.parts_are_ordered.Goals as goal

pub returns : goal.returns
returns c = λ system list. record { classes = parts_classes system list; ordered = parts_admissible system list }
