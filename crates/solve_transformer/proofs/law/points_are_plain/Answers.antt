use Rattle.solve_transformer.proofs.place_laws.Plain.{points_plain}
use Rattle.solve_transformer.proofs.law.points_are_plain.Goals as goal

pub returns : goal.returns
returns c = points_plain
