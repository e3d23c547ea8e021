use Rattle.source_items.proofs.division.Once.{one_outcome}
use Rattle.source_items.proofs.division.Runs.{one_holds}
use Rattle.source_items.proofs.files.Every.{each_division}
use Rattle.source_items.proofs.laws.one_division.Goals as goal

pub returns-clause-one : goal.returns-clause-one
returns-clause-one c = λ marks. (one_holds marks, one_outcome marks)

pub returns-clause-some : goal.returns-clause-some
returns-clause-some c = λ marks. each_division marks
