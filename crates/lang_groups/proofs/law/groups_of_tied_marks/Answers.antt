use Rattle.lang_groups.proofs.runs.Groups.{marks_give_more}
use Rattle.lang_groups.proofs.law.groups_of_tied_marks.Goals as goal

pub returns : goal.returns
returns c = marks_give_more
