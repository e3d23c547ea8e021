use Rattle.lang_meaning.proofs.forms.Ranges.{set_fits}
use Rattle.lang_reader.proofs.forms.set_one.Goals as goal

pub returns-then-place-list-clause-numbers : goal.returns-then-place-list-clause-numbers
returns-then-place-list-clause-numbers c = set_fits c.args.list.now c.args.place c.requires
