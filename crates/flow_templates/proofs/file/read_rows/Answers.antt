use Rattle.flow_templates.proofs.row_files.OneAnswer.{gives_one}
use Rattle.flow_templates.proofs.file.read_rows.Goals as goal

pub returns-clause-exact : goal.returns-clause-exact
returns-clause-exact c = gives_one c.args.names.now c.args.text.now c.answer.result c.answer.ensures.template c.answer.ensures.refused
