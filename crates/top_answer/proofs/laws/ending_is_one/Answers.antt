use Rattle.top_answer.specs.Commands.{command_of}
use Rattle.top_texts.specs.Exact.{exact}
use Rattle.top_answer.proofs.commands.Table.{lawful}
use Rattle.top_answer.proofs.answers.OneEnding.{one_ending}
use Rattle.top_answer.proofs.laws.ending_is_one.Goals as goal

pub returns : goal.returns
returns c = one_ending (command_of exact) lawful
