use Rattle.top_answer.specs.Commands.{command_of}
use Rattle.top_texts.specs.Exact.{exact}
use Rattle.top_answer.proofs.answers.Answered.{complete, holds, is_answer, message_is}
use Rattle.top_answer.proofs.commands.Table.{lawful}
use Rattle.top_answer.proofs.answering.answer.Goals as goal

pub returns-clause-answer : goal.returns-clause-answer
returns-clause-answer g c = is_answer (command_of exact) lawful _ _ _ _ _ c.answer_words.ensures

pub returns-clause-output : goal.returns-clause-output
returns-clause-output g c = holds (command_of exact) lawful _ _ _ _ _ c.answer_words.ensures

pub returns-clause-complete : goal.returns-clause-complete
returns-clause-complete g c = complete (command_of exact) lawful _ _ _ _ _ c.answer_words.ensures

pub returns-clause-message : goal.returns-clause-message
returns-clause-message g c = message_is (command_of exact) lawful _ _ _ _ _ c.answer_words.ensures
