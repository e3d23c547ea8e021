use Rattle.std.proofs.Common.{refl}
use Rattle.clap.proofs.OnLiterals.{clap_on_literals}
use Rattle.ask_words.specs.Request.{request_of}
use Rattle.ask_words.proofs.laws.function_laws.Goals as goal

pub returns-clause-given : goal.returns-clause-given
unfolding clap_on_literals request_of
returns-clause-given c = refl

pub returns-clause-commands : goal.returns-clause-commands
returns-clause-commands c = refl

pub returns-clause-refused : goal.returns-clause-refused
unfolding clap_on_literals request_of
returns-clause-refused c = refl
