use Rattle.std.proofs.Common.{refl}
use Rattle.clap.proofs.OnLiterals.{clap_on_literals}
use Rattle.ask_words.specs.Request.{request_of, wants_progress}
use Rattle.ask_words.proofs.laws.progress_laws.Goals as goal

pub returns-clause-request : goal.returns-clause-request
unfolding clap_on_literals request_of wants_progress
returns-clause-request c = refl

pub returns-clause-asked : goal.returns-clause-asked
unfolding clap_on_literals request_of wants_progress
returns-clause-asked c = refl

pub returns-clause-equations : goal.returns-clause-equations
unfolding clap_on_literals request_of wants_progress
returns-clause-equations c = refl

pub returns-clause-absent : goal.returns-clause-absent
unfolding clap_on_literals request_of wants_progress
returns-clause-absent c = refl

pub returns-clause-name : goal.returns-clause-name
unfolding clap_on_literals request_of wants_progress
returns-clause-name c = refl

pub returns-clause-check : goal.returns-clause-check
unfolding clap_on_literals request_of wants_progress
returns-clause-check c = refl
