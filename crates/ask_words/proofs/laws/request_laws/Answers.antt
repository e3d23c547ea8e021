use Rattle.std.proofs.Common.{refl, ⊎_elim}
use Rattle.std.proofs.lemmas.Bool.Decides.{eqb_tells}
use Rattle.clap.proofs.OnLiterals.{clap_on_literals}
use Rattle.ask_words.specs.Request.{request_of}
use Rattle.ask_words.proofs.request.AnyName.{any_name}
use Rattle.ask_words.proofs.laws.request_laws.Goals as goal

pub returns-clause-any_name : goal.returns-clause-any_name
returns-clause-any_name c = λ first rest other. any_name first rest (⊎_elim (λ same. absurd (other same.1)) (λ unlike. unlike.0)
    (eqb_tells first 45))

pub returns-clause-one_word : goal.returns-clause-one_word
unfolding clap_on_literals request_of
returns-clause-one_word c = refl

pub returns-clause-two_words : goal.returns-clause-two_words
unfolding clap_on_literals request_of
returns-clause-two_words c = refl

pub returns-clause-dashes : goal.returns-clause-dashes
unfolding clap_on_literals request_of
returns-clause-dashes c = refl

pub returns-clause-commands : goal.returns-clause-commands
unfolding clap_on_literals request_of
returns-clause-commands c = refl

pub returns-clause-repeated : goal.returns-clause-repeated
unfolding clap_on_literals request_of
returns-clause-repeated c = refl

pub returns-clause-nothing : goal.returns-clause-nothing
unfolding clap_on_literals request_of
returns-clause-nothing c = refl

pub returns-clause-help : goal.returns-clause-help
unfolding clap_on_literals request_of
returns-clause-help c = refl

pub returns-clause-json : goal.returns-clause-json
unfolding clap_on_literals request_of
returns-clause-json c = refl

pub returns-clause-sarif : goal.returns-clause-sarif
unfolding clap_on_literals request_of
returns-clause-sarif c = refl

pub returns-clause-certificate : goal.returns-clause-certificate
unfolding clap_on_literals request_of
returns-clause-certificate c = refl
