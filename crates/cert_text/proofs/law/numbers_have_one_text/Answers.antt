use Rattle.cert_text.proofs.form_laws.Laws.{bounds, fractions, wholes}
use Rattle.cert_text.proofs.law.numbers_have_one_text.Goals as goal

pub returns-clause-fractions : goal.returns-clause-fractions
returns-clause-fractions c = fractions

pub returns-clause-wholes : goal.returns-clause-wholes
returns-clause-wholes c = wholes

pub returns-clause-bounds : goal.returns-clause-bounds
returns-clause-bounds c = bounds
