use Rattle.base_values.specs.Documents.{value_of}
use Rattle.cert_text.proofs.reading.ReadShapes.{answer_writable}
use Rattle.cert_text.proofs.reading.read.Goals as goal

pub returns-in-Ok-clause-writable : goal.returns-in-Ok-clause-writable
returns-in-Ok-clause-writable c = answer_writable (value_of c.in-Ok.both.0) c.read_cert.result _ c.read_cert.ensures
