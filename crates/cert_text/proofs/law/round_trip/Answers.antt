use Rattle.cert_text.proofs.form_laws.Laws.{again_refused, again_same, again_within, read_back}
use Rattle.cert_text.proofs.law.round_trip.Goals as goal

pub returns-clause-same : goal.returns-clause-same
returns-clause-same c =
    again_same c.args.cert.now c.read.result (read_back c.args.cert.now c.as_slice.ensures.value
    c.in_ok-bytes.ensures.reads_back c.in_ok-bytes.ensures.expands c.read.result c.read.ensures.ok c.read.ensures.not_json
    c.read.ensures.refused)

pub returns-clause-within : goal.returns-clause-within
returns-clause-within c =
    again_within c.args.cert.now c.read.result (read_back c.args.cert.now c.as_slice.ensures.value
    c.in_ok-bytes.ensures.reads_back c.in_ok-bytes.ensures.expands c.read.result c.read.ensures.ok c.read.ensures.not_json
    c.read.ensures.refused)

pub returns-clause-refused : goal.returns-clause-refused
returns-clause-refused c =
    again_refused c.args.cert.now c.read.result (read_back c.args.cert.now c.as_slice.ensures.value
    c.in_ok-bytes.ensures.reads_back c.in_ok-bytes.ensures.expands c.read.result c.read.ensures.ok c.read.ensures.not_json
    c.read.ensures.refused)
