use Rattle.serde_json.specs.View.{view}
use Rattle.cert_text.proofs.writing.WrittenCertificates.{trace_spelt, trace_written}
use Rattle.cert_text.proofs.numbering.Numbering.text.Goals as goal

pub returns-clause-text : goal.returns-clause-text
returns-clause-text c = trace_written c.to_vec.result (view c.in_ok-value.value) c.args.trace.now c.in_ok-value.ensures.value
    c.to_vec.ensures.text

pub returns-clause-spelt : goal.returns-clause-spelt
returns-clause-spelt c =
    trace_spelt c.to_vec.result (view c.in_ok-value.value) c.args.trace.now c.in_ok-value.ensures.value c.in_ok-value.ensures.back
    c.to_vec.ensures.reads_back
    (trace_written c.to_vec.result (view c.in_ok-value.value) c.args.trace.now c.in_ok-value.ensures.value c.to_vec.ensures.text)
