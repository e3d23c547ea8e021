use Rattle.std.proofs.Common.{◌∙◌, ap}
use Rattle.std.proofs.lemmas.Result.{IfOk-weaker}
use Rattle.serde_json.specs.View.{view}
use Rattle.serde_json.specs.Written.{compact_text, has_float}
use Rattle.cert_text.proofs.writing.WrittenCertificates.{cert_whole, spelled, spelled_beyond}
use Rattle.cert_text.proofs.writing.write.Goals as goal

pub returns-clause-text : goal.returns-clause-text
returns-clause-text c =
    let is = c.in_ok-value.ensures.value in
    IfOk-weaker c.to_vec.result _ _ (λ b h. h (ap has_float is ∙ cert_whole c.args.cert.now) ∙ ap compact_text is) c.to_vec.ensures.text

pub returns-clause-reads_back : goal.returns-clause-reads_back
returns-clause-reads_back c = spelled c.to_vec.result (view c.in_ok-value.value) c.args.cert.now c.to_vec.ensures.utf8
    c.to_vec.ensures.reads_back c.in_ok-value.ensures.value c.in_ok-value.ensures.back

pub returns-clause-expands : goal.returns-clause-expands
returns-clause-expands c =
    spelled_beyond c.to_vec.result (view c.in_ok-value.value) c.args.cert.now c.to_vec.ensures.utf8 c.to_vec.ensures.reads_back
    c.in_ok-value.ensures.value c.in_ok-value.ensures.back
