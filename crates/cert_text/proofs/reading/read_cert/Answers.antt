use Rattle.std.proofs.Common.{◌≡◌, ◌≢◌, ◌∙◌, Err, MatchResult, Ok, Result, ap, rules, subst, sym}
use Rattle.serde_json.specs.View.{view}
use Rattle.base_values.specs.Documents.{value_of}
use Rattle.cert_written.specs.declared.cert.Cert.{Cert}
use Rattle.cert_text.specs.declared.fault.FormFault.{FormFault}
use Rattle.cert_text.specs.declared.fault.FormFault.TheVariants.{NoMemory}
use Rattle.cert_text.specs.Certificates.{cert_in, fields_in}
use Rattle.cert_text.proofs.reading.Outlines.{cert_failed, cert_passed, listed_by}
use Rattle.cert_text.proofs.reading.read_cert.Goals as goal

pub returns-in_err-test_top : goal.returns-in_err-test_top
returns-in_err-test_top c =
    let d = value_of c.args.document.now in
    let fault = c.in_err-test_top.field-0.0 in
    let h : fault ≢ NoMemory → cert_in d ≡ Err fault =
    λ _. cert_failed (view c.args.outline.now) d c.requires fault (sym c.in_err-test_top.was ∙ c.test_top.ensures) in
    search (rules, h)

pub read_fields-requires : goal.read_fields-requires
read_fields-requires c = c.has_traces.ensures ∙ listed_by (view c.args.outline.now) (value_of c.args.document.now) c.requires

pub returns : goal.returns
returns c =
    let o = view c.args.outline.now in
    let d = value_of c.args.document.now in
    let e : cert_in d ≡ fields_in c.is_sparse_form.result d =
    cert_passed o d c.requires (sym c.in_ok-test_top.was ∙ c.test_top.ensures)
    ∙ ap (λ sparse. fields_in sparse d) (sym c.is_sparse_form.ensures) in
    let Reads : Result Cert FormFault → Type 0 =
    λ r. MatchResult c.read_fields.result (λ cert. r ≡ Ok cert) (λ fault. fault ≢ NoMemory → r ≡ Err fault) in
    subst Reads (sym e) c.read_fields.ensures
