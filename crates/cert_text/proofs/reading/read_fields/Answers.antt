use Rattle.std.proofs.Common.{◌≡◌, ◌≢◌, ◌∙◌, Err, List, ap, arith, length, map, rules, sym}
use Rattle.base_values.specs.Documents.{value_of}
use Rattle.base_fractions.specs.Extended.{extended}
use Rattle.base_fractions.specs.declared.ext.Ext.{Ext}
use Rattle.cert_text.specs.declared.fault.FormFault.TheVariants.{NoMemory}
use Rattle.cert_text.specs.declared.setting.Setting.{Setting}
use Rattle.cert_text.specs.Certificates.{fields_in, rest_in}
use Rattle.cert_text.proofs.reading.ReadRests.{cert_no_lines, cert_no_rest, cert_no_traces, cert_read}
use Rattle.cert_text.proofs.reading.read_fields.Goals as goal

pub returns-in_err-bounds : goal.returns-in_err-bounds
returns-in_err-bounds c =
    let d = value_of c.args.document.now in
    let rows = c.in_ok-rows.rows in
    let long : length rows.items ≡ c.len-count.result = omega (arith, rows.ok.0, c.len-count.ensures) in
    let h : c.in_err-bounds.field-0.0 ≢ NoMemory → fields_in c.args.sparse d ≡ Err c.in_err-bounds.field-0.0 =
    λ k. cert_no_lines c.args.sparse d rows.items c.len-count.result c.in_ok-rows.ensures long c.in_err-bounds.field-0.0
    (c.in_err-bounds.ensures k) in
    search (rules, h)

pub returns-in_err-traces : goal.returns-in_err-traces
returns-in_err-traces c =
    let d = value_of c.args.document.now in
    let rows = c.in_ok-rows.rows in
    let long : length rows.items ≡ c.len-count.result = omega (arith, rows.ok.0, c.len-count.ensures) in
    let h : c.in_err-traces.field-0.0 ≢ NoMemory → fields_in c.args.sparse d ≡ Err c.in_err-traces.field-0.0 =
    λ k. cert_no_traces c.args.sparse d rows.items c.len-count.result c.in_ok-rows.ensures long
    c.in_ok-bounds.ensures.0 c.in_ok-bounds.ensures.1 c.in_err-traces.field-0.0 (c.in_err-traces.ensures k) in
    search (rules, h)

pub returns-in_err-steps : goal.returns-in_err-steps
returns-in_err-steps c =
    let d = value_of c.args.document.now in
    let rows = c.in_ok-rows.rows in
    let long : length rows.items ≡ c.len-count.result = omega (arith, rows.ok.0, c.len-count.ensures) in
    let h : c.in_err-steps.field-0.0 ≢ NoMemory → fields_in c.args.sparse d ≡ Err c.in_err-steps.field-0.0 =
    λ k. cert_no_rest c.args.sparse d rows.items c.len-count.result c.in_ok-rows.ensures long
    c.in_ok-bounds.ensures.0 c.in_ok-bounds.ensures.1 c.in_ok-traces.traces c.in_ok-traces.ensures c.in_err-steps.field-0.0
    (ap (λ (s : Setting). rest_in c.args.sparse s d) (sym c.step_setting-setting.ensures) ∙ c.in_err-steps.ensures k) in
    search (rules, h)

pub returns : goal.returns
returns c =
    let d = value_of c.args.document.now in
    let rows = c.in_ok-rows.rows in
    let long : length rows.items ≡ c.len-count.result = omega (arith, rows.ok.0, c.len-count.ensures) in
    let rest = c.in_ok-steps.field-0 in
    cert_read c.args.sparse d rows.items c.len-count.result c.in_ok-rows.ensures long
    c.in_ok-bounds.ensures.0 c.in_ok-bounds.ensures.1 c.in_ok-traces.traces c.in_ok-traces.ensures rest.steps.items rest.uppers.items
    c.new.result c.new-2.result c.new-3.result c.new-4.result
    (ap (λ (s : Setting). rest_in c.args.sparse s d) (sym c.step_setting-setting.ensures) ∙ c.in_ok-steps.ensures)
    c.new.ensures
    (c.new-2.ensures ∙ ap (λ (xs : List Ext). map extended xs) c.in_ok-bounds.ensures.2)
    (search (rules, c.new-3.ensures, c.in_ok-steps.steps-is))
    (search (rules, c.new-4.ensures, c.in_ok-steps.uppers-is))
