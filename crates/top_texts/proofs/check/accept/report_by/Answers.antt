use Rattle.std.proofs.Common.{◌∙◌, inl, List, length, ap, sym, rules}
use Rattle.flow_edges.specs.declared.graph.Flow.{Flow}
use Rattle.cert_written.specs.declared.entries.Entries.{Entries}
use Rattle.cert_fitted.specs.Fitted.{rows_for}
use Rattle.top_texts.specs.Checks.{fitted_to}
use Rattle.top_texts.specs.Outcomes.{GetsNoReport}
use Rattle.top_texts.proofs.checks.Fitting.{accepted_fitted, refused_fitted}
use Rattle.top_texts.proofs.check.accept.report_by.Goals as goal

pub returns-in_err-system-clause-err : goal.returns-in_err-system-clause-err
returns-in_err-system-clause-err c =
    let names = c.args.program.now.names in
    let body = c.args.program.now.body in
    let written = c.args.cert.now in
    let rows = ap (λ (rs : List Entries). rows_for (length names) rs) c.as_slice.ensures in
    let h : GetsNoReport names body (fitted_to names body written) c.in_err-system.field-0.0 =
    inl (c.in_err-system.ensures.err (fitted_to names body written) (sym rows)) in
    search (rules, h)

pub returns-in_err-accept_written-clause-err : goal.returns-in_err-accept_written-clause-err
returns-in_err-accept_written-clause-err c =
    let names = c.args.program.now.names in
    let body = c.args.program.now.body in
    let written = c.args.cert.now in
    let made = c.in_ok-system.ensures in
    let rows = ap (λ (rs : List Entries). rows_for (length names) rs) c.as_slice.ensures in
    let h : GetsNoReport names body (fitted_to names body written) c.in_err-accept_written.field-0.0 =
    refused_fitted names body written c.in_ok-system.system (ap (λ (f : Flow). f.names) made.flow ∙ c.requires.names)
    (ap (λ (f : Flow). f.points) made.flow ∙ c.requires.points) (ap (λ (f : Flow). f.edges) made.flow ∙ c.requires.edges)
    (made.template ∙ rows) c.in_err-accept_written.field-0.0 (made.fits (fitted_to names body written) (sym rows))
    c.in_err-accept_written.ensures.err in
    search (rules, h)

pub returns-clause-ok : goal.returns-clause-ok
returns-clause-ok c =
    let names = c.args.program.now.names in
    let body = c.args.program.now.body in
    let written = c.args.cert.now in
    let made = c.in_ok-system.ensures in
    let accepted = c.in_ok-accept_written.ensures in
    let rows = ap (λ (rs : List Entries). rows_for (length names) rs) c.as_slice.ensures in
    λ text given spelt. accepted_fitted names body written c.in_ok-system.system (ap (λ (f : Flow). f.names) made.flow ∙ c.requires.names)
    (ap (λ (f : Flow). f.points) made.flow ∙ c.requires.points) (ap (λ (f : Flow). f.edges) made.flow ∙ c.requires.edges)
    (made.template ∙ rows) c.args.format _ text given (made.fits (fitted_to names body written) (sym rows)) accepted.valid accepted.narrow
    accepted.least c.in_ok-written_report.ensures spelt
