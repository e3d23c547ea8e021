use Rattle.std.proofs.Common.{◌∙◌, ◌+◌, ◌++◌, [], ◌∷◌, Err, cond, refl, sym, ap, arith, length-append}
use Rattle.lang_meaning.specs.Names.{place_of}
use Rattle.lang_meaning.specs.declared.fault.ParseFault.TheVariants as parse
use Rattle.flow_transitions.specs.declared.fault.AutoFault.TheVariants as fault
use Rattle.flow_transitions.specs.AutoSymbols.{seen_at}
use Rattle.flow_transitions.specs.declared.reading.point_name.PointName.{PointName}
use Rattle.flow_transitions.specs.AutoReading.{progress, at_point, at_edge, names_of}
use Rattle.flow_transitions.proofs.progress.Steps.{passed_on, moved}
use Rattle.flow_transitions.proofs.progress.HeadSteps.{point_unnamed, point_twice, point_goes}
use Rattle.flow_transitions.proofs.reading.heads.point.Goals as goal

pub returns-in_err-name-clause-reads : goal.returns-in_err-name-clause-reads
returns-in_err-name-clause-reads c = λ variables.
    let text = c.args.text.now in
    let tokens = c.args.tokens.now in
    let points = c.args.points.now in
    let i = c.args.at in
    let f = c.in_err-name.field-0.0 in
    passed_on text tokens (progress variables points [] at_point) i c.from_residual.result _ _ f c.from_residual.ensures.1
    (λ n. point_unnamed text tokens variables points i f c.in_err-name.ensures.fault c.in_err-name.ensures.other)

pub returns-in-Some-clause-reads : goal.returns-in-Some-clause-reads
returns-in-Some-clause-reads c = λ variables n.
    let text = c.args.text.now in
    let tokens = c.args.tokens.now in
    let points = c.args.points.now in
    let i = c.args.at in
    let x = c.in_ok-name.name in
    let placed = sym (ap (λ y. place_of y (names_of points)) c.in_ok-name.ensures.bytes) ∙ sym c.point_place.ensures.place ∙ c.in-Some.is in
    point_twice text tokens variables points i c.in-Some.field-0 (fault.Parse (parse.NameTwice c.place.result)) c.in_ok-name.ensures.symbol
    placed (ap (λ k. fault.Parse (parse.NameTwice k)) c.place.ensures)

pub returns-in_err-comma-clause-reads : goal.returns-in_err-comma-clause-reads
returns-in_err-comma-clause-reads c = λ variables.
    let text = c.args.text.now in
    let tokens = c.args.tokens.now in
    let points = c.args.points.now in
    let i = c.args.at in
    let x = c.in_ok-name.name in
    let placed = sym (ap (λ y. place_of y (names_of points)) c.in_ok-name.ensures.bytes) ∙ sym c.point_place.ensures.place
    ∙ c.in_default.is in
    let line = (seen_at text tokens i).line in
    let point : PointName = record { name = x; line = line } in
    let named = point_goes text tokens variables points i x line c.in_ok-name.ensures.bytes refl c.in_ok-name.ensures.symbol placed in
    let f = c.in_err-comma.field-0.0 in
    passed_on text tokens (progress variables points [] at_point) i c.from_residual-in_err-comma.result _ _ f
    c.from_residual-in_err-comma.ensures.1
    (λ n. named (Err f) (c.in_err-comma.ensures.reads variables (points ++ point ∷ []) (omega (arith, length-append points (point ∷ [])))
    n))

pub returns-clause-reads : goal.returns-clause-reads
returns-clause-reads c = λ variables.
    let text = c.args.text.now in
    let tokens = c.args.tokens.now in
    let points = c.args.points.now in
    let i = c.args.at in
    let x = c.in_ok-name.name in
    let placed = sym (ap (λ y. place_of y (names_of points)) c.in_ok-name.ensures.bytes) ∙ sym c.point_place.ensures.place
    ∙ c.in_default.is in
    let line = c.line-line.result in
    let comma = c.in_ok-comma.comma in
    let point : PointName = record { name = x; line = line } in
    let named = point_goes text tokens variables points i x line c.in_ok-name.ensures.bytes c.line-line.ensures c.in_ok-name.ensures.symbol
    placed in
    let signed = c.in_ok-comma.ensures.reads variables (points ++ point ∷ []) (omega (arith, length-append points (point ∷ []))) in
    moved text tokens (progress variables points [] at_point) (progress variables (points ++ point ∷ []) [] (cond comma at_point at_edge)) i
    (i + 1 + 1) (i + 2) (omega arith)
    (λ answer h. named answer (signed answer h))
