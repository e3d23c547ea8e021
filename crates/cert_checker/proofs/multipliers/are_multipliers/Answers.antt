use Rattle.std.proofs.Common.{◌≡◌, ◌∙◌, true≢false, length, get_or, sym, ap, subst}
use Rattle.std.proofs.lemmas.Option.{get_or_from_slice_get}
use Rattle.flow_systems.specs.View.{equations_of}
use Rattle.flow_edges.specs.declared.edge.Edge.{Edge}
use Rattle.theory_validity.specs.Certificates.{NotFinite}
use Rattle.solve_composition.specs.Composed.{edge_forms}
use Rattle.cert_checker.proofs.combination.Forms.{forms_at, guard_count}
use Rattle.cert_checker.proofs.multipliers.are_multipliers.Goals as goal

pub returns-then-guards-clause-exactly : goal.returns-then-guards-clause-exactly
returns-then-guards-clause-exactly c = λ z e h f.
    let S = equations_of c.args.system.now in
    let at = forms_at S c.args.paths.now c.requires.paths c.args.edge e f in
    let forms = edge_forms S.variables S.template e.actions in (
      (λ t. absurd (true≢false (sym t))),
      (λ m. absurd (c.if-guards.true
          (m.guard_count ∙ sym (guard_count S c.args.paths.now c.requires.paths c.args.edge e f forms at)
          ∙ sym (c.guards.ensures forms at)))),
    )

pub returns-clause-exactly : goal.returns-clause-exactly
returns-clause-exactly c = λ z e h f.
    let S = equations_of c.args.system.now in
    let at = forms_at S c.args.paths.now c.requires.paths c.args.edge e f in
    let forms = edge_forms S.variables S.template e.actions in
    let found = c.index-as_slice-edge.result in
    let here = get_or c.as_slice-2.result.now c.args.edge found in
    let q : here ≡ e = ap (λ es. get_or es c.args.edge found) c.as_slice-2.ensures
    ∙ get_or_from_slice_get c.args.system.now.flow.edges c.args.edge e found f in
    let a = c.are_allowed.ensures z h in (
      (λ t. record {
        row_count = c.if-rows-as_slice.false ∙ ap (λ rs. length rs) c.as_slice.ensures.rows;
        guard_count = c.if-guards.false ∙ c.guards.ensures forms at ∙ guard_count S c.args.paths.now c.requires.paths c.args.edge e f forms
            at;
        rows_nonneg = c.none_negative.ensures.0 c.if-not-none_negative.false;
        guards_nonneg = c.none_negative-2.ensures.0 c.if-not-none_negative-2.false;
        zero_where = λ r l n. a.0 t r l (subst (λ (x : Edge). NotFinite (z x.from r)) (sym q) n);
      }),
      (λ m. a.1 (λ r l n. m.zero_where r l (subst (λ (x : Edge). NotFinite (z x.from r)) q n))),
    )

pub returns-clause-rows : goal.returns-clause-rows
returns-clause-rows c = λ t. c.if-rows-as_slice.false ∙ ap (λ rs. length rs) c.as_slice.ensures.rows

pub returns-clause-guards : goal.returns-clause-guards
returns-clause-guards c = λ t e f.
    let S = equations_of c.args.system.now in
    let at = forms_at S c.args.paths.now c.requires.paths c.args.edge e f in
    c.if-guards.false ∙ c.guards.ensures (edge_forms S.variables S.template e.actions) at
    ∙ guard_count S c.args.paths.now c.requires.paths c.args.edge e f (edge_forms S.variables S.template e.actions) at
