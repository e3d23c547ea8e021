use Rattle.std.proofs.Common.{◌≡◌, ◌+◌, ℕ, true, false, Bool, length, sym, ap₂, ◌∙◌, subst₂, arith}
use mir.Val.{bool_byte}
use Rattle.std.proofs.lemmas.Result.{err_from_is_err_and}
use Rattle.lp_theory.specs.Run.{phase_of}
use Rattle.lp_dictionary.specs.Build.{width_of}
use Rattle.lp_dictionary.specs.Exact.{exact}
use Rattle.lp_simplex.specs.Choices.{StepRefused}
use Rattle.lp_simplex.proofs.phase.LoopSteps.{stands_first, refuses, capped_next, made_best, made_ray, made_next, made_less, made_left}
use Rattle.lp_simplex.proofs.method.Counted.{rows_counted}
use Rattle.lp_simplex.proofs.phase.run_phase.Goals as goal

wide_by : (b : Bool) (n : ℕ) → n + bool_byte b ≡ width_of b n
wide_by true n = omega arith
wide_by false n = omega arith

pub loop-col-init : goal.loop-col-init
loop-col-init g c =
    let m = g.F.OrderedField.meaning in
    let p = c.args.problem.now in
    let rows = rows_counted m p c.len-rows.result c.len-rows.ensures in
    let cols = c.len.ensures in
    record {
      stands = stands_first g.F.OrderedField.LIMIT (exact m p) c.args.auxiliary c.args.made (g.T.Tableau.table c.args.tableau.now)
          c.requires.begins;
      fresh = c.requires.fresh;
      rows = rows;
      width = ap₂ (λ x y. x + y) cols c.from.ensures ∙ wide_by c.args.auxiliary (length p.goal);
    }

pub returns-in_err-make_step-clause-refused : goal.returns-in_err-make_step-clause-refused
returns-in_err-make_step-clause-refused g c =
    let m = g.F.OrderedField.meaning in
    let L = g.F.OrderedField.LIMIT in
    let P = exact m c.args.problem.now in
    let i = c.loop-col.invariant in
    let s = i.stands in
    let T = g.T.Tableau.table c.loop-col.tableau in
    let q = err_from_is_err_and c.from_residual.result c.from_residual.ensures.1 in
    let number = capped_next ((phase_of P c.args.auxiliary).made + s.j) c.loop-col.pivots c.saturating_add-number.result s.count
    c.saturating_add-number.ensures in
    let r = subst₂ (λ x y. StepRefused m L T x y c.saturating_add-number.result c.in_err-make_step.field-0.0) (i.rows ∙ sym s.rows)
    (i.width ∙ sym s.width) c.in_err-make_step.ensures.refused in
    rw (q.1, q.2) (refuses L P c.args.auxiliary c.requires.begins.phase T c.loop-col.pivots s m c.saturating_add-number.result
    c.in_err-make_step.field-0.0 number r)

pub returns-in-Optimal-clause-ends : goal.returns-in-Optimal-clause-ends
returns-in-Optimal-clause-ends g c =
    let i = c.loop-col.invariant in
    made_best g.F.OrderedField.LIMIT (exact g.F.OrderedField.meaning c.args.problem.now) c.args.auxiliary c.requires.begins.phase
    (g.T.Tableau.table c.loop-col.tableau) c.loop-col.pivots i.stands (g.T.Tableau.table c.make_step.new.tableau) i.rows i.width
    c.in_ok-make_step.ensures.made c.in-Optimal.is

pub returns-in-Ray-clause-ends : goal.returns-in-Ray-clause-ends
returns-in-Ray-clause-ends g c =
    let i = c.loop-col.invariant in
    made_ray g.F.OrderedField.LIMIT (exact g.F.OrderedField.meaning c.args.problem.now) c.args.auxiliary c.requires.begins.phase
    (g.T.Tableau.table c.loop-col.tableau) c.loop-col.pivots i.stands (g.T.Tableau.table c.make_step.new.tableau) i.rows i.width
    c.in_ok-make_step.ensures.made c.in-Ray.col c.in-Ray.is

pub returns-then-name-eq0-clause-ends : goal.returns-then-name-eq0-clause-ends
returns-then-name-eq0-clause-ends g c =
    let i = c.loop-col.invariant in
    made_left g.F.OrderedField.LIMIT (exact g.F.OrderedField.meaning c.args.problem.now) c.args.auxiliary c.requires.begins.phase
    (g.T.Tableau.table c.loop-col.tableau) c.loop-col.pivots i.stands (g.T.Tableau.table c.make_step.new.tableau) i.rows i.width
    c.in_ok-make_step.ensures.made c.in-Pivot.name c.in-Pivot.is c.saturating_add-number.result c.saturating_add-number.ensures
    c.if-name-eq0.true

pub loop-col-smaller : goal.loop-col-smaller
loop-col-smaller g c =
    let i = c.loop-col.invariant in
    made_less g.F.OrderedField.LIMIT (exact g.F.OrderedField.meaning c.args.problem.now) c.args.auxiliary c.requires.begins.phase
    (g.T.Tableau.table c.loop-col.tableau) c.loop-col.pivots i.stands (g.T.Tableau.table c.make_step.new.tableau) i.rows i.width
    c.in_ok-make_step.ensures.made c.in-Pivot.name c.in-Pivot.is

pub loop-col-preserved : goal.loop-col-preserved
loop-col-preserved g c =
    let i = c.loop-col.invariant in
    record {
      stands = made_next g.F.OrderedField.LIMIT (exact g.F.OrderedField.meaning c.args.problem.now) c.args.auxiliary c.requires.begins.phase
          (g.T.Tableau.table c.loop-col.tableau) c.loop-col.pivots i.stands (g.T.Tableau.table c.make_step.new.tableau) i.rows i.width
          c.in_ok-make_step.ensures.made c.in-Pivot.name c.in-Pivot.is c.saturating_add-number.result c.saturating_add-number.ensures
          c.if-name-eq0.false;
      fresh = c.in_ok-make_step.ensures.fresh;
      rows = i.rows;
      width = i.width;
    }
