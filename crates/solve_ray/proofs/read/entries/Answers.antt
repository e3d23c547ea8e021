use Rattle.std.proofs.Common.{◌∙◌, ◌∷◌, [], get_or, refl, arith}
use Rattle.std.proofs.lemmas.List.{get_or_default}
use Rattle.std.proofs.lemmas.Result.{err_from_is_err_and}
use Rattle.solve_ray.specs.Reading.{differences, subtraction, subtractions}
use Rattle.solve_ray.proofs.answers.Gathered.{read_more, read_wide, read_all, fault_of, fault_none}
use Rattle.solve_ray.proofs.reading.NamedRates.{split_at, adds_entry}
use Rattle.solve_ray.proofs.read.entries.Goals as goal

pub entry-requires : goal.entry-requires
entry-requires c = split_at _ c.args.cols.now c.loop-col.col-index c.requires c.loop-col-test.true

pub returns-in_err-value : goal.returns-in_err-value
returns-in_err-value c =
    let p = err_from_is_err_and c.from_residual.result c.from_residual.ensures.1 in
    let ray = c.args.ray.now in
    let cols = c.args.cols.now in
    let i = c.loop-col.col-index in
    let col = get_or cols i 0 in
    rw (p.1, p.2)
    (fault_of (subtraction ray col ∷ []) (subtractions ray cols) c.in_err-value.field-0.0
    (λ o. read_wide (differences ray) (subtractions ray) cols i c.loop-col.list.items col c.loop-col.invariant c.loop-col-test.true
    (get_or_default cols i 0 col c.loop-col-test.true) _ (subtraction ray col ∷ []) (adds_entry ray col _ refl) o)
    c.in_err-value.ensures)

pub returns-in_err-append : goal.returns-in_err-append
returns-in_err-append c =
    let p = err_from_is_err_and c.from_residual-in_err-append.result c.from_residual-in_err-append.ensures.1 in
    rw (p.1, p.2) (fault_none (subtractions c.args.ray.now c.args.cols.now) c.in_err-append.field-0.0 c.in_err-append.ensures)

pub loop-col-preserved : goal.loop-col-preserved
loop-col-preserved c =
    let ray = c.args.ray.now in
    let cols = c.args.cols.now in
    let i = c.loop-col.col-index in
    let col = get_or cols i 0 in
    rw c.in_ok-append.ensures
    (read_more (differences ray) (subtractions ray) cols i c.loop-col.list.items col c.loop-col.invariant c.loop-col-test.true
    (get_or_default cols i 0 col c.loop-col-test.true) (c.in_ok-value.value ∷ []) (subtraction ray col ∷ [])
    (adds_entry ray col c.in_ok-value.value c.in_ok-value.ensures.0) c.in_ok-value.ensures.1)

pub returns : goal.returns
returns c =
    let ray = c.args.ray.now in
    let a = read_all (differences ray) (subtractions ray) c.args.cols.now c.loop-col.col-index c.loop-col.list.items refl refl (omega arith)
    c.loop-col.invariant in
    (c.new.ensures ∙ a.0, a.1)
