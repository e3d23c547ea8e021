use Rattle.std.proofs.Common.{◌≡◌, ◌∙◌, ◌∷◌, ◌++◌, [], Some, None, ap, sym, subst}
use Rattle.std.proofs.lemmas.List.{append-nil, get_or_read}
use Rattle.std.proofs.lemmas.Result.{err_from_is_err_and, MatchResult-weaker}
use Rattle.base_numbers.specs.Rational.{zero_ℚ}
use Rattle.base_fractions.specs.Fits.{long_limit}
use Rattle.base_fractions.specs.Operation.{first_wide}
use Rattle.solve_ray.specs.Reading.{differences, subtractions, named_operations}
use Rattle.solve_ray.proofs.answers.Gathered.{fault_of, fault_none}
use Rattle.solve_ray.proofs.reading.NamedRates.{is_left_out, is_taken, left_out, start_wide, start_fits, rate_read}
use Rattle.solve_ray.proofs.read.add_rate.Goals as goal

pub returns-then-le : goal.returns-then-le
returns-then-le c =
    let ray = c.args.ray.now in
    let rise = c.args.rise.now in
    let rate = c.index-ray-rise.result in
    let o = left_out ray rise (is_left_out ray rise rate c.zero.result c.le.result
    (get_or_read ray rise.col rate c.requires.rises c.index-ray-rise.is zero_ℚ) c.zero.ensures.value c.le.ensures c.if-le.true) in
    (sym (ap (λ ys. c.args.list.now.items ++ ys) o.0 ∙ append-nil c.args.list.now.items), ap (first_wide long_limit) o.1)

pub returns-in_err-start : goal.returns-in_err-start
returns-in_err-start c =
    let p = err_from_is_err_and c.from_residual.result c.from_residual.ensures.1 in
    let ray = c.args.ray.now in
    let rise = c.args.rise.now in
    let rate = c.index-ray-rise.result in
    let taken = is_taken ray rise rate c.zero.result c.le.result (get_or_read ray rise.col rate c.requires.rises c.index-ray-rise.is zero_ℚ)
    c.zero.ensures.value c.le.ensures c.if-le.false in
    rw (p.1, p.2)
    (fault_of (subtractions ray c.as_slice.result.now) (named_operations ray (rise ∷ [])) c.in_err-start.field-0.0
    (λ o e. start_wide ray rise taken o (subst (λ cs. first_wide long_limit (subtractions ray cs) ≡ Some o) c.as_slice.ensures e))
    c.in_err-start.ensures)

pub returns-in_err-free : goal.returns-in_err-free
returns-in_err-free c =
    let p = err_from_is_err_and c.from_residual-in_err-free.result c.from_residual-in_err-free.ensures.1 in
    let ray = c.args.ray.now in
    let rise = c.args.rise.now in
    let rate = c.index-ray-rise.result in
    let taken = is_taken ray rise rate c.zero.result c.le.result (get_or_read ray rise.col rate c.requires.rises c.index-ray-rise.is zero_ℚ)
    c.zero.ensures.value c.le.ensures c.if-le.false in
    let fits = subst (λ cs. first_wide long_limit (subtractions ray cs) ≡ None) c.as_slice.ensures c.in_ok-start.ensures.1 in
    rw (p.1, p.2)
    (fault_of (subtractions ray c.as_slice-2.result.now) (named_operations ray (rise ∷ [])) c.in_err-free.field-0.0
    (λ o e. start_fits ray rise taken fits ∙ subst (λ cs. first_wide long_limit (subtractions ray cs) ≡ Some o) c.as_slice-2.ensures e)
    c.in_err-free.ensures)

pub returns : goal.returns
returns c =
    let ray = c.args.ray.now in
    let rise = c.args.rise.now in
    let rate = c.index-ray-rise.result in
    let same = get_or_read ray rise.col rate c.requires.rises c.index-ray-rise.is zero_ℚ in
    let taken = is_taken ray rise rate c.zero.result c.le.result same c.zero.ensures.value c.le.ensures c.if-le.false in
    let start = subst (λ cs. first_wide long_limit (subtractions ray cs) ≡ None) c.as_slice.ensures c.in_ok-start.ensures.1 in
    let free = subst (λ cs. first_wide long_limit (subtractions ray cs) ≡ None) c.as_slice-2.ensures c.in_ok-free.ensures.1 in
    let read = rate_read ray rise rate c.in_ok-start.start c.in_ok-free.free same
    (c.in_ok-start.ensures.0 ∙ ap (differences ray) c.as_slice.ensures)
    (c.in_ok-free.ensures.0 ∙ ap (differences ray) c.as_slice-2.ensures) taken in
    MatchResult-weaker c.append.result c.append.ensures (λ u e. (
      e ∙ ap (λ ys. c.args.list.now.items ++ ys) read,
      start_fits ray rise taken start ∙ free,
    )) (λ f e. fault_none (named_operations ray (rise ∷ [])) f e)
