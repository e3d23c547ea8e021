use Rattle.std.proofs.Common.{◌≡◌, ◌∙◌, ◌∷◌, [], ◌<◌, None, length, map, ap, ap₂, refl, sym, subst, subst₂, arith}
use Rattle.std.proofs.lemmas.List.{get_or_read}
use Rattle.std.proofs.lemmas.Result.{err_from_is_err_and}
use Rattle.base_numbers.specs.Rational.{zero_ℚ, ◌+ℚ◌}
use Rattle.base_fractions.specs.declared.wide.Op.TheVariants.{Add}
use Rattle.base_fractions.specs.Fits.{long_limit}
use Rattle.base_fractions.specs.Operation.{first_wide}
use Rattle.theory_validity.specs.Certificates.{num}
use Rattle.solve_ray.specs.Answers.{IsReadingFault}
use Rattle.solve_ray.proofs.answers.Gathered.{read_more, read_wide, read_all, fault_of, fault_none}
use Rattle.solve_ray.proofs.reading.NamedRates.{within_at}
use Rattle.solve_joint.specs.Layouts.{number_at, number_operation, number_operations}
use Rattle.solve_joint.proofs.point.PointReads.{bounded_at, adds_number}
use Rattle.solve_joint.proofs.point.numbers.Goals as goal

pub at-requires : goal.at-requires
at-requires c =
    let x = c.rise-item.result in
    subst (λ r. r.unknown < length c.args.base.now) (sym c.rise-item.is)
    (bounded_at (length c.args.base.now) c.args.rises.now c.loop-rise.rise-index x c.requires.bounded c.loop-rise-test.true)

pub bounds-point-rise : goal.bounds-point-rise
bounds-point-rise c =
    let x = c.rise-item.result in
    subst (λ r. r.col < length c.args.point.now) (sym c.rise-item.is) (within_at (length c.args.point.now) c.args.rises.now
    c.loop-rise.rise-index x c.requires.within c.loop-rise-test.true).rises

pub returns-in_err-value : goal.returns-in_err-value
returns-in_err-value c =
    let q = err_from_is_err_and c.from_residual.result c.from_residual.ensures.1 in
    let base = c.args.base.now in
    let point = c.args.point.now in
    let rises = c.args.rises.now in
    let x = c.rise-item.result in
    let left = c.finite.ensures ∙ ap num c.at.ensures in
    let right = get_or_read point x.col c.index-point-rise.result (subst (λ r. r.col < length point) (sym c.rise-item.is)
    (within_at (length point) rises c.loop-rise.rise-index x c.requires.within c.loop-rise-test.true).rises) c.index-point-rise.is
    zero_ℚ in
    rw (q.1, q.2)
    (fault_of (number_operation base point x ∷ []) (number_operations base point rises) c.in_err-value.field-0.0
    (λ o. read_wide (map (number_at base point)) (number_operations base point) rises c.loop-rise.rise-index c.loop-rise.list.items x
    c.loop-rise.invariant c.loop-rise-test.true c.rise-item.is (number_at base point x ∷ []) (number_operation base point x ∷ [])
    (adds_number base point x (number_at base point x) refl) o)
    (subst₂ (λ a b. IsReadingFault (record { op = Add; left = a; right = b } ∷ []) c.in_err-value.field-0.0) left right
    c.in_err-value.ensures))

pub returns-in_err-append : goal.returns-in_err-append
returns-in_err-append c =
    let p = err_from_is_err_and c.from_residual-in_err-append.result c.from_residual-in_err-append.ensures.1 in
    rw (p.1, p.2) (fault_none (number_operations c.args.base.now c.args.point.now c.args.rises.now) c.in_err-append.field-0.0
    c.in_err-append.ensures)

pub loop-rise-preserved : goal.loop-rise-preserved
loop-rise-preserved c =
    let base = c.args.base.now in
    let point = c.args.point.now in
    let rises = c.args.rises.now in
    let x = c.rise-item.result in
    let left = c.finite.ensures ∙ ap num c.at.ensures in
    let right = get_or_read point x.col c.index-point-rise.result (subst (λ r. r.col < length point) (sym c.rise-item.is)
    (within_at (length point) rises c.loop-rise.rise-index x c.requires.within c.loop-rise-test.true).rises) c.index-point-rise.is
    zero_ℚ in
    let value = c.in_ok-value.ensures.0 ∙ ap₂ (λ a b. a +ℚ b) left right in
    let fits : first_wide long_limit (number_operation base point x ∷ []) ≡ None =
    subst₂ (λ a b. first_wide long_limit (record { op = Add; left = a; right = b } ∷ []) ≡ None) left right
    c.in_ok-value.ensures.1 in
    rw c.in_ok-append.ensures
    (read_more (map (number_at base point)) (number_operations base point) rises c.loop-rise.rise-index c.loop-rise.list.items x
    c.loop-rise.invariant c.loop-rise-test.true c.rise-item.is (c.in_ok-value.value ∷ []) (number_operation base point x ∷ [])
    (adds_number base point x c.in_ok-value.value value) fits)

pub returns : goal.returns
returns c =
    let base = c.args.base.now in
    let point = c.args.point.now in
    let a = read_all (map (number_at base point)) (number_operations base point) c.args.rises.now c.loop-rise.rise-index
    c.loop-rise.list.items refl refl (omega arith) c.loop-rise.invariant in
    (c.new.ensures ∙ a.0, a.1)
