use Rattle.std.proofs.Common.{◌≡◌, ◌∙◌, None, [], refl, sym, ap, ap₂, subst, subst₂}
use Rattle.std.proofs.lemmas.Option.{slice_get-get_or}
use Rattle.std.proofs.lemmas.Result.{err_from_is_err_and}
use Rattle.base_numbers.specs.Rational.{lt_ℚ}
use Rattle.base_fractions.specs.Fits.{long_limit}
use Rattle.base_fractions.specs.Operation.{first_wide}
use Rattle.flow_edges.specs.declared.edge.Edge.{Edge}
use Rattle.flow_systems.specs.View.{equations_of}
use Rattle.flow_systems.specs.declared.fault.Fault.TheVariants.{Wide}
use Rattle.flow_systems.specs.declared.trace.Trace.{Trace}
use Rattle.flow_systems.specs.Faults.{IsFaultOf, AnswersBy}
use Rattle.cert_types.specs.Certificates.{pieces_of}
use Rattle.solve_raise.specs.Numbers.{multiple, multiple_operations, moved_pieces, moved_operations}
use Rattle.solve_raise.specs.Lows.{low_of, low_operations}
use Rattle.solve_raise.proofs.number.Widths.{less_is}
use Rattle.solve_raise.proofs.low.Exceeding.{value_wide, kept, multiple_wide, low_answers}
use Rattle.solve_raise.proofs.low.low.Goals as goal

pub moved-requires-clause-free : goal.moved-requires-clause-free
moved-requires-clause-free c =
    let none : Edge = record { from = 0; to = 0; actions = [] } in
    let h = c.requires.free _ (slice_get-get_or c.args.system.now.flow.edges c.args.edge none c.requires.edge) in
    h.0 ∙ sym h.1

pub returns-in_err-value-in-Fin : goal.returns-in_err-value-in-Fin
returns-in_err-value-in-Fin c = λ e cs f g r.
    let p = err_from_is_err_and c.from_residual.result c.from_residual.ensures.1 in
    rw (c.in-Fin.is, p.1, p.2) (value_wide (equations_of c.args.system.now) e cs c.in-Fin.limit c.args.trace c.args.direction.now
    (Wide c.in_err-value-in-Fin.field-0.0) (c.in_err-value-in-Fin.ensures e cs f g))

pub returns-then-lt : goal.returns-then-lt
returns-then-lt c = λ e cs f g r.
    let b = c.in-Fin.limit in
    let h = c.in_ok-value-in-Fin.ensures e cs f g in
    rw c.in-Fin.is (kept (equations_of c.args.system.now) e cs b c.args.trace c.args.direction.now h.1
    (ap (lt_ℚ b) (sym h.0) ∙ less_is b c.in_ok-value-in-Fin.value c.lt.result c.lt.ensures ∙ c.if-lt.true))

pub returns-in_err-times-in-Fin : goal.returns-in_err-times-in-Fin
returns-in_err-times-in-Fin c = λ e cs f g r.
    let p = err_from_is_err_and c.from_residual-in_err-times-in-Fin.result c.from_residual-in_err-times-in-Fin.ensures.1 in
    let b = c.in-Fin.limit in
    let w = c.in_err-times-in-Fin.field-0.0 in
    let h = c.in_ok-value-in-Fin.ensures e cs f g in
    rw (c.in-Fin.is, p.1, p.2)
    (multiple_wide (equations_of c.args.system.now) e cs b c.args.trace c.args.direction.now h.1
    (ap (lt_ℚ b) (sym h.0) ∙ less_is b c.in_ok-value-in-Fin.value c.lt.result c.lt.ensures ∙ c.if-lt.false) (Wide w)
    (subst₂ (λ v d. IsFaultOf (multiple_operations b v d) (Wide w)) h.0 r c.in_err-times-in-Fin.ensures))

pub returns-in_ok-times-in-Fin : goal.returns-in_ok-times-in-Fin
returns-in_ok-times-in-Fin c = λ e cs f g r.
    let b = c.in-Fin.limit in
    let h = c.in_ok-value-in-Fin.ensures e cs f g in
    let t = c.args.trace in
    let d = c.args.direction.now in
    rw c.in-Fin.is
    (low_answers (equations_of c.args.system.now) e cs b t d h.1 (ap (lt_ℚ b) (sym h.0)
    ∙ less_is b c.in_ok-value-in-Fin.value c.lt.result c.lt.ensures ∙ c.if-lt.false) c.moved.result
    (subst₂ (λ v s. first_wide long_limit (multiple_operations b v s) ≡ None) h.0 r c.in_ok-times-in-Fin.ensures.1)
    (subst (λ n. AnswersBy {A = Trace} (λ low. pieces_of low ≡ moved_pieces n t d) (moved_operations n t d) c.moved.result)
    (c.in_ok-times-in-Fin.ensures.0 ∙ ap₂ (multiple b) h.0 r) c.moved.ensures))

pub returns-in-NegInf : goal.returns-in-NegInf
unfolding low_of low_operations
returns-in-NegInf c = λ e cs f g r. rw c.in-NegInf.is (refl, refl)

pub returns-in-PosInf : goal.returns-in-PosInf
unfolding low_of low_operations
returns-in-PosInf c = λ e cs f g r. rw c.in-PosInf.is (refl, refl)
