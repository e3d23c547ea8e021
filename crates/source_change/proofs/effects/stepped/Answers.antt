use Rattle.std.proofs.Common.{◌≡◌, ◌∙◌, ◌≤◌, ◌++◌, ℕ, pos, sym, ap, refl, subst, Result, Ok, Err}
use Rattle.source_grammar.specs.Tokens as g
use Rattle.source_grammar.specs.Grammar.{steps}
use Rattle.source_grammar.specs.Symbols.{direction_of}
use Rattle.source_core.specs.Elaborated.{Elaborated, Numbered, elaborated, numbered}
use Rattle.source_core.specs.Elaborated as core
use Rattle.source_core.specs.Fits.{fits}
use Rattle.source_tree.specs.Expressions.{Expression, Operation, number, joined}
use Rattle.source_tree.specs.Statements.{Change}
use Rattle.source_meaning.specs.declared.fault.FunctionFault.{FunctionFault}
use Rattle.source_meaning.specs.Names.{State}
use Rattle.source_meaning.specs.Expressions.{ranged}
use Rattle.source_meaning.specs.Results.{◌>>=◌}
use Rattle.source_reader.specs.Answers.{Answers}
use Rattle.source_value.specs.Answers as value
use Rattle.source_value.specs.Operations.{operation_of}
use Rattle.source_value.specs.Stands.{Stands, StandsNumber}
use Rattle.source_value.specs.declared.value.Value.{Value}
use Rattle.source_value.specs.declared.value.Number.{Number}
use Rattle.source_value.specs.declared.operation.Operation as code_operation
use Rattle.source_value.specs.declared.fault.OperationFault.{OperationFault}
use Rattle.source_change.specs.Changed.{Aim, StandsChange, old_of, change_to, done_to, step_by}
use Rattle.source_change.proofs.changed.Aims.{steps_so}
use Rattle.source_change.proofs.changed.Made.{one_ranged, stepped_so}
use Rattle.source_change.proofs.results.Answered.{err_memory, err_then, err_never, ok_then}
use Rattle.source_expression.proofs.Grows.{numbers_grow}
use Rattle.base_integers.specs.declared.integers.Integers.{Integers}
use Rattle.source_change.proofs.effects.stepped.Goals as goal

-- a step is what an operation makes
so : (integers : Integers) (n line : ℕ) (st : State) (a : Aim) (d : g.Direction) (sign : ℕ)
    → done_to integers n line st a (steps d sign)
    ≡ (ranged integers line sign n (joined (step_by d) sign (old_of a) (number (pos 1) sign)) >>= λ x. Ok (change_to a x line))
so integers n line st a d sign = steps_so integers n line st a d sign
    ∙ ap (λ e. ranged integers line sign n e >>= λ x. Ok (change_to a x line)) (stepped_so d sign (old_of a))

-- the operation makes what a step is
made : (integers : Integers) (n line sign : ℕ) (d : g.Direction) (a : Aim) (left : Number) (one : Value) (right : Number)
    (o : code_operation.Operation)
    (r : Result Value OperationFault) → StandsNumber n left (numbered integers line (elaborated integers line (old_of a) n))
    → Answers (λ (v : Value) x. Stands n v (elaborated integers line x left.next)) (Ok one) (ranged integers line sign left.next
    (number (pos 1) sign))
    → ((e : Elaborated) → Stands n one e → StandsNumber n right (numbered integers line e)) → operation_of o ≡ step_by d
    → ((x y : Numbered) → x.next ≤ y.next → StandsNumber n left x → StandsNumber n right y
    → value.Answers (Stands n) fits r (core.operation_on integers line (operation_of o) sign (x.prelude ++ y.prelude) y.next x.form y.form))
    → value.Answers (Stands n) fits r (elaborated integers line (joined (step_by d) sign (old_of a) (number (pos 1) sign)) n)
made integers n line sign d a left one right o r old first second by works =
    let x : Numbered = numbered integers line (elaborated integers line (old_of a) n) in
    let same : first.0 ≡ number (pos 1) sign = (let e = sym (one_ranged integers line sign left.next) ∙ first.1 in cc) in
    let Q : Expression → Type 0 = λ y. Stands n one (elaborated integers line y left.next) in
    let stands : Stands n one (elaborated integers line (number (pos 1) sign) left.next) = subst Q same first.2 in
    let R : ℕ → Type 0 = λ k. StandsNumber n right (numbered integers line (elaborated integers line (number (pos 1) sign) k)) in
    let behind : R x.next = subst R old.next (second (elaborated integers line (number (pos 1) sign) left.next) stands) in
    let y : Numbered = numbered integers line (elaborated integers line (number (pos 1) sign) x.next) in
    let P : Operation → Type 0 = λ o. value.Answers (Stands n) fits r (core.operation_on integers line o sign
    (x.prelude ++ y.prelude) y.next x.form y.form) in
    subst P by (works x y (numbers_grow integers line (number (pos 1) sign) x.next) old behind)

pub returns-in_err-old : goal.returns-in_err-old
returns-in_err-old c = λ a st t. err_memory _ _ _ c.from_residual.ensures.1

pub returns-in_err-one : goal.returns-in_err-one
returns-in_err-one c = λ a st t.
    let integers : Integers = c.args.site.integers in
    let n : ℕ = c.args.site.variables in
    let line : ℕ = c.args.site.line in
    let next : ℕ = c.in_ok-old.old.next in
    let sign : ℕ = c.args.sign in
    let is : Value → Expression → Type 0 = λ v x. Stands n v (elaborated integers line x next) in
    let P : Result Expression FunctionFault → Type 0 = λ w. Answers is (Err c.in_err-one.field-0.0) w in
    err_never is _ _ _ (number (pos 1) sign) _ c.from_residual-in_err-one.ensures.1
    (subst P (one_ranged integers line sign next) (c.in_err-one.ensures integers n line next (number (pos 1) sign) c.number.ensures))

pub returns-in_err-one-2 : goal.returns-in_err-one-2
returns-in_err-one-2 c = λ a st t. err_memory _ _ _ c.from_residual-in_err-one-2.ensures.1

pub returns-in_err-value : goal.returns-in_err-value
returns-in_err-value c = λ a st t.
    let integers : Integers = c.args.site.integers in
    let n : ℕ = c.args.site.variables in
    let line : ℕ = c.args.site.line in
    let sign : ℕ = c.args.sign in
    let e : Expression = joined (step_by (direction_of c.args.direction)) sign (old_of a) (number (pos 1) sign) in
    let P : Result Change FunctionFault → Type 0 = λ w. Answers
    (λ c h. StandsChange integers n line c h) c.from_residual-in_err-value.result w in
    subst P (sym (so integers n line st a (direction_of c.args.direction) sign))
    (err_then (λ (v : Value) x. Stands n v (elaborated integers line x n)) (λ c h. StandsChange integers n line c h) _ _
    (ranged integers line sign n e)
    (λ x. Ok (change_to a x line)) c.from_residual-in_err-value.ensures.1
    (c.in_err-value.ensures integers n line n e (made integers n line sign (direction_of c.args.direction) a c.in_ok-old.old c.in_ok-one.one
    c.in_ok-one-2.one c.step_by-operation.result c.operated.result (c.in_ok-old.ensures (elaborated integers line (old_of a) n) t.old)
    (c.in_ok-one.ensures integers n line c.in_ok-old.old.next
    (number (pos 1) sign) c.number.ensures) c.in_ok-one-2.ensures c.step_by-operation.ensures
    c.operated.ensures)))

pub returns : goal.returns
returns c = λ a st t.
    let integers : Integers = c.args.site.integers in
    let n : ℕ = c.args.site.variables in
    let line : ℕ = c.args.site.line in
    let sign : ℕ = c.args.sign in
    let e : Expression = joined (step_by (direction_of c.args.direction)) sign (old_of a) (number (pos 1) sign) in
    let P : Result Change FunctionFault → Type 0 = λ w. Answers (λ c h. StandsChange integers n line c h) (Ok c.change_to.result) w in
    subst P (sym (so integers n line st a (direction_of c.args.direction) sign))
    (ok_then (λ (v : Value) x. Stands n v (elaborated integers line x n)) (λ c h. StandsChange integers n line c h) c.in_ok-value.value
    (Ok c.change_to.result)
    (ranged integers line sign n e) (λ x. Ok (change_to a x line))
    (c.in_ok-value.ensures integers n line n e (made integers n line sign (direction_of c.args.direction) a c.in_ok-old.old c.in_ok-one.one
    c.in_ok-one-2.one c.step_by-operation.result c.operated.result (c.in_ok-old.ensures (elaborated integers line (old_of a) n) t.old)
    (c.in_ok-one.ensures integers n line c.in_ok-old.old.next
    (number (pos 1) sign) c.number.ensures) c.in_ok-one-2.ensures c.step_by-operation.ensures
    c.operated.ensures))
    (λ y s. (change_to a y line, refl, c.change_to.ensures integers n line a y t.var s)))
