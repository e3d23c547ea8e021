use Rattle.std.proofs.Common.{◌≡◌, ◌≤◌, ◌++◌, ℕ, sym, refl, subst, List, Result, Ok}
use Rattle.source_grammar.specs.Tokens.{Token}
use Rattle.source_core.specs.Elaborated as core
use Rattle.source_core.specs.Elaborated.{Elaborated, Numbered, elaborated, numbered}
use Rattle.source_core.specs.Fits.{fits}
use Rattle.source_tree.specs.Expressions.{Expression, Operation, joined}
use Rattle.source_tree.specs.Statements.{Change}
use Rattle.source_meaning.specs.declared.fault.FunctionFault.{FunctionFault}
use Rattle.source_meaning.specs.Results.{◌>>=◌}
use Rattle.source_meaning.specs.Names.{State}
use Rattle.source_meaning.specs.Expressions.{read, ranged}
use Rattle.source_value.specs.Answers as value
use Rattle.source_value.specs.Operations.{operation_of}
use Rattle.source_value.specs.Stands.{Stands, StandsNumber}
use Rattle.source_value.specs.declared.value.Value.{Value}
use Rattle.source_value.specs.declared.value.Number.{Number}
use Rattle.source_value.specs.declared.operation.Operation as code_operation
use Rattle.source_value.specs.declared.fault.OperationFault.{OperationFault}
use Rattle.source_reader.specs.Answers.{Answers}
use Rattle.source_reader.specs.Reading.{Reading, at_tokens}
use Rattle.source_expression.specs.Sides.{IsRead}
use Rattle.source_change.specs.Changed.{Aim, StandsChange, old_of, change_to}
use Rattle.source_change.specs.declared.deeds.Changed.{Changed}
use Rattle.source_change.proofs.changed.Aims.{assigns_so}
use Rattle.source_change.proofs.firsts.Going.{came_to}
use Rattle.source_change.proofs.results.Answered.{err_then, ok_then}
use Rattle.source_expression.proofs.Grows.{numbers_grow}
use Rattle.base_integers.specs.declared.integers.Integers.{Integers}
use Rattle.source_change.proofs.effects.joined.Goals as goal

-- the operation makes what is assigned
made : (integers : Integers) (n line sign : ℕ) (a : Aim) (e : Expression) (left : Number) (one : Value) (right : Number)
    (o : code_operation.Operation)
    (r : Result Value OperationFault) → StandsNumber n left (numbered integers line (elaborated integers line (old_of a) n))
    → Stands n one (elaborated integers line e left.next)
    → ((e : Elaborated) → Stands n one e → StandsNumber n right (numbered integers line e))
    → ((x y : Numbered) → x.next ≤ y.next → StandsNumber n left x → StandsNumber n right y
    → value.Answers (Stands n) fits r (core.operation_on integers line (operation_of o) sign (x.prelude ++ y.prelude) y.next x.form y.form))
    → value.Answers (Stands n) fits r (elaborated integers line (joined (operation_of o) sign (old_of a) e) n)
made integers n line sign a e left one right o r old stands second works =
    let x : Numbered = numbered integers line (elaborated integers line (old_of a) n) in
    let R : ℕ → Type 0 = λ k. StandsNumber n right (numbered integers line (elaborated integers line e k)) in
    let behind : R x.next = subst R old.next (second (elaborated integers line e left.next) stands) in
    let y : Numbered = numbered integers line (elaborated integers line e x.next) in
    works x y (numbers_grow integers line e x.next) old behind

-- what was done was read up to tokens
abbrev Done : (integers : Integers) (v l : ℕ) → Reading → Reading → List Token → Changed → Change → Type 0
Done integers v l old new ts t g = StandsChange integers v l t g × (new ≡ at_tokens old ts)

pub returns-in_err-value-clause-reads : goal.returns-in_err-value-clause-reads
returns-in_err-value-clause-reads c = λ a ch e rest t g o f after.
    let integers : Integers = c.args.site.integers in
    let n : ℕ = c.args.site.variables in
    let line : ℕ = c.args.site.line in
    let sign : ℕ = c.args.sign in
    let st : State = c.args.scope.now in
    let op : Operation = operation_of c.args.operation in
    let new : Reading = c.expression.new.reader in
    let x : Numbered = numbered integers line (elaborated integers line (old_of a) n) in
    let old : StandsNumber n c.in_ok-old.old x = c.in_ok-old.ensures (elaborated integers line (old_of a) n) t.old in
    let is = Done integers n line c.args.reader.now new rest in
    let Q : ℕ → Type 0 = λ h. Answers (λ (v : Value) y. IsRead c.args.site h v y × (new.ahead ≡ rest)) (Ok c.in_ok-right.right)
    (read integers line st e h) in
    let right : Q x.next = subst Q old.next (c.in_ok-right.ensures.reads e rest g after f) in
    let P : Result Change FunctionFault → Type 0 = λ w. Answers is c.from_residual-in_err-value.result w in
    subst P (sym (assigns_so integers n line st sign e a ch op o))
    (ok_then (λ (v : Value) y. IsRead c.args.site x.next v y ×
    (new.ahead ≡ rest)) is c.in_ok-right.right c.from_residual-in_err-value.result
    (read integers line st e x.next) (λ y. ranged integers line sign n (joined op sign (old_of a) y) >>= λ z. Ok (change_to a z line)) right
    (λ y s. let R : ℕ → Type 0 = λ h. Stands n c.in_ok-right.right (elaborated integers line y h) in
    err_then (λ (v : Value) z. Stands n v (elaborated integers line z n)) is c.from_residual-in_err-value.result c.in_err-value.field-0.0
    (ranged integers line sign n (joined op sign (old_of a) y)) (λ z. Ok (change_to a z line)) c.from_residual-in_err-value.ensures.1
    (c.in_err-value.ensures integers n line n (joined op sign (old_of a) y)
    (made integers n line sign a y c.in_ok-old.old c.in_ok-right.right
    c.in_ok-right-2.right c.args.operation c.operated.result old (subst R (sym old.next) s.0) c.in_ok-right-2.ensures c.operated.ensures))))

pub returns-clause-reads : goal.returns-clause-reads
returns-clause-reads c = λ a ch e rest t g o f after.
    let integers : Integers = c.args.site.integers in
    let n : ℕ = c.args.site.variables in
    let line : ℕ = c.args.site.line in
    let sign : ℕ = c.args.sign in
    let st : State = c.args.scope.now in
    let op : Operation = operation_of c.args.operation in
    let first : Reading = c.args.reader.now in
    let new : Reading = c.expression.new.reader in
    let x : Numbered = numbered integers line (elaborated integers line (old_of a) n) in
    let old : StandsNumber n c.in_ok-old.old x = c.in_ok-old.ensures (elaborated integers line (old_of a) n) t.old in
    let is = Done integers n line first new rest in
    let Q : ℕ → Type 0 = λ h. Answers (λ (v : Value) y. IsRead c.args.site h v y × (new.ahead ≡ rest)) (Ok c.in_ok-right.right)
    (read integers line st e h) in
    let right : Q x.next = subst Q old.next (c.in_ok-right.ensures.reads e rest g after f) in
    let P : Result Change FunctionFault → Type 0 = λ w. Answers is (Ok c.change_to.result) w in
    subst P (sym (assigns_so integers n line st sign e a ch op o))
    (ok_then (λ (v : Value) y. IsRead c.args.site x.next v y × (new.ahead ≡ rest)) is c.in_ok-right.right (Ok c.change_to.result)
    (read integers line st e x.next) (λ y. ranged integers line sign n (joined op sign (old_of a) y) >>= λ z. Ok (change_to a z line)) right
    (λ y s. let R : ℕ → Type 0 = λ h. Stands n c.in_ok-right.right (elaborated integers line y h) in
    ok_then (λ (v : Value) z. Stands n v (elaborated integers line z n)) is c.in_ok-value.value (Ok c.change_to.result)
    (ranged integers line sign n (joined op sign (old_of a) y)) (λ z. Ok (change_to a z line))
    (c.in_ok-value.ensures integers n line n (joined op sign (old_of a) y)
    (made integers n line sign a y c.in_ok-old.old c.in_ok-right.right
    c.in_ok-right-2.right c.args.operation c.operated.result old (subst R (sym old.next) s.0) c.in_ok-right-2.ensures c.operated.ensures))
    (λ z k. (
      change_to a z line,
      refl,
      (
        c.change_to.ensures integers n line a z t.var k,
        came_to first new rest
            c.in_ok-right.ensures.goes s.1,
      ),
    ))))
