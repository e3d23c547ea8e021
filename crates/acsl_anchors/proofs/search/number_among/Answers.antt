use Rattle.std.proofs.Common.{◌≡◌, ◌∙◌, ◌+◌, ℕ, suc, Bool, List, get_or, drop, ap, ap₂, sym, arith}
use Rattle.std.proofs.lemmas.List.{drop_all}
use Rattle.std.specs.Str.{bytes_eq}
use Rattle.acsl_anchors.specs.Anchors.{number_among}
use Rattle.acsl_anchors.proofs.Variables.{found_at, number_within, passed_at}
use Rattle.acsl_anchors.proofs.search.number_among.Goals as goal

-- the bytes that are compared are those of the name and of the variable at this place
compared : (x : List ℕ) (ys : List (List ℕ)) (i : ℕ) (d first second : List ℕ) (b : Bool) → first ≡ x → second ≡ d → d ≡ get_or ys i d
    → b ≡ bytes_eq first second → bytes_eq x (get_or ys i d) ≡ b
compared x ys i d first second b e f h same = ap₂ (λ (y z : List ℕ). bytes_eq y z) (sym e) (sym h ∙ sym f) ∙ sym same

pub returns-then-eq-clause-number : goal.returns-then-eq-clause-number
returns-then-eq-clause-number c =
    let here = found_at c.args.name.now c.args.variables.now c.loop-variable.variable-index c.variable-item.result c.loop-variable-test.true
    (compared c.args.name.now c.args.variables.now c.loop-variable.variable-index c.variable-item.result c.bytes.result.now
    c.bytes-in-loop-variable.result.now c.eq.result c.bytes.ensures.bytes c.bytes-in-loop-variable.ensures.bytes c.variable-item.is
    c.eq.ensures ∙ c.if-eq.true) in
    omega (arith, here, c.loop-variable.invariant.0)

pub returns-then-eq-clause-within : goal.returns-then-eq-clause-within
returns-then-eq-clause-within c = omega (arith, c.loop-variable.invariant.1, c.loop-variable-test.true)

pub loop-variable-preserved : goal.loop-variable-preserved
loop-variable-preserved c =
    let next : suc c.loop-variable.variable-index ≡ c.loop-variable.variable-index + 1 = omega arith in
    let passed = passed_at c.args.name.now c.args.variables.now c.loop-variable.variable-index c.variable-item.result
    c.loop-variable-test.true
    (compared c.args.name.now c.args.variables.now c.loop-variable.variable-index c.variable-item.result c.bytes.result.now
    c.bytes-in-loop-variable.result.now c.eq.result c.bytes.ensures.bytes c.bytes-in-loop-variable.ensures.bytes c.variable-item.is
    c.eq.ensures ∙ c.if-eq.false) in
    let rest = ap (λ (k : ℕ). number_among c.args.name.now (drop k c.args.variables.now)) next in
    (omega (arith, passed, rest, c.loop-variable.invariant.0), omega (arith, c.loop-variable.invariant.1))

pub returns-clause-number : goal.returns-clause-number
returns-clause-number c =
    let none = ap (λ (l : List (List ℕ)). number_among c.args.name.now l)
    (drop_all c.loop-variable.variable-index c.args.variables.now c.loop-variable-test.false) in
    omega (arith, none, c.loop-variable.invariant.0)

pub returns-clause-within : goal.returns-clause-within
returns-clause-within c =
    let within = number_within c.args.name.now c.args.variables.now in
    omega (arith, within, c.loop-variable.invariant.0)
