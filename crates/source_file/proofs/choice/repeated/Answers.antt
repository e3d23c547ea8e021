use Rattle.std.proofs.Common.{◌≡◌, ◌∙◌, ◌+◌, List, ◌∷◌, drop, sym, ap}
use Rattle.source_file.specs.declared.functions.Defined.{Defined}
use Rattle.source_file.specs.Choice.{repeated}
use Rattle.source_file.proofs.choice.Repeats.{texts, split, already, fresh}
use Rattle.source_file.proofs.choice.repeated.Goals as goal

pub returns-then-not-branch : goal.returns-then-not-branch
returns-then-not-branch c =
    let fs = c.args.functions.now in
    let i = c.loop-function.function-index in
    let d : Defined = c.function-item.result in
    let keys = c.loop-function.before.keys in
    let next : drop i fs ≡ d ∷ drop (i + 1) fs = split fs i d c.loop-function-test.true c.function-item.is in
    sym (c.loop-function.invariant ∙ ap (λ (x : List Defined). repeated (texts keys) x) next
    ∙ already d (drop (i + 1) fs) keys c.in_ok-name.name (c.in_ok-name.ensures.items ∙ c.bytes.ensures.bytes) c.in_ok-insert.field-0
    c.in_ok-insert.ensures.added c.if-not-branch.true)

pub loop-function-preserved : goal.loop-function-preserved
loop-function-preserved c =
    let fs = c.args.functions.now in
    let i = c.loop-function.function-index in
    let d : Defined = c.function-item.result in
    let keys = c.loop-function.before.keys in
    let next : drop i fs ≡ d ∷ drop (i + 1) fs = split fs i d c.loop-function-test.true c.function-item.is in
    c.loop-function.invariant ∙ ap (λ (x : List Defined). repeated (texts keys) x) next
    ∙ fresh d (drop (i + 1) fs) keys c.in_ok-name.name (c.in_ok-name.ensures.items ∙ c.bytes.ensures.bytes) c.in_ok-insert.field-0
    c.insert.new.self.keys c.in_ok-insert.ensures.added c.if-not-branch.false c.in_ok-insert.ensures.keys
