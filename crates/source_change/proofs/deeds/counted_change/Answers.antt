use Rattle.std.proofs.Common.{◌≡◌, ◌∙◌, ℕ, Ok, Err, refl, sym, ap, subst, length, rules}
use Rattle.std.specs.declared.alloc.Global.{Global}
use Rattle.std.specs.declared.vec.Vec.{Vec}
use Rattle.lang_tree.specs.DeedView.{deeds_of}
use Rattle.lang_tree.specs.declared.deed.Deed as code_deed
use Rattle.source_tree.specs.Statements.{Change}
use Rattle.source_core.specs.Core.{change_deeds}
use Rattle.source_meaning.specs.Results.{◌>>=◌}
use Rattle.source_meaning.specs.Names.{State}
use Rattle.source_meaning.specs.Limits.{counted}
use Rattle.source_meaning.specs.Changes.{few}
use Rattle.source_names.specs.Gives.{Gives}
use Rattle.source_change.specs.Tests.{WasCounted}
use Rattle.source_change.proofs.lists.Deeds.{length_deeds}
use Rattle.source_change.proofs.results.Answered.{err_given, given_then, ok_then}
use Rattle.base_integers.specs.declared.integers.Integers.{Integers}
use Rattle.source_change.proofs.deeds.counted_change.Goals as goal

-- the code has the deeds of a change
abbrev Has : Integers → ℕ → Vec code_deed.Deed Global → Change → Type 0
Has integers n v h = deeds_of v.items ≡ change_deeds integers n h

-- there are as many
as_many : (integers : Integers) (n k : ℕ) (v : Vec code_deed.Deed Global) (g : Change) → Has integers n v g → k ≡ length v.items
    → k ≡ length (change_deeds integers n g)
as_many integers n k v g h e = e ∙ sym (length_deeds v.items) ∙ ap length h

pub returns-in_err-count : goal.returns-in_err-count
returns-in_err-count c = λ g s.
    let integers : Integers = c.args.site.integers in
    let n : ℕ = c.args.site.variables in
    let st : State = c.args.known.now in
    let l : c.len.result ≡ length c.in_ok-deeds.deeds.items = search rules in
    ok_then (Has integers n) (λ (v : Vec code_deed.Deed Global) r. WasCounted integers n c.count.new.self v.items r) c.in_ok-deeds.deeds
    c.from_residual-in_err-count.result (few integers n c.args.site.line c.args.at g g)
    (λ g. counted c.args.at (length (change_deeds integers n g)) st >>= λ st. Ok (st, g)) (c.in_ok-deeds.ensures g s)
    (λ y p. let P : ℕ → Type 0 = λ k. Gives {A = Unit {0}} (λ _. c.count.new.self) (Err c.in_err-count.field-0.0)
    (counted c.args.at k st) in
    err_given {A = Unit {0}} (λ _. c.count.new.self) (λ (v : Vec code_deed.Deed Global) r. WasCounted integers n c.count.new.self v.items r)
    c.from_residual-in_err-count.result c.in_err-count.field-0.0 (counted c.args.at (length (change_deeds integers n y)) st) (λ st. Ok
    (st, y))
    c.from_residual-in_err-count.ensures.1 (subst P (as_many integers n c.len.result c.in_ok-deeds.deeds y p l) c.in_err-count.ensures))

pub returns : goal.returns
returns c = λ g s.
    let integers : Integers = c.args.site.integers in
    let n : ℕ = c.args.site.variables in
    let st : State = c.args.known.now in
    let l : c.len.result ≡ length c.in_ok-deeds.deeds.items = search rules in
    ok_then (Has integers n) (λ (v : Vec code_deed.Deed Global) r. WasCounted integers n c.count.new.self v.items r) c.in_ok-deeds.deeds
    (Ok c.in_ok-deeds.deeds) (few integers n c.args.site.line c.args.at g g)
    (λ g. counted c.args.at (length (change_deeds integers n g)) st >>= λ st. Ok (st, g)) (c.in_ok-deeds.ensures g s)
    (λ y p. let P : ℕ → Type 0 = λ k. Gives {A = Unit {0}} (λ _. c.count.new.self) (Ok tt) (counted c.args.at k st) in
    given_then {A = Unit {0}} (λ _. c.count.new.self) (λ (v : Vec code_deed.Deed Global) r. WasCounted integers n c.count.new.self
    v.items r) tt
    (Ok c.in_ok-deeds.deeds) (counted c.args.at (length (change_deeds integers n y)) st) (λ st. Ok (st, y))
    (subst P (as_many integers n c.len.result c.in_ok-deeds.deeds y p l) c.in_ok-count.ensures)
    ((c.count.new.self, y), refl, (refl, p)))
