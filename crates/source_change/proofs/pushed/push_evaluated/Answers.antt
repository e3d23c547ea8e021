use Rattle.std.proofs.Common.{◌≡◌, ◌∙◌, ℕ, List, [], Ok, Err, length, refl, sym, ap, subst, rules}
use Rattle.std.specs.declared.alloc.Global.{Global}
use Rattle.std.specs.declared.vec.Vec.{Vec}
use Rattle.lang_tree.specs.Tree as tree
use Rattle.lang_tree.specs.View.{deeds_of}
use Rattle.lang_tree.specs.declared.deed.Deed.{Deed}
use Rattle.source_tree.specs.Statements.{Change, Statements, changes, evaluates}
use Rattle.source_core.specs.Elaborated.{Evaluated, evaluated}
use Rattle.source_core.specs.Core.{change_deeds}
use Rattle.source_meaning.specs.Results.{◌>>=◌}
use Rattle.source_meaning.specs.Names.{State}
use Rattle.source_meaning.specs.Limits.{counted}
use Rattle.source_meaning.specs.Changes.{few}
use Rattle.source_meaning.specs.Statements.{one}
use Rattle.source_names.specs.Gives.{Gives}
use Rattle.source_change.proofs.limited.Told.{as_limited}
use Rattle.source_change.proofs.lists.Deeds.{length_deeds}
use Rattle.source_change.proofs.results.Answered.{err_given, given_then, ok_then}
use Rattle.source_change.specs.Pushed.{WasEvaluated}
use Rattle.source_change.proofs.lists.Pushed.{change_pushed}
use Rattle.base_integers.specs.declared.integers.Integers.{Integers}
use Rattle.source_change.proofs.pushed.push_evaluated.Goals as goal

-- the code has these deeds, and nothing else was met
abbrev Has : State → List tree.Deed → Vec Deed Global → State → Type 0
Has st ds v now = (deeds_of v.items ≡ ds) × (now ≡ st)

-- there are as many
as_many : (k : ℕ) (v : Vec Deed Global) (ds : List tree.Deed) → deeds_of v.items ≡ ds → k ≡ length v.items → k ≡ length ds
as_many k v ds h e = e ∙ sym (length_deeds v.items) ∙ ap length h

pub returns-in_err-count : goal.returns-in_err-count
returns-in_err-count c = λ line es p s.
    let integers : Integers = c.args.site.integers in
    let n : ℕ = c.args.site.variables in
    let at : ℕ = c.args.at in
    let st : State = c.args.known.now in
    let e : Evaluated = evaluated integers (line at) es n in
    let g : Change = evaluates es (line at) in
    let l : c.len.result ≡ length c.in_ok-deeds.deeds.items = search rules in
    ok_then (Has st e.prelude) _ c.in_ok-deeds.deeds c.from_residual-in_err-count.result (few integers n (line at) at g st)
    (λ now. counted at (length (change_deeds integers n g)) now >>= λ now. Ok (now, one (changes g)))
    (as_limited n at e.next e.prelude [] (λ (v : Vec Deed Global) ds. deeds_of v.items ≡ ds) (Has st e.prelude) (Ok c.in_ok-deeds.deeds)
    e.prelude st (λ v h. (h, refl)) (c.in_ok-deeds.ensures e s))
    (λ now h. let P : ℕ → Type 0 = λ k. Gives {A = Unit {0}} (λ _. c.count.new.self) (Err c.in_err-count.field-0.0) (counted at k st) in
    let Q : State → Type 0 = λ st. Gives {A = Unit {0}} (λ _. c.count.new.self) (Err c.in_err-count.field-0.0)
    (counted at (length e.prelude) st) in
    err_given {A = Unit {0}} (λ _. c.count.new.self) _ c.from_residual-in_err-count.result c.in_err-count.field-0.0
    (counted at (length (change_deeds integers n g)) now) (λ now. Ok (now, one (changes g))) c.from_residual-in_err-count.ensures.1
    (subst Q (sym h.1) (subst P (as_many c.len.result c.in_ok-deeds.deeds e.prelude h.0 l) c.in_err-count.ensures)))

pub returns : goal.returns
returns c = λ line es p s.
    let integers : Integers = c.args.site.integers in
    let n : ℕ = c.args.site.variables in
    let at : ℕ = c.args.at in
    let st : State = c.args.known.now in
    let e : Evaluated = evaluated integers (line at) es n in
    let g : Change = evaluates es (line at) in
    let l : c.len.result ≡ length c.in_ok-deeds.deeds.items = search rules in
    let is : Unit {0} → State × Statements → Type 0 = λ _ r. WasEvaluated integers n c.count.new.self c.args.out.now.items
    c.push_deeds.new.out.items r in
    ok_then (Has st e.prelude) is c.in_ok-deeds.deeds (Ok tt) (few integers n (line at) at g st)
    (λ now. counted at (length (change_deeds integers n g)) now >>= λ now. Ok (now, one (changes g)))
    (as_limited n at e.next e.prelude [] (λ (v : Vec Deed Global) ds. deeds_of v.items ≡ ds) (Has st e.prelude) (Ok c.in_ok-deeds.deeds)
    e.prelude st (λ v h. (h, refl)) (c.in_ok-deeds.ensures e s))
    (λ now h. let P : ℕ → Type 0 = λ k. Gives {A = Unit {0}} (λ _. c.count.new.self) (Ok tt) (counted at k st) in
    let Q : State → Type 0 = λ st. Gives {A = Unit {0}} (λ _. c.count.new.self) (Ok tt) (counted at (length e.prelude) st) in
    given_then {A = Unit {0}} (λ _. c.count.new.self) is tt (Ok tt) (counted at (length (change_deeds integers n g)) now)
    (λ now. Ok (now, one (changes g)))
    (subst Q (sym h.1) (subst P (as_many c.len.result c.in_ok-deeds.deeds e.prelude h.0 l) c.in_ok-count.ensures)) (
      (c.count.new.self, one (changes g)),
      refl,
      (
        refl,
        change_pushed integers n c.args.out.now.items c.push_deeds.new.out.items (deeds_of c.in_ok-deeds.deeds.items) g
            c.in_ok-push_deeds.ensures h.0,
      ),
    ))
