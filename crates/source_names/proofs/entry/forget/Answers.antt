use Rattle.std.proofs.Common.{◌≡◌, ◌∙◌, ◌≤◌, ◌<◌, ℕ, sym, ap, length, get_or, arith, List, add-one, rules, ⊎_elim}
use Rattle.std.proofs.Math.ListN.{set}
use Rattle.std.specs.Prelude.{◌-◌}
use Rattle.std.proofs.lemmas.Bool.{cases_lt}
use Rattle.source_meaning.specs.Names.{forgotten}
use Rattle.source_names.specs.declared.entry.Entry.{Entry}
use Rattle.source_names.specs.Entries.{names_in}
use Rattle.source_names.proofs.entries.Switched.{off, switched, switched_none, switched_past, switched_more, length_switched}
use Rattle.source_names.proofs.entries.Switched.{forgotten_from, forgotten_past}
use Rattle.source_names.proofs.entry.forget.Goals as goal

pub loop-place-init : goal.loop-place-init
loop-place-init c = sym (switched_none c.args.before c.args.entries.now.items)

pub loop-place-preserved : goal.loop-place-preserved
loop-place-preserved c =
    let es : List Entry = c.args.entries.now.items in
    let i : c.loop-place.entries.items ≡ switched c.args.before c.loop-place.place es = c.loop-place.invariant in
    let x : Entry = c.index_mut.result.now in
    let l : length c.loop-place.entries.items ≡ length es = ap length i ∙ length_switched c.args.before c.loop-place.place es in
    let a : c.args.before ≤ c.loop-place.place = omega arith in
    let e : c.len-place-end.result ≡ length es = search rules in
    let w : c.loop-place.place < length es = omega arith in
    let v : x ≡ get_or c.loop-place.entries.items c.loop-place.place x = search rules in
    let g : x ≡ get_or (switched c.args.before c.loop-place.place es) c.loop-place.place x = v
    ∙ ap (λ xs. get_or xs c.loop-place.place x) i in
    ap (λ xs. set xs c.loop-place.place (off x)) i ∙ switched_more c.args.before c.loop-place.place es x a w g
    ∙ ap (λ b. switched c.args.before b es) (sym (add-one c.loop-place.place))

ends : (a p : ℕ) (es now : List Entry) → (a ≤ length es → p ≡ length es) → now ≡ switched a p es
    → names_in now ≡ forgotten (length (names_in es) - a) (names_in es)
ends a p es now h e = ⊎_elim
    (λ (k : length es < a). let g : length es ≤ a = omega arith in forgotten_past a es now g (e ∙ switched_past a p es g))
    (λ (k : a ≤ length es). forgotten_from a es now k (e ∙ ap (λ b. switched a b es) (h k)))
    (cases_lt (length es) a)

pub returns : goal.returns
returns c =
    let es : List Entry = c.args.entries.now.items in
    let i : c.loop-place.entries.items ≡ switched c.args.before c.loop-place.place es = c.loop-place.invariant in
    let e : c.len-place-end.result ≡ length es = search rules in
    record {
      length = ap length i ∙ length_switched c.args.before c.loop-place.place es;
      names = ends c.args.before c.loop-place.place es c.loop-place.entries.items (λ h. omega arith) i;
    }
