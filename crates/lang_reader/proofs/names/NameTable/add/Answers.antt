use Rattle.std.proofs.Common.{ap, sym, ◌∙◌, ◌++◌, ◌∷◌, [], arith, rules, length, List, ℕ, ◌≡◌, ◌<◌, true, false}
use Rattle.std.specs.Prelude.{is_some}
use Rattle.std.proofs.lemmas.List.{length-append}
use Rattle.lang_meaning.specs.Names.{place_of}
use Rattle.lang_reader.proofs.names.Texts.{have_new, have_again}
use Rattle.lang_reader.proofs.names.NameTable.add.Goals as goal

long : (xs : List (List ℕ)) (x : List ℕ) (ys : List (List ℕ)) (n : ℕ) → ys ≡ xs ++ x ∷ [] → n ≡ length xs → n < 4294967295
    → length ys < 4294967296
long xs x ys n e f h = let k = ap length e ∙ length-append xs (x ∷ []) in omega (arith, k, f, h)

pub invariant_of-self-then-is_some : goal.invariant_of-self-then-is_some
invariant_of-self-then-is_some c =
    let len : c.len.result ≡ length c.self.inside.list.items = search rules in
    let items = c.in_ok-push.ensures.items ∙ ap (λ (x : List ℕ). c.self.inside.list.items ++ x ∷ []) c.again.ensures in
    let there : is_some (place_of c.args.name.now c.self.inside.list.items) ≡ true =
    ap (λ x. is_some (place_of c.args.name.now x)) c.self.view_is ∙ ap is_some (sym c.place.ensures) ∙ sym c.is_some.ensures
    ∙ c.if-is_some.true in (
      have_again c.self.inside.places.entries c.self.inside.list.items c.push.new.self.items c.args.name.now c.self.invariant.0 there items,
      long c.self.inside.list.items c.args.name.now c.push.new.self.items c.len.result items len c.if-len.false,
    )

pub invariant_of-self-in-Ok : goal.invariant_of-self-in-Ok
invariant_of-self-in-Ok c =
    let len : c.len.result ≡ length c.self.inside.list.items = search rules in
    let place : c.len-place.result ≡ length c.self.inside.list.items = search rules in
    let items = c.in_ok-push-2.ensures.items ∙ ap (λ (x : List ℕ). c.self.inside.list.items ++ x ∷ []) c.again-2.ensures in
    let there : is_some (place_of c.args.name.now c.self.inside.list.items) ≡ false =
    ap (λ x. is_some (place_of c.args.name.now x)) c.self.view_is ∙ ap is_some (sym c.place.ensures) ∙ sym c.is_some.ensures
    ∙ c.if-is_some.false in (
      have_new c.self.inside.places.entries c.insert.new.self.entries c.self.inside.list.items c.push-2.new.self.items c.in_ok-key.key
          c.args.name.now c.len-place.result
          c.self.invariant.0 (c.in_ok-key.ensures.items ∙ c.bytes.ensures.bytes) place there c.in-Ok.ensures.entries items,
      long c.self.inside.list.items c.args.name.now c.push-2.new.self.items c.len.result items len c.if-len.false,
    )
