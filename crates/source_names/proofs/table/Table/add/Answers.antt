use Rattle.std.proofs.Common.{ap, sym, ◌∙◌, ◌++◌, ◌∷◌, [], arith, rules, length, List, ℕ, ◌≡◌, ◌<◌, true, subst}
use Rattle.std.proofs.lemmas.List.{length-append}
use Rattle.source_meaning.specs.Names.{Named}
use Rattle.source_names.specs.declared.entry.Entry.{Entry}
use Rattle.source_names.specs.Entries.{names_in, named_of, HavePlaces}
use Rattle.source_names.proofs.entries.Texts.{reverse_pushed}
use Rattle.source_names.proofs.entries.Places.{have_new}
use Rattle.source_names.proofs.entries.Switched.{length_names}
use Rattle.source_names.proofs.table.Table.add.Goals as goal

long : (xs : List Entry) (x : Entry) (ys : List Entry) (n : ℕ) → ys ≡ xs ++ x ∷ [] → n ≡ length xs → n < 4294967295
    → length ys < 4294967296
long xs x ys n e f h = let k = ap length e ∙ length-append xs (x ∷ []) in omega (arith, k, f, h)

pub invariant_of-self-in-Ok : goal.invariant_of-self-in-Ok
invariant_of-self-in-Ok c =
    let e : Entry = record { name = c.again.result; kept = c.args.kept; is_known = true } in
    let items : c.push.new.self.items ≡ c.self.inside.list.items ++ e ∷ [] = c.in_ok-push.ensures.items in
    let names : names_in c.push.new.self.items ≡ named_of e ∷ names_in c.self.inside.list.items =
    ap names_in items ∙ reverse_pushed named_of c.self.inside.list.items e in
    let len : c.len.result ≡ length c.self.inside.list.items = search rules in
    let place : c.len-place.result ≡ length (names_in c.self.inside.list.items) =
    (let l : c.len-place.result ≡ length c.self.inside.list.items = search rules in l ∙ sym (length_names c.self.inside.list.items)) in
    let key : c.in_ok-key.key.items ≡ e.name = c.in_ok-key.ensures.items ∙ c.bytes.ensures.bytes ∙ sym c.again.ensures in
    let have = have_new c.self.inside.places.entries c.insert.new.self.entries (names_in c.self.inside.list.items)
    c.in_ok-key.key (named_of e)
    c.len-place.result c.self.invariant.0 key place c.in-Ok.ensures.entries in
    let P : List Named → Type 0 = λ ns. HavePlaces c.insert.new.self.entries ns in (
      subst P (sym names) have,
      long c.self.inside.list.items e c.push.new.self.items c.len.result items len c.if-len.false,
    )
