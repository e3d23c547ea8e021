use Rattle.std.proofs.Common.{◌≡◌, ◌∙◌, ap, sym, Some, None, ℕ, List}
use Rattle.std.specs.Option.{option_map, option_copied}
use Rattle.std.specs.Prelude.{slice_get}
use Rattle.source_meaning.specs.Names.{declared}
use Rattle.source_names.specs.declared.entry.Entry.{Entry}
use Rattle.source_names.specs.Entries.{named_of, names_in, place_of}
use Rattle.source_names.proofs.entries.Places.{found, not_found, looked_up}
use Rattle.source_names.proofs.table.Table.find.Goals as goal

pub returns-in_err-place : goal.returns-in_err-place
returns-in_err-place c =
    let none : place_of c.args.name.now (names_in c.self.inside.list.items) ≡ None =
    sym (c.self.invariant.0 c.args.name.now) ∙ sym c.get.ensures.value ∙ ap option_copied c.in_err-place.was in
    ap (option_map (λ e. named_of e.now)) c.from_residual.ensures ∙ sym (not_found c.args.name.now (names_in c.self.inside.list.items) none)
    ∙ ap (declared c.args.name.now) c.self.view_is

pub returns : goal.returns
returns c =
    let items : List Entry = c.self.inside.list.items in
    let at : ℕ = c.in_ok-place.field-0.now in
    let some : place_of c.args.name.now (names_in items) ≡ Some at =
    sym (c.self.invariant.0 c.args.name.now) ∙ sym c.get.ensures.value ∙ ap option_copied c.in_ok-place.was in
    looked_up c.deref.result.now at c.get-2.result c.get-2.ensures.lookup
    ∙ ap (λ (xs : List Entry). option_map named_of (slice_get xs at)) c.deref.ensures.value
    ∙ found c.args.name.now items at some ∙ ap (declared c.args.name.now) c.self.view_is
