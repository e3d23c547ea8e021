use Rattle.std.proofs.Common.{rules, ◌≡◌, ◌∙◌, false, OnOk, ℕ, ap, Result, Ok, Err, List, ◌∷◌}
use Rattle.std.specs.declared.alloc.AllocError.{AllocError}
use Rattle.std.specs.List.{list_any}
use Rattle.std.specs.Str.{bytes_eq}
use Rattle.source_names.specs.Entries.{texts_in}
use Rattle.source_names.proofs.entries.Texts.{texts_pushed}
use Rattle.source_names.proofs.labels.Labels.add.Goals as goal
use Rattle.source_names.proofs.labels.Labels.add.Goals.{in-Ok, in-Err}

on : (r : Result (Unit {0}) AllocError) (xs : List (List ℕ)) {ys : List (List ℕ)} → xs ≡ ys → OnOk r (xs ≡ ys)
on (Ok x) xs e = e
on (Err x) xs e = tt

pub returns : goal.returns
returns c = elim c.match-insert.branch [
  | in-Ok w ↦
      let absent : list_any (bytes_eq c.args.name.now) (texts_in c.self.inside.texts.entries) ≡ false =
      ap (list_any (bytes_eq c.args.name.now)) c.self.view_is ∙ c.requires in
      let done = texts_pushed c.self.inside.texts.entries c.insert.new.self.entries c.in_ok-key.key tt c.args.name.now
      c.in_ok-key.ensures.items
      absent w.in-Ok.ensures.entries ∙ ap (λ xs. c.args.name.now ∷ xs) c.self.view_is in
      on c.match-insert.result (texts_in c.insert.new.self.entries) done
  | in-Err w ↦ search rules
]
