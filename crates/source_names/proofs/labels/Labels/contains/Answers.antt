use Rattle.std.proofs.Common.{◌∙◌, ap}
use Rattle.std.specs.List.{list_any}
use Rattle.std.specs.Str.{bytes_eq}
use Rattle.source_names.proofs.entries.Texts.{key_there}
use Rattle.source_names.proofs.labels.Labels.contains.Goals as goal

pub returns : goal.returns
returns c = c.contains_key.ensures ∙ key_there c.args.name.now c.self.inside.texts.entries
    ∙ ap (list_any (bytes_eq c.args.name.now)) c.self.view_is
