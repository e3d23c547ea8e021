use Rattle.source_tokens.specs.Constants.{constant_at}
use Rattle.source_tokens.specs.View.{bytes_of}
use Rattle.source_packs.proofs.Seen.{other_part}
use Rattle.source_packs.proofs.part.part_seen.Goals as goal

pub returns-in_default : goal.returns-in_default
returns-in_default c =
    let bytes = bytes_of c.args.text.now c.args.token.now in
    let value = constant_at c.args.constants.now bytes c.args.token.now.at in
    other_part c.args.names.now bytes value c.args.token.now.kind c.symbol_of.result c.symbol_part.result c.in_default.not-Name
    (c.symbol_of.ensures bytes value) c.symbol_part.ensures
