use Rattle.std.proofs.Common.{length}
use Rattle.std.specs.Option.{option_copied}
use Rattle.lang_tokens.specs.Reading.{end_at}
use Rattle.source_file.proofs.file.Fronts.{front_exact, front_found, taken_in}
use Rattle.source_file.proofs.file.read.Goals as goal

pub read_in-requires-clause-tokens : goal.read_in-requires-clause-tokens
read_in-requires-clause-tokens c = taken_in c.args.text.now c.args.tokens.now c.requires.tokens

pub returns-clause-found : goal.returns-clause-found
returns-clause-found c = λ front e.
    front_found c.args.integers c.args.text.now (option_copied c.args.asked) c.args.tokens.now front (end_at (length c.args.text.now)) e
    c.read_in.result c.read_in.ensures

pub returns-clause-exact : goal.returns-clause-exact
returns-clause-exact c = λ front e wanted m.
    front_exact c.args.integers c.args.text.now (option_copied c.args.asked) c.args.tokens.now front (end_at (length c.args.text.now)) e
    c.read_in.result c.read_in.ensures wanted m
