use Rattle.std.proofs.Common.{length}
use Rattle.lang_tokens.specs.Reading.{end_at}
use Rattle.source_file.proofs.file.Fronts.{names_exact, names_found, taken_in}
use Rattle.source_file.proofs.file.names.Goals as goal

pub names_in-requires-clause-tokens : goal.names_in-requires-clause-tokens
names_in-requires-clause-tokens c = taken_in c.args.text.now c.args.tokens.now c.requires.tokens

pub returns-clause-found : goal.returns-clause-found
returns-clause-found c = λ front e.
    names_found c.args.text.now c.args.tokens.now front (end_at (length c.args.text.now)) e c.names_in.result c.names_in.ensures

pub returns-clause-exact : goal.returns-clause-exact
returns-clause-exact c = λ front e wanted m.
    names_exact c.args.text.now c.args.tokens.now front (end_at (length c.args.text.now)) e c.names_in.result c.names_in.ensures wanted m
