use Rattle.std.proofs.Common.{◌∷◌}
use Rattle.lang_tokens.specs.Lines.{line_at}
use Rattle.source_grammar.specs.Tokens.{token, semicolon}
use Rattle.source_meaning.specs.Changes.{read_update}
use Rattle.source_statement.proofs.parts.Updates.{updated}
use Rattle.source_statement.proofs.simple.update_statement.Goals as goal

pub returns-clause-reads : goal.returns-clause-reads
returns-clause-reads c = λ inside u d rest g e.
    updated c.args.reader.now.integers c.args.reader.now.variables d rest c.args.reader.now c.update.new.reader c.push_update.new.reader
    c.update.new.known
    c.args.out.now.items c.push_update.new.out.items c.in_ok-deeds.deeds c.push_update.result
    (read_update c.args.reader.now.integers (line_at c.args.reader.now.text) c.args.reader.now.variables c.args.known.now u)
    (c.in_ok-deeds.ensures.reads u (token semicolon d ∷ rest) g e tt) c.push_update.ensures.pushed (c.push_update.ensures.reads d rest)
