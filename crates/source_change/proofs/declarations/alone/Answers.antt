use Rattle.lang_tokens.specs.Lines.{line_at}
use Rattle.source_grammar.specs.Grammar.{declarator, bare}
use Rattle.source_meaning.specs.Statements.{read_declarator}
use Rattle.source_change.specs.Tests.{WasRead, WasTaken}
use Rattle.source_change.specs.declared.names.Named.{Named}
use Rattle.source_change.proofs.results.Answered.{err_never}
use Rattle.source_change.proofs.declarations.alone.Goals as goal

pub returns-in_err-first-clause-reads : goal.returns-in_err-first-clause-reads
returns-in_err-first-clause-reads c = λ x a rest e.
    err_never (λ (n : Named) p. WasTaken rest c.args.reader.now c.take_name.new.reader n p)
    (λ _ r. WasRead c.args.reader.now.integers c.args.reader.now.variables rest c.args.reader.now c.take_name.new.reader c.args.known.now
    c.args.out.now.items c.args.out.now.items r) c.from_residual.result c.in_err-first.field-0.0 (x, a)
    (read_declarator c.args.reader.now.integers (line_at c.args.reader.now.text) c.args.reader.now.variables c.args.known.now
    (declarator x a bare))
    c.from_residual.ensures.1 (c.in_err-first.ensures.reads x a rest e)
