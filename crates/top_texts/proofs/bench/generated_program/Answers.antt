use Rattle.std.proofs.Common.{ap, subst₂}
use Rattle.lang_grammar.specs.View.{tokens_of}
use Rattle.lang_meaning.specs.Meaning.{Means}
use Rattle.top_texts.proofs.bench.generated_program.Goals as goal

pub returns-in-Ok-parse-clause-ok : goal.returns-in-Ok-parse-clause-ok
returns-in-Ok-parse-clause-ok c =
    let found = c.in-Ok-parse.ensures.found in (
      c.in-Ok.tokens.items,
      c.in-Ok.ensures.ok,
      subst₂ (λ ts a. Means c.args.text.now ts a) (ap (λ ts. tokens_of c.args.text.now ts) c.deref.ensures.value) found.2 found.1,
    )
