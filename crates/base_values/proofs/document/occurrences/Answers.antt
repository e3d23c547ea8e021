use Rattle.std.proofs.Common.{◌≡◌, ◌∙◌, Some, ap, arith}
use Rattle.std.specs.Prelude.{None}
use Rattle.json.specs.Lex.{tokens}
use Rattle.base_values.specs.Documents.{after_begin_object, count_in}
use Rattle.base_values.proofs.Keys.{key_of_other, key_uncounted}
use Rattle.base_values.proofs.document.occurrences.Goals as goal

pub returns-then-not-takes_object-clause-none : goal.returns-then-not-takes_object-clause-none
returns-then-not-takes_object-clause-none c _ =
    let other : after_begin_object (tokens c.args.text.now) ≡ None = grind arith in
    key_of_other c.args.key.now (tokens c.args.text.now) other

pub returns-in-Ok-clause-none : goal.returns-in-Ok-clause-none
returns-in-Ok-clause-none c none =
    let count : count_in c.args.key.now (tokens c.args.text.now) ≡ Some c.in-Ok.count = grind arith in
    key_uncounted c.args.key.now (tokens c.args.text.now) c.requires (count ∙ ap Some none)
