use Rattle.std.proofs.Common.{◌∙◌, ap}
use Rattle.source_grammar.specs.Grammar.{spell_expr, spell_update, spell_declarator}
use Rattle.source_meaning.specs.Names.{among}
use Rattle.source_tokens.proofs.placed.Fronts.{taken}
use Rattle.source_reader.specs.Reading.{Reading}
use Rattle.source_reader.proofs.units.Spelled.{unit_tokens, whole_expr, whole_update, whole_declarator}
use Rattle.source_reader.proofs.reader.Reader.scope.Goals as goal

pub new-requires-clause-placed : goal.new-requires-clause-placed
new-requires-clause-placed c = taken c.self.inside.text.now c.self.inside.rest.now c.unit_length.result c.self.invariant.1

pub returns-clause-expression : goal.returns-clause-expression
returns-clause-expression c = λ e ts h t. c.new.ensures
    ∙ ap (λ us. among us c.args.known.now) (unit_tokens c.self.inside.definitions.now c.self.inside.text.now c.self.inside.rest.now
    c.unit_length.result (spell_expr e) ts (whole_expr e) (ap (λ (r : Reading). r.ahead) c.self.view_is ∙ h) t c.unit_length.ensures.length)

pub returns-clause-change : goal.returns-clause-change
returns-clause-change c = λ u ts h t. c.new.ensures
    ∙ ap (λ us. among us c.args.known.now) (unit_tokens c.self.inside.definitions.now c.self.inside.text.now c.self.inside.rest.now
    c.unit_length.result (spell_update u) ts (whole_update u) (ap (λ (r : Reading). r.ahead) c.self.view_is ∙ h) t
    c.unit_length.ensures.length)

pub returns-clause-declarator : goal.returns-clause-declarator
returns-clause-declarator c = λ x ts h t. c.new.ensures
    ∙ ap (λ us. among us c.args.known.now) (unit_tokens c.self.inside.definitions.now c.self.inside.text.now c.self.inside.rest.now
    c.unit_length.result (spell_declarator x) ts (whole_declarator x) (ap (λ (r : Reading). r.ahead) c.self.view_is ∙ h) t
    c.unit_length.ensures.length)
