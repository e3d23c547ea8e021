use Rattle.std.proofs.Common.{sym, refl, ◌∙◌}
use Rattle.lang_tokens.specs.Lexemes.{foreign_sign, second_spelling}
use Rattle.lang_tokens.proofs.signs.foreign_lexeme.Goals as goal

pub returns-then-is_second_spelling : goal.returns-then-is_second_spelling
returns-then-is_second_spelling c = record {
  length_is = sym c.width-len.ensures;
  of_code = second_spelling c.args.sign (sym c.is_second_spelling.ensures ∙ c.if-is_second_spelling.true) refl;
}

pub returns : goal.returns
returns c = record {
  length_is = sym c.width-len.ensures;
  of_code = (refl, foreign_sign c.args.sign (sym c.is_second_spelling.ensures ∙ c.if-is_second_spelling.false) refl);
}
