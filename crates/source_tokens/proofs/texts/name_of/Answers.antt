use Rattle.std.proofs.Common.{IsTrue, sym, subst}
use Rattle.lang_tree.specs.Word.{is_word}
use Rattle.source_tokens.specs.View.{bytes_of}
use Rattle.source_tokens.proofs.placed.Words.{naming_word}
use Rattle.source_tokens.proofs.texts.name_of.Goals as goal

pub unwrap-requires : goal.unwrap-requires
unwrap-requires c =
    let bytes = bytes_of c.args.text.now c.args.token.now in
    let word : IsTrue (is_word bytes) = naming_word c.args.token.now.kind bytes c.requires.name c.requires.token.is_token in
    c.new.ensures.some.1 (subst (λ bs. IsTrue (is_word bs)) (sym c.bytes_of.ensures) word)
