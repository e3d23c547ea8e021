use Rattle.tmpl_page.proofs.words.Texts.{text_at}
use Rattle.tmpl_page.proofs.words.words_of.Goals as goal

pub returns-in-Err-clause-err : goal.returns-in-Err-clause-err
returns-in-Err-clause-err c = λ is all. c.in-Err.ensures.err is (text_at _ _ _ c.loop-piece-test.true all)
