use Rattle.lang_grammar.specs.View.{tokens_of}
use Rattle.lang_feed.proofs.counts.WholeTexts.{ends_well}
use Rattle.lang_feed.proofs.texts.Programs.{some_meaning}
use Rattle.lang_feed.proofs.laws.every_text_means.Goals as goal

pub returns : goal.returns
returns c = λ text tokens a. some_meaning text (tokens_of text tokens) (ends_well text tokens a)
