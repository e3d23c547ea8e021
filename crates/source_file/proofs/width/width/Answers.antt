use Rattle.std.proofs.Common.{arith}
use Rattle.source_file.proofs.width.Tokens.{tokens_width}
use Rattle.source_file.proofs.width.width.Goals as goal

pub returns : goal.returns
returns c = λ definitions f reads. omega (arith, tokens_width definitions c.args.text.now c.args.tokens.now f reads)
