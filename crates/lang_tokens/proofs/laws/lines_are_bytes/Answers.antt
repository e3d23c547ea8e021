use Rattle.lang_tokens.proofs.reading.LineStarts.{lines_are_bytes}
use Rattle.lang_tokens.proofs.laws.lines_are_bytes.Goals as goal

pub returns : goal.returns
returns c = lines_are_bytes
