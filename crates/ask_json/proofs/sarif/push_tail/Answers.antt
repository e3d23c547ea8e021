use Rattle.json.specs.Print.{escape_byte}
use Rattle.ask_json.proofs.sarif.push_tail.Goals as goal

pub returns : goal.returns
unfolding escape_byte
returns c = c.in_ok-extend_from_slice.ensures.items
