use Rattle.std.proofs.Common.{rules}
use Rattle.json.specs.Print.{escape_byte}
use Rattle.base_json.proofs.text.push_byte.Goals as goal

pub returns-in_ok-extend_from_slice : goal.returns-in_ok-extend_from_slice
unfolding escape_byte
returns-in_ok-extend_from_slice c = search rules

pub returns-in_ok-extend_from_slice-2 : goal.returns-in_ok-extend_from_slice-2
unfolding escape_byte
returns-in_ok-extend_from_slice-2 c = search rules

pub returns-in_ok-push : goal.returns-in_ok-push
unfolding escape_byte
returns-in_ok-push c = search rules
