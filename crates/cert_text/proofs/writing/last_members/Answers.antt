use Rattle.cert_text.proofs.bounds.WrittenLists.{all_true}
use Rattle.cert_text.proofs.writing.last_members.Goals as goal

pub write_list-requires-2 : goal.write_list-requires-2
write_list-requires-2 c = all_true c.args.traces.now

pub write_list-requires-3 : goal.write_list-requires-3
write_list-requires-3 c = all_true c.args.uppers.now
