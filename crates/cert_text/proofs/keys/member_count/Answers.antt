use Rattle.std.proofs.Common.{◌∙◌, ap, sym}
use Rattle.serde_json.proofs.Views.{members_len-members_view}
use Rattle.cert_text.specs.Keys.{count_members}
use Rattle.cert_text.proofs.keys.member_count.Goals as goal

pub returns-in-Some : goal.returns-in-Some
returns-in-Some c = c.len.ensures.len ∙ sym (members_len-members_view c.in-Some.members.now.entries) ∙ ap count_members c.in-Some.ensures
