-- What the parts of a message tell.
use Rattle.top_status.specs.Messages.{Words}
use Rattle.top_status.specs.declared.message.Parts.{Parts}

-- the words and the number
abbrev pub told : Parts → Words
told p = record { subject = p.subject.now; before = p.before.now; number = p.number; after = p.after.now }
