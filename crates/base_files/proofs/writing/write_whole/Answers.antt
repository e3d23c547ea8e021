use Rattle.base_files.proofs.writing.Parts.{after_nothing, after_write, as_prefix}
use Rattle.base_files.proofs.writing.write_whole.Goals as goal

pub returns-in-Ok-eq0 : goal.returns-in-Ok-eq0
returns-in-Ok-eq0 g c = record { appends = as_prefix (after_write _ c.loop-rest.invariant c.in-Ok-eq0.ensures.bytes) }

pub loop-rest-preserved : goal.loop-rest-preserved
loop-rest-preserved g c = after_write _ c.loop-rest.invariant c.in-Ok.ensures.bytes

pub returns-in-Err : goal.returns-in-Err
returns-in-Err g c = record { appends = as_prefix (after_nothing c.loop-rest.invariant c.in-Err.ensures.bytes) }

pub returns-in-Err-flush : goal.returns-in-Err-flush
returns-in-Err-flush g c = record { appends = as_prefix (after_nothing c.loop-rest.invariant c.in-Err-flush.ensures.bytes) }
