use Rattle.std.proofs.Common.{◌∙◌, sym, true≢false}
use Rattle.source_value.proofs.hidden.always_held.Goals as goal

pub unreachable-requires : goal.unreachable-requires
unreachable-requires c = true≢false (sym c.requires ∙ c.in-Err-Big.ensures c.in-Err-Big.field-0-is)
