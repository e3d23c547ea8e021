use Rattle.std.proofs.Common.{◌∙◌, inl, refl, sym}
use Rattle.top_run.proofs.messages.Told.{one_piece, quiet, told_by, untold}
use Rattle.top_run.proofs.messages.tell.Goals as goal

pub returns-then-not-has_output-clause-gets : goal.returns-then-not-has_output-clause-gets
returns-then-not-has_output-clause-gets g c =
    told_by _ _ _ _ _ _ _ _ _ c.bytes.ensures.bytes c.bytes.ensures.short (untold _ _ c.has_output.ensures c.if-not-has_output.true)
    c.put.ensures.appends c.put.ensures.cause

pub returns-then-not-has_output-clause-piece : goal.returns-then-not-has_output-clause-piece
returns-then-not-has_output-clause-piece g c = one_piece _ _ _ _ _ c.bytes.ensures.bytes c.put.ensures.takes

pub returns-else-not-has_output-clause-gets : goal.returns-else-not-has_output-clause-gets
returns-else-not-has_output-clause-gets g c = quiet _ _ _ _ _ _ (sym c.has_output.ensures ∙ c.if-not-has_output.false)

pub returns-else-not-has_output-clause-piece : goal.returns-else-not-has_output-clause-piece
returns-else-not-has_output-clause-piece g c = inl refl
