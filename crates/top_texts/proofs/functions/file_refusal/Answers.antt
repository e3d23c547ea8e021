use Rattle.std.proofs.Common.{subst}
use Rattle.top_texts.specs.FunctionTexts.{Lists}
use Rattle.top_texts.proofs.functions.file_refusal.Goals as goal

pub returns-in_default : goal.returns-in_default
returns-in_default c =
    λ text answer lists is. subst (λ a. Lists text a) (is c.in_default.not-NoMemory) lists
