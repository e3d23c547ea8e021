-- A run over words, by another name for them.
use Rattle.std.proofs.Common.{◌≡◌, ℕ, List, subst}
use Rattle.top_answer.specs.Commands.{Commands}
use Rattle.top_run.specs.Progress.{IsUntold}
use Rattle.top_run.specs.Run.{IsRun}
use Rattle.top_run.specs.Seen.{ShelfSeen, SinkSeen}
use Rattle.top_status.specs.declared.status.Status.{Status}
use Rattle.top_texts.specs.Meanings.{Meanings}

-- a run over words, by another name for them
pub by_words : (commands : Commands) (m : Meanings) (words others : List (List ℕ)) (shelf shelf_now : ShelfSeen)
    (out out_now err err_now : SinkSeen) (status : Status) → words ≡ others
    → IsRun commands m words shelf shelf_now out out_now err err_now status
    → IsRun commands m others shelf shelf_now out out_now err err_now status
by_words commands m words others shelf shelf_now out out_now err err_now status e h =
    subst (λ ws. IsRun commands m ws shelf shelf_now out out_now err err_now status) e h

-- and what isn't told
pub untold_by : {W : Type 0} (words others : List (List ℕ)) (watch watch_now : W) → words ≡ others → IsUntold words watch watch_now
    → IsUntold others watch watch_now
untold_by words others watch watch_now e h = subst (λ ws. IsUntold ws watch watch_now) e h
