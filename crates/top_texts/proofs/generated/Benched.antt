-- What a request for a generated program is answered.
use Rattle.std.proofs.Common.{ℕ, List, refl}
use Rattle.top_texts.specs.Exact.{exact}
use Rattle.top_texts.specs.Questions.{QuestionEnds, bench_question, rounds_end}
use Rattle.top_texts.specs.Reports.{IsSummaryOf}
use Rattle.top_status.specs.declared.status.Status.TheVariants.{Done}

-- a summary of a generated program ends its question with success
pub summary_ends : (seed loops : ℕ) (bytes : List ℕ) → IsSummaryOf seed loops bytes → QuestionEnds (bench_question exact seed loops) Done
summary_ends seed loops bytes r = rounds_end r.system refl r.generated (r.rounds, r.within, r.vector, r.has_rounds)
