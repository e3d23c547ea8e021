-- The analysis of a generated program.
use Rattle.std.proofs.Common.{◌≡◌, ◌≤◌, ℕ, List, refl, sym, subst, arith}
use Rattle.std.specs.Prelude.{IfOk, IfErr, Option, Result, Some, Vec, codes, option_and_then, option_map}
use Rattle.std.specs.declared.alloc.Global.{Global}
use Rattle.clap.specs.Words.{Row, first_of}
use Rattle.base_limits.specs.declared.limits.TheConstants.{MOST_LOOPS}
use Rattle.flow_templates.specs.Domains.{intervals_of}
use Rattle.flow_systems.specs.Equations.{Equations as Equations_of, Least}
use Rattle.out_workload.specs.Bodies.{generated_body, generated_names}
use Rattle.ask_files.specs.Files.{Request}
use Rattle.ask_words.specs.Request.{bench_in}
use Rattle.ask_words.specs.Values.{number_in}
use Rattle.ask_words.specs.declared.request.Request.TheVariants.{Bench}
use Rattle.top_answer.specs.Commands.{IsSummary, command_of}
use Rattle.top_answer.specs.Outcomes.{HasOutcome, Says}
use Rattle.top_status.specs.declared.status.Status.{Status}
use Rattle.top_texts.specs.Exact.{exact}
use Rattle.top_texts.specs.Outcomes.{IsUnanswered}
use Rattle.top_texts.specs.Questions.{bench_question, rounds_end}
use Rattle.top_texts.specs.Reports.{IsSummaryOf}
use Rattle.top_texts.specs.declared.refusal.Refusal.{Refusal}
use Rattle.top_texts.proofs.questions.OneMeaning.{bench_once}
use Rattle.top_texts.proofs.texts.Once.{equations_are}
use Rattle.top_answer.proofs.commands.Asking.{lawful}
use Rattle.top_answer.proofs.commands.Lawful.{IsCommand, IsInRange, done_once}
use Rattle.top_answer.proofs.commands.Results.{answered, ok_map}
use Rattle.top_answer.proofs.outputs.Summaries.{summary_once}
use Rattle.top_answer.proofs.requests.Numbers.{and_then_some, map_some, number_bounds}

-- the summary of a generated program is one by the exact meanings
summary : (seed loops : ℕ) (bytes : List ℕ) → IsSummaryOf seed loops bytes → IsSummary exact seed loops bytes
summary seed loops bytes s = record {
  system = s.system;
  generated = s.generated;
  rounds = s.rounds;
  within = s.within;
  vector = s.vector;
  has_rounds = s.has_rounds;
  least = subst (λ (q : Equations_of). Least q s.vector) (sym (equations_are generated_names (generated_body seed loops) (intervals_of 3)
      s.system s.generated.system_for)) s.least;
  summary = s.summary;
}

-- it is a command of the program
pub benches : (seed loops : ℕ) → IsCommand (Bench seed loops)
benches seed loops = record {
  lawful = lawful (bench_question exact seed loops) (bench_once seed loops) (λ bytes. IsSummary exact seed loops bytes)
      (λ bytes r. rounds_end r.system refl r.generated (r.rounds, r.within, r.vector, r.has_rounds));
  writes_once = λ none contents. done_once (λ bytes. IsSummary exact seed loops bytes) (summary_once seed loops);
  limits = λ contents range e. range;
}

bench_of : List Row → ℕ → Option Request
bench_of given seed = option_map (λ loops. Bench seed loops) (option_and_then (number_in 1 MOST_LOOPS) (first_of (codes "loops") given))

-- its numbers are within their limits
pub bench_range : (given : List Row) (r : Request) → bench_in given ≡ Some r → IsInRange r
unfolding bench_of
bench_range given r e =
    let seed = and_then_some (bench_of given) (option_and_then (number_in 0 2147483647) (first_of (codes "seed") given)) r e in
    let made : ℕ → Request = λ loops. Bench seed.0 loops in
    let loops = map_some made (option_and_then (number_in 1 MOST_LOOPS) (first_of (codes "loops") given)) r seed.2 in
    let s = and_then_some (number_in 0 2147483647) (first_of (codes "seed") given) seed.0 seed.1 in
    let l = and_then_some (number_in 1 MOST_LOOPS) (first_of (codes "loops") given) loops.0 loops.1 in
    let most : seed.0 ≤ 2147483647 = (number_bounds 0 2147483647 s.0 seed.0 s.2).1 in
    let range = number_bounds 1 MOST_LOOPS l.0 loops.0 l.2 in
    subst (λ r. IsInRange r) loops.2 (omega arith, range.0, range.1)

-- its summary, or why there is none
pub benched : (seed loops : ℕ) (r : Result (Vec ℕ Global) Refusal) (s : Status) (bytes : List ℕ)
    → IfOk r (λ made. IsSummaryOf seed loops made.items) → IfErr r (λ x. IsUnanswered (bench_question exact seed loops) x)
    → HasOutcome r s bytes → Says (command_of exact (Bench seed loops)) s bytes
benched seed loops r s bytes ok err h = answered (bench_question exact seed loops) (λ b. IsSummary exact seed loops b) r s bytes
    (ok_map (λ b. IsSummaryOf seed loops b) _ (summary seed loops) r ok) err h
