use Rattle.out_workload.proofs.bodies.BodyLimits.{generated_edges, generated_points, generated_unknowns, generated_within}
use Rattle.out_workload.proofs.bodies.TextReads.{generated_means, generated_reads, generated_short, lexed}
use Rattle.out_workload.specs.Draws.{loops_from}
use Rattle.out_workload.specs.Texts.{generated_text}
use Rattle.out_workload.proofs.law.generated_texts_read.Goals as goal

pub returns : goal.returns
returns c = λ seed loops h. record {
  tokens = lexed (generated_text seed loops) (loops_from seed loops);
  short = generated_short seed loops h;
  reads = generated_reads seed loops;
  means = generated_means seed loops h;
  within = generated_within seed loops h;
  points = generated_points seed loops;
  unknowns = generated_unknowns seed loops h;
  edges = generated_edges seed loops;
}
