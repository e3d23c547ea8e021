-- Each question has one meaning: its texts are refused by one cause, or mean systems with the same equations.
use Rattle.std.proofs.Common.{◌≡◌, ◌∙◌, ℕ, List, sym}
use Rattle.flow_templates.specs.Domains.{intervals_of}
use Rattle.flow_systems.specs.View.{equations_of}
use Rattle.flow_systems.specs.declared.system.System.{System}
use Rattle.out_workload.specs.Bodies.{generated_body, generated_names}
use Rattle.ask_words.specs.declared.request.Domain.{Domain}
use Rattle.ask_words.specs.declared.request.Policy.{Policy}
use Rattle.ask_words.specs.declared.request.Purpose.{Purpose}
use Rattle.top_texts.specs.Exact.{exact}
use Rattle.top_texts.specs.Generated.{IsGenerated}
use Rattle.top_texts.specs.Questions.{analysis_question, bench_question, checks_question, claims_question, equations_question}
use Rattle.top_texts.specs.Questions.{transitions_question}
use Rattle.top_texts.proofs.equation_texts.Once.{causes_once, equations_once, not_equations}
use Rattle.top_texts.proofs.claim_texts.Once.{apart as refused_apart, causes_once as proofs_refused_once}
use Rattle.top_texts.proofs.questions.OneEnd.{HasOneMeaning}
use Rattle.top_texts.proofs.transition_texts.Once.{apart, causes_once as refusals_once, systems_once}
use Rattle.top_texts.specs.Texts.{Program}
use Rattle.top_texts.proofs.texts.Once.{equations_are, ready_unrefused, refused_once, solved_once}

-- the question of an analysis has one meaning
pub analysis_once : (purpose : Purpose) (program : Program) (rows : Domain (List ℕ)) (policy : Policy) (limit : ℕ)
    → HasOneMeaning (analysis_question exact purpose program rows policy limit)
analysis_once purpose program rows policy limit = record {
  cause = refused_once program rows;
  apart = λ c s h is. ready_unrefused program rows is.names is.body is.template c h is.ready;
  system = solved_once program rows;
}

-- so has the question of a program's checks
pub checks_once : (program : Program) (rows : Domain (List ℕ)) (policy : Policy) (limit : ℕ)
    → HasOneMeaning (checks_question exact program rows policy limit)
checks_once program rows policy limit = record {
  cause = refused_once program rows;
  apart = λ c s h is. ready_unrefused program rows is.names is.body is.template c h is.ready;
  system = solved_once program rows;
}

-- the systems of a generated program have the same equations
generated_once : (seed loops : ℕ) (s t : System) → IsGenerated seed loops s → IsGenerated seed loops t → equations_of s ≡ equations_of t
generated_once seed loops s t is js =
    equations_are generated_names (generated_body seed loops) (intervals_of 3) s is.system_for
    ∙ sym (equations_are generated_names (generated_body seed loops) (intervals_of 3) t js.system_for)

-- the question of a generated program has one meaning
pub bench_once : (seed loops : ℕ) → HasOneMeaning (bench_question exact seed loops)
bench_once seed loops = record {
  cause = λ c d h k. absurd h;
  apart = λ c s h is. h;
  system = generated_once seed loops;
}

-- the question of equations has one meaning
pub solution_once : (text : List ℕ) (policy : Policy) (limit : ℕ) → HasOneMeaning (equations_question exact text policy limit)
solution_once text policy limit = record {
  cause = causes_once text;
  apart = λ c s h is. not_equations text c s h is;
  system = equations_once text;
}

-- the question of a transition system has one meaning
pub transitions_once : (text : List ℕ) (rows : Domain (List ℕ)) (policy : Policy) (limit : ℕ)
    → HasOneMeaning (transitions_question exact text rows policy limit)
transitions_once text rows policy limit = record {
  cause = refusals_once text rows;
  apart = λ c s h is. apart text rows c s h is;
  system = systems_once text rows;
}

-- the question of claims has one meaning
pub claims_once : (program : Program) (rows : Domain (List ℕ)) (given : List ℕ) (policy : Policy) (limit : ℕ)
    → HasOneMeaning (claims_question exact program rows given policy limit)
claims_once program rows given policy limit = record {
  cause = proofs_refused_once program rows given;
  apart = refused_apart program rows given;
  system = λ s t is js. solved_once program rows s t is.solved js.solved;
}
