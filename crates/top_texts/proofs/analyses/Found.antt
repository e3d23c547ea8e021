-- What an analysis of texts finds, and the endings that it has else.
use Rattle.std.proofs.Common.{◌≡◌, ◌∙◌, ℕ, List, true, false, refl, sym, subst}
use Rattle.std.specs.Prelude.{IfErr, IsTrue, Result, Ok, Err}
use Rattle.flow_systems.specs.Equations.{Least}
use Rattle.flow_systems.specs.View.{IsVectorOf, equations_of, vector_at}
use Rattle.flow_systems.specs.declared.system.System.{System}
use Rattle.ask_words.specs.declared.request.Domain.{Domain}
use Rattle.ask_words.specs.declared.request.Policy.{Policy}
use Rattle.ask_words.specs.declared.request.Purpose.TheVariants.{Report}
use Rattle.solve_rounds.specs.Solutions.{IsSolved}
use Rattle.top_texts.specs.Analyses.{IsFoundIn, IsHaltedEnding, IsRefusedText, IsSolvedBy, IsUnput}
use Rattle.top_texts.specs.Outcomes.{refused}
use Rattle.top_texts.specs.Policies.{rule_of}
use Rattle.top_texts.specs.Texts.{IsSolvedSystem, Program}
use Rattle.top_texts.specs.declared.analyse.least.LeastBounds.{LeastBounds}
use Rattle.top_status.specs.Status.{has_output}
use Rattle.top_status.specs.declared.ending.Ending.{Ending}
use Rattle.top_texts.specs.declared.refusal.Refusal.{Refusal}
use Rattle.top_texts.specs.declared.refusal.Refusal.TheVariants as refusal
use Rattle.top_status.specs.declared.status.Status.{Status}
use Rattle.top_texts.proofs.analyses.Analysed.{system_line, system_rows, system_texts}
use Rattle.top_texts.proofs.rounds.OneChain.{solved_rounds}

-- an ending by another name for one that has no output has none
pub no_output : (s t : Status) → s ≡ t → has_output t ≡ false → IsTrue (has_output s) → ⊥
no_output s t e none h =
    let out : has_output t ≡ true = subst (λ x. IsTrue (has_output x)) e h in
    cc

-- a refusal ends with nothing put
pub refused_unput : (r : Refusal) (s : Status) → s ≡ refused r → IsUnput s
refused_unput (refusal.Text cause) s e = record { undone = λ d. no_output s _ e refl d; unwritten = λ w. cc }
refused_unput (refusal.Certificate cause) s e = record { undone = λ d. no_output s _ e refl d; unwritten = λ w. cc }
refused_unput (refusal.Exceeded excess) s e = record { undone = λ d. no_output s _ e refl d; unwritten = λ w. cc }
refused_unput (refusal.Spent number) s e = record { undone = λ d. no_output s _ e refl d; unwritten = λ w. cc }
refused_unput refusal.NoMemory s e = record { undone = λ d. no_output s _ e refl d; unwritten = λ w. cc }

-- rounds that are done have found the least bounds
pub solved_by : (system : System) (policy : Policy) (limit : ℕ) (least : LeastBounds) → least.system ≡ system
    → IsSolved system (rule_of policy) limit least.solved
    → Least (equations_of system) (vector_at system least.solved.bounds) → IsVectorOf system least.solved.bounds
    → IsSolvedBy system policy limit least
solved_by system policy limit least same is is_least count = record {
  same = same;
  within = is.within;
  has_rounds = solved_rounds system policy limit least.solved is;
  least = is_least;
  count = count;
}

-- those of a text's system are those of the text
pub found_of : (program : Program) (rows : Domain (List ℕ)) (system : System) (policy : Policy) (limit : ℕ) (least : LeastBounds)
    → IsSolvedSystem program rows system
    → IsSolvedBy system policy limit least → IsFoundIn program rows policy limit least
found_of program rows system policy limit least is by =
    let moved : IsSolvedBy least.system policy limit least = subst (λ (s : System). IsSolvedBy s policy limit least) (sym by.same) by in
    record {
      solved = subst (λ (s : System). IsSolvedSystem program rows s) (sym by.same) is;
      within = by.within;
      has_rounds = moved.has_rounds;
      least = moved.least;
      count = moved.count;
    }

-- and so is the ending where there are none
halted_text : (program : Program) (rows : Domain (List ℕ)) (system : System) (policy : Policy) (limit : ℕ) (ending : Ending)
    → IsSolvedSystem program rows system
    → IsHaltedEnding system policy limit ending → IsRefusedText program rows policy limit ending
halted_text program rows system policy limit ending is h = record {
  answer = system_texts Report program rows system policy limit ending.status is h.answer;
  unput = h.unput;
  line = h.line ∙ system_line Report program.text system policy limit ending.status h.answer;
  rows_named = λ other a. system_rows program rows system other ending.rows ending.status is h.rows_named a;
}

-- rounds that halt give the texts no least bounds but the halt's ending
pub halted_texts : (program : Program) (rows : Domain (List ℕ)) (system : System) (policy : Policy) (limit : ℕ)
    (r : Result LeastBounds Ending)
    → IsSolvedSystem program rows system
    → IfErr r (IsHaltedEnding system policy limit) → IfErr r (IsRefusedText program rows policy limit)
halted_texts program rows system policy limit (Ok bounds) is h = tt
halted_texts program rows system policy limit (Err ending) is h = halted_text program rows system policy limit ending is h
