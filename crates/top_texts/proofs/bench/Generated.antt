-- The core that a generated text reads as is the generated one: it has the generated system, and is refused by no cause.
use Rattle.std.proofs.Common.{◌≡◌, ◌∙◌, ⊎_elim, ℕ, ◌≤◌, ◌<◌, List, length, sym, ap, subst, arith}
use Rattle.std.specs.Prelude.{ℤ, Ok, Err, None, Option, Some, Result}
use Rattle.base_limits.specs.declared.limits.TheConstants.{MOST_BENCH_IMPROVEMENTS, MOST_LOOPS}
use Rattle.lang_tokens.specs.declared.lexicon.Lexicon.TheVariants.{Own}
use Rattle.lang_tokens.proofs.reading.Once.{one_token_list}
use Rattle.lang_grammar.specs.View.{tokens_of}
use Rattle.lang_meaning.specs.Meaning.{Answer, Means}
use Rattle.lang_meaning.proofs.meaning.OneMeaning.{means_once}
use Rattle.lang_tree.specs.Tree.{Statements}
use Rattle.flow_edges.specs.Faults.{fault_of_program}
use Rattle.flow_edges.specs.declared.fault.FlowFault.{FlowFault}
use Rattle.flow_edges.proofs.Each.{Each, each_weaker}
use Rattle.flow_templates.specs.Domains.{intervals_of}
use Rattle.flow_templates.specs.declared.fault.RowFault.{RowFault}
use Rattle.flow_systems.specs.Equations.{Equations, Least}
use Rattle.flow_systems.specs.View.{equations_of, vector_of}
use Rattle.flow_systems.specs.declared.system.System.{System}
use Rattle.solve_rounds.specs.declared.solution.Solved.{Solved}
use Rattle.solve_rounds.specs.Solutions.{IsSolved}
use Rattle.solve_rounds.proofs.halts.FewCells.{none_large}
use Rattle.out_workload.specs.Bodies.{generated_body, generated_names}
use Rattle.out_workload.specs.Law.{GeneratedTextsRead, LeadsOn}
use Rattle.out_workload.specs.Summaries.{summary_of}
use Rattle.out_workload.specs.Texts.{generated_text}
use Rattle.ask_words.specs.declared.request.Domain.TheVariants.{Intervals}
use Rattle.ask_words.specs.declared.request.Policy.TheVariants.{Best}
use Rattle.top_texts.specs.Generated.{IsGenerated, ReadsAs}
use Rattle.top_texts.specs.Outcomes.{HasNoFlow, HasNoRows, HasNoSystemOver, HasSystemOver, IsHalted, IsUnanswered}
use Rattle.top_texts.specs.Exact.{exact}
use Rattle.top_texts.specs.Policies.{rule_of}
use Rattle.top_texts.specs.Questions.{IsOnlyWide, bench_question}
use Rattle.top_texts.specs.Reports.{IsSummaryOf}
use Rattle.top_texts.proofs.rounds.OneChain.{solved_rounds}
use Rattle.top_texts.specs.Rounds.{IsSystemFor}
use Rattle.top_texts.specs.Texts.{unknowns}
use Rattle.ask_words.specs.declared.request.Purpose.TheVariants.{Report}
use Rattle.top_texts.specs.declared.refusal.Refusal.{Refusal}
use Rattle.top_texts.specs.declared.refusal.Refusal.TheVariants as refusal
use Rattle.top_status.specs.declared.status.TextCause.TheVariants as why
use Rattle.top_texts.specs.Spots.{HasExcess}
use Rattle.top_status.specs.declared.status.Excess.{Excess}
use Rattle.top_status.specs.declared.status.Excess.TheVariants.{Large, Wide}
use Rattle.top_texts.proofs.questions.Answered.{halted}
use Rattle.top_texts.proofs.texts.Once.{equations_are}
use Rattle.flow_systems.specs.declared.limits.TheConstants.{MOST_UNKNOWNS}

abbrev given : Result (List (List ℤ)) RowFault → Result (List (List ℤ)) RowFault
given a = a

same_rows : (t u : List (List ℤ)) → given (Ok t) ≡ given (Ok u) → t ≡ u
same_rows t u e = cc

faulty_rows : (f : RowFault) (t : List (List ℤ)) → given (Err f) ≡ given (Ok t) → ⊥
faulty_rows f t e = cc

abbrev meant : Answer → Answer
meant a = a

same_meant : (p q : List (List ℕ) × Statements) → meant (Ok p) ≡ meant (Ok q) → p ≡ q
same_meant p q e = cc

-- a text reads as one program of the language
reads_once : (text : List ℕ) (p q : List (List ℕ) × Statements) → ReadsAs text (Ok p) → ReadsAs text (Ok q) → p ≡ q
reads_once text p q (ts, r, m) (us, s, n) = same_meant p q (means_once text (tokens_of text ts) (Ok p) (Ok q) m
    (subst (λ ws. Means text (tokens_of text ws) (Ok q)) (one_token_list Own text us ts s r) n))

faulty_flow : (f : FlowFault) (o : Option FlowFault) → o ≡ Some f → o ≡ None → ⊥
faulty_flow f o e n = cc

module _ (law : GeneratedTextsRead) (seed loops : ℕ) (few : loops ≤ MOST_LOOPS) where
  reading : ReadsAs (generated_text seed loops) (Ok (generated_names, generated_body seed loops))
  reading = let l = law seed loops few in (l.tokens, l.reads, l.means)

  -- six rows, three variables and four actions of an edge give no joint problem that is too large
  small : (system : System) → IsGenerated seed loops system → (excess : Excess)
      → HasExcess Report system Best MOST_BENCH_IMPROVEMENTS excess
      → IsOnlyWide (λ spot. HasExcess Report system Best MOST_BENCH_IMPROVEMENTS (Wide spot)) excess
  small system made (Wide spot) h = h
  small system made (Large cells) h =
      let same = equations_are generated_names (generated_body seed loops) (intervals_of 3) system made.system_for in
      let edges : Each LeadsOn system.flow.edges = subst (Each LeadsOn) (sym (ap (λ (q : Equations). q.edges) same))
      (law seed loops few).edges in
      none_large system (rule_of Best) MOST_BENCH_IMPROVEMENTS cells (ap (λ (q : Equations). length q.template) same)
      (ap (λ (q : Equations). q.variables) same)
      (each_weaker LeadsOn (λ e. length e.actions ≤ 4) (λ e l. l.few) system.flow.edges edges) h

  -- ---- the generated core is refused by no cause

  not_many : unknowns (generated_body seed loops) (intervals_of 3) ≤ MOST_UNKNOWNS
  not_many = let u = (law seed loops few).unknowns in omega arith

  flows : (r : Refusal) → HasNoFlow (generated_body seed loops) r → IsUnanswered (bench_question exact seed loops) r
  flows (refusal.Text (why.Lex f)) h = h
  flows (refusal.Text (why.Source f)) h = h
  flows (refusal.Text (why.Flow f)) h = faulty_flow f (fault_of_program (generated_body seed loops)) h (law seed loops few).within
  flows (refusal.Text (why.Rows f)) h = h
  flows (refusal.Text (why.Unknowns n)) h = h
  flows (refusal.Text (why.Claims f)) h = h
  flows (refusal.Text (why.Equ f)) h = h
  flows (refusal.Text (why.Auto f)) h = h
  flows (refusal.Certificate cause) h = absurd h
  flows (refusal.Exceeded excess) h = absurd h
  flows (refusal.Spent n) h = absurd h
  flows refusal.NoMemory h = tt

  has_rows : (groups : List (List ℕ)) (r : Refusal) → HasNoRows groups Intervals generated_names (generated_body seed loops) r
      → IsUnanswered (bench_question exact seed loops) r
  has_rows groups (refusal.Text (why.Lex f)) h = h
  has_rows groups (refusal.Text (why.Source f)) h = h
  has_rows groups (refusal.Text (why.Flow f)) h = h
  has_rows groups (refusal.Text (why.Rows f)) h = faulty_rows f (intervals_of 3) h
  has_rows groups (refusal.Text (why.Unknowns n)) (template, is, many, count) =
      let beyond = subst (λ t. MOST_UNKNOWNS < unknowns (generated_body seed loops) t) (same_rows template (intervals_of 3) is) many in
      absurd (omega (arith, beyond, not_many))
  has_rows groups (refusal.Text (why.Claims f)) h = h
  has_rows groups (refusal.Text (why.Equ f)) h = h
  has_rows groups (refusal.Text (why.Auto f)) h = h
  has_rows groups (refusal.Certificate cause) h = absurd h
  has_rows groups (refusal.Exceeded excess) h = absurd h
  has_rows groups (refusal.Spent n) h = absurd h
  has_rows groups refusal.NoMemory h = tt

  module _ (groups names : List (List ℕ)) (body : Statements) (reads : ReadsAs (generated_text seed loops) (Ok (names, body))) where
    same : ◌≡◌ {A = List (List ℕ) × Statements} (names, body) (generated_names, generated_body seed loops)
    same = reads_once (generated_text seed loops) (names, body) (generated_names, generated_body seed loops) reads reading

    -- the system of the text is that of the generated program
    pub generated : (system : System) → HasSystemOver groups Intervals names body system → IsGenerated seed loops system
    generated system over =
        let rows : over.template ≡ intervals_of 3 = same_rows over.template (intervals_of 3)
        (over.template_is ∙ ap (λ (p : List (List ℕ) × Statements). given (Ok (intervals_of (length p.0)))) same) in
        record {
          reading = reading;
          system_for = subst (λ t. IsSystemFor generated_names (generated_body seed loops) t system) rows
              (subst (λ (p : List (List ℕ) × Statements). IsSystemFor p.0 p.1 over.template system) same over.system_for);
        }

    -- the text of a generated program is refused by no cause
    pub unread : (r : Refusal) → HasNoSystemOver groups Intervals names body r → IsUnanswered (bench_question exact seed loops) r
    unread r h = ⊎_elim (λ f. flows r f) (λ n. has_rows groups r n.1)
        (subst (λ (p : List (List ℕ) × Statements). HasNoSystemOver groups Intervals p.0 p.1 r) same h)

    -- rounds of a generated program that halt leave its question unanswered
    pub unended : (system : System) (r : Refusal) → HasSystemOver groups Intervals names body system
        → IsHalted Report system Best MOST_BENCH_IMPROVEMENTS r → IsUnanswered (bench_question exact seed loops) r
    unended system r is h =
        let made = generated system is in
        halted (bench_question exact seed loops) Report system made (small system made) r h

    -- the summary of the rounds is that of the generated program
    pub summed : (system : System) (solved : Solved) (count : ℕ) (bytes : List ℕ)
        → HasSystemOver groups Intervals names body system → IsSolved system (rule_of Best) MOST_BENCH_IMPROVEMENTS solved
        → Least (equations_of system) (vector_of (length system.template) solved.bounds) → count ≡ length (generated_text seed loops)
        → bytes ≡ summary_of seed loops count system (vector_of (length system.template) solved.bounds) solved.improvements
        → IsSummaryOf seed loops bytes
    summed system solved count bytes is solution least size written =
        let made = generated system is in
        record {
          system = system;
          generated = made;
          rounds = solved.improvements;
          within = solution.within;
          has_rounds = solved_rounds system Best MOST_BENCH_IMPROVEMENTS solved solution;
          vector = vector_of (length system.template) solved.bounds;
          least = subst (λ q. Least q (vector_of (length system.template) solved.bounds))
              (equations_are generated_names (generated_body seed loops) (intervals_of 3) system made.system_for) least;
          summary = subst (λ n. bytes ≡ summary_of seed loops n system (vector_of (length system.template) solved.bounds)
              solved.improvements) size written;
        }
