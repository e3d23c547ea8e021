use Rattle.std.proofs.Common.{◌≡◌, ◌∙◌, ◌≤◌, ap, arith, length, rules, subst, sym}
use Rattle.std.specs.Prelude.{Ok}
use Rattle.base_limits.specs.declared.limits.TheConstants.{MOST_PROGRAM_BYTES}
use Rattle.out_workload.specs.Texts.{generated_text}
use Rattle.top_texts.specs.Exact.{exact}
use Rattle.top_texts.specs.Generated.{ReadsAs}
use Rattle.top_texts.specs.Outcomes.{IsUnanswered}
use Rattle.top_texts.specs.Questions.{bench_question}
use Rattle.ask_words.specs.declared.request.Purpose.TheVariants.{Report}
use Rattle.top_texts.proofs.bench.Generated.{summed, unended, unread}
use Rattle.top_texts.proofs.bench.bench_text.Goals as goal

pub generated_program-requires : goal.generated_program-requires
generated_program-requires g c =
    subst (λ t. length t ≤ MOST_PROGRAM_BYTES) (sym (c.deref.ensures.value ∙ c.in_ok-text.ensures))
    (c.generated_texts_read.ensures c.args.seed c.args.loops c.requires.few).short

pub returns-in_err-program-clause-err : goal.returns-in_err-program-clause-err
returns-in_err-program-clause-err g c =
    let h : IsUnanswered (bench_question exact c.args.seed c.args.loops) c.in_err-program.field-0.0 =
    subst (λ r. IsUnanswered (bench_question exact c.args.seed c.args.loops) r) (sym c.in_err-program.ensures.err) tt in
    search (rules, h)

pub returns-in_err-system-clause-err : goal.returns-in_err-system-clause-err
returns-in_err-system-clause-err g c =
    let p = c.in_ok-program.program in
    let reads : ReadsAs (generated_text c.args.seed c.args.loops) (Ok (p.names, p.body)) =
    subst (λ t. ReadsAs t (Ok (p.names, p.body))) (c.deref.ensures.value ∙ c.in_ok-text.ensures) c.in_ok-program.ensures.ok in
    let h : IsUnanswered (bench_question exact c.args.seed c.args.loops) c.in_err-system.field-0.0 =
    unread c.generated_texts_read.ensures c.args.seed c.args.loops c.requires.few c.none-groups.result p.names p.body reads _
    c.in_err-system.ensures.err in
    search (rules, h)

pub returns-in_err-solved-clause-err : goal.returns-in_err-solved-clause-err
returns-in_err-solved-clause-err g c =
    let p = c.in_ok-program.program in
    let reads : ReadsAs (generated_text c.args.seed c.args.loops) (Ok (p.names, p.body)) =
    subst (λ t. ReadsAs t (Ok (p.names, p.body))) (c.deref.ensures.value ∙ c.in_ok-text.ensures) c.in_ok-program.ensures.ok in
    let h : IsUnanswered (bench_question exact c.args.seed c.args.loops) c.in_err-solved.field-0.0 =
    unended c.generated_texts_read.ensures c.args.seed c.args.loops c.requires.few c.none-groups.result p.names p.body reads
    c.in_ok-system.system _ c.in_ok-system.ensures.ok (c.in_err-solved.ensures.err Report) in
    search (rules, h)

pub overflow_cast-as_slice : goal.overflow_cast-as_slice
overflow_cast-as_slice g c =
    let short = (c.generated_texts_read.ensures c.args.seed c.args.loops c.requires.few).short in
    let size : length c.as_slice.result.now ≡ length (generated_text c.args.seed c.args.loops) =
    ap length (c.as_slice.ensures.value ∙ c.in_ok-text.ensures) in
    omega (arith, short, size)

pub returns-clause-ok : goal.returns-clause-ok
returns-clause-ok g c =
    let p = c.in_ok-program.program in
    let reads : ReadsAs (generated_text c.args.seed c.args.loops) (Ok (p.names, p.body)) =
    subst (λ t. ReadsAs t (Ok (p.names, p.body))) (c.deref.ensures.value ∙ c.in_ok-text.ensures) c.in_ok-program.ensures.ok in
    summed c.generated_texts_read.ensures c.args.seed c.args.loops c.requires.few c.none-groups.result p.names p.body reads
    c.in_ok-system.system c.in_ok-solved.solved (length c.as_slice.result.now) c.in_ok-summary.field-0.items c.in_ok-system.ensures.ok
    c.in_ok-solved.ensures.solved c.in_ok-solved.ensures.least (ap length (c.as_slice.ensures.value ∙ c.in_ok-text.ensures))
    c.in_ok-summary.ensures
