use Rattle.std.proofs.Common.{◌≡◌, ◌++◌, sym, arith, rules}
use Rattle.std.proofs.lemmas.List.{append-nil}
use Rattle.lang_tokens.specs.Faults.{HasFault}
use Rattle.lang_tokens.proofs.reading.Growth.{reads_none, found_tokens, reads_step, found_fits, fault_step}
use Rattle.lang_tokens.proofs.lexer.scan.Goals as goal
use Rattle.lang_tokens.proofs.lexer.scan.Goals.{in-Some+in_ok-push, in_default}

pub loop-at-init : goal.loop-at-init
loop-at-init c = record { reads = rw c.new-tokens.ensures.items (reads_none c.args.lexicon c.args.text.now); within = omega arith }

pub returns-in_err-found : goal.returns-in_err-found
returns-in_err-found c =
    let has : HasFault c.args.lexicon c.args.text.now c.in_err-found.field-0.0 =
    fault_step c.args.lexicon c.args.text.now c.loop-at.at c.loop-at.tokens.items c.loop-at.before
    c.in_err-found.field-0.0 c.loop-at.invariant.reads c.in_err-found.ensures in
    search rules

pub loop-at-preserved : goal.loop-at-preserved
loop-at-preserved c =
    let items : c.match-found.tokens.items ≡ c.loop-at.tokens.items ++ found_tokens c.loop-at.at c.in_ok-found.found.kind
    c.in_ok-found.found.len = elim c.match-found.branch [
      | in-Some+in_ok-push w ↦ rw (w.tokens-is, w.in-Some.is) w.in_ok-push.ensures.items
      | in_default w ↦ rw (w.tokens-is, w.in_default.is) (sym (append-nil c.loop-at.tokens.items))
    ] in
    record {
      reads = reads_step c.args.lexicon c.args.text.now c.loop-at.at c.loop-at.tokens.items c.match-found.tokens.items c.loop-at.before
          c.in_ok-found.found c.loop-at.invariant.reads c.in_ok-found.ensures items;
      within = found_fits c.args.lexicon c.args.text.now c.loop-at.at c.loop-at.before c.in_ok-found.found c.loop-at.invariant.within
          c.in_ok-found.ensures;
    }
