use Rattle.std.proofs.Common.{◌∙◌, sym, rules}
use Rattle.std.proofs.lemmas.Bool.{not-false}
use denote.Enum.Bare.{same_true}
use Rattle.lang_tree.specs.View.{statements_of}
use Rattle.flow_transitions.specs.contracts.reading.symbol.Symbol.{the_type}
use Rattle.flow_transitions.proofs.progress.Loops.{acted, acts_more}
use Rattle.flow_transitions.proofs.progress.ActSteps.{brace_goes}
use Rattle.flow_transitions.proofs.reading.acts.acts.Goals as goal

pub acts-preserved : goal.acts-preserved
acts-preserved c =
    acts_more c.args.text.now c.args.tokens.now c.args.names.now c.args.at c.acts.acts.items c.push.new.self.items c.in_ok-act.act c.acts.at
    c.in_ok-act.next
    c.acts.invariant c.in_ok-push.ensures.items c.in_ok-act.ensures.reads c.in_ok-act.ensures.later c.in_ok-act.ensures.next
    c.in_ok-act.ensures.act

pub returns-clause-reads : goal.returns-clause-reads
returns-clause-reads c = λ points edges line from place to answer h.
    let brace = sym c.symbol.ensures.symbol ∙ same_true the_type (search rules) _ _ (not-false _ (sym c.ne.ensures ∙ c.acts-test.false)) in
    c.acts.invariant.goes points edges line from place to answer
    (brace_goes c.args.text.now c.args.tokens.now c.args.names.now points edges (acted line from place to (statements_of c.acts.acts.items))
    c.acts.at brace answer h)
