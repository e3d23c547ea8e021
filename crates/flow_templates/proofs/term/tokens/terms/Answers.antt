use Rattle.std.proofs.Common.{[], ◌∷◌, ◌++◌, sym, ◌∙◌}
use Rattle.std.proofs.lemmas.Bool.{false≢true}
use Rattle.flow_templates.proofs.grammar.Spelling.{pending_more, pending_end, pending_stuck}
use Rattle.flow_templates.proofs.term.Steps.{kept_more}
use Rattle.flow_templates.proofs.term.tokens.terms.Goals as goal

pub terms-preserved : goal.terms-preserved
terms-preserved c =
    let found = c.in-Some.ensures in
    let sign = c.in-Some-sign.ensures in
    let before = c.terms.invariant in
    record {
      done = before.done ++ found.term ∷ [];
      stand_for = kept_more before.done found.term c.terms.terms.items _ c.in-Some.term before.stand_for found.stands_for
          c.in_ok-push.ensures.items;
      pending = pending_more _ before.done c.terms.negative c.in-Some-sign.next _ _ _ found.term before.pending found.sign found.spelled
          sign.spelled;
      fit = sign.fit;
    }

pub returns-then-is_end : goal.returns-then-is_end
returns-then-is_end c =
    let found = c.in-Some.ensures in
    let before = c.terms.invariant in
    record {
      terms = before.done ++ found.term ∷ [];
      spelled = pending_end _ before.done c.terms.negative _ _ found.term before.pending found.sign found.spelled
          (c.is_end.ensures.0 c.if-is_end.true);
      stand_for = kept_more before.done found.term c.terms.terms.items _ c.in-Some.term before.stand_for found.stands_for
          c.in_ok-push.ensures.items;
    }

pub returns-in_default-sign : goal.returns-in_default-sign
returns-in_default-sign c =
    let found = c.in-Some.ensures in
    pending_stuck _ c.terms.invariant.done c.terms.negative _ _ found.term c.terms.invariant.pending found.spelled c.in_default-sign.ensures
    (λ e. false≢true (sym c.if-is_end.false ∙ c.is_end.ensures.1 e))
