use Rattle.std.proofs.Common.{subst}
use Rattle.solve_offers.specs.declared.offer.Offer.{Offer}
use Rattle.solve_offers.specs.Offers.{IsFirstGreatest}
use Rattle.solve_offers.specs.Policies.{by_best}
use Rattle.solve_rounds.proofs.solving_by.ByPolicy.{answer_solved, answer_halt}
use Rattle.solve_rounds.proofs.solving_by.least_by_best.Goals as goal

pub returns-clause-solved : goal.returns-clause-solved
returns-clause-solved g c =
    answer_solved _ by_best (λ offer k h. subst (λ (o : Offer). IsFirstGreatest o.values k) h.2
    (let same = c.new.ensures in let answers = h.1 in rw same at answers)) c.args.system.now c.args.limit c.least.result
    c.least.ensures.solved

pub returns-clause-halt : goal.returns-clause-halt
returns-clause-halt g c =
    answer_halt _ by_best (λ offer k h. subst (λ (o : Offer). IsFirstGreatest o.values k) h.2
    (let same = c.new.ensures in let answers = h.1 in rw same at answers)) c.args.system.now c.args.limit c.least.result
    c.least.ensures.halt
