use Rattle.flow_packs.proofs.pairs.Together.{packs_same, packs_none, packs_all, packs_most}
use Rattle.flow_packs.proofs.law.packs_laws.Goals as goal

pub returns-clause-once : goal.returns-clause-once
returns-clause-once c = packs_same

pub returns-clause-none : goal.returns-clause-none
returns-clause-none c = packs_none

pub returns-clause-all : goal.returns-clause-all
returns-clause-all c = packs_all

pub returns-clause-most : goal.returns-clause-most
returns-clause-most c = packs_most
