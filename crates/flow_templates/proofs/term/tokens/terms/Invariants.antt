use Rattle.std.proofs.Common.{◌≡◌, length, List, map}
use Rattle.flow_templates.specs.Grammar.{Written, amount, symbols_of}
use Rattle.flow_templates.specs.Kept.{AllFit, kept_amount}
use Rattle.flow_templates.specs.Pending.{Pending}
use Rattle.flow_templates.proofs.term.tokens.terms.Given as goal

abbrev pub invariant-terms : goal.invariant-terms
invariant-terms l = record {
  done : List Written;
  stand_for : map amount done ≡ map kept_amount l.terms.items;
  pending : Pending (symbols_of l.fn.line l.fn.tokens) done l.negative (symbols_of l.line l.rest);
  fit : AllFit l.line l.rest;
}

abbrev pub decreases-terms : goal.decreases-terms
decreases-terms l = length l.rest
