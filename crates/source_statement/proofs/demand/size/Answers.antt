use Rattle.std.proofs.Common.{◌≡◌, ◌+◌, length, sym, subst, arith}
use Rattle.lang_tree.specs.Tree as tree
use Rattle.lang_tree.specs.Tree.{nodes_in}
use Rattle.lang_tree.specs.declared.check.CheckKind.TheVariants.{Assert}
use Rattle.source_grammar.specs.Symbols.{demand_of}
use Rattle.source_grammar.specs.declared.symbol.Demand as code_demand
use Rattle.source_core.specs.Core.{condition_of, core_of, one}
use Rattle.source_meaning.specs.Statements.{demand_of as node_of}
use Rattle.source_statement.proofs.parts.Demands.{nodes_behind}
use Rattle.source_statement.proofs.demand.size.Goals as goal

pub returns-in-Assumes : goal.returns-in-Assumes
returns-in-Assumes c = record {
  few = omega arith;
  nodes = λ integers n line at e.
      let P : code_demand.Demand → Type 0 = λ d. nodes_in (core_of integers n (node_of (demand_of d) e at line))
      ≡ length (condition_of integers n line e).prelude + 1 in
      subst P (sym c.in-Assumes.is) (nodes_behind (condition_of integers n line e).prelude
      (one (tree.assume (condition_of integers n line e).condition line)));
}

pub returns-in-Asserts : goal.returns-in-Asserts
returns-in-Asserts c = record {
  few = omega arith;
  nodes = λ integers n line at e.
      let P : code_demand.Demand → Type 0 = λ d. nodes_in (core_of integers n (node_of (demand_of d) e at line))
      ≡ length (condition_of integers n line e).prelude + 2 in
      subst P (sym c.in-Asserts.is) (nodes_behind (condition_of integers n line e).prelude
      (tree.cons (tree.check record { kind = Assert; at = at } (condition_of integers n line e).condition line)
      (one (tree.only_where (condition_of integers n line e).condition line))));
}
