use Rattle.std.proofs.Common.{◌∙◌, ◌∷◌, ◌++◌, [], sym, ap, ap₂, subst, append_assoc}
use Rattle.lang_tree.specs.Tree as tree
use Rattle.lang_tree.specs.View.{deeds_of, condition_of}
use Rattle.lang_tree.specs.declared.stmt.Stmt.TheVariants.{Assume, Check, Where}
use Rattle.lang_tree.specs.declared.check.CheckKind.TheVariants.{Assert}
use Rattle.source_grammar.specs.Symbols.{demand_of}
use Rattle.source_grammar.specs.declared.symbol.Demand as code_demand
use Rattle.source_tree.specs.Statements.{assumes, asserts}
use Rattle.source_core.specs.Core as core
use Rattle.source_core.specs.Core.{behind}
use Rattle.source_meaning.specs.Statements.{demand_of as node_of, one}
use Rattle.source_change.specs.Pushed.{WasPushed}
use Rattle.source_statement.proofs.parts.Demands.{behind_pushed}
use Rattle.source_statement.proofs.demand.push_demand.Goals as goal

pub returns-in_ok-push-in-Assumes : goal.returns-in_ok-push-in-Assumes
returns-in_ok-push-in-Assumes c = λ integers n e t.
    let l = c.args.line in
    let b = c.push.new.self.items in
    let W : code_demand.Demand → Type 0 = λ d. WasPushed integers n c.args.out.now.items b (one (node_of (demand_of d) e c.args.at l)) in
    subst W (sym c.in-Assumes.is) (behind_pushed integers n c.args.out.now.items c.push_deeds.new.out.items b
    (deeds_of c.args.test.prelude.items)
    (Assume c.args.test.cond l ∷ []) (assumes e l) c.in_ok-push_deeds.ensures c.in_ok-push-in-Assumes.ensures.items
    (ap₂ (λ ds d. behind ds (core.one (tree.assume d l))) t.prelude t.condition))

pub returns-in_ok-push-in-Asserts-2 : goal.returns-in_ok-push-in-Asserts-2
returns-in_ok-push-in-Asserts-2 c = λ integers n e t.
    let l = c.args.line in
    let at = c.args.at in
    let x = Check (record { kind = Assert; at = at }) c.args.test.cond l in
    let y = Where c.in_ok-same-in-Asserts.same l in
    let b = c.push-in-Asserts-2.new.self.items in
    let W : code_demand.Demand → Type 0 = λ d. WasPushed integers n c.args.out.now.items b (one (node_of (demand_of d) e at l)) in
    subst W (sym c.in-Asserts.is) (behind_pushed integers n c.args.out.now.items c.push_deeds.new.out.items b
    (deeds_of c.args.test.prelude.items)
    (x ∷ y ∷ []) (asserts e at l) c.in_ok-push_deeds.ensures
    (c.in_ok-push-in-Asserts-2.ensures.items ∙ ap (λ m. m ++ y ∷ []) c.in_ok-push-in-Asserts.ensures.items
    ∙ append_assoc c.push_deeds.new.out.items (x ∷ []) (y ∷ []))
    (ap (λ d. behind (deeds_of c.args.test.prelude.items)
    (tree.cons (tree.check record { kind = Assert; at = at } (condition_of c.args.test.cond) l) (core.one (tree.only_where d l))))
    c.in_ok-same-in-Asserts.ensures
    ∙ ap₂ (λ ds d. behind ds (tree.cons (tree.check record { kind = Assert; at = at } d l) (core.one (tree.only_where d l))))
    t.prelude t.condition))
