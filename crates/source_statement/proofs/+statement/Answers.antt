-- Each function of the cycle answers what is wanted of what it reads, behind what it calls.
use Rattle.std.proofs.Common.{◌≡◌, ◌∙◌, ◌∷◌, ℕ, List, true, false, Ok, length, refl, sym, ap, subst}
use Rattle.std.proofs.Common.{arith, rules}
use Rattle.lang_tokens.specs.Lines.{line_at}
use Rattle.lang_tree.specs.Tree as tree
use Rattle.lang_tree.specs.View.{deeds_of, statements_of}
use Rattle.lang_tree.specs.declared.stmt.Stmt.TheVariants as code
use Rattle.source_grammar.specs.Tokens.{Token, token, for_word, left_brace, right_brace}
use Rattle.source_grammar.specs.Grammar.{Core, ending_core, Sub, GoodSub, ending_sub, Items, labelled, plain}
use Rattle.source_grammar.specs.Grammar.{repeat_for, no_items, label, declaration, item, plain_int, const_int}
use Rattle.source_grammar.proofs.grammar.Follow.{AfterCore}
use Rattle.source_tree.specs.Statements.{nil}
use Rattle.source_meaning.specs.Names.{State}
use Rattle.source_meaning.specs.Statements.{read_core, read_sub}
use Rattle.source_reader.specs.Answers.{Answers}
use Rattle.source_reader.specs.Marks.{mark_in}
use Rattle.source_reader.specs.Reading.{Reading, at_tokens, first_kind, first_place}
use Rattle.source_change.specs.Tests.{WasRead}
use Rattle.source_statement.specs.Headed.{WasBlock}
use Rattle.source_statement.specs.Onto.{onto_core, onto_sub, onto_items}
use Rattle.source_statement.specs.Parts.{Other, no_other, other, onto_other, AfterOther, read_other, GoodOne, others}
use Rattle.source_statement.specs.Parts.{read_one}
use Rattle.source_statement.specs.Starts.{begins_label, start_in, start_of, is_closing}
use Rattle.source_statement.specs.Starts as s
use Rattle.source_statement.proofs.left.Items.{all_left, none_left}
use Rattle.source_statement.proofs.left.Turns.{turn, turn_fault}
use Rattle.source_statement.proofs.steps.Begun.{at_block, at_if, at_while, at_do, at_for, is_simple, never_type, no_else_in, no_label}
use Rattle.source_statement.proofs.steps.Labels.{label_fault, labelled_read}
use Rattle.source_statement.proofs.steps.Moved.{CoreReads, come_to, passed_is, may_end}
use Rattle.source_statement.proofs.steps.Repeats.{head_rest, for_head_fault, for_body_fault, for_read}
use Rattle.source_statement.proofs.steps.Doing.{do_body, do_test, do_end, do_count, do_all}
use Rattle.source_statement.proofs.steps.Loops.{block_fault, block_read}
use Rattle.source_statement.proofs.steps.Promised.{while_test, while_count, while_body, while_all, if_test, if_count, if_first, if_second}
use Rattle.source_statement.proofs.steps.Promised.{if_all}
use Rattle.source_statement.proofs.steps.Said.{says_block, says_if, says_while, says_do, says_for, says_else, says_type}
use Rattle.source_statement.proofs.parts.Starting.{type_begins}
use Rattle.source_statement.proofs.+statement.Goals as goal

-- ---- `while`
pub loops::while_loop-returns-in_err-body-clause-reads : goal.loops::while_loop-returns-in_err-body-clause-reads
loops::while_loop-returns-in_err-body-clause-reads t c = while_body c.args.reader.now c.skip.new.self c.parenthesised.new.reader
    c.args.known.now c.at-at.result c.at-at.ensures c.skip.ensures
    c.body.new.reader c.count.new.self c.body.new.known c.in_ok-test.test c.len.result c.args.out.now.items
    c.from_residual-in_err-body.result c.in_err-body.field-0.0 c.in_ok-test.ensures.reads
    (let l : c.len.result ≡ length c.in_ok-test.test.prelude.items = search rules in l) c.in_ok-count.ensures c.in_err-body.ensures.reads
    c.from_residual-in_err-body.ensures.1

pub loops::while_loop-returns-clause-reads : goal.loops::while_loop-returns-clause-reads
loops::while_loop-returns-clause-reads t c = while_all c.args.reader.now c.skip.new.self c.parenthesised.new.reader c.args.known.now
    c.at-at.result c.at-at.ensures c.skip.ensures
    c.body.new.reader c.count.new.self c.body.new.known c.in_ok-test.test c.len.result c.in_ok-body.body c.args.out.now.items
    c.push.new.self.items (code.While c.new.result c.in_ok-test.test.cond c.in_ok-body.body c.line.result) c.line.result
    (tree.while_loop c.new.result) c.in_ok-test.ensures.reads
    (let l : c.len.result ≡ length c.in_ok-test.test.prelude.items = search rules in l) c.in_ok-count.ensures c.in_ok-body.ensures.reads
    c.in_ok-push.ensures.items refl (ap tree.while_loop c.new.ensures) c.line.ensures

pub loops::while_loop-returns-in_err-test-clause-reads : goal.loops::while_loop-returns-in_err-test-clause-reads
loops::while_loop-returns-in_err-test-clause-reads t c = while_test c.args.reader.now c.skip.new.self c.parenthesised.new.reader
    c.args.known.now c.at-at.result c.at-at.ensures c.skip.ensures
    c.args.out.now.items c.from_residual.result c.in_err-test.field-0.0 c.in_err-test.ensures.reads c.from_residual.ensures.1

pub loops::while_loop-returns-in_err-count-clause-reads : goal.loops::while_loop-returns-in_err-count-clause-reads
loops::while_loop-returns-in_err-count-clause-reads t c = while_count c.args.reader.now c.skip.new.self c.parenthesised.new.reader
    c.args.known.now c.at-at.result c.at-at.ensures c.skip.ensures
    c.count.new.self c.in_ok-test.test c.len.result c.args.out.now.items c.from_residual-in_err-count.result c.in_err-count.field-0.0
    c.in_ok-test.ensures.reads (let l : c.len.result ≡ length c.in_ok-test.test.prelude.items = search rules in l) c.in_err-count.ensures
    c.from_residual-in_err-count.ensures.1

-- ---- `do`
pub loops::do_loop-returns-in_err-body-clause-reads : goal.loops::do_loop-returns-in_err-body-clause-reads
loops::do_loop-returns-in_err-body-clause-reads t c = do_body c.args.reader.now c.skip.new.self c.body.new.reader c.args.known.now
    c.count.new.self c.body.new.known
    c.at-at.result c.at-at.ensures c.skip.ensures c.in_ok-count.ensures
    c.args.out.now.items c.from_residual-in_err-body.result c.in_err-body.field-0.0 c.in_err-body.ensures.reads
    c.from_residual-in_err-body.ensures.1

pub loops::do_loop-returns-clause-reads : goal.loops::do_loop-returns-clause-reads
loops::do_loop-returns-clause-reads t c = do_all c.args.reader.now c.skip.new.self c.body.new.reader c.args.known.now c.count.new.self
    c.body.new.known
    c.at-at.result c.at-at.ensures c.skip.ensures c.in_ok-count.ensures
    c.take.new.self c.parenthesised.new.reader c.in_ok-body.body c.in_ok-body.ensures.reads
    c.in_ok-take.ensures.2 c.take-2.new.self c.count-2.new.self c.args.out.now.items
    c.push.new.self.items c.in_ok-test.test c.len.result (code.Do c.new.result c.in_ok-test.test.cond c.in_ok-body.body c.line.result)
    c.line.result (tree.do_loop c.new.result) c.in_ok-test.ensures.reads c.in_ok-take-2.ensures.2
    (let l : c.len.result ≡ length c.in_ok-test.test.prelude.items = search rules in l) c.in_ok-count-2.ensures
    c.in_ok-push.ensures.items refl (ap tree.do_loop c.new.ensures) c.line.ensures

pub loops::do_loop-returns-in_err-test-clause-reads : goal.loops::do_loop-returns-in_err-test-clause-reads
loops::do_loop-returns-in_err-test-clause-reads t c = do_test c.args.reader.now c.skip.new.self c.body.new.reader c.args.known.now
    c.count.new.self c.body.new.known
    c.at-at.result c.at-at.ensures c.skip.ensures c.in_ok-count.ensures
    c.take.new.self c.parenthesised.new.reader c.in_ok-body.body c.in_ok-body.ensures.reads
    c.in_ok-take.ensures.2 c.args.out.now.items c.from_residual-in_err-test.result
    c.in_err-test.field-0.0 c.in_err-test.ensures.reads c.from_residual-in_err-test.ensures.1

pub loops::do_loop-returns-in_err-take-2-clause-reads : goal.loops::do_loop-returns-in_err-take-2-clause-reads
loops::do_loop-returns-in_err-take-2-clause-reads t c = do_end c.args.reader.now c.skip.new.self c.body.new.reader c.args.known.now
    c.count.new.self c.body.new.known
    c.at-at.result c.at-at.ensures c.skip.ensures c.in_ok-count.ensures
    c.take.new.self c.parenthesised.new.reader c.in_ok-body.body c.in_ok-body.ensures.reads
    c.in_ok-take.ensures.2 c.take-2.new.self c.args.out.now.items
    c.from_residual-in_err-take-2.result c.in_ok-test.test c.in_ok-test.ensures.reads (λ e. c.in_err-take-2.ensures.0 (ap mark_in e))

pub loops::do_loop-returns-in_err-count-2-clause-reads : goal.loops::do_loop-returns-in_err-count-2-clause-reads
loops::do_loop-returns-in_err-count-2-clause-reads t c = do_count c.args.reader.now c.skip.new.self c.body.new.reader c.args.known.now
    c.count.new.self c.body.new.known
    c.at-at.result c.at-at.ensures c.skip.ensures c.in_ok-count.ensures
    c.take.new.self c.parenthesised.new.reader c.in_ok-body.body c.in_ok-body.ensures.reads
    c.in_ok-take.ensures.2 c.take-2.new.self c.count-2.new.self c.args.out.now.items
    c.from_residual-in_err-count-2.result c.in_err-count-2.field-0.0 c.in_ok-test.test c.len.result c.in_ok-test.ensures.reads
    (let l : c.len.result ≡ length c.in_ok-test.test.prelude.items = search rules in l) c.in_err-count-2.ensures
    c.from_residual-in_err-count-2.ensures.1

-- ---- `for`
pub loops::for_loop-returns-in_err-head-clause-reads : goal.loops::for_loop-returns-in_err-head-clause-reads
loops::for_loop-returns-in_err-head-clause-reads t c = λ inside a b f d m i us j s rest g q v.
    let old : Reading = c.args.reader.now in
    let k : State = c.args.known.now in
    let at : ℕ = c.at-at.result in
    let h : c.skip.new.self ≡ at_tokens old (head_rest b f d m i us j (onto_sub s rest)) =
    passed_is old c.skip.new.self for_word a (head_rest b f d m i us j (onto_sub s rest)) q c.skip.ensures in
    let P : ℕ → Type 0 = λ a. Answers {A = Unit {0}} (λ _ r. WasRead old.integers old.variables rest old c.for_head.new.reader
    c.for_head.new.known c.args.out.now.items c.for_head.new.out.items r) c.from_residual.result
    (read_core old.integers (line_at old.text) old.variables inside k (repeat_for a b f d m i us j s)) in
    subst P (c.at-at.ensures ∙ ap first_place q)
    (for_head_fault {C = Unit {0}} (λ _ r. WasRead old.integers old.variables rest old c.for_head.new.reader c.for_head.new.known
    c.args.out.now.items c.for_head.new.out.items r) old c.skip.new.self c.for_head.new.reader k c.for_head.new.known inside
    c.args.out.now.items c.for_head.new.out.items at b f d m i us j s rest c.from_residual.result c.in_err-head.field-0.0 g.0 g.1 g.2 h
    c.in_err-head.ensures.reads c.from_residual.ensures.1)

pub loops::for_loop-returns-in_err-body-clause-reads : goal.loops::for_loop-returns-in_err-body-clause-reads
loops::for_loop-returns-in_err-body-clause-reads t c = λ inside a b f d m i us j s rest g q v.
    let old : Reading = c.args.reader.now in
    let k : State = c.args.known.now in
    let at : ℕ = c.at-at.result in
    let h : c.skip.new.self ≡ at_tokens old (head_rest b f d m i us j (onto_sub s rest)) =
    passed_is old c.skip.new.self for_word a (head_rest b f d m i us j (onto_sub s rest)) q c.skip.ensures in
    let P : ℕ → Type 0 = λ a. Answers {A = Unit {0}} (λ _ r. WasRead old.integers old.variables rest old c.body.new.reader c.body.new.known
    c.args.out.now.items c.for_head.new.out.items r) c.from_residual-in_err-body.result
    (read_core old.integers (line_at old.text) old.variables inside k (repeat_for a b f d m i us j s)) in
    subst P (c.at-at.ensures ∙ ap first_place q)
    (for_body_fault {C = Unit {0}} (λ _ r. WasRead old.integers old.variables rest old c.body.new.reader c.body.new.known
    c.args.out.now.items c.for_head.new.out.items r) old c.skip.new.self c.for_head.new.reader c.body.new.reader k c.for_head.new.known
    c.body.new.known inside c.args.out.now.items c.for_head.new.out.items at b f d m i us j s rest c.from_residual-in_err-body.result
    c.in_ok-head.head c.in_err-body.field-0.0 g.0 g.1 g.2 g.3 v h c.in_ok-head.ensures.reads c.in_err-body.ensures.reads
    c.from_residual-in_err-body.ensures.1)

pub loops::for_loop-returns-clause-reads : goal.loops::for_loop-returns-clause-reads
loops::for_loop-returns-clause-reads t c = λ inside a b f d m i us j s rest g q v.
    let old : Reading = c.args.reader.now in
    let k : State = c.args.known.now in
    let at : ℕ = c.at-at.result in
    let h : c.skip.new.self ≡ at_tokens old (head_rest b f d m i us j (onto_sub s rest)) =
    passed_is old c.skip.new.self for_word a (head_rest b f d m i us j (onto_sub s rest)) q c.skip.ensures in
    let P : ℕ → Type 0 = λ a. Answers {A = Unit {0}} (λ _ r. WasRead old.integers old.variables rest old c.body.new.reader c.close.new.self
    c.args.out.now.items c.push.new.self.items r) (Ok tt)
    (read_core old.integers (line_at old.text) old.variables inside k (repeat_for a b f d m i us j s)) in
    subst P (c.at-at.ensures ∙ ap first_place q)
    (for_read old c.skip.new.self c.for_head.new.reader c.body.new.reader k c.for_head.new.known c.body.new.known c.close.new.self inside
    c.args.out.now.items c.for_head.new.out.items c.push.new.self.items at b f d m i us j s rest c.in_ok-head.head c.in_ok-body.body
    (code.For c.new.result c.in_ok-head.head.test.cond c.new-2.result c.in_ok-body.body c.line.result) c.line.result c.mark-before.result
    (tree.for_loop c.new.result c.new-2.result) g.0 g.1 g.2 g.3 v h c.in_ok-head.ensures.reads c.in_ok-body.ensures.reads
    c.mark-before.ensures c.close.ensures c.in_ok-push.ensures.items refl
    (ap (λ ds. tree.for_loop ds c.new-2.result) c.new.ensures
    ∙ ap (tree.for_loop (deeds_of c.in_ok-head.head.test.prelude.items)) c.new-2.ensures) c.line.ensures)

-- ---- `if`
pub branch::branch-returns-in_err-first-clause-reads : goal.branch::branch-returns-in_err-first-clause-reads
branch::branch-returns-in_err-first-clause-reads t c = if_first c.args.reader.now c.skip.new.self c.parenthesised.new.reader
    c.args.known.now c.at-at.result c.at-at.ensures c.skip.ensures
    c.body.new.reader c.count.new.self c.body.new.known c.args.inside c.in_ok-test.test c.len.result c.args.out.now.items
    c.from_residual-in_err-first.result c.in_err-first.field-0.0 c.in_ok-test.ensures.reads
    (let l : c.len.result ≡ length c.in_ok-test.test.prelude.items = search rules in l) c.in_ok-count.ensures c.in_err-first.ensures.reads
    c.from_residual-in_err-first.ensures.1

pub branch::branch-returns-in_err-second-clause-reads : goal.branch::branch-returns-in_err-second-clause-reads
branch::branch-returns-in_err-second-clause-reads t c = if_second c.args.reader.now c.skip.new.self c.parenthesised.new.reader
    c.args.known.now c.at-at.result c.at-at.ensures c.skip.ensures
    c.body.new.reader c.other.new.reader c.count.new.self c.body.new.known c.other.new.known c.args.inside c.in_ok-test.test c.len.result
    c.in_ok-first.first c.args.out.now.items c.from_residual-in_err-second.result c.in_err-second.field-0.0 c.in_ok-test.ensures.reads
    (let l : c.len.result ≡ length c.in_ok-test.test.prelude.items = search rules in l) c.in_ok-count.ensures c.in_ok-first.ensures.reads
    c.in_err-second.ensures.reads c.from_residual-in_err-second.ensures.1

pub branch::branch-returns-clause-reads : goal.branch::branch-returns-clause-reads
branch::branch-returns-clause-reads t c = if_all c.args.reader.now c.skip.new.self c.parenthesised.new.reader c.args.known.now
    c.at-at.result c.at-at.ensures c.skip.ensures
    c.body.new.reader c.other.new.reader c.count.new.self c.body.new.known c.other.new.known c.args.inside c.in_ok-test.test c.len.result
    c.in_ok-first.first c.in_ok-second.second c.args.out.now.items c.push_branch.new.out.items c.line.result c.in_ok-test.ensures.reads
    (let l : c.len.result ≡ length c.in_ok-test.test.prelude.items = search rules in l) c.in_ok-count.ensures c.in_ok-first.ensures.reads
    c.in_ok-second.ensures.reads c.in_ok-push_branch.ensures c.line.ensures

pub branch::branch-returns-in_err-test-clause-reads : goal.branch::branch-returns-in_err-test-clause-reads
branch::branch-returns-in_err-test-clause-reads t c = if_test c.args.reader.now c.skip.new.self c.parenthesised.new.reader
    c.args.known.now c.at-at.result c.at-at.ensures c.skip.ensures
    c.args.inside c.args.out.now.items c.from_residual.result c.in_err-test.field-0.0 c.in_err-test.ensures.reads c.from_residual.ensures.1

pub branch::branch-returns-in_err-count-clause-reads : goal.branch::branch-returns-in_err-count-clause-reads
branch::branch-returns-in_err-count-clause-reads t c = if_count c.args.reader.now c.skip.new.self c.parenthesised.new.reader
    c.args.known.now c.at-at.result c.at-at.ensures c.skip.ensures
    c.count.new.self c.args.inside c.in_ok-test.test c.len.result c.args.out.now.items c.from_residual-in_err-count.result
    c.in_err-count.field-0.0 c.in_ok-test.ensures.reads (let l : c.len.result ≡ length c.in_ok-test.test.prelude.items = search rules in l)
    c.in_err-count.ensures c.from_residual-in_err-count.ensures.1

-- ---- a block
pub items::block-returns-in_err-items-clause-reads : goal.items::block-returns-in_err-items-clause-reads
items::block-returns-in_err-items-clause-reads t c = λ a is b rest g q.
    let old : Reading = c.args.reader.now in
    let ts : List Token = onto_items is (token right_brace b ∷ rest) in
    block_fault {C = Unit {0}} (λ _ r. WasRead old.integers old.variables rest old c.items.new.reader c.items.new.known c.args.out.now.items
    c.items.new.out.items r) old c.take.new.self c.items.new.reader c.args.known.now c.items.new.known c.args.inside a is b rest
    c.args.out.now.items c.items.new.out.items c.from_residual-in_err-items.result c.in_err-items.field-0.0 g
    (passed_is old c.take.new.self left_brace a ts q c.in_ok-take.ensures.2) c.in_err-items.ensures.reads
    c.from_residual-in_err-items.ensures.1

pub items::block-returns-clause-reads : goal.items::block-returns-clause-reads
items::block-returns-clause-reads t c = λ a is b rest g q.
    let old : Reading = c.args.reader.now in
    let ts : List Token = onto_items is (token right_brace b ∷ rest) in
    block_read old c.take.new.self c.items.new.reader c.take-2.new.self c.args.known.now c.items.new.known c.close.new.self c.args.inside
    a is b rest c.args.out.now.items c.items.new.out.items c.mark-before.result g
    (passed_is old c.take.new.self left_brace a ts q c.in_ok-take.ensures.2) c.in_ok-items.ensures.reads c.in_ok-take-2.ensures.2
    c.mark-before.ensures c.close.ensures

-- ---- the statements of a block
pub items::items-all-init : goal.items::items-all-init
items::items-all-init t c = record {
  left = λ is b rest g q. all_left c.args.reader.now.integers (line_at c.args.reader.now.text) c.args.reader.now.variables c.args.inside is
      (token right_brace b ∷ rest) c.args.reader.now c.args.known.now c.args.out.now.items g q;
  fewer = omega arith;
}

pub items::items-all-preserved : goal.items::items-all-preserved
items::items-all-preserved t c = record {
  left = λ is b rest g q.
      turn c.args.inside is b rest c.args.reader.now c.all.reader c.item.new.reader c.args.known.now c.all.known c.item.new.known
      c.args.out.now.items c.all.out.items c.item.new.out.items (c.all.invariant.left is b rest g q)
      (let h : is_closing (start_in (first_kind c.all.reader.ahead)) ≡ false = search rules in h) c.in_ok-item.ensures.reads;
  fewer = let a = c.in_ok-item.ensures.shorter in let d = c.all.invariant.fewer in omega (arith, a, d);
}

pub items::items-returns-in_err-item-clause-reads : goal.items::items-returns-in_err-item-clause-reads
items::items-returns-in_err-item-clause-reads t c = λ is b rest g q.
    let first : Reading = c.args.reader.now in
    turn_fault c.args.inside is b rest first c.all.reader c.item.new.reader c.args.known.now c.all.known c.item.new.known
    c.args.out.now.items c.all.out.items c.item.new.out.items {A = Unit {0}} (λ _ r. WasRead first.integers first.variables
    (token right_brace b ∷ rest)
    first c.item.new.reader c.item.new.known c.args.out.now.items c.item.new.out.items r) c.from_residual.result c.in_err-item.field-0.0
    (c.all.invariant.left is b rest g q) (let h : is_closing (start_in (first_kind c.all.reader.ahead)) ≡ false = search rules in h)
    c.in_err-item.ensures.reads c.from_residual.ensures.1

pub items::items-returns-clause-reads : goal.items::items-returns-clause-reads
items::items-returns-clause-reads t c = λ is b rest g q. none_left c.args.reader.now.integers
    (line_at c.args.reader.now.text) c.args.reader.now.variables
    c.args.inside is b rest c.args.reader.now c.all.reader c.args.known.now c.all.known c.args.out.now.items c.all.out.items tt
    (c.all.invariant.left is b rest g q) (let h : is_closing (start_in (first_kind c.all.reader.ahead)) ≡ true = search rules in h)

-- ---- a statement without labels
pub body::core-returns-in-Block-clause-reads : goal.body::core-returns-in-Block-clause-reads
body::core-returns-in-Block-clause-reads t c = λ x rest g q f.
    let P : Core → Type 0 = CoreReads c.args.reader.now c.block.new.reader c.args.known.now c.block.new.known c.args.inside
    c.args.out.now.items c.block.new.out.items c.block.result rest in
    at_block P x rest (sym (c.coming.ensures ∙ ap (λ ts. start_in (first_kind ts)) q) ∙ ap start_of c.in-Block.is)
    (λ a is b g q f. c.block.ensures.reads a is b rest g q) g q f

pub body::core-returns-in-If-clause-reads : goal.body::core-returns-in-If-clause-reads
body::core-returns-in-If-clause-reads t c = λ x rest g q f.
    let P : Core → Type 0 = CoreReads c.args.reader.now c.branch-reader.new.reader c.args.known.now c.branch-reader.new.known c.args.inside
    c.args.out.now.items c.branch-reader.new.out.items c.branch-reader.result rest in
    at_if P x rest (sym (c.coming.ensures ∙ ap (λ ts. start_in (first_kind ts)) q) ∙ ap start_of c.in-If.is)
    (λ a b e d s g q f. c.branch-reader.ensures.reads a b e d s no_other rest g.0 g.1 tt q f)
    (λ a b e d s i v g q f. c.branch-reader.ensures.reads a b e d s (other i v) rest g.0 g.1 (g.2, g.3) q f) g q f

pub body::core-returns-in-While-clause-reads : goal.body::core-returns-in-While-clause-reads
body::core-returns-in-While-clause-reads t c = λ x rest g q f.
    let P : Core → Type 0 = CoreReads c.args.reader.now c.while_loop.new.reader c.args.known.now c.while_loop.new.known c.args.inside
    c.args.out.now.items c.while_loop.new.out.items c.while_loop.result rest in
    at_while P x rest (sym (c.coming.ensures ∙ ap (λ ts. start_in (first_kind ts)) q) ∙ ap start_of c.in-While.is)
    (λ a b e d s g q f. c.while_loop.ensures.reads c.args.inside a b e d s rest g q f) g q f

pub body::core-returns-in-Do-clause-reads : goal.body::core-returns-in-Do-clause-reads
body::core-returns-in-Do-clause-reads t c = λ x rest g q f.
    let P : Core → Type 0 = CoreReads c.args.reader.now c.do_loop.new.reader c.args.known.now c.do_loop.new.known c.args.inside
    c.args.out.now.items c.do_loop.new.out.items c.do_loop.result rest in
    at_do P x rest (sym (c.coming.ensures ∙ ap (λ ts. start_in (first_kind ts)) q) ∙ ap start_of c.in-Do.is)
    (λ a s b d e m i g q f. c.do_loop.ensures.reads c.args.inside a s b d e m i rest g q) g q f

pub body::core-returns-in-For-clause-reads : goal.body::core-returns-in-For-clause-reads
body::core-returns-in-For-clause-reads t c = λ x rest g q f.
    let P : Core → Type 0 = CoreReads c.args.reader.now c.for_loop.new.reader c.args.known.now c.for_loop.new.known c.args.inside
    c.args.out.now.items c.for_loop.new.out.items c.for_loop.result rest in
    at_for P x rest (sym (c.coming.ensures ∙ ap (λ ts. start_in (first_kind ts)) q) ∙ ap start_of c.in-For.is)
    (λ a b h d v m us i s g q f. c.for_loop.ensures.reads c.args.inside a b h d v m us i s rest g q f) g q f

pub body::core-returns-in_default : goal.body::core-returns-in_default
body::core-returns-in_default t c = record {
  reads = λ x rest g q f.
      let b : start_of c.coming.result ≡ start_in (first_kind (onto_core x rest)) =
      c.coming.ensures ∙ ap (λ ts. start_in (first_kind ts)) q in
      c.simple.ensures.reads x rest (is_simple x rest
      (λ e. c.in_default.not-Block (says_block c.coming.result (b ∙ e)))
      (λ e. c.in_default.not-If (says_if c.coming.result (b ∙ e)))
      (λ e. c.in_default.not-While (says_while c.coming.result (b ∙ e)))
      (λ e. c.in_default.not-Do (says_do c.coming.result (b ∙ e)))
      (λ e. c.in_default.not-For (says_for c.coming.result (b ∙ e)))) g q;
  shorter = c.simple.ensures.shorter;
}

-- ---- what stands behind an `else`
pub body::other-returns-in_default : goal.body::other-returns-in_default
body::other-returns-in_default t c = record {
  reads = λ y o rest g q f. on o rest q f;
  shorter = omega arith;
} where
  on : (o : Other) (rest : List Token) → c.args.reader.now.ahead ≡ onto_other o rest → AfterOther o (first_kind rest)
      → Answers (λ b r. WasBlock c.args.reader.now.integers c.args.reader.now.variables rest c.args.reader.now c.args.reader.now
      c.args.known.now b r) (Ok c.new-in_default.result)
      (read_other c.args.reader.now.integers (line_at c.args.reader.now.text) c.args.reader.now.variables c.args.inside c.args.known.now o)
  on no_other rest q f = (
    (c.args.known.now, nil),
    refl,
    record {
      known = refl;
      block = c.new-in_default.ensures ∙ ap statements_of c.new.ensures.items;
      reader = come_to c.args.reader.now rest q;
    },
  )
  on (other d y) rest q f =
      absurd (c.in_default.not-Else (says_else c.coming.result (c.coming.ensures ∙ ap (λ ts. start_in (first_kind ts)) q)))

-- ---- a statement with its labels
pub body::sub-returns-in_err-label-clause-reads : goal.body::sub-returns-in_err-label-clause-reads
body::sub-returns-in_err-label-clause-reads t c = λ x rest g q f. on x rest q where
  begun : begins_label c.args.reader.now.ahead ≡ true
  begun = search rules

  on : (x : Sub) (rest : List Token) → c.args.reader.now.ahead ≡ onto_sub x rest
      → Answers {A = Unit {0}} (λ _ r. WasRead c.args.reader.now.integers c.args.reader.now.variables rest c.args.reader.now
      c.label.new.reader c.label.new.known c.args.out.now.items c.label.new.out.items r) c.from_residual.result
      (read_sub c.args.reader.now.integers (line_at c.args.reader.now.text) c.args.reader.now.variables c.args.inside c.args.known.now x)
  on (labelled x a b y) rest q =
      label_fault {C = Unit {0}} (λ _ r. WasRead c.args.reader.now.integers c.args.reader.now.variables rest c.args.reader.now
      c.label.new.reader c.label.new.known c.args.out.now.items c.label.new.out.items r) c.args.reader.now c.label.new.reader
      c.args.known.now c.label.new.known c.args.inside c.args.out.now.items c.label.new.out.items c.from_residual.result
      c.in_err-label.field-0.0 x a b y (onto_sub y rest) q c.in_err-label.ensures.reads c.from_residual.ensures.1
  on (plain d) rest q = absurd (let k = sym begun ∙ ap begins_label q ∙ no_label d rest in cc)

pub body::sub-returns-in_ok-label-clause-reads : goal.body::sub-returns-in_ok-label-clause-reads
body::sub-returns-in_ok-label-clause-reads t c = λ x rest g q f. on x rest g q f where
  begun : begins_label c.args.reader.now.ahead ≡ true
  begun = search rules

  on : (x : Sub) (rest : List Token) → GoodSub x → c.args.reader.now.ahead ≡ onto_sub x rest → AfterCore (ending_sub x) (first_kind rest)
      → Answers {A = Unit {0}} (λ _ r. WasRead c.args.reader.now.integers c.args.reader.now.variables rest c.args.reader.now
      c.sub.new.reader c.sub.new.known c.args.out.now.items c.sub.new.out.items r) c.sub.result
      (read_sub c.args.reader.now.integers (line_at c.args.reader.now.text) c.args.reader.now.variables c.args.inside c.args.known.now x)
  on (labelled x a b y) rest g q f =
      labelled_read c.args.reader.now c.label.new.reader c.sub.new.reader c.args.known.now c.label.new.known c.sub.new.known
      c.args.inside c.args.out.now.items c.label.new.out.items c.sub.new.out.items c.sub.result x a b y rest g f q
      c.in_ok-label.ensures.reads c.sub.ensures.reads
  on (plain d) rest g q f = absurd (let k = sym begun ∙ ap begins_label q ∙ no_label d rest in cc)

pub body::sub-returns-else-has_label-clause-reads : goal.body::sub-returns-else-has_label-clause-reads
body::sub-returns-else-has_label-clause-reads t c = λ x rest g q f. on x rest g q f where
  begun : begins_label c.args.reader.now.ahead ≡ false
  begun = search rules

  on : (x : Sub) (rest : List Token) → GoodSub x → c.args.reader.now.ahead ≡ onto_sub x rest → AfterCore (ending_sub x) (first_kind rest)
      → Answers {A = Unit {0}} (λ _ r. WasRead c.args.reader.now.integers c.args.reader.now.variables rest c.args.reader.now
      c.core.new.reader c.core.new.known c.args.out.now.items c.core.new.out.items r) c.core.result
      (read_sub c.args.reader.now.integers (line_at c.args.reader.now.text) c.args.reader.now.variables c.args.inside c.args.known.now x)
  on (labelled x a b y) rest g q f = absurd (let k = sym begun ∙ ap begins_label q in cc)
  on (plain d) rest g q f = c.core.ensures.reads d rest g q f

-- ---- one thing of a block
pub items::item-returns-then-has_label-clause-reads : goal.items::item-returns-then-has_label-clause-reads
items::item-returns-then-has_label-clause-reads t c = λ is b rest gi g q. on is b rest g q where
  begun : begins_label c.args.reader.now.ahead ≡ true
  begun = search rules

  on : (is : Items) (b : ℕ) (rest : List Token) → GoodOne is
      → c.args.reader.now.ahead ≡ onto_items is (token right_brace b ∷ rest)
      → Answers {A = Unit {0}} (λ _ r. WasRead c.args.reader.now.integers c.args.reader.now.variables (onto_items (others is)
      (token right_brace b ∷ rest))
      c.args.reader.now c.label.new.reader c.label.new.known c.args.out.now.items c.label.new.out.items r)
      c.label.result
      (read_one c.args.reader.now.integers (line_at c.args.reader.now.text) c.args.reader.now.variables c.args.inside c.args.known.now is)
  on no_items b rest g q = absurd g
  on (declaration (plain_int i) xs d is) b rest g q = absurd (let k = sym begun ∙ ap begins_label q in cc)
  on (declaration (const_int i j) xs d is) b rest g q = absurd (let k = sym begun ∙ ap begins_label q in cc)
  on (label x a d is) b rest g q = c.label.ensures.reads x a d (onto_items is (token right_brace b ∷ rest)) q
  on (item d is) b rest g q =
      absurd (let k = sym begun ∙ ap begins_label q ∙ no_label d (onto_items is (token right_brace b ∷ rest)) in cc)

pub items::item-returns-in-Type-clause-reads : goal.items::item-returns-in-Type-clause-reads
items::item-returns-in-Type-clause-reads t c = λ is b rest gi g q. on is b rest g q
    (sym (ap start_of c.in-Type.is) ∙ c.coming.ensures ∙ ap (λ ts. start_in (first_kind ts)) q) where
      on : (is : Items) (b : ℕ) (rest : List Token) → GoodOne is
          → c.args.reader.now.ahead ≡ onto_items is (token right_brace b ∷ rest)
          → s.a_type ≡ start_in (first_kind (onto_items is (token right_brace b ∷ rest)))
          → Answers {A = Unit {0}} (λ _ r. WasRead c.args.reader.now.integers c.args.reader.now.variables (onto_items (others is)
          (token right_brace b ∷ rest))
          c.args.reader.now c.declaration.new.reader c.declaration.new.known c.args.out.now.items c.declaration.new.out.items r)
          c.declaration.result
          (read_one c.args.reader.now.integers (line_at c.args.reader.now.text) c.args.reader.now.variables c.args.inside
          c.args.known.now is)
      on no_items b rest g q h = absurd g
      on (label x a d is) b rest g q h = absurd cc
      on (declaration a xs d is) b rest g q h = c.declaration.ensures.reads a xs d (onto_items is (token right_brace b ∷ rest)) g q
      on (item d is) b rest g q h = absurd (never_type d (onto_items is (token right_brace b ∷ rest)) (sym h))

pub items::item-returns-in_default : goal.items::item-returns-in_default
items::item-returns-in_default t c = record {
  reads = λ is b rest gi g q. on is b rest g q;
  shorter = c.core.ensures.shorter;
} where
  begun : begins_label c.args.reader.now.ahead ≡ false
  begun = search rules

  on : (is : Items) (b : ℕ) (rest : List Token) → GoodOne is
      → c.args.reader.now.ahead ≡ onto_items is (token right_brace b ∷ rest)
      → Answers {A = Unit {0}} (λ _ r. WasRead c.args.reader.now.integers c.args.reader.now.variables (onto_items (others is)
      (token right_brace b ∷ rest))
      c.args.reader.now c.core.new.reader c.core.new.known c.args.out.now.items c.core.new.out.items r)
      c.core.result
      (read_one c.args.reader.now.integers (line_at c.args.reader.now.text) c.args.reader.now.variables c.args.inside c.args.known.now is)
  on no_items b rest g q = absurd g
  on (label x a d is) b rest g q = absurd (let k = sym begun ∙ ap begins_label q in cc)
  on (declaration k xs d is) b rest g q =
      absurd (c.in_default.not-Type (says_type c.coming.result (c.coming.ensures ∙ ap (λ ts. start_in (first_kind ts)) q
      ∙ type_begins k _)))
  on (item d is) b rest g q =
      let ts : List Token = onto_items is (token right_brace b ∷ rest) in
      c.core.ensures.reads d ts g q (may_end (ending_core d) (first_kind ts) (no_else_in is right_brace b rest refl))
