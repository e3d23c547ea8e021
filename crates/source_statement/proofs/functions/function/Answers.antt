use Rattle.std.proofs.Common.{◌≡◌, ◌∙◌, ℕ, List, Ok, length, sym, ap, subst}
use Rattle.std.specs.Prelude.{IsTrue}
use Rattle.lang_tokens.specs.Lines.{line_at}
use Rattle.lang_tree.specs.Tree as tree
use Rattle.lang_tree.specs.Limits.{is_program}
use Rattle.source_grammar.specs.Grammar.{Function}
use Rattle.source_core.specs.Core.{core_in}
use Rattle.source_meaning.specs.Walk.{walk, width_of}
use Rattle.source_tokens.specs.View.{tokens_of}
use Rattle.source_reader.specs.Answers.{Answers}
use Rattle.source_reader.specs.Reading.{Reading}
use Rattle.source_statement.specs.Whole.{IsWhole}
use Rattle.source_statement.specs.declared.functions.Whole.{Whole}
use Rattle.source_statement.proofs.functions.function.Goals as goal

pub returns : goal.returns
returns c = λ f h v.
    let start : Reading = record {
      text = c.args.text.now;
      ahead = tokens_of c.args.constants.now c.args.text.now c.args.tokens.now;
      variables = c.args.variables;
      integers = c.args.integers;
    } in
    let e : c.new-reader.result ≡ start = c.new-reader.ensures in
    let P : Reading → Type 0 = λ m. Answers (λ (w : Whole) r. IsWhole m.integers (width_of f) w r) (Ok c.in_ok-whole.whole)
    (walk m.integers (line_at m.text) f) in
    let a : P start = subst P e (c.in_ok-whole.ensures f h.good (ap (λ (r : Reading). r.ahead) e ∙ sym h.spelled)
    (ap (λ (r : Reading). r.variables) e ∙ v)) in
    let many : length a.0.0 ≡ width_of f = c.names_are_resolved.ensures.behind c.args.integers
    (line_at c.args.text.now) f a.0.0 a.0.1 a.1 in (
      a.0,
      a.1,
      (a.2.0, c.new.ensures ∙ a.2.1 ∙ ap (λ n. core_in c.args.integers n a.0.1) (sym many)),
    )

pub invariant_of-result : goal.invariant_of-result
invariant_of-result c =
    let f : Function = c.requires.read.0 in
    let h = c.requires.read.1 in
    let v = c.requires.read.2 in
    let start : Reading = record {
      text = c.args.text.now;
      ahead = tokens_of c.args.constants.now c.args.text.now c.args.tokens.now;
      variables = c.args.variables;
      integers = c.args.integers;
    } in
    let e : c.new-reader.result ≡ start = c.new-reader.ensures in
    let P : Reading → Type 0 = λ m. Answers (λ (w : Whole) r. IsWhole m.integers (width_of f) w r) (Ok c.in_ok-whole.whole)
    (walk m.integers (line_at m.text) f) in
    let a : P start = subst P e (c.in_ok-whole.ensures f h.good (ap (λ (r : Reading). r.ahead) e ∙ sym h.spelled)
    (ap (λ (r : Reading). r.variables) e ∙ v)) in
    let line : ℕ → ℕ = line_at c.args.text.now in
    let many : length a.0.0 ≡ width_of f = c.names_are_resolved.ensures.behind c.args.integers line f a.0.0 a.0.1 a.1 in
    let body : c.new.result ≡ core_in c.args.integers (length a.0.0) a.0.1 = c.new.ensures ∙ a.2.1
    ∙ ap (λ n. core_in c.args.integers n a.0.1) (sym many) in
    let Q : List (List ℕ) → tree.Statements → Type 0 = λ xs b. IsTrue (is_program (length xs) b) in
    record {
      within_limits = subst (λ b. Q c.in_ok-whole.whole.names b) (sym body)
          (subst (λ xs. Q xs (core_in c.args.integers (length a.0.0) a.0.1)) (sym a.2.0)
          (c.functions_are_within_limits.ensures c.args.integers line f a.0.0 a.0.1 a.1));
    }
