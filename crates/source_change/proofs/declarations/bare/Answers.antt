use Rattle.std.proofs.Common.{◌≡◌, ◌∙◌, ℕ, List, length, sym, ap, ap₂, refl, subst, Result, Ok, Err, rules}
use Rattle.lang_tokens.specs.Lines.{line_at}
use Rattle.lang_tree.specs.Tree as tree
use Rattle.lang_tree.specs.View.{deeds_of, statements_of}
use Rattle.lang_tree.specs.declared.deed.Deed as code_deed
use Rattle.source_tree.specs.Statements.{Statements, declares}
use Rattle.source_core.specs.Core.{behind, followed_by, taken_any}
use Rattle.source_meaning.specs.declared.fault.FunctionFault.{FunctionFault}
use Rattle.source_meaning.specs.Results.{◌>>=◌}
use Rattle.source_meaning.specs.Names.{State, declared_number}
use Rattle.source_meaning.specs.Limits.{counted}
use Rattle.source_meaning.specs.Statements.{one}
use Rattle.source_names.specs.Gives.{Gives}
use Rattle.source_reader.specs.Answers.{Answers}
use Rattle.source_change.specs.Tests.{WasRead}
use Rattle.source_change.proofs.lists.Deeds.{followed_nil, length_deeds}
use Rattle.source_change.proofs.results.Answered.{err_given}
use Rattle.base_integers.specs.declared.integers.Integers.{Integers}
use Rattle.source_change.proofs.declarations.bare.Goals as goal

-- there are as many deeds as the variable takes
many_are : (ds : List code_deed.Deed) (es : List tree.Deed) (k : ℕ) → k ≡ length ds → deeds_of ds ≡ es → k ≡ length es
many_are ds es k e h = e ∙ sym (length_deeds ds) ∙ ap length h

pub returns-in_err-count : goal.returns-in_err-count
returns-in_err-count c =
    let at : ℕ = c.args.first.now.at in
    let v : ℕ = declared_number c.add_variable.new.self in
    let k : Integers = c.args.reader.now.integers in
    let l : ℕ = line_at c.args.reader.now.text at in
    let taken : List tree.Deed = taken_any k v l in
    let are : deeds_of c.in_ok-deeds.deeds.items ≡ taken = c.in_ok-deeds.ensures
    ∙ ap (λ k. taken_any k c.in_ok-var.var c.site.result.line) c.site.ensures.integers
    ∙ ap₂ (λ v l. taken_any k v l) c.in_ok-var.ensures.number c.site.ensures.line in
    let many : c.len.result ≡ length taken = many_are c.in_ok-deeds.deeds.items taken c.len.result (search rules) are in
    let is : Unit {0} → State × Statements → Type 0 =
    λ _ r. WasRead k c.args.reader.now.variables c.args.reader.now.ahead c.args.reader.now c.args.reader.now c.count.new.self
    c.args.out.now.items c.args.out.now.items r in
    let put : State → Result (State × Statements) FunctionFault = λ now. Ok (now, one (declares v l)) in
    let P : Result State FunctionFault → Type 0 = λ w. Answers is c.from_residual-in_err-count.result (w >>= λ now. counted at
    (length (taken_any k (declared_number now) l)) now
    >>= λ last. Ok (last, one (declares (declared_number now) l))) in
    let Q : ℕ → Type 0 = λ n. Gives {A = Unit {0}} (λ _. c.count.new.self) (Err c.in_err-count.field-0.0)
    (counted at n c.add_variable.new.self) in
    subst P (sym c.in_ok-var.ensures.known) (err_given {A = Unit {0}} (λ _. c.count.new.self) is c.from_residual-in_err-count.result
    c.in_err-count.field-0.0 (counted at (length taken) c.add_variable.new.self) put c.from_residual-in_err-count.ensures.1
    (subst Q many c.in_err-count.ensures))

pub returns : goal.returns
returns c =
    let at : ℕ = c.args.first.now.at in
    let v : ℕ = declared_number c.add_variable.new.self in
    let k : Integers = c.args.reader.now.integers in
    let l : ℕ = line_at c.args.reader.now.text at in
    let taken : List tree.Deed = taken_any k v l in
    let are : deeds_of c.in_ok-deeds.deeds.items ≡ taken = c.in_ok-deeds.ensures
    ∙ ap (λ k. taken_any k c.in_ok-var.var c.site.result.line) c.site.ensures.integers
    ∙ ap₂ (λ v l. taken_any k v l) c.in_ok-var.ensures.number c.site.ensures.line in
    let many : c.len.result ≡ length taken = many_are c.in_ok-deeds.deeds.items taken c.len.result (search rules) are in
    let first : tree.Statements = statements_of c.args.out.now.items in
    let s : Statements = one (declares v l) in (
      (c.count.new.self, s),
      ap (λ w. w >>= λ now. counted at (length (taken_any k (declared_number now) l)) now
          >>= λ last. Ok (last, one (declares (declared_number now) l))) c.in_ok-var.ensures.known
          ∙ ap (λ w. w >>= λ now. Ok (now, s)) (ap (λ n. counted at n c.add_variable.new.self) (sym many) ∙ c.in_ok-count.ensures),
      record {
        known = refl;
        out = c.in_ok-push_deeds.ensures ∙ ap (λ ds. followed_by first (behind ds tree.nil)) are
            ∙ ap (followed_by first) (sym (followed_nil (behind taken tree.nil)));
        reader = refl;
      },
    )
