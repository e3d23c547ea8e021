use Rattle.std.proofs.Common.{◌≡◌, ◌∙◌, ℕ, Bool, true, false, List, Option, Some, None, Result, Ok, Err, OnOk, length, nat_eq, refl}
use Rattle.std.proofs.Common.{sym, ap, ap₂, subst}
use Rattle.std.specs.Prelude.{map}
use Rattle.std.proofs.lemmas.Bool.{eqb-true}
use Rattle.std.proofs.lemmas.List.{length-map}
use Rattle.source_grammar.specs.Tokens as g
use Rattle.source_grammar.specs.Tokens.{Kind, Name}
use Rattle.source_grammar.proofs.grammar.Follow.{AfterPlace}
use Rattle.source_tree.specs.Expressions as tree
use Rattle.source_tree.specs.Expressions.{Expression, Extent}
use Rattle.source_tree.specs.Extents.{extent_of}
use Rattle.source_core.specs.Elaborated.{elaborated}
use Rattle.source_meaning.specs.declared.fault.FunctionFault.{FunctionFault}
use Rattle.source_meaning.specs.declared.fault.FunctionFault.TheVariants.{WrongKind}
use Rattle.source_meaning.specs.Results.{◌>>=◌, provided}
use Rattle.source_meaning.specs.Names.{State, Thing, variable, array, constant, as_array, array_of, thing_of}
use Rattle.source_meaning.specs.Expressions.{read_subscripts, subscript_count}
use Rattle.source_value.specs.Stands.{Stands}
use Rattle.source_value.specs.declared.value.Value.{Value}
use Rattle.source_reader.specs.Answers.{Answers}
use Rattle.source_reader.specs.Reading.{Reading, at_tokens, first_kind}
use Rattle.source_reader.specs.declared.stop.Stop.{Stop}
use Rattle.source_expression.specs.Sides.{IsRead}
use Rattle.source_change.specs.Tests.{name_of}
use Rattle.source_change.proofs.firsts.Going.{came_to}
use Rattle.source_change.proofs.results.Answered.{weaker}
use Rattle.base_integers.specs.declared.integers.Integers.{Integers}
use Rattle.source_change.proofs.places.read_element.Goals as goal

on : (r : Result Value Stop) {P : Type 0} → P → OnOk r P
on (Ok x) p = p
on (Err x) p = tt

-- no bracket follows a place
no_bracket : (k : Kind) → AfterPlace k → k ≡ g.left_bracket → ⊥
no_bracket (g.change_sign c) h e = cc
no_bracket (g.step_sign d) h e = cc
no_bracket g.semicolon h e = cc
no_bracket g.right_paren h e = cc
no_bracket g.comma h e = cc
no_bracket _ h e = absurd h

-- an array has as many extents as its element has indexes
as_many : (at count : ℕ) (t : Option Thing) (es : List Extent) → Ok es ≡ as_array at count t → length es ≡ count
as_many at count None es e = absurd cc
as_many at count (Some (variable i)) es e = absurd cc
as_many at count (Some (constant v)) es e = absurd cc
as_many at count (Some (array xs)) es e = by (nat_eq (length xs) count) refl e where
  by : (b : Bool) → nat_eq (length xs) count ≡ b → Ok es ≡ provided b (WrongKind at) xs → length es ≡ count
  by true p q = let k : es ≡ xs = cc in ap length k ∙ eqb-true (length xs) count p
  by false p q = absurd cc

pub returns-clause-shorter : goal.returns-clause-shorter
returns-clause-shorter c = on c.element.result c.element.ensures.goes.fewer

pub returns-clause-reads : goal.returns-clause-reads
returns-clause-reads c = λ is rest g f h.
    let old : Reading = c.args.reader.now in
    let new : Reading = c.element.new.reader in
    let n : ℕ = c.args.site.variables in
    let integers : Integers = c.args.site.integers in
    let line : ℕ = c.args.site.line in
    let st : State = c.args.scope.now in
    let at : ℕ = c.args.named.now.at in
    let x : Name = name_of c.args.named.now in
    let k : ℕ = c.subscripts-count.result in
    let many : k ≡ subscript_count is = c.subscripts-count.ensures is rest f (no_bracket (first_kind rest) h) in
    let es : List Extent = map extent_of c.in_ok-extents.extents.now in
    let there : Ok es ≡ array_of x at (subscript_count is) st = c.in_ok-extents.ensures
    ∙ ap₂ (λ y k. array_of (record { text = y; value = c.args.named.now.value }) at k st) c.bytes.ensures.bytes many in
    let same : subscript_count is ≡ length c.in_ok-extents.extents.now = sym (as_many at (subscript_count is) (thing_of x st) es there)
    ∙ length-map c.in_ok-extents.extents.now extent_of in
    let Is : Value → Expression → Type 0 = λ v y. Stands n v (elaborated integers line y n) × (new ≡ at_tokens old rest) in
    let P : Result (List Extent) FunctionFault → Type 0 = λ w. Answers Is c.element.result (w
    >>= λ xs. read_subscripts integers line st at xs is n >>= λ ys. Ok (tree.element ys at)) in
    subst P there (weaker (λ (v : Value) (y : Expression). IsRead c.args.site n v y × (new.ahead ≡ rest)) Is c.element.result
    (read_subscripts integers line st at es is n >>= λ ys. Ok (tree.element ys at))
    (λ v y t. (t.0, came_to old new rest c.element.ensures.goes t.1)) (c.element.ensures.reads at is rest g same f))
