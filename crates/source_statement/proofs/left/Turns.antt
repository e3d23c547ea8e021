-- Turns of the loop that reads the statements of a block.
use Rattle.std.proofs.Common.{◌≡◌, ◌∙◌, ℕ, Bool, false, List, ◌∷◌, Result, Ok, Err, refl, sym, ap, subst}
use Rattle.std.specs.Result.{IsErrAnd}
use Rattle.lang_tokens.specs.Lines.{line_at}
use Rattle.lang_tree.specs.declared.stmt.Stmt.{Stmt}
use Rattle.source_grammar.specs.Tokens.{Token, token, right_brace}
use Rattle.source_grammar.specs.Grammar.{Items, GoodItems}
use Rattle.source_tree.specs.Statements.{Statements}
use Rattle.source_meaning.specs.Names.{State}
use Rattle.source_meaning.specs.Statements.{read_items}
use Rattle.source_reader.specs.Reading.{Reading, first_kind}
use Rattle.source_reader.specs.Answers.{Answers}
use Rattle.source_reader.specs.declared.stop.Stop.{Stop}
use Rattle.source_change.specs.Tests.{WasRead}
use Rattle.source_change.proofs.results.Answered.{err_cases}
use Rattle.source_statement.specs.Onto.{onto_items}
use Rattle.source_statement.specs.Starts.{start_in, is_closing}
use Rattle.source_statement.specs.Parts.{GoodOne, others, read_one}
use Rattle.source_statement.proofs.left.Items.{Left, some_left, less_left, fault_left}

-- one thing of a block is read here
abbrev pub OneReads : (here new : Reading) (k met : State) (inside : Bool) (before after : List Stmt) → Result (Unit {0}) Stop → Type 0
OneReads here new k met inside o p r = (is : Items) (b : ℕ) (rest : List Token) → GoodItems is → GoodOne is
    → here.ahead ≡ onto_items is (token right_brace b ∷ rest)
    → Answers (λ _ q. WasRead here.integers here.variables (onto_items (others is) (token right_brace b ∷ rest)) here new met o p q) r
    (read_one here.integers (line_at here.text) here.variables inside k is)

module _ (inside : Bool) (is : Items) (b : ℕ) (w : List Token) (first now new : Reading) (k₀ k met : State) (o₀ o p : List Stmt) where
  -- what is left here
  abbrev pub Here : Type 0
  Here = Left first.integers (line_at first.text) first.variables inside is (token right_brace b ∷ w) first now k₀ k o₀ o

  -- there is one more where no `}` comes next
  pub one_more : (l : Here) → is_closing (start_in (first_kind now.ahead)) ≡ false → GoodOne l.js
  one_more l c = some_left first.integers (line_at first.text) first.variables inside l.js b w l.good
      (sym (ap (λ (r : Reading). is_closing (start_in (first_kind r.ahead))) l.reader) ∙ c)

  -- once it was read the others are left
  pub turn : Here → is_closing (start_in (first_kind now.ahead)) ≡ false → OneReads now new k met inside o p (Ok tt)
      → Left first.integers (line_at first.text) first.variables inside is (token right_brace b ∷ w) first new k₀ met o₀ p
  turn l c h =
      let P : Reading → Type 0 = λ m. OneReads m new k met inside o p (Ok tt) in
      let g : GoodOne l.js = one_more l c in
      less_left first.integers (line_at first.text) first.variables inside is (token right_brace b ∷ w) first now new k₀ k met o₀ o p tt l g
      (subst P l.reader h l.js b w l.good g refl)

  -- its fault is that of all
  pub turn_fault : {A : Type 0} (Is : A → State × Statements → Type 0) (r : Result A Stop) (s : Stop) → Here
      → is_closing (start_in (first_kind now.ahead)) ≡ false → OneReads now new k met inside o p (Err s) → IsErrAnd r (λ t. t ≡ s)
      → Answers Is r (read_items first.integers (line_at first.text) first.variables inside k₀ is)
  turn_fault {A} Is r s l c h e =
      let P : Reading → Type 0 = λ m. OneReads m new k met inside o p (Err s) in
      let g : GoodOne l.js = one_more l c in
      err_cases Is r s (read_items first.integers (line_at first.text) first.variables inside k₀ is) e
      (λ t q. fault_left first.integers (line_at first.text) first.variables inside {A = A} Is is
      (token right_brace b ∷ w) first now new k₀ k met o₀
      o p s t l g q
      (subst P l.reader h l.js b w l.good g refl))
