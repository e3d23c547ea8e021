-- What is read behind what was read before it: the reader reads the same text, and has come to other tokens.
use Rattle.std.proofs.Common.{◌≡◌, ◌∙◌, ◌++◌, ◌∷◌, ℕ, Bool, List, Result, refl, ap, subst}
use Rattle.lang_tokens.specs.Lines.{line_at}
use Rattle.lang_tree.specs.Tree as tree
use Rattle.lang_tree.specs.declared.stmt.Stmt.{Stmt}
use Rattle.source_grammar.specs.Tokens.{Kind, Token, token, left_paren, right_paren, right_brace}
use Rattle.source_grammar.specs.Grammar.{Expr, Groups, spell_expr, Sub, GoodSub, ending_sub, Items, GoodItems, Ending, shut, waiting}
use Rattle.source_grammar.specs.Grammar.{Core, GoodCore, ending_core}
use Rattle.source_grammar.proofs.grammar.Follow.{AfterCore, NotElse}
use Rattle.source_core.specs.Core.{condition_of}
use Rattle.source_meaning.specs.Names.{State}
use Rattle.source_meaning.specs.Statements.{read_condition, read_sub, read_items, read_core}
use Rattle.source_reader.specs.Answers.{Answers}
use Rattle.source_reader.specs.Reading.{Reading, at_tokens, behind_first, first_kind, passed}
use Rattle.source_reader.specs.declared.stop.Stop.{Stop}
use Rattle.source_change.specs.Tests.{IsTest, WasRead}
use Rattle.source_change.specs.declared.conditions.Test.{Test}
use Rattle.source_change.proofs.results.Answered.{weaker}
use Rattle.source_statement.specs.Headed.{WasBlock}
use Rattle.source_statement.specs.Onto.{onto_sub, onto_items, onto_core}
use Rattle.source_statement.specs.Parts.{Other, onto_other, GoodOther, AfterOther, read_other}

-- where the tokens are these the reader has come to them
pub come_to : (old : Reading) (ts : List Token) → old.ahead ≡ ts → old ≡ at_tokens old ts
come_to old ts e = let P : List Token → Type 0 = λ us. old ≡ at_tokens old us in subst P e refl

-- behind a token that was passed
pub passed_is : (old m : Reading) (k : Kind) (a : ℕ) (ts : List Token) → old.ahead ≡ token k a ∷ ts → m ≡ passed old → m ≡ at_tokens old ts
passed_is old m k a ts e p = p ∙ ap (λ us. at_tokens old (behind_first us)) e

-- and behind one that comes later
pub passed_then : (old m new : Reading) (k : Kind) (a : ℕ) (ts : List Token) → m ≡ at_tokens old (token k a ∷ ts) → new ≡ passed m
    → new ≡ at_tokens old ts
passed_then old m new k a ts e p = p ∙ ap passed e

-- where no `else` comes next any statement may end
pub may_end : (g : Ending) (k : Kind) → NotElse k → AfterCore g k
may_end shut k h = tt
may_end waiting k h = h

-- a test in parentheses is read here
abbrev pub TestReads : (here new : Reading) → State → (at : ℕ) → Result Test Stop → Type 0
TestReads here new k at r = (b : ℕ) (e : Expr) (c : ℕ) (rest : List Token) → Groups 0 e
    → here.ahead ≡ token left_paren b ∷ (spell_expr e ++ token right_paren c ∷ rest)
    → Answers (λ t x. IsTest t (condition_of here.integers here.variables (line_at here.text at) x) × (new ≡ at_tokens here rest)) r
    (read_condition here.integers (line_at here.text) here.variables k at e)

-- it is read of the same text
pub test_read : (old here new : Reading) (k : State) (at : ℕ) (r : Result Test Stop) (b : ℕ) (e : Expr) (c : ℕ) (rest : List Token)
    → Groups 0 e → here ≡ at_tokens old (token left_paren b ∷ (spell_expr e ++ token right_paren c ∷ rest)) → TestReads here new k at r
    → Answers (λ t x. IsTest t (condition_of old.integers old.variables (line_at old.text at) x) × (new ≡ at_tokens old rest)) r
    (read_condition old.integers (line_at old.text) old.variables k at e)
test_read old here new k at r b e c rest g p h =
    let P : Reading → Type 0 = λ m. TestReads m new k at r in subst P p h b e c rest g refl

-- a block is read here
abbrev pub BodyReads : (here new : Reading) (k met : State) (inside : Bool) → Result tree.Statements Stop → Type 0
BodyReads here new k met inside r = (s : Sub) (rest : List Token) → GoodSub s → here.ahead ≡ onto_sub s rest
    → AfterCore (ending_sub s) (first_kind rest)
    → Answers (λ b q. WasBlock here.integers here.variables rest here new met b q) r (read_sub here.integers
    (line_at here.text) here.variables inside k s)

-- it is read of the same text
pub body_read : (old here new : Reading) (k met : State) (inside : Bool) (r : Result tree.Statements Stop) (s : Sub) (rest : List Token)
    → GoodSub s → here ≡ at_tokens old (onto_sub s rest) → AfterCore (ending_sub s) (first_kind rest) → BodyReads here new k met inside r
    → Answers (λ b q. WasBlock old.integers old.variables rest old new met b q) r (read_sub old.integers
    (line_at old.text) old.variables inside k s)
body_read old here new k met inside r s rest g p f h =
    let P : Reading → Type 0 = λ m. BodyReads m new k met inside r in
    weaker (λ b q. WasBlock old.integers old.variables rest (at_tokens old (onto_sub s rest)) new met b q)
    (λ b q. WasBlock old.integers old.variables rest old new met b q) r (read_sub old.integers (line_at old.text) old.variables inside k s)
    (λ b q w. record { known = w.known; block = w.block; reader = w.reader })
    (subst P p h s rest g refl f)

-- what stands behind an `else` is read here
abbrev pub OtherReads : (here new : Reading) (k met : State) (inside : Bool) → Result tree.Statements Stop → Type 0
OtherReads here new k met inside r = (s : Sub) (o : Other) (rest : List Token) → GoodOther s o → here.ahead ≡ onto_other o rest
    → AfterOther o (first_kind rest)
    → Answers (λ b q. WasBlock here.integers here.variables rest here new met b q) r (read_other here.integers
    (line_at here.text) here.variables inside k o)

-- it is read of the same text
pub other_read : (old here new : Reading) (k met : State) (inside : Bool) (r : Result tree.Statements Stop) (s : Sub) (o : Other)
    (rest : List Token)
    → GoodOther s o → here ≡ at_tokens old (onto_other o rest) → AfterOther o (first_kind rest) → OtherReads here new k met inside r
    → Answers (λ b q. WasBlock old.integers old.variables rest old new met b q) r (read_other old.integers
    (line_at old.text) old.variables inside k o)
other_read old here new k met inside r s o rest g p f h =
    let P : Reading → Type 0 = λ m. OtherReads m new k met inside r in
    weaker (λ b q. WasBlock old.integers old.variables rest (at_tokens old (onto_other o rest)) new met b q)
    (λ b q. WasBlock old.integers old.variables rest old new met b q) r (read_other old.integers
    (line_at old.text) old.variables inside k o)
    (λ b q w. record { known = w.known; block = w.block; reader = w.reader })
    (subst P p h s o rest g refl f)

-- statements are read here, behind those that were there
abbrev pub SubReads : (here new : Reading) (k met : State) (inside : Bool) (before after : List Stmt) → Result (Unit {0}) Stop → Type 0
SubReads here new k met inside o p r = (s : Sub) (rest : List Token) → GoodSub s → here.ahead ≡ onto_sub s rest
    → AfterCore (ending_sub s) (first_kind rest)
    → Answers (λ _ q. WasRead here.integers here.variables rest here new met o p q) r (read_sub here.integers
    (line_at here.text) here.variables inside k s)

-- they are read of the same text
pub sub_read : (old here new : Reading) (k met : State) (inside : Bool) (o p : List Stmt) (r : Result (Unit {0}) Stop) (s : Sub)
    (rest : List Token) → GoodSub s → here ≡ at_tokens old (onto_sub s rest) → AfterCore (ending_sub s) (first_kind rest)
    → SubReads here new k met inside o p r
    → Answers (λ _ q. WasRead old.integers old.variables rest old new met o p q) r (read_sub old.integers
    (line_at old.text) old.variables inside k s)
sub_read old here new k met inside o p r s rest g e f h =
    let P : Reading → Type 0 = λ m. SubReads m new k met inside o p r in
    weaker (λ _ q. WasRead old.integers old.variables rest (at_tokens old (onto_sub s rest)) new met o p q)
    (λ _ q. WasRead old.integers old.variables rest old new met o p q) r (read_sub old.integers (line_at old.text) old.variables inside k s)
    (λ _ q w. record { known = w.known; out = w.out; reader = w.reader })
    (subst P e h s rest g refl f)

-- the statements of a block are read here
abbrev pub ItemsRead : (here new : Reading) (k met : State) (inside : Bool) (before after : List Stmt) → Result (Unit {0}) Stop → Type 0
ItemsRead here new k met inside o p r = (is : Items) (b : ℕ) (rest : List Token) → GoodItems is
    → here.ahead ≡ onto_items is (token right_brace b ∷ rest)
    → Answers (λ _ q. WasRead here.integers here.variables (token right_brace b ∷ rest) here new met o p q) r
    (read_items here.integers (line_at here.text) here.variables inside k is)

-- they are read of the same text
pub items_read : (old here new : Reading) (k met : State) (inside : Bool) (o p : List Stmt) (r : Result (Unit {0}) Stop) (is : Items)
    (b : ℕ)
    (rest : List Token) → GoodItems is → here ≡ at_tokens old (onto_items is (token right_brace b ∷ rest))
    → ItemsRead here new k met inside o p r
    → Answers (λ _ q. WasRead old.integers old.variables (token right_brace b ∷ rest) old new met o p q) r
    (read_items old.integers (line_at old.text) old.variables inside k is)
items_read old here new k met inside o p r is b rest g e h =
    let P : Reading → Type 0 = λ m. ItemsRead m new k met inside o p r in
    weaker (λ _ q. WasRead old.integers old.variables (token right_brace b ∷ rest) (at_tokens old (onto_items is
    (token right_brace b ∷ rest))) new
    met o p q)
    (λ _ q. WasRead old.integers old.variables (token right_brace b ∷ rest) old new met o p q) r (read_items old.integers
    (line_at old.text) old.variables inside
    k is)
    (λ _ q w. record { known = w.known; out = w.out; reader = w.reader })
    (subst P e h is b rest g refl)

-- a statement without labels is read here, if it is this one
abbrev pub CoreReads : (here new : Reading) (k met : State) (inside : Bool) (before after : List Stmt) → Result (Unit {0}) Stop → List Token
    → Core → Type 0
CoreReads here new k met inside o p r rest c = GoodCore c → here.ahead ≡ onto_core c rest → AfterCore (ending_core c) (first_kind rest)
    → Answers (λ _ q. WasRead here.integers here.variables rest here new met o p q) r (read_core here.integers
    (line_at here.text) here.variables inside k c)
