-- Signs that don't stand in their places.
use Rattle.std.proofs.Common.{◌≡◌, ℕ, refl}
use Rattle.std.specs.Prelude.{None}
use Rattle.lang_tree.specs.Tree.{Statement}
use Rattle.flow_transitions.specs.declared.auto_edge.AutoEdge.{AutoEdge}
use Rattle.flow_transitions.specs.declared.reading.symbol.Symbol.{Symbol}
use Rattle.flow_transitions.specs.declared.reading.symbol.Symbol.TheVariants.{Comma, Semicolon, Equal, LeftParen, RightParen, LeftBrace}
use Rattle.flow_transitions.specs.AutoReading.{behind_sign, past_variable, at_opening, at_paren, past_condition, at_equal, past_act}

-- before an edge's acts a sign that is no `{` leads nowhere
pub no_brace : (at : ℕ) (e : AutoEdge) (s : Symbol) → (s ≡ LeftBrace → ⊥) → behind_sign at (at_opening e) s ≡ None
no_brace at e LeftBrace h = absurd (h refl)
no_brace at e s h = refl

-- behind `assume` a sign that is no `(` leads nowhere
pub no_paren : (at : ℕ) (e : AutoEdge) (line : ℕ) (s : Symbol) → (s ≡ LeftParen → ⊥) → behind_sign at (at_paren e line) s ≡ None
no_paren at e line LeftParen h = absurd (h refl)
no_paren at e line s h = refl

-- behind a condition a sign that is no `)` leads nowhere
pub no_closing : (at : ℕ) (e : AutoEdge) (act : Statement) (s : Symbol) → (s ≡ RightParen → ⊥)
    → behind_sign at (past_condition e act) s ≡ None
no_closing at e act RightParen h = absurd (h refl)
no_closing at e act s h = refl

-- behind an assigned variable a sign that is no `=` leads nowhere
pub no_equal : (at : ℕ) (e : AutoEdge) (var line : ℕ) (s : Symbol) → (s ≡ Equal → ⊥) → behind_sign at (at_equal e var line) s ≡ None
no_equal at e var line Equal h = absurd (h refl)
no_equal at e var line s h = refl

-- behind an act a sign that is no `;` leads nowhere
pub no_semicolon : (at : ℕ) (e : AutoEdge) (act : Statement) (s : Symbol) → (s ≡ Semicolon → ⊥) → behind_sign at (past_act e act) s ≡ None
no_semicolon at e act Semicolon h = absurd (h refl)
no_semicolon at e act s h = refl

-- behind a variable a sign that is neither `,` nor `;` leads nowhere
pub no_comma : (at : ℕ) (s : Symbol) → (s ≡ Comma → ⊥) → (s ≡ Semicolon → ⊥) → behind_sign at past_variable s ≡ None
no_comma at Comma h k = absurd (h refl)
no_comma at Semicolon h k = absurd (k refl)
no_comma at s h k = refl
