-- What parts of statements begin with.
use Rattle.std.proofs.Common.{◌≡◌, ◌∙◌, refl, sym, ap, append_assoc, ℕ, List, ◌∷◌, ◌++◌}
use Rattle.source_grammar.specs.Tokens as g
use Rattle.source_grammar.specs.Tokens.{Kind, Token, token, semicolon}
use Rattle.source_grammar.specs.Grammar.{Expr, prefixed, joined, chosen, spell_expr, Updates, no_updates}
use Rattle.source_grammar.specs.Grammar.{some_updates, update, place, step_before}
use Rattle.source_grammar.specs.Grammar.{IntType, plain_int, const_int, Parameter, number_parameter, pointer_parameter, array_parameter}
use Rattle.source_statement.specs.Onto.{onto_type, onto_parameter, onto_bounds}
use Rattle.source_reader.specs.Reading.{first_kind}
use Rattle.source_change.specs.Onto.{onto_updates}
use Rattle.source_statement.specs.Starts.{start_in, start_of, a_semicolon, a_type, a_paren, a_comma, a_storage, a_void}
use Rattle.source_statement.specs.declared.starts.Start.{Start}
use Rattle.source_statement.specs.declared.starts.Start.TheVariants as start

-- tokens don't begin with a `;`
abbrev NoEnd : List Token → Type 0
NoEnd ts = start_in (first_kind ts) ≡ a_semicolon → ⊥

-- no expression does
pub no_expr : (e : Expr) (w : List Token) → NoEnd (spell_expr e ++ w)
no_expr (prefixed g.negative a e) w h = cc
no_expr (prefixed g.positive a e) w h = cc
no_expr (prefixed g.negation a e) w h = cc
no_expr (joined e o a f) w h = no_expr e (token (g.infix_sign o) a ∷ (spell_expr f ++ w))
    (ap (λ ts. start_in (first_kind ts)) (sym (append_assoc (spell_expr e) (token (g.infix_sign o) a ∷ spell_expr f) w)) ∙ h)
no_expr (chosen d a e b f) w h = no_expr d (token g.question a ∷ ((spell_expr e ++ token g.colon b ∷ spell_expr f) ++ w))
    (ap (λ ts. start_in (first_kind ts)) (sym (append_assoc (spell_expr d) (token g.question a ∷ (spell_expr e ++ token g.colon b
    ∷ spell_expr f)) w)) ∙ h)
no_expr _ w h = cc

-- no changes begin with a type
pub no_type : (us : Updates) (c : ℕ) (w : List Token) → start_in (first_kind (onto_updates us (token semicolon c ∷ w))) ≡ a_type → ⊥
no_type no_updates c w h = cc
no_type (some_updates (update (place x a i) f) us) c w h = cc
no_type (some_updates (step_before d a p) us) c w h = cc

-- what stands before the names of a declaration does
pub type_begins : (t : IntType) (w : List Token) → start_in (first_kind (onto_type t w)) ≡ a_type
type_begins (plain_int a) w = refl
type_begins (const_int a b) w = refl

-- so does a parameter
pub parameter_begins : (p : Parameter) (w : List Token) → start_in (first_kind (onto_parameter p w)) ≡ a_type
parameter_begins (number_parameter t x a) w = type_begins t (token (g.a_name x) a ∷ w)
parameter_begins (pointer_parameter t a x b) w = type_begins t (token (g.infix_sign g.times_op) a ∷ token (g.a_name x) b ∷ w)
parameter_begins (array_parameter t x a bs) w = type_begins t (token (g.a_name x) a ∷ onto_bounds bs w)

-- what the code says is that
pub says_type : (s : Start) → start_of s ≡ a_type → s ≡ start.Type
says_type start.Type h = refl
says_type _ h = absurd cc

-- a `;`
pub says_semicolon : (s : Start) → start_of s ≡ a_semicolon → s ≡ start.Semicolon
says_semicolon start.Semicolon h = refl
says_semicolon _ h = absurd cc

-- a parenthesis
pub says_paren : (s : Start) → start_of s ≡ a_paren → s ≡ start.Paren
says_paren start.Paren h = refl
says_paren _ h = absurd cc

-- a comma
pub says_comma : (s : Start) → start_of s ≡ a_comma → s ≡ start.Comma
says_comma start.Comma h = refl
says_comma _ h = absurd cc

-- what may stand before a function
pub says_storage : (s : Start) → start_of s ≡ a_storage → s ≡ start.Storage
says_storage start.Storage h = refl
says_storage _ h = absurd cc

-- `void`
pub says_void : (s : Start) → start_of s ≡ a_void → s ≡ start.Void
says_void start.Void h = refl
says_void _ h = absurd cc
