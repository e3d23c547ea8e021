-- What the code keeps of a row's terms, and what it finds in the tokens of a line.
use Rattle.std.specs.Prelude.{◌≡◌, ◌≤◌, ◌+◌, ◌++◌, ◌≤ℤ◌, ℕ, ℤ, pos, Bool, List, [], ◌∷◌, length, map, unwrap_or}
use Rattle.std.specs.BTreeMap.{BTreeMap, get_by}
use Rattle.std.specs.Ordering.{nat_cmp}
use Rattle.std.specs.Cmp.Lexicographic.{slice_cmp}
use denote.Ref.{Bor}
use Rattle.flow_templates.specs.declared.term.Term.{Term}
use Rattle.lang_tokens.specs.declared.token.Token.{Token}
use Rattle.lang_tokens.specs.declared.token.Kind.{Kind}
use Rattle.lang_tokens.specs.declared.token.Kind.TheVariants as kind
use Rattle.flow_templates.specs.Grammar.{Amount, Symbol, named, times, Written, amount, signed, sign_symbol, unsigned_symbols, symbols_of}
use Rattle.flow_templates.specs.Grammar.{Spells, ReadsTerms}
use Rattle.flow_templates.specs.Sums.{total}

-- what a kept term stands for
abbrev pub kept_amount : Term → Amount
kept_amount t = (t.coefficient, t.name.now)

-- the coefficient that is kept of a name
abbrev pub sum_at : BTreeMap (Bor (List ℕ)) ℤ → List ℕ → ℤ
sum_at sums name = unwrap_or (get_by (λ k. slice_cmp nat_cmp name k.now) sums) (pos 0)

-- the kept coefficients are those of these terms
abbrev pub AddUp : BTreeMap (Bor (List ℕ)) ℤ → List Amount → Type 0
AddUp sums amounts = (name : List ℕ) → sum_at sums name ≡ total name amounts

-- a number isn't negative
abbrev pub IsUnsigned : Kind → Type 0
IsUnsigned (kind.Number value) = pos 0 ≤ℤ value
IsUnsigned (kind.Word word) = Unit {0}
IsUnsigned kind.Name = Unit {0}
IsUnsigned (kind.Sign sign) = Unit {0}
IsUnsigned (kind.Foreign sort) = Unit {0}
IsUnsigned (kind.Aside sort) = Unit {0}
IsUnsigned kind.End = Unit {0}

-- a token of this line
pub record FitsLine (line : List ℕ) (token : Token) : Type 0 where
  pub within : token.at + token.len ≤ length line
  pub unsigned : IsUnsigned token.kind

-- each is a token of this line
abbrev pub AllFit : List ℕ → List Token → Type 0
AllFit line [] = Unit {0}
AllFit line (token ∷ tokens) = FitsLine line token × AllFit line tokens

-- A term without its sign stands first among these tokens.
pub record TakesTerm (line : List ℕ) (tokens : List Token) (negative : Bool) (kept : Term) (after : List Token) : Type 0 where
  pub term : Written
  pub sign : term.negative ≡ negative
  pub stands_for : amount term ≡ kept_amount kept
  pub spelled : symbols_of line tokens ≡ unsigned_symbols term ++ symbols_of line after
  pub fit : AllFit line after

-- No term stands first.
abbrev pub NoTerm : List Symbol → Type 0
NoTerm symbols = (term : Written) (more : List Symbol) → symbols ≡ unsigned_symbols term ++ more → ⊥

-- `*` and a name stand first, which go with a factor.
pub record TakesName (line : List ℕ) (tokens : List Token) (negative : Bool) (factor : ℤ) (kept : Term) (after : List Token) : Type 0 where
  pub coefficient : kept.coefficient ≡ signed negative factor
  pub spelled : symbols_of line tokens ≡ times ∷ named kept.name.now ∷ symbols_of line after
  pub fit : AllFit line after

-- They don't stand first.
abbrev pub NoName : List Symbol → Type 0
NoName symbols = (word : List ℕ) (more : List Symbol) → symbols ≡ times ∷ named word ∷ more → ⊥

-- A sign stands first.
pub record TakesSign (line : List ℕ) (tokens : List Token) (negative : Bool) (after : List Token) : Type 0 where
  pub spelled : symbols_of line tokens ≡ sign_symbol negative ∷ symbols_of line after
  pub fit : AllFit line after

-- None stands first.
abbrev pub NoSign : List Symbol → Type 0
NoSign symbols = (negative : Bool) (more : List Symbol) → symbols ≡ sign_symbol negative ∷ more → ⊥

-- The symbols spell a row of terms that stand for these.
pub record SpellsKept (symbols : List Symbol) (kept : List Term) : Type 0 where
  pub terms : List Written
  pub spelled : Spells symbols terms
  pub stand_for : map amount terms ≡ map kept_amount kept

-- They spell no row.
abbrev pub NoRow : List Symbol → Type 0
NoRow symbols = (terms : List Written) → Spells symbols terms → ⊥

-- The line reads as terms that stand for these, and as no others.
pub record ReadsKept (line : List ℕ) (kept : List Term) : Type 0 where
  pub reads : ReadsTerms line (map kept_amount kept)
  pub only : (amounts : List Amount) → ReadsTerms line amounts → amounts ≡ map kept_amount kept
