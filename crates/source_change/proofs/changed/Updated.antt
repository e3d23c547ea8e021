-- Changes of places, step by step.
use Rattle.std.proofs.Common.{◌≡◌, ◌∙◌, ℕ, List, Result, refl, sym, ap, ap₂}
use Rattle.source_grammar.specs.Tokens.{Token}
use Rattle.source_grammar.specs.Grammar.{place, Effect, assigns, steps, Update, update, step_before, spell_update}
use Rattle.source_grammar.proofs.grammar.Follow.{AfterPlace}
use Rattle.source_tree.specs.Statements.{Change}
use Rattle.source_meaning.specs.declared.fault.FunctionFault.{FunctionFault}
use Rattle.source_meaning.specs.Results.{◌>>=◌}
use Rattle.source_meaning.specs.Names.{State, among}
use Rattle.source_meaning.specs.Changes as meaning
use Rattle.source_meaning.specs.Changes.{read_update}
use Rattle.source_reader.specs.Reading.{first_kind, first_place}
use Rattle.source_change.specs.Onto.{onto_effect, onto_update}
use Rattle.source_change.specs.Changed.{changed_by, counted_change}
use Rattle.base_integers.specs.declared.integers.Integers.{Integers}

-- what is done to a place may follow it
pub effect_follows : (f : Effect) (w : List Token) → AfterPlace (first_kind (onto_effect f w))
effect_follows (assigns g a e) w = tt
effect_follows (steps g a) w = tt

-- the place of a change's first token
abbrev pub place_of : Update → ℕ
place_of (update p f) = meaning.first_place p
place_of (step_before d at p) = at

-- it is where the change comes next
pub place_comes : (u : Update) (w : List Token) → first_place (onto_update u w) ≡ place_of u
place_comes (update (place x a i) f) w = refl
place_comes (step_before d at p) w = refl

-- a change of a place that is resolved among these tokens, and its limits, over v variables, in this line
abbrev pub by_parts : (integers : Integers) (v l at : ℕ) → State → Update → Result (State × Change) FunctionFault
by_parts integers v l at st u =
    changed_by integers v l (among (spell_update u) st) u >>= λ g. counted_change integers v l at st g

-- a change is read so
pub update_so : (integers : Integers) (line : ℕ → ℕ) (n : ℕ) (st : State) (u : Update) (k : Integers) (l v at : ℕ) → k ≡ integers
    → l ≡ line at → v ≡ n → at ≡ place_of u → read_update integers line n st u ≡ by_parts k v l at st u
update_so integers line n st u k l v at j p q r =
    read u ∙ ap (λ a. by_parts integers n (line a) a st u) (sym r)
    ∙ ap₂ (λ l v. by_parts integers v l at st u) (sym p) (sym q) ∙ ap (λ k. by_parts k v l at st u) (sym j) where
      read : (u : Update) → read_update integers line n st u ≡ by_parts integers n (line (place_of u)) (place_of u) st u
      read (update p f) = refl
      read (step_before d at p) = refl
