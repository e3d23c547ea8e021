-- The tokens around an expression name the same variables wherever they stand.
use Rattle.std.proofs.Common.{◌≡◌, ◌∙◌, ◌+◌, ℕ, List, [], ◌∷◌, nat_eq, cond, Option, Some, None, Result, refl, sym, ap, ap₂, subst}
use Rattle.std.specs.List.{count_by}
use Rattle.std.proofs.lemmas.List.Sums.{sum_by-cons}
use Rattle.source_grammar.specs.Tokens.{Token, token, a_name}
use Rattle.source_meaning.specs.declared.fault.FunctionFault.{FunctionFault}
use Rattle.source_meaning.specs.Names.{State, among, is_named, stands_once}
use Rattle.acsl_shift.specs.Moves.{move, moved}
use Rattle.acsl_shift.proofs.moves.Twice.{nowhere}
use Rattle.acsl_shift.proofs.moves.Seen.{Seen}

-- the tokens around an expression, all at one place
abbrev pub around_without : Option (List Token) → Option (List Token)
around_without None = None
around_without (Some ts) = Some (moved nowhere ts)

-- what has been met, with those
abbrev pub state_without : State → State
state_without st = record st { around = around_without st.around }

-- A token at another place is the same name.
named_same : (to : ℕ → ℕ) (x : List ℕ) (t : Token) → is_named x (move to t) ≡ is_named x t
named_same to x (token (a_name y) a) = refl
named_same to x (token k a) = refl

-- A name stands as often among tokens at other places.
count_same : (to : ℕ → ℕ) (x : List ℕ) (ts : List Token) → count_by (is_named x) (moved to ts) ≡ count_by (is_named x) ts
count_same to x [] = refl
count_same to x (t ∷ ts) =
    let f = λ (t : Token). cond (is_named x t) 1 0 in
    sum_by-cons f (move to t) (moved to ts) ∙ ap₂ (λ b n. cond b 1 0 + n) (named_same to x t) (count_same to x ts)
    ∙ sym (sum_by-cons f t ts)

-- A name stands once among tokens at one place where it does here.
pub once_same : (x : List ℕ) (ts : Option (List Token)) → stands_once x (around_without ts) ≡ stands_once x ts
once_same x None = refl
once_same x (Some ts) = ap (λ n. nat_eq n 1) (count_same nowhere x ts)

-- what is seen among tokens at one place is seen among the same tokens
pub from_around : {A B : Type 0} (view : A → B) (r : Result A FunctionFault) (s : State → Result B FunctionFault) (ts now : List Token)
    (st : State) → now ≡ moved nowhere ts → Seen view r (s (state_without (among ts st))) → Seen view r (s (among now st))
from_around view r s ts now st e h = let P : List Token → Type 0 = λ z. Seen view r (s (among z st)) in subst P (sym e) h
