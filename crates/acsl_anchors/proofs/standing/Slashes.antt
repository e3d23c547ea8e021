-- No anchor stands right behind a `/` in a function.
use Rattle.std.proofs.Common.{◌≡◌, ◌∙◌, ◌++◌, ◌∷◌, ℕ, Bool, true, false, Option, Some, None, List, [], refl, sym, ap, subst}
use Rattle.source_grammar.specs.Tokens.{Kind, infix_sign, over_op, right_brace, while_word, do_word, for_word, return_word, Token, token}
use Rattle.source_grammar.specs.Grammar.{Function, Reads}
use Rattle.source_grammar.specs.Machine as m
use Rattle.source_grammar.specs.Machine.{Goal, operand, Entry, takes, skips, stops, entry, step, run, start}
use Rattle.source_grammar.proofs.grammar.Taken.{accepted}
use Rattle.acsl_anchors.proofs.standing.Ranges.{is_anchor}

-- a `/`
abbrev over : Kind
over = infix_sign over_op

-- whether a token is one
abbrev pub is_over : Kind → Bool
is_over (infix_sign over_op) = true
is_over _ = false

-- what a goal makes of a `/`: it takes none, or an operand has to come
pub data Divides : Entry → Type 0 where
  it_stops : Divides stops
  it_skips : Divides skips
  it_takes : (d : ℕ) (rest : List Goal) → Divides (takes (operand d ∷ rest))

-- each goal does so
entry_over : (g : Goal) → Divides (entry g over)
entry_over (operand d) = it_stops
entry_over (m.named d) = it_skips
entry_over (m.more d) = it_takes d (m.more d ∷ [])
entry_over (m.maybe_expr d) = it_skips
entry_over (m.maybe_arguments d) = it_skips
entry_over (m.more_arguments d) = it_skips
entry_over (m.indexing d) = it_skips
entry_over (m.effect d) = it_stops
entry_over (m.changing d) = it_stops
entry_over (m.more_changes d) = it_skips
entry_over (m.maybe_changes d) = it_skips
entry_over (m.declaring d) = it_stops
entry_over (m.initialising d) = it_skips
entry_over (m.more_declarators d) = it_skips
entry_over (m.sizing d) = it_skips
entry_over (m.filling d) = it_stops
entry_over (m.maybe_values d) = it_skips
entry_over (m.more_values d) = it_skips
entry_over (m.statement p d) = it_stops
entry_over (m.after_name p d) = it_stops
entry_over (m.maybe_else d) = it_skips
entry_over (m.condition d) = it_stops
entry_over (m.do_end d) = it_stops
entry_over (m.header d) = it_stops
entry_over (m.header_first d) = it_skips
entry_over (m.header_rest d) = it_stops
entry_over m.specifiers = it_stops
entry_over m.function_name = it_stops
entry_over m.parameters = it_skips
entry_over m.more_parameters = it_skips
entry_over m.some_type = it_stops
entry_over m.parameter_name = it_stops
entry_over m.bounding = it_skips
entry_over m.more_sizes = it_skips
entry_over m.some_name = it_stops
entry_over m.some_size = it_stops
entry_over m.maybe_size = it_skips
entry_over (m.only m.opening) = it_stops
entry_over (m.only _) = it_stops

-- what comes of a stack at a token, from what its first goal and the others make of it
abbrev comes_of : Entry → List Goal → Option (List Goal) → Option (List Goal)
comes_of (takes next) gs below = Some (next ++ gs)
comes_of skips gs below = below
comes_of stops gs below = None

step_is : (g : Goal) (gs : List Goal) (k : Kind) → step (g ∷ gs) k ≡ comes_of (entry g k) gs (step gs k)
step_is g gs k = by (entry g k)
  where
    by : (x : Entry) → elim x as (λ y. Option (List Goal)) [ takes next ↦ Some (next ++ gs) | skips ↦ step gs k | stops ↦ None ]
        ≡ comes_of x gs (step gs k)
    by (takes next) = refl
    by skips = refl
    by stops = refl

-- an operand has to come first
abbrev IsOperand : Option (List Goal) → Type 0
IsOperand None = Unit {0}
IsOperand (Some []) = ⊥
IsOperand (Some (operand d ∷ gs)) = Unit {0}
IsOperand (Some (g ∷ gs)) = ⊥

-- so it does behind a `/`
comes_over : {e : Entry} → Divides e → (gs : List Goal) (below : Option (List Goal)) → IsOperand below → IsOperand (comes_of e gs below)
comes_over it_stops gs below h = tt
comes_over it_skips gs below h = h
comes_over (it_takes d rest) gs below h = tt

over_next : (gs : List Goal) → IsOperand (step gs over)
over_next [] = tt
over_next (g ∷ gs) = subst IsOperand (sym (step_is g gs over)) (comes_over (entry_over g) gs (step gs over) (over_next gs))

-- a token that may stand behind an anchor is no operand
no_operand : (d : ℕ) (gs : List Goal) (k : Kind) → is_anchor k ≡ true → step (operand d ∷ gs) k ≡ None
no_operand d gs while_word h = refl
no_operand d gs do_word h = refl
no_operand d gs for_word h = refl
no_operand d gs return_word h = refl
no_operand d gs right_brace h = refl
no_operand d gs _ h = cc

-- nor does a function begin with one
no_start : (k : Kind) → is_anchor k ≡ true → step start k ≡ None
no_start while_word h = refl
no_start do_word h = refl
no_start for_word h = refl
no_start return_word h = refl
no_start right_brace h = refl
no_start _ h = cc

-- what comes of the rest of some tokens, if one was taken
abbrev run_on : Option (List Goal) → List Token → Option (List Goal)
run_on None ts = None
run_on (Some next) ts = run next ts

run_first : (gs : List Goal) (k : Kind) (a : ℕ) (ts : List Token) → run gs (token k a ∷ ts) ≡ run_on (step gs k) ts
run_first gs k a ts = by (step gs k)
  where
    by : (o : Option (List Goal)) → elim o [ None ↦ None | Some next ↦ run next ts ] ≡ run_on o ts
    by None = refl
    by (Some next) = refl

-- the token is not one behind which an anchor may stand, where the one before it is a `/`
abbrev pub IsApart : Kind → Kind → Type 0
IsApart before k = is_over before ≡ true → is_anchor k ≡ true → ⊥

-- so is each behind the one before it
abbrev pub AllApart : Kind → List Token → Type 0
AllApart before [] = Unit {0}
AllApart before (token k a ∷ ts) = IsApart before k × AllApart k ts

-- where an operand has to come, no such token does
apart_from : (o : Option (List Goal)) → IsOperand o → (k : Kind) (a : ℕ) (ts : List Token) (left : List Goal)
    → run_on o (token k a ∷ ts) ≡ Some left → is_anchor k ≡ true → ⊥
apart_from None h k a ts left e i = cc
apart_from (Some []) h k a ts left e i = absurd h
apart_from (Some (operand d ∷ gs)) h k a ts left e i =
    let none = ap (λ (o : Option (List Goal)). run_on o ts) (no_operand d gs k i) in
    let same = run_first (operand d ∷ gs) k a ts in cc
apart_from (Some (_ ∷ gs)) h k a ts left e i = absurd h

-- behind this token an anchor may stand only where it is no `/`
apart_behind : (gs : List Goal) (before k : Kind) (a : ℕ) (ts : List Token) (left : List Goal)
    → run_on (step gs before) (token k a ∷ ts) ≡ Some left → IsApart before k
apart_behind gs (infix_sign over_op) k a ts left e o i = apart_from (step gs over) (over_next gs) k a ts left e i
apart_behind gs _ k a ts left e o i = cc

-- tokens that the machine takes are so
all_apart : (gs : List Goal) (before : Kind) (ts : List Token) (left : List Goal) → run_on (step gs before) ts ≡ Some left
    → AllApart before ts
all_apart gs before [] left e = tt
all_apart gs before (token k a ∷ ts) left e = (
  apart_behind gs before k a ts left e,
  by_step (λ next h. all_apart next k ts left h) (step gs before) e,
) where
  by_step : ((next : List Goal) → run_on (step next k) ts ≡ Some left → AllApart k ts) → (o : Option (List Goal))
      → run_on o (token k a ∷ ts) ≡ Some left → AllApart k ts
  by_step later None h = cc
  by_step later (Some next) h = later next (sym (run_first next k a ts) ∙ h)

-- the tokens of a function: the first may stand behind no anchor, and none of the others does behind a `/`
abbrev pub AreApart : List Token → Type 0
AreApart [] = Unit {0}
AreApart (token k a ∷ ts) = (is_anchor k ≡ true → ⊥) × AllApart k ts

taken_apart : (ts : List Token) → run start ts ≡ Some [] → AreApart ts
taken_apart [] e = tt
taken_apart (token k a ∷ ts) e = (
  λ i. let none = ap (λ (o : Option (List Goal)). run_on o ts) (no_start k i) in let same = run_first start k a ts in cc,
  all_apart start k ts [] (sym (run_first start k a ts) ∙ e),
)

-- So are those of a function.
pub reads_apart : (ts : List Token) (f : Function) → Reads ts f → AreApart ts
reads_apart ts f r = taken_apart ts (ap (λ (x : List Token). run start x) (sym r.spelled) ∙ accepted f r.good)
