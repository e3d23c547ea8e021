-- What tokens open from one stack on, and which stack they leave.
use Rattle.std.proofs.Common.{◌≡◌, ◌∙◌, ◌++◌, length, ℕ, suc, List, [], ◌∷◌, Option, Some, None, refl, ap, ap₂}
use Rattle.source_grammar.specs.Tokens.{Kind, Token, token}
use Rattle.source_grammar.specs.Machine.{Goal, Entry, takes, skips, stops, entry, step, run}
use Rattle.source_grammar.specs.Verdicts.{opened, opened_by, trace}

-- the run of tokens goes on after the first one
pub run_one : (gs next : List Goal) (k : Kind) (a : ℕ) (ts : List Token) → step gs k ≡ Some next → run gs (token k a ∷ ts) ≡ run next ts
run_one gs next k a ts e = ap (λ (o : Option (List Goal)). elim o as (λ x. Option (List Goal)) [ None ↦ None | Some next ↦ run next ts ]) e

-- where the first token may not stand the run stops
pub run_stop : (gs : List Goal) (k : Kind) (a : ℕ) (ts : List Token) → step gs k ≡ None → run gs (token k a ∷ ts) ≡ None
run_stop gs k a ts e = ap (λ (o : Option (List Goal)). elim o as (λ x. Option (List Goal)) [ None ↦ None | Some next ↦ run next ts ]) e

-- the trace of tokens goes on after the first one
pub trace_one : (gs next : List Goal) (o : Option ℕ) (k : Kind) (a : ℕ) (ts : List Token) → step gs k ≡ Some next → opened gs k ≡ o
    → trace gs (token k a ∷ ts) ≡ o ∷ trace next ts
trace_one gs next o k a ts e f = ap₂ (λ (x : Option ℕ) (o : Option (List Goal)). x
    ∷ elim o as (λ x. List (Option ℕ)) [ None ↦ [] | Some next ↦ trace next ts ]) f e

front_step : (o : Option (List Goal)) (now : List Goal) (ts rest : List Token)
    → ((next : List Goal) → run next ts ≡ Some now → run next (ts ++ rest) ≡ run now rest)
    → elim o as (λ x. Option (List Goal)) [ None ↦ None | Some next ↦ run next ts ] ≡ Some now
    → elim o as (λ x. Option (List Goal)) [ None ↦ None | Some next ↦ run next (ts ++ rest) ] ≡ run now rest
front_step None now ts rest f h = cc
front_step (Some next) now ts rest f h = f next h

-- what comes of a front goes on
pub run_front : (gs now : List Goal) (front rest : List Token) → run gs front ≡ Some now → run gs (front ++ rest) ≡ run now rest
run_front gs now [] rest h = cc
run_front gs now (token k a ∷ ts) rest h = front_step (step gs k) now ts rest (λ next e. run_front next now ts rest e) h

none_step : (o : Option (List Goal)) (ts rest : List Token) → ((next : List Goal) → run next ts ≡ None → run next (ts ++ rest) ≡ None)
    → elim o as (λ x. Option (List Goal)) [ None ↦ None | Some next ↦ run next ts ] ≡ None
    → elim o as (λ x. Option (List Goal)) [ None ↦ None | Some next ↦ run next (ts ++ rest) ] ≡ None
none_step None ts rest f h = refl
none_step (Some next) ts rest f h = f next h

-- where the machine has stopped, it has stopped whatever comes
pub none_front : (gs : List Goal) (front rest : List Token) → run gs front ≡ None → run gs (front ++ rest) ≡ None
none_front gs [] rest h = cc
none_front gs (token k a ∷ ts) rest h = none_step (step gs k) ts rest (λ next e. none_front next ts rest e) h

-- the trace of tokens is that of a front that runs, and that of the rest
pub trace_front : (front rest : List Token) (gs now : List Goal) → run gs front ≡ Some now
    → trace gs (front ++ rest) ≡ trace gs front ++ trace now rest
trace_front [] rest gs now h = let e : gs ≡ now = cc in ap (λ (x : List Goal). trace x rest) e
trace_front (token k a ∷ ts) rest gs now h = on_step (step gs k) (opened gs k) ts rest now (λ n e. trace_front ts rest n now e) h where
  on_step : (s : Option (List Goal)) (o : Option ℕ) (ts rest : List Token) (now : List Goal)
      → ((n : List Goal) → run n ts ≡ Some now → trace n (ts ++ rest) ≡ trace n ts ++ trace now rest)
      → elim s as (λ x. Option (List Goal)) [ None ↦ None | Some next ↦ run next ts ] ≡ Some now
      → o ∷ elim s as (λ x. List (Option ℕ)) [ None ↦ [] | Some next ↦ trace next (ts ++ rest) ]
      ≡ (o ∷ elim s as (λ x. List (Option ℕ)) [ None ↦ [] | Some next ↦ trace next ts ]) ++ trace now rest
  on_step None o ts rest now f h = cc
  on_step (Some n) o ts rest now f h = ap (λ x. o ∷ x) (f n h)

-- the trace of a front that runs has an entry for each token
pub trace_length : (front : List Token) (gs now : List Goal) → run gs front ≡ Some now → length (trace gs front) ≡ length front
trace_length [] gs now h = refl
trace_length (token k a ∷ ts) gs now h = length_step (step gs k) (opened gs k) ts now (λ n e. trace_length ts n now e) h where
  length_step : (s : Option (List Goal)) (o : Option ℕ) (ts : List Token) (now : List Goal)
      → ((n : List Goal) → run n ts ≡ Some now → length (trace n ts) ≡ length ts)
      → elim s as (λ x. Option (List Goal)) [ None ↦ None | Some next ↦ run next ts ] ≡ Some now
      → suc (length (elim s as (λ x. List (Option ℕ)) [ None ↦ [] | Some next ↦ trace next ts ])) ≡ suc (length ts)
  length_step None o ts now f h = cc
  length_step (Some n) o ts now f h = ap suc (f n h)

-- a token is the same to two stacks
pub record Alike (k : Kind) (gs hs : List Goal) : Type 0 where
  -- it leaves the same
  pub steps : step gs k ≡ step hs k
  -- it opens the same
  pub opens : opened gs k ≡ opened hs k

-- a token is the same to a stack and itself
pub alike_same : (k : Kind) (gs : List Goal) → Alike k gs gs
alike_same k gs = record { steps = refl; opens = refl }

-- a token is the same to equal stacks
pub alike_equal : {gs hs : List Goal} (k : Kind) → gs ≡ hs → Alike k gs hs
alike_equal k e = record { steps = ap (λ (x : List Goal). step x k) e; opens = ap (λ (x : List Goal). opened x k) e }

-- a token that is the same to two stacks, and to the second and a third, is the same to the first and the third
pub alike_then : {k : Kind} {gs hs is : List Goal} → Alike k gs hs → Alike k hs is → Alike k gs is
alike_then h i = record { steps = h.steps ∙ i.steps; opens = h.opens ∙ i.opens }

-- a goal that a token skips is as if it weren't there
pub skip_alike : (g : Goal) (gs : List Goal) (k : Kind) → entry g k ≡ skips → Alike k (g ∷ gs) gs
skip_alike g gs k e = record {
  steps = ap (λ (x : Entry). elim x as (λ x. Option (List Goal)) [ takes next ↦ Some (next ++ gs) | skips ↦ step gs k | stops ↦ None ]) e;
  opens = ap (λ (x : Entry). elim x as (λ x. Option ℕ) [ takes next ↦ opened_by g k | skips ↦ opened gs k | stops ↦ None ]) e;
}

run_alike : {gs hs : List Goal} (k : Kind) (a : ℕ) (ts : List Token) → Alike k gs hs → run gs (token k a ∷ ts) ≡ run hs (token k a ∷ ts)
run_alike k a ts h = ap (λ (o : Option (List Goal)). elim o as (λ x. Option (List Goal)) [ None ↦ None | Some next ↦ run next ts ]) h.steps

trace_alike : {gs hs : List Goal} (k : Kind) (a : ℕ) (ts : List Token) → Alike k gs hs
    → trace gs (token k a ∷ ts) ≡ trace hs (token k a ∷ ts)
trace_alike k a ts h = ap₂ (λ (x : Option ℕ) (o : Option (List Goal)). x
    ∷ elim o as (λ x. List (Option ℕ)) [ None ↦ [] | Some next ↦ trace next ts ]) h.opens h.steps

-- From one stack tokens open these constructs, and what they leave is the other stack to each token of these kinds.
pub record Leads (follow : Kind → Type 0) (gs : List Goal) (ts : List Token) (os : List (Option ℕ)) (hs : List Goal) : Type 0 where
  -- what they leave
  pub now : List Goal
  -- they may stand there
  pub runs : run gs ts ≡ Some now
  -- what they open
  pub traced : trace gs ts ≡ os
  -- what follows sees the other stack
  pub alike : (k : Kind) → follow k → Alike k now hs

-- no token
pub leads_none : {follow : Kind → Type 0} (gs hs : List Goal) → ((k : Kind) → follow k → Alike k gs hs) → Leads follow gs [] [] hs
leads_none gs hs h = record { now = gs; runs = refl; traced = refl; alike = h }

-- no token, and no change
pub leads_end : {follow : Kind → Type 0} (gs : List Goal) → Leads follow gs [] [] gs
leads_end gs = leads_none gs gs (λ k h. alike_same k gs)

-- a token, and then others
pub leads_one : {follow : Kind → Type 0} {gs next hs : List Goal} {k : Kind} {a : ℕ} {o : Option ℕ} {ts : List Token} {os : List (Option ℕ)}
    → step gs k ≡ Some next → opened gs k ≡ o → Leads follow next ts os hs → Leads follow gs (token k a ∷ ts) (o ∷ os) hs
leads_one {gs} {next} {k} {a} {o} {ts} e f h = record {
  now = h.now;
  runs = run_one gs next k a ts e ∙ h.runs;
  traced = trace_one gs next o k a ts e f ∙ ap (λ x. o ∷ x) h.traced;
  alike = h.alike;
}

-- The first token is of the kinds that may follow, or, where there is none, each that comes later is.
abbrev pub Meets : (Kind → Type 0) → (Kind → Type 0) → List Token → Type 0
Meets follow later [] = (k : Kind) → later k → follow k
Meets follow later (token k a ∷ ts) = follow k

-- tokens, and then others
pub leads_then : {follow later : Kind → Type 0} {gs hs is : List Goal} {ts us : List Token} {os ps : List (Option ℕ)}
    → Leads follow gs ts os hs → Meets follow later us → Leads later hs us ps is → Leads later gs (ts ++ us) (os ++ ps) is
leads_then {gs} {hs} {ts} {us = []} h m i =
    let e : hs ≡ i.now = cc in
    record {
      now = h.now;
      runs = run_front gs h.now ts [] h.runs;
      traced = trace_front ts [] gs h.now h.runs ∙ ap₂ (λ (x y : List (Option ℕ)). x ++ y) h.traced i.traced;
      alike = λ k l. alike_then (h.alike k (m k l)) (alike_then (alike_equal k e) (i.alike k l));
    }
leads_then {gs} {ts} {us = token k a ∷ us} h m i = record {
  now = i.now;
  runs = run_front gs h.now ts (token k a ∷ us) h.runs ∙ run_alike k a us (h.alike k m) ∙ i.runs;
  traced = trace_front ts (token k a ∷ us) gs h.now h.runs
      ∙ ap₂ (λ (x y : List (Option ℕ)). x ++ y) h.traced (trace_alike k a us (h.alike k m) ∙ i.traced);
  alike = i.alike;
}

-- fewer kinds may follow, and to these what was left is as another stack
pub leads_as : {follow later : Kind → Type 0} {gs hs is : List Goal} {ts : List Token} {os : List (Option ℕ)} → Leads follow gs ts os hs
    → ((k : Kind) → later k → follow k) → ((k : Kind) → later k → Alike k hs is) → Leads later gs ts os is
leads_as h f i = record { now = h.now; runs = h.runs; traced = h.traced; alike = λ k l. alike_then (h.alike k (f k l)) (i k l) }

-- the first token is the same to two stacks
abbrev pub StartsAlike : List Goal → List Goal → List Token → Type 0
StartsAlike gs hs [] = ⊥
StartsAlike gs hs (token k a ∷ ts) = Alike k gs hs

-- tokens lead on from a stack as from one that is the same to the first of them
pub leads_from : {follow : Kind → Type 0} {gs hs is : List Goal} {ts : List Token} {os : List (Option ℕ)} → StartsAlike gs hs ts
    → Leads follow hs ts os is → Leads follow gs ts os is
leads_from {ts = []} s h = absurd s
leads_from {ts = token k a ∷ ts} s h =
    record { now = h.now; runs = run_alike k a ts s ∙ h.runs; traced = trace_alike k a ts s ∙ h.traced; alike = h.alike }

-- From one stack tokens open these constructs, and leave exactly this stack.
pub record Reaches (gs : List Goal) (ts : List Token) (os : List (Option ℕ)) (hs : List Goal) : Type 0 where
  -- they may stand there
  pub runs : run gs ts ≡ Some hs
  -- what they open
  pub traced : trace gs ts ≡ os

-- no token
pub reaches_end : (gs : List Goal) → Reaches gs [] [] gs
reaches_end gs = record { runs = refl; traced = refl }

-- a token, and then others
pub reaches_one : {gs next hs : List Goal} {k : Kind} {a : ℕ} {o : Option ℕ} {ts : List Token} {os : List (Option ℕ)}
    → step gs k ≡ Some next → opened gs k ≡ o → Reaches next ts os hs → Reaches gs (token k a ∷ ts) (o ∷ os) hs
reaches_one {gs} {next} {k} {a} {o} {ts} e f h =
    record { runs = run_one gs next k a ts e ∙ h.runs; traced = trace_one gs next o k a ts e f ∙ ap (λ x. o ∷ x) h.traced }

-- the first token is of these kinds
abbrev pub First : (Kind → Type 0) → List Token → Type 0
First kinds [] = ⊥
First kinds (token k a ∷ ts) = kinds k

-- tokens, and then others
pub reaches_then : {follow : Kind → Type 0} {gs hs is : List Goal} {ts us : List Token} {os ps : List (Option ℕ)} → Leads follow gs ts os hs
    → First follow us → Reaches hs us ps is → Reaches gs (ts ++ us) (os ++ ps) is
reaches_then {us = []} h m i = absurd m
reaches_then {gs} {ts} {us = token k a ∷ us} h m i = record {
  runs = run_front gs h.now ts (token k a ∷ us) h.runs ∙ run_alike k a us (h.alike k m) ∙ i.runs;
  traced = trace_front ts (token k a ∷ us) gs h.now h.runs
      ∙ ap₂ (λ (x y : List (Option ℕ)). x ++ y) h.traced (trace_alike k a us (h.alike k m) ∙ i.traced);
}
