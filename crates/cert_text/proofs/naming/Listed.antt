-- Every trace that is named gets a number.
use Rattle.std.proofs.Common.{◌≡◌, ◌+◌, ◌<◌, ◌++◌, ◌&&◌, ◌||◌, ℕ, Bool, true, false, cond, List, [], ◌∷◌, length, get_or, take, refl}
use Rattle.std.proofs.Common.{sym, ap, ap₂, ◌∙◌}
use Rattle.std.specs.Prelude.{nat_lt}
use Rattle.std.specs.List.{flat_map, list_all, list_any}
use Rattle.std.proofs.lemmas.Bool.{lt-ltb}
use Rattle.std.proofs.lemmas.List.{flat_map_more}
use Rattle.std.proofs.lemmas.List.Folds.{list_all-append, list_any-append}
use Rattle.std.proofs.lemmas.List.Sums.{fold-append}
use Rattle.std.proofs.lemmas.Slice.Eq.{bytes_eq-Decides}
use Rattle.cert_written.specs.Shaped.{has_item}
use Rattle.cert_written.specs.declared.step.Step.{Step}
use Rattle.cert_written.specs.declared.trace.Trace.{Trace}
use Rattle.cert_text.specs.Naming.{is_listed, named_traces, same_text, step_traces, trace_text, with_trace, with_traces}
use Rattle.cert_text.proofs.bounds.WrittenLists.{one_more}

-- ---- the numbers of a list

module _ {A : Type 0} (traces_of : A → List Trace) where
  -- one element more
  traces_more : (start now next : List Trace) (xs : List A) (i : ℕ) (x : A) → i < length xs → x ≡ get_or xs i x
      → now ≡ with_traces start (flat_map traces_of (take i xs))
      → next ≡ with_traces now (traces_of x) → next ≡ with_traces start (flat_map traces_of (take (i + 1) xs))
  traces_more start now next xs i x lt is e f =
      f ∙ ap (λ ts. with_traces ts (traces_of x)) e ∙ sym (fold-append with_trace start (flat_map traces_of (take i xs)) (traces_of x))
      ∙ ap (with_traces start) (flat_map_more traces_of [] (take i xs) x ∙ ap (flat_map traces_of) (one_more xs i x lt is))

-- ---- what is listed stays so

same_self : (t : Trace) → same_text t t ≡ true
same_self t = (bytes_eq-Decides (trace_text t) (trace_text t)).1 refl

or_true : (b : Bool) → (b || true) ≡ true
or_true true = refl
or_true false = refl

listed_on : (ts us : List Trace) (t : Trace) → is_listed ts t ≡ true → is_listed (ts ++ us) t ≡ true
listed_on ts us t h = list_any-append (same_text t) ts us ∙ ap (λ b. b || list_any (same_text t) us) h

listed_kept : (ts : List Trace) (u t : Trace) → is_listed ts t ≡ true → is_listed (with_trace ts u) t ≡ true
listed_kept ts u t h = by (is_listed ts u)
  where
    by : (b : Bool) → is_listed (cond b ts (ts ++ u ∷ [])) t ≡ true
    by true = h
    by false = listed_on ts (u ∷ []) t h

listed_here : (ts : List Trace) (t : Trace) → is_listed (with_trace ts t) t ≡ true
listed_here ts t = by (is_listed ts t) refl
  where
    by : (b : Bool) → is_listed ts t ≡ b → is_listed (cond b ts (ts ++ t ∷ [])) t ≡ true
    by true h = h
    by false h = list_any-append (same_text t) ts (t ∷ []) ∙ ap (λ b. list_any (same_text t) ts || (b || false)) (same_self t)
        ∙ or_true (list_any (same_text t) ts)

listed_after : (ts us : List Trace) (t : Trace) → is_listed ts t ≡ true → is_listed (with_traces ts us) t ≡ true
listed_after ts [] t h = h
listed_after ts (u ∷ us) t h = listed_after (with_trace ts u) us t (listed_kept ts u t h)

all_listed : (ts us : List Trace) → list_all (is_listed (with_traces ts us)) us ≡ true
all_listed ts [] = refl
all_listed ts (u ∷ us) = ap₂ (λ a b. a && b) (listed_after (with_trace ts u) us u (listed_here ts u)) (all_listed (with_trace ts u) us)

-- ---- from a list to its elements

and_split : (a b : Bool) → (a && b) ≡ true → (a ≡ true) × (b ≡ true)
and_split true b e = (refl, e)
and_split false b e = absurd cc

-- where there are rows and all traces of elements are listed, those of each element are
pub each_listed : {A : Type 0} (rows : ℕ) (names : List Trace) (traces_of : A → List Trace) (xs : List A) → 0 < rows
    → list_all (is_listed names) (flat_map traces_of xs) ≡ true
    → list_all (λ (x : A). nat_lt 0 rows && list_all (is_listed names) (traces_of x)) xs ≡ true
each_listed rows names traces_of [] l h = refl
each_listed rows names traces_of (x ∷ xs) l h =
    let k = and_split (list_all (is_listed names) (traces_of x)) (list_all (is_listed names) (flat_map traces_of xs))
    (sym (list_all-append (is_listed names) (traces_of x) (flat_map traces_of xs)) ∙ h) in
    ap₂ (λ a b. a && b) (ap₂ (λ a b. a && b) (lt-ltb 0 rows l) k.0) (each_listed rows names traces_of xs l k.1)

-- steps that have items, whose traces are listed, can be written
steps_written : (rows : ℕ) (names : List Trace) (steps : List Step) → list_all (λ (s : Step). nat_lt 0 rows && has_item s) steps ≡ true
    → list_all (is_listed names) (named_traces steps) ≡ true
    → list_all (λ (s : Step). nat_lt 0 rows && has_item s && list_all (is_listed names) (step_traces s)) steps ≡ true
steps_written rows names [] e h = refl
steps_written rows names (s ∷ steps) e h =
    let k = and_split (list_all (is_listed names) (step_traces s)) (list_all (is_listed names) (named_traces steps))
    (sym (list_all-append (is_listed names) (step_traces s) (named_traces steps)) ∙ h) in
    let f = and_split (nat_lt 0 rows && has_item s) (list_all (λ (r : Step). nat_lt 0 rows && has_item r) steps) e in
    ap₂ (λ a b. a && b) (ap₂ (λ a b. a && b) f.0 k.0) (steps_written rows names steps f.1 k.1)

-- steps that have items can be written with the traces that they name
pub steps_listed : (rows : ℕ) (steps : List Step) → list_all (λ (s : Step). nat_lt 0 rows && has_item s) steps ≡ true
    → list_all (λ (s : Step). nat_lt 0 rows && has_item s && list_all (is_listed (with_traces [] (named_traces steps))) (step_traces s))
    steps ≡ true
steps_listed rows steps e = steps_written rows (with_traces [] (named_traces steps)) steps e (all_listed [] (named_traces steps))
