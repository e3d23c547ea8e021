-- What the scan finds is what the trees say.
use Rattle.std.proofs.Common.{◌≡◌, ◌∙◌, ◌++◌, ◌≤◌, ◌<◌, ℕ, List, [], ◌∷◌, Option, Some, None, refl, sym, ap, Bool, true, false, nat_lt}
use Rattle.std.proofs.Common.{subst}
use Rattle.std.proofs.lemmas.Bool.{ltb-true, ltb-false}
use Rattle.source_grammar.specs.Tokens.{Kind, Token, token}
use Rattle.source_grammar.specs.Machine.{Goal, step, run, start}
use Rattle.source_grammar.specs.Verdicts.{opened, trace, judged, Verdict, goes, refused, too_deep, scan}
use Rattle.source_grammar.specs.Faults.{Scan, whole, short, unexpected, nested, AllShallow, Opens, Fine, Finds}
use Rattle.source_grammar.proofs.machine.Goes.{run_one, run_stop, trace_one, run_front, trace_front, trace_length}
use Rattle.source_grammar.proofs.grammar.Taken.{traced}
use Rattle.source_grammar.proofs.machine.Meaning.{reads_accepted, accepts_law, alive_begins, unexpected_law}

abbrev Found : Scan → List Goal → List Token → Type 0
Found whole gs ts = (run gs ts ≡ Some []) × AllShallow (trace gs ts)
Found short gs ts = (g : Goal) × (now : List Goal) × (run gs ts ≡ Some (g ∷ now)) × AllShallow (trace gs ts)
Found (unexpected a) gs ts = (front : List Token) × (k : Kind) × (rest : List Token) × (now : List Goal) × (ts ≡ front ++ token k a ∷ rest)
    × (run gs front ≡ Some now) × (step now k ≡ None) × AllShallow (trace gs front)
Found (nested a) gs ts = (front : List Token) × (k : Kind) × (rest : List Token) × (now : List Goal) × (ts ≡ front ++ token k a ∷ rest)
    × (run gs front ≡ Some now) × ((next : List Goal) × (step now k ≡ Some next)) × ((d : ℕ) × (opened now k ≡ Some d) × (64 ≤ d))
    × AllShallow (trace gs front)

-- a token opens no construct, or one that is within the limit
abbrev pub Low : Option ℕ → Type 0
Low None = Unit {0}
Low (Some d) = d < 64

shallow_more : (o : Option ℕ) (os : List (Option ℕ)) → Low o → AllShallow os → AllShallow (o ∷ os)
shallow_more None os h i = i
shallow_more (Some d) os h i = (h, i)

-- a shallow trace stays shallow with one more token in front that opens nothing too deep
pub trace_low : (gs next : List Goal) (o : Option ℕ) (k : Kind) (a : ℕ) (ts : List Token) → step gs k ≡ Some next → opened gs k ≡ o → Low o
    → AllShallow (trace next ts) → AllShallow (trace gs (token k a ∷ ts))
trace_low gs next o k a ts e f h i = subst AllShallow (sym (trace_one gs next o k a ts e f)) (shallow_more o (trace next ts) h i)

later : (s : Scan) (gs next : List Goal) (o : Option ℕ) (k : Kind) (a : ℕ) (ts : List Token) → step gs k ≡ Some next → opened gs k ≡ o
    → Low o → Found s next ts → Found s gs (token k a ∷ ts)
later whole gs next o k a ts e f h (i, j) = (run_one gs next k a ts e ∙ i, trace_low gs next o k a ts e f h j)
later short gs next o k a ts e f h (g, n, i, j) = (g, n, run_one gs next k a ts e ∙ i, trace_low gs next o k a ts e f h j)
later (unexpected b) gs next o k a ts e f h (front, l, rest, now, i, j, m, q) =
    (token k a ∷ front, l, rest, now, ap (λ x. token k a ∷ x) i, run_one gs next k a front e ∙ j, m, trace_low gs next o k a front e f h q)
later (nested b) gs next o k a ts e f h (front, l, rest, now, i, j, m, n, q) = (
  token k a ∷ front,
  l,
  rest,
  now,
  ap (λ x. token k a ∷ x) i,
  run_one gs next k a front e ∙ j,
  m,
  n,
  trace_low gs next o k a front e f h q,
)

deep_case : (t : Bool) (next : List Goal) (d : ℕ) (gs : List Goal) (k : Kind) (a : ℕ) (ts : List Token) → nat_lt d 64 ≡ t
    → step gs k ≡ Some next → opened gs k ≡ Some d → ((n : List Goal) → Found (scan n ts) n ts)
    → Found (elim (elim t as (λ x. Verdict) [ true ↦ goes next | false ↦ too_deep ]) as (λ x. Scan)
    [ goes next ↦ scan next ts | refused ↦ unexpected a | too_deep ↦ nested a ]) gs (token k a ∷ ts)
deep_case true next d gs k a ts t e f r = later (scan next ts) gs next (Some d) k a ts e f (ltb-true d 64 t) (r next)
deep_case false next d gs k a ts t e f r = ([], k, ts, gs, refl, refl, (next, e), (d, f, ltb-false d 64 t), tt)

one : (s : Option (List Goal)) (o : Option ℕ) (gs : List Goal) (k : Kind) (a : ℕ) (ts : List Token) → step gs k ≡ s → opened gs k ≡ o
    → ((n : List Goal) → Found (scan n ts) n ts) → Found (elim (judged s o) as (λ x. Scan)
    [ goes next ↦ scan next ts | refused ↦ unexpected a | too_deep ↦ nested a ]) gs (token k a ∷ ts)
one None o gs k a ts e f r = ([], k, ts, gs, refl, refl, e, tt)
one (Some next) None gs k a ts e f r = later (scan next ts) gs next None k a ts e f tt (r next)
one (Some next) (Some d) gs k a ts e f r = deep_case (nat_lt d 64) next d gs k a ts refl e f r

found : (ts : List Token) (gs : List Goal) → Found (scan gs ts) gs ts
found [] [] = (refl, tt)
found [] (g ∷ gs) = (g, gs, refl, tt)
found (token k a ∷ ts) gs = one (step gs k) (opened gs k) gs k a ts refl refl (λ n. found ts n)

-- the trace of a front that runs says what each function that begins with it opens
pub opens_front : (front : List Token) (now : List Goal) → run start front ≡ Some now → Opens front (trace start front)
opens_front front now h = (
  trace_length front start now h,
  λ p rest r.
      (trace now rest, sym (traced p r.good) ∙ ap (λ (x : List Token). trace start x) r.spelled ∙ trace_front front rest start now h),
)

fine : (front : List Token) (now : List Goal) → run start front ≡ Some now → AllShallow (trace start front) → Fine front
fine front now h s = (alive_begins front now h, (trace start front, opens_front front now h, s))

trace_last : (front : List Token) (now next : List Goal) (k : Kind) (a d : ℕ) → run start front ≡ Some now → step now k ≡ Some next
    → opened now k ≡ Some d → trace start (front ++ token k a ∷ []) ≡ trace start front ++ Some d ∷ []
trace_last front now next k a d h e f = trace_front front (token k a ∷ []) start now h
    ∙ ap (λ x. trace start front ++ x) (trace_one now next (Some d) k a [] e f)

-- What the scan says of a text is so.
pub finds : (s : Scan) (ts : List Token) → Found s start ts → Finds s ts
finds whole ts (h, s) = ((accepts_law ts).0 h, fine ts [] h s)
finds short ts (g, now, h, s) = (λ f r. on (reads_accepted ts f r), fine ts (g ∷ now) h s) where
  on : run start ts ≡ Some [] → ⊥
  on e = cc
finds (unexpected a) ts (front, k, rest, now, i, h, e, s) = (
  front,
  k,
  rest,
  i,
  unexpected_law front now (token k a) h (run_front start now front (token k a ∷ []) h ∙ run_stop now k a [] e),
  fine front now h s,
)
finds (nested a) ts (front, k, rest, now, i, h, (next, e), (d, f, b), s) = (
  front,
  k,
  rest,
  i,
  fine front now h s,
  alive_begins (front ++ token k a ∷ []) next
      (run_front start now front (token k a ∷ []) h ∙ run_one now next k a [] e),
  (
    trace start front,
    d,
    subst (Opens (front ++ token k a ∷ [])) (trace_last front now next k a d h e f)
        (opens_front (front ++ token k a ∷ []) next (run_front start now front (token k a ∷ []) h ∙ run_one now next k a [] e)),
    b,
  ),
)

-- what the scan says of a text from its start is so
pub scan_finds : (ts : List Token) → Finds (scan start ts) ts
scan_finds ts = finds (scan start ts) ts (found ts start)

-- an answer that is the scan's is so
pub found_by : (s : Scan) (ts : List Token) → s ≡ scan start ts → Finds s ts
found_by s ts e = subst (λ (x : Scan). Finds x ts) (sym e) (scan_finds ts)
