-- Where the trees say so, the scan finds it.
use Rattle.std.proofs.Common.{◌≡◌, ◌∙◌, ◌++◌, ◌≤◌, length, ℕ, List, [], ◌∷◌, Option, Some, None, refl, sym, ap, Bool, true, false, subst}
use Rattle.std.proofs.lemmas.Bool.{lt-ltb, le-ltb}
use Rattle.std.proofs.lemmas.List.{append-nil}
use Rattle.source_grammar.specs.Tokens.{Kind, Token, token}
use Rattle.source_grammar.specs.Grammar.{Function, Reads, Begins, IsUnexpected}
use Rattle.source_grammar.specs.Machine.{Goal, step, run, start}
use Rattle.source_grammar.specs.Verdicts.{opened, trace, judged, Verdict, goes, refused, too_deep, scan}
use Rattle.source_grammar.specs.Faults.{Scan, whole, short, unexpected, nested, AllShallow, Opens, Fine, Finds}
use Rattle.source_grammar.proofs.machine.Goes.{run_front, trace_front}
use Rattle.source_grammar.proofs.machine.Meaning.{accepts_law, begins_law, unexpected_back}
use Rattle.source_grammar.proofs.faults.Scanned.{opens_front}

scan_front : (front rest : List Token) (gs now : List Goal) → run gs front ≡ Some now → AllShallow (trace gs front)
    → scan gs (front ++ rest) ≡ scan now rest
scan_front [] rest gs now h s = let e : gs ≡ now = cc in ap (λ (x : List Goal). scan x rest) e
scan_front (token k a ∷ ts) rest gs now h s = on_step (step gs k) (opened gs k) a ts rest now (λ n e f. scan_front ts rest n now e f) h
    s where
      on_step : (s : Option (List Goal)) (o : Option ℕ) (a : ℕ) (ts rest : List Token) (now : List Goal)
          → ((n : List Goal) → run n ts ≡ Some now → AllShallow (trace n ts) → scan n (ts ++ rest) ≡ scan now rest)
          → elim s as (λ x. Option (List Goal)) [ None ↦ None | Some next ↦ run next ts ] ≡ Some now
          → AllShallow (o ∷ elim s as (λ x. List (Option ℕ)) [ None ↦ [] | Some next ↦ trace next ts ])
          → elim (judged s o) as (λ x. Scan) [ goes next ↦ scan next (ts ++ rest) | refused ↦ unexpected a | too_deep ↦ nested a ]
          ≡ scan now rest
      on_step None o a ts rest now f h s = cc
      on_step (Some n) None a ts rest now f h s = f n h s
      on_step (Some n) (Some d) a ts rest now f h s = ap (λ (t : Bool). elim (elim t as (λ x. Verdict) [ true ↦ goes n | false ↦ too_deep ])
          as
          (λ x. Scan) [ goes next ↦ scan next (ts ++ rest) | refused ↦ unexpected a | too_deep ↦ nested a ]) (lt-ltb d 64 s.0) ∙ f n h s.1

-- equally long fronts of one list are the same
pub append_same : (xs ys u v : List (Option ℕ)) → length xs ≡ length ys → xs ++ u ≡ ys ++ v → xs ≡ ys
append_same [] [] u v h e = refl
append_same [] (y ∷ ys) u v h e = cc
append_same (x ∷ xs) [] u v h e = cc
append_same (x ∷ xs) (y ∷ ys) u v h e = let i = append_same xs ys u v (cc) (cc) in cc

depths_same : (front : List Token) (now : List Goal) (depths : List (Option ℕ)) → run start front ≡ Some now → Begins front
    → Opens front depths → depths ≡ trace start front
depths_same front now depths h (p, rest, r) o = let i = opens_front front now h in
    append_same depths (trace start front) _ _ (o.0 ∙ sym i.0) (sym (o.1 p rest r).1 ∙ (i.1 p rest r).1)

shallow_of : (front : List Token) (now : List Goal) → run start front ≡ Some now → Fine front → AllShallow (trace start front)
shallow_of front now h (b, (depths, o, s)) = subst AllShallow (depths_same front now depths h b o) s

scan_one : (gs : List Goal) (k : Kind) (a : ℕ) (ts : List Token) → run gs (token k a ∷ []) ≡ None → scan gs (token k a ∷ ts) ≡ unexpected a
scan_one gs k a ts h = on_step (step gs k) (opened gs k) a ts h where
  on_step : (s : Option (List Goal)) (o : Option ℕ) (a : ℕ) (ts : List Token)
      → elim s as (λ x. Option (List Goal)) [ None ↦ None | Some next ↦ Some next ] ≡ None
      → elim (judged s o) as (λ x. Scan) [ goes next ↦ scan next ts | refused ↦ unexpected a | too_deep ↦ nested a ] ≡ unexpected a
  on_step None o a ts h = refl
  on_step (Some n) o a ts h = cc

exact_whole : (ts : List Token) (p : Function) → Reads ts p → Fine ts → scan start ts ≡ whole
exact_whole ts p r f = let h = (accepts_law ts).1 (p, r) in ap (λ (x : List Token). scan start x) (sym (append-nil ts))
    ∙ scan_front ts [] start [] h (shallow_of ts [] h f)

exact_short : (ts : List Token) → ((f : Function) → Reads ts f → ⊥) → Fine ts → scan start ts ≡ short
exact_short ts n f = on ((begins_law ts).1 f.0) where
  on : (gs : List Goal) × (run start ts ≡ Some gs) → scan start ts ≡ short
  on ([], h) = let r = (accepts_law ts).0 h in absurd (n r.0 r.1)
  on (g ∷ gs, h) = ap (λ (x : List Token). scan start x) (sym (append-nil ts))
      ∙ scan_front ts [] start (g ∷ gs) h (shallow_of ts (g ∷ gs) h f)

exact_unexpected : (ts front : List Token) (k : Kind) (a : ℕ) (rest : List Token) → ts ≡ front ++ token k a ∷ rest
    → IsUnexpected front (token k a) → Fine front → scan start ts ≡ unexpected a
exact_unexpected ts front k a rest e u f = by_run ts front k a rest e (unexpected_back front (token k a) u) f where
  by_run : (ts front : List Token) (k : Kind) (a : ℕ) (rest : List Token) → ts ≡ front ++ token k a ∷ rest
      → ((gs : List Goal) × (run start front ≡ Some gs)) × (run start (front ++ token k a ∷ []) ≡ None) → Fine front
      → scan start ts ≡ unexpected a
  by_run ts front k a rest e ((now, h), n) f = ap (λ (x : List Token). scan start x) e
      ∙ scan_front front (token k a ∷ rest) start now h (shallow_of front now h f)
      ∙ scan_one now k a rest (sym (run_front start now front (token k a ∷ []) h) ∙ n)

-- the last elements of one list are the same
pub last_same : (xs ys : List (Option ℕ)) (x y : Option ℕ) → xs ++ x ∷ [] ≡ ys ++ y ∷ [] → x ≡ y
last_same [] [] x y e = cc
last_same [] (y ∷ []) x z e = cc
last_same [] (y ∷ w ∷ ys) x z e = cc
last_same (x ∷ []) [] y z e = cc
last_same (x ∷ w ∷ xs) [] y z e = cc
last_same (x ∷ xs) (y ∷ ys) z w e = last_same xs ys z w (cc)

scan_deep : (gs next : List Goal) (k : Kind) (a d : ℕ) (ts : List Token) → run gs (token k a ∷ []) ≡ Some next → opened gs k ≡ Some d
    → 64 ≤ d → scan gs (token k a ∷ ts) ≡ nested a
scan_deep gs next k a d ts h e b = on_step (step gs k) (opened gs k) next a d ts h e b where
  on_step : (s : Option (List Goal)) (o : Option ℕ) (next : List Goal) (a d : ℕ) (ts : List Token)
      → elim s as (λ x. Option (List Goal)) [ None ↦ None | Some next ↦ Some next ] ≡ Some next → o ≡ Some d → 64 ≤ d
      → elim (judged s o) as (λ x. Scan) [ goes next ↦ scan next ts | refused ↦ unexpected a | too_deep ↦ nested a ] ≡ nested a
  on_step None o next a d ts h e b = cc
  on_step (Some n) None next a d ts h e b = cc
  on_step (Some n) (Some c) next a d ts h e b = let i : d ≡ c = cc in ap
      (λ (t : Bool). elim (elim t as (λ x. Verdict) [ true ↦ goes n | false ↦ too_deep ]) as (λ x. Scan)
      [ goes next ↦ scan next ts | refused ↦ unexpected a | too_deep ↦ nested a ]) (le-ltb c 64 (subst (λ x. 64 ≤ x) i b))

-- one token is traced by what it opens
pub opened_last : (gs next : List Goal) (k : Kind) (a : ℕ) → run gs (token k a ∷ []) ≡ Some next
    → trace gs (token k a ∷ []) ≡ opened gs k ∷ []
opened_last gs next k a h = on_step (step gs k) (opened gs k) where
  on_step : (s : Option (List Goal)) (o : Option ℕ) → o ∷ elim s as (λ x. List (Option ℕ)) [ None ↦ [] | Some next ↦ [] ] ≡ o ∷ []
  on_step None o = refl
  on_step (Some n) o = refl

exact_nested : (ts front : List Token) (k : Kind) (a : ℕ) (rest : List Token) (depths : List (Option ℕ)) (d : ℕ)
    → ts ≡ front ++ token k a ∷ rest → Fine front → Begins (front ++ token k a ∷ [])
    → Opens (front ++ token k a ∷ []) (depths ++ Some d ∷ []) → 64 ≤ d → scan start ts ≡ nested a
exact_nested ts front k a rest depths d e f b o q = by_run ts front k a rest depths d e f b o q ((begins_law front).1 f.0)
    ((begins_law (front ++ token k a ∷ [])).1 b) where
      by_run : (ts front : List Token) (k : Kind) (a : ℕ) (rest : List Token) (depths : List (Option ℕ)) (d : ℕ)
          → ts ≡ front ++ token k a ∷ rest → Fine front → Begins (front ++ token k a ∷ [])
          → Opens (front ++ token k a ∷ []) (depths ++ Some d ∷ []) → 64 ≤ d → ((gs : List Goal) × (run start front ≡ Some gs))
          → ((gs : List Goal) × (run start (front ++ token k a ∷ []) ≡ Some gs)) → scan start ts ≡ nested a
      by_run ts front k a rest depths d e f b o q (now, h) (next, i) =
          let j : run now (token k a ∷ []) ≡ Some next = sym (run_front start now front (token k a ∷ []) h) ∙ i in
          let m = depths_same (front ++ token k a ∷ []) next (depths ++ Some d ∷ []) i b o ∙ trace_front front (token k a ∷ []) start now h
          ∙ ap (λ x. trace start front ++ x) (opened_last now next k a j) in
          ap (λ (x : List Token). scan start x) e ∙ scan_front front (token k a ∷ rest) start now h (shallow_of front now h f)
          ∙ scan_deep now next k a d rest j (sym (last_same depths (trace start front) (Some d) (opened now k) m)) q

-- What is found is the only thing that can be said of tokens.
pub exact_by : (s t : Scan) (ts : List Token) → s ≡ scan start ts → Finds t ts → s ≡ t
exact_by s whole ts e ((p, r), f) = e ∙ exact_whole ts p r f
exact_by s short ts e (n, f) = e ∙ exact_short ts n f
exact_by s (unexpected a) ts e (front, k, rest, i, u, f) = e ∙ exact_unexpected ts front k a rest i u f
exact_by s (nested a) ts e (front, k, rest, i, f, b, (depths, d, o, q)) = e ∙ exact_nested ts front k a rest depths d i f b o q
