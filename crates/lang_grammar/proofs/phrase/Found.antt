-- What the machine finds at an expression is what the trees say.
use Rattle.std.specs.Prelude.{not}
use Rattle.std.proofs.Common.{◌≡◌, ◌∙◌, ◌++◌, ◌≤◌, ℕ, suc, List, [], ◌∷◌, length, Option, Some, None, refl, sym, ap, subst, Bool, true}
use Rattle.std.proofs.Common.{false, nat_lt}
use Rattle.std.proofs.lemmas.Bool.{ltb-true, ltb-false}
use Rattle.lang_grammar.specs.Grammar.{Kind, Token, token, Expr}
use Rattle.lang_grammar.specs.Machine.{Goal, step, run}
use Rattle.lang_grammar.specs.Verdicts.{opened, trace, judged, verdict, Verdict, goes, refused, too_deep}
use Rattle.lang_grammar.specs.Faults.{AllShallow}
use Rattle.lang_grammar.specs.Expressions.{ReadsExpr, BeginsExpr, OpensExpr, FineExpr, Reach, reaches, runs_out, stops_at, nests_at}
use Rattle.lang_grammar.specs.Expressions.{FindsExpr}
use Rattle.lang_grammar.specs.Reaches.{expression_start, is_infix, ends_before, longer, reach}
use Rattle.lang_grammar.proofs.faults.Scanned.{run_one, trace_one, trace_front, trace_low, Low}
use Rattle.lang_grammar.proofs.machine.Finish.{run_front}
use Rattle.lang_grammar.proofs.phrase.Stacks.{IsPending, end_step, sign_steps, pending_step, start_pending}
use Rattle.lang_grammar.proofs.phrase.Starts.{at_end, reads_run, alive_expr, begins_alive, end_reads, opens_front, fine_expr}

-- what stands before the token at which the reading ends
record Stop (gs : List Goal) (ts : List Token) (k : Kind) (a : ℕ) : Type 0 where
  front : List Token
  rest : List Token
  now : List Goal
  split : ts ≡ front ++ token k a ∷ rest
  runs : run gs front ≡ Some now
  pending : IsPending now
  shallow : AllShallow (trace gs front)

abbrev Found : Reach → List Goal → List Token → Type 0
Found (reaches n) gs ts = (k : Kind) × (a : ℕ) × (s : Stop gs ts k a) × (length s.front ≡ n) × (ends_before s.now k ≡ true)
Found runs_out gs ts = (now : List Goal) × (run gs ts ≡ Some now) × IsPending now × AllShallow (trace gs ts)
Found (stops_at a) gs ts = (k : Kind) × (s : Stop gs ts k a) × (ends_before s.now k ≡ false) × (step s.now k ≡ None)
Found (nests_at a) gs ts = (k : Kind) × (s : Stop gs ts k a) × (ends_before s.now k ≡ false)
    × ((next : List Goal) × (step s.now k ≡ Some next)) × ((d : ℕ) × (opened s.now k ≡ Some d) × (64 ≤ d))

module _ (gs next : List Goal) (o : Option ℕ) (k : Kind) (a : ℕ) (ts : List Token) (e : step gs k ≡ Some next) (f : opened gs k ≡ o)
    (low : Low o) where
  abbrev later_stop : (l : Kind) (b : ℕ) → Stop next ts l b → Stop gs (token k a ∷ ts) l b
  later_stop l b s = record {
    front = token k a ∷ s.front;
    rest = s.rest;
    now = s.now;
    split = ap (λ x. token k a ∷ x) s.split;
    runs = run_one gs next k a s.front e ∙ s.runs;
    pending = s.pending;
    shallow = trace_low gs next o k a s.front e f low s.shallow;
  }

  later : (x : Reach) → Found x next ts → Found (longer x) gs (token k a ∷ ts)
  later (reaches n) (l, b, s, h, i) = (l, b, later_stop l b s, ap suc h, i)
  later runs_out (now, h, p, s) = (now, run_one gs next k a ts e ∙ h, p, trace_low gs next o k a ts e f low s)
  later (stops_at b) (l, s, h, i) = (l, later_stop l b s, h, i)
  later (nests_at b) (l, s, h, i, j) = (l, later_stop l b s, h, i, j)

abbrev here : (gs : List Goal) (k : Kind) (a : ℕ) (ts : List Token) → IsPending gs → Stop gs (token k a ∷ ts) k a
here gs k a ts p = record { front = []; rest = ts; now = gs; split = refl; runs = refl; pending = p; shallow = tt }

abbrev on_verdict : Verdict → ℕ → List Token → Reach
on_verdict v a ts = elim v as (λ x. Reach) [ goes next ↦ longer (reach next ts) | refused ↦ stops_at a | too_deep ↦ nests_at a ]

deep_case : (t : Bool) (gs next : List Goal) (d : ℕ) (k : Kind) (a : ℕ) (ts : List Token) → IsPending gs → ends_before gs k ≡ false
    → nat_lt d 64 ≡ t
    → step gs k ≡ Some next → opened gs k ≡ Some d → Found (reach next ts) next ts
    → Found (on_verdict (elim t as (λ x. Verdict) [ true ↦ goes next | false ↦ too_deep ]) a ts) gs (token k a ∷ ts)
deep_case true gs next d k a ts p n t e f r = later gs next (Some d) k a ts e f (ltb-true d 64 t) (reach next ts) r
deep_case false gs next d k a ts p n t e f r = (k, here gs k a ts p, n, (next, e), (d, f, ltb-false d 64 t))

by_step : (s : Option (List Goal)) (o : Option ℕ) (gs : List Goal) (k : Kind) (a : ℕ) (ts : List Token) → IsPending gs
    → ends_before gs k ≡ false → step gs k ≡ s
    → opened gs k ≡ o → ((next : List Goal) → IsPending next → Found (reach next ts) next ts)
    → Found (on_verdict (judged s o) a ts) gs (token k a ∷ ts)
by_step None o gs k a ts p n e f r = (k, here gs k a ts p, n, e)
by_step (Some next) None gs k a ts p n e f r = later gs next None k a ts e f tt (reach next ts) (r next (pending_step gs next k p n e))
by_step (Some next) (Some d) gs k a ts p n e f r = deep_case (nat_lt d 64) gs next d k a ts p n refl e f
    (r next (pending_step gs next k p n e))

by_end : (b : Bool) (gs : List Goal) (k : Kind) (a : ℕ) (ts : List Token) → IsPending gs → ends_before gs k ≡ b
    → ((next : List Goal) → IsPending next → Found (reach next ts) next ts)
    → Found (elim b as (λ x. Reach) [ true ↦ reaches 0 | false ↦ on_verdict (verdict gs k) a ts ]) gs (token k a ∷ ts)
by_end true gs k a ts p e r = (k, a, here gs k a ts p, refl, e)
by_end false gs k a ts p e r = by_step (step gs k) (opened gs k) gs k a ts p e refl refl r

found : (ts : List Token) (gs : List Goal) → IsPending gs → Found (reach gs ts) gs ts
found [] gs p = (gs, refl, p, tt)
found (token k a ∷ ts) gs p = by_end (ends_before gs k) gs k a ts p refl (λ next q. found ts next q)

-- ---- in the words of trees
-- an expression ends before a token only where it is whole and the token doesn't go on with it
pub ended : (now : List Goal) (k : Kind) → IsPending now → ends_before now k ≡ true → (now ≡ at_end) × (is_infix k ≡ false)
ended [] k p e = cc
ended (g ∷ []) k p e = (ap (λ (x : Goal). x ∷ []) p, not_true (is_infix k) e) where
  not_true : (b : Bool) → not b ≡ true → b ≡ false
  not_true true e = cc
  not_true false e = refl
ended (g ∷ h ∷ gs) k p e = cc

-- a token that does not go on with a whole expression leaves nothing to come
pub ends_there : (front : List Token) (k : Kind) (a : ℕ) → run expression_start front ≡ Some at_end → is_infix k ≡ false
    → BeginsExpr (front ++ token k a ∷ []) → ⊥
ends_there front k a h i b = on (begins_alive (front ++ token k a ∷ []) b) where
  by_step : (s : Option (List Goal)) (g : Goal) (gs : List Goal) → step at_end k ≡ s
      → elim s as (λ x. Option (List Goal)) [ None ↦ None | Some next ↦ Some next ] ≡ Some (g ∷ gs) → ⊥
  by_step None g gs e j = cc
  by_step (Some next) g gs e j = let m = end_step k next i e in cc

  on : (g : Goal) × (gs : List Goal) × (run expression_start (front ++ token k a ∷ []) ≡ Some (g ∷ gs)) → ⊥
  on (g, gs, j) = by_step (step at_end k) g gs refl (sym (run_front expression_start at_end front (token k a ∷ []) h) ∙ j)

fine_at : (front : List Token) (now : List Goal) → run expression_start front ≡ Some now → IsPending now
    → AllShallow (trace expression_start front) → FineExpr front
fine_at front [] h p s = absurd p
fine_at front (g ∷ gs) h p s = fine_expr front g gs h s

begins_at : (front : List Token) (now : List Goal) → run expression_start front ≡ Some now → IsPending now → BeginsExpr front
begins_at front [] h p = absurd p
begins_at front (g ∷ gs) h p = alive_expr front g gs h

run_last : (front : List Token) (now next : List Goal) (k : Kind) (a : ℕ) → run expression_start front ≡ Some now → step now k ≡ Some next
    → run expression_start (front ++ token k a ∷ []) ≡ Some next
run_last front now next k a h e = run_front expression_start now front (token k a ∷ []) h ∙ run_one now next k a [] e

stuck : (front : List Token) (now : List Goal) (k : Kind) (a : ℕ) → run expression_start front ≡ Some now → step now k ≡ None
    → BeginsExpr (front ++ token k a ∷ []) → ⊥
stuck front now k a h e b = on (begins_alive (front ++ token k a ∷ []) b) where
  on : (g : Goal) × (gs : List Goal) × (run expression_start (front ++ token k a ∷ []) ≡ Some (g ∷ gs)) → ⊥
  on (g, gs, j) =
      let i : run now (token k a ∷ []) ≡ None = ap (λ (o : Option (List Goal)). elim o as (λ x. Option (List Goal))
      [ None ↦ None | Some next ↦ Some next ]) e in
      let m = sym (run_front expression_start now front (token k a ∷ []) h) ∙ j in cc

no_expr : (front : List Token) (now : List Goal) (k : Kind) → run expression_start front ≡ Some now → ends_before now k ≡ false
    → step now k ≡ None → (e : Expr)
    → ReadsExpr front e → ⊥
no_expr front now k h i j e r = on (is_infix k) refl where
  same : now ≡ at_end
  same = let m = reads_run front e r in cc

  on : (b : Bool) → is_infix k ≡ b → ⊥
  on true m = let n = sign_steps k m in let q : step at_end k ≡ None = subst (λ (x : List Goal). step x k ≡ None) same j in cc
  on false m =
      let n : ends_before at_end k ≡ false = subst (λ (x : List Goal). ends_before x k ≡ false) same i in
      let q : ends_before at_end k ≡ true = ap not m in cc

trace_last : (front : List Token) (now next : List Goal) (k : Kind) (a d : ℕ) → run expression_start front ≡ Some now
    → step now k ≡ Some next → opened now k ≡ Some d
    → trace expression_start (front ++ token k a ∷ []) ≡ trace expression_start front ++ Some d ∷ []
trace_last front now next k a d h e f =
    trace_front front (token k a ∷ []) expression_start now h ∙ ap (λ x. trace expression_start front ++ x)
    (trace_one now next (Some d) k a [] e f)

-- What the machine finds is so.
finds : (x : Reach) (ts : List Token) → Found x expression_start ts → FindsExpr x ts
finds (reaches n) ts (k, a, s, h, i) =
    let j = ended s.now k s.pending i in
    let m = s.runs ∙ ap Some j.0 in
    let r = end_reads s.front m in (
      r.0,
      record {
        front = s.front;
        next = token k a;
        rest = s.rest;
        split = s.split;
        size = h;
        reads = r.1;
        ends = ends_there s.front k a m j.1;
        fine = fine_at s.front s.now s.runs s.pending s.shallow;
      },
    )
finds runs_out ts (now, h, p, s) = fine_at ts now h p s
finds (stops_at a) ts (k, s, h, i) = (
  s.front,
  k,
  s.rest,
  s.split,
  fine_at s.front s.now s.runs s.pending s.shallow,
  no_expr s.front s.now k s.runs h i,
  stuck s.front s.now k a s.runs i,
)
finds (nests_at a) ts (k, s, h, (next, e), (d, f, b)) =
    let r = run_last s.front s.now next k a s.runs e in (
      s.front,
      k,
      s.rest,
      s.split,
      fine_at s.front s.now s.runs s.pending s.shallow,
      begins_at (s.front ++ token k a ∷ []) next r (pending_step s.now next k s.pending h e),
      (
        trace expression_start s.front,
        d,
        subst (OpensExpr (s.front ++ token k a ∷ [])) (trace_last s.front s.now next k a d s.runs e f)
            (opens_front (s.front ++ token k a ∷ []) next r),
        b,
      ),
    )

-- what the machine finds at an expression is so
pub reach_finds : (ts : List Token) → FindsExpr (reach expression_start ts) ts
reach_finds ts = finds (reach expression_start ts) ts (found ts expression_start start_pending)

-- an answer that is what the machine finds is so
pub found_by : (x : Reach) (ts : List Token) → x ≡ reach expression_start ts → FindsExpr x ts
found_by x ts e = subst (λ (y : Reach). FindsExpr y ts) (sym e) (reach_finds ts)
