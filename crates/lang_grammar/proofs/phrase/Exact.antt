-- Where the trees of expressions say so, the machine finds it.
use Rattle.std.specs.Prelude.{not}
use Rattle.std.proofs.Common.{◌≡◌, ◌∙◌, ◌++◌, ◌≤◌, ◌<◌, ℕ, List, [], ◌∷◌, length, Option, Some, None, refl, sym, ap, subst, Bool, true}
use Rattle.std.proofs.Common.{false}
use Rattle.std.proofs.lemmas.Bool.{lt-ltb, le-ltb}
use Rattle.lang_grammar.specs.Grammar.{Kind, Token, token, Expr}
use Rattle.lang_grammar.specs.Machine.{Goal, step, run}
use Rattle.lang_grammar.specs.Verdicts.{opened, trace, judged, verdict, Verdict, goes, refused, too_deep}
use Rattle.lang_grammar.specs.Faults.{AllShallow}
use Rattle.lang_grammar.specs.Expressions.{ReadsExpr, BeginsExpr, OpensExpr, FineExpr, IsLongest, Reach, reaches, runs_out, stops_at}
use Rattle.lang_grammar.specs.Expressions.{nests_at, FindsExpr}
use Rattle.lang_grammar.specs.Reaches.{expression_start, is_infix, ends_before, longer, longer_by, reach}
use Rattle.lang_grammar.proofs.faults.Exact.{last_same, opened_last}
use Rattle.lang_grammar.proofs.faults.Scanned.{run_one, trace_front}
use Rattle.lang_grammar.proofs.machine.Finish.{run_front}
use Rattle.lang_grammar.proofs.phrase.Stacks.{IsPending, end_step, sign_steps, pending_step, start_pending}
use Rattle.lang_grammar.proofs.phrase.Starts.{at_end, reads_run, alive_expr, begins_alive, end_reads, depths_same, shallow_of}
use Rattle.lang_grammar.proofs.phrase.Reached.{longer_last, reaches_by, stops_by, nests_by, reach_ends, reach_goes, reach_stops}
use Rattle.lang_grammar.proofs.phrase.Reached.{reach_nests}
use Rattle.lang_grammar.proofs.phrase.Found.{ended}

nothing_runs : (ts : List Token) (g : Goal) (gs : List Goal) → run [] ts ≡ Some (g ∷ gs) → ⊥
nothing_runs [] g gs h = cc
nothing_runs (token k a ∷ ts) g gs h = cc

-- where more has to come after a token, the expression has not ended before it
goes_on : (gs next : List Goal) (k : Kind) (ts : List Token) (g : Goal) (now : List Goal) → IsPending gs → step gs k ≡ Some next
    → run next ts ≡ Some (g ∷ now)
    → ends_before gs k ≡ false
goes_on gs next k ts g now p e h = on (ends_before gs k) refl where
  on : (b : Bool) → ends_before gs k ≡ b → ends_before gs k ≡ false
  on false i = i
  on true i =
      let j = ended gs k p i in
      let m : next ≡ [] = end_step k next j.1 (ap (λ (x : List Goal). step x k) (sym j.0) ∙ e) in
      absurd (nothing_runs ts g now (ap (λ (x : List Goal). run x ts) (sym m) ∙ h))

-- what is read on the way goes on behind it
record Behind (gs : List Goal) (front rest : List Token) (now : List Goal) : Type 0 where
  pending : IsPending now
  reached : reach gs (front ++ rest) ≡ longer_by (length front) (reach now rest)

behind : (front rest : List Token) (gs : List Goal) (g : Goal) (now : List Goal) → IsPending gs → run gs front ≡ Some (g ∷ now)
    → AllShallow (trace gs front)
    → Behind gs front rest (g ∷ now)
behind [] rest gs g now p h s = let e : gs ≡ g ∷ now = cc in record {
  pending = subst IsPending e p;
  reached =
      ap (λ (x : List Goal). reach x rest) e;
}
behind (token k a ∷ ts) rest gs g now p h s = on_step (step gs k) (opened gs k) refl refl (λ next q r t. behind ts rest next g now q r t) h
    s where
      go : (next : List Goal) → step gs k ≡ Some next → verdict gs k ≡ goes next → run next ts ≡ Some (g ∷ now)
          → (IsPending next → Behind next ts rest (g ∷ now))
          → Behind gs (token k a ∷ ts) rest (g ∷ now)
      go next e v r f =
          let i = goes_on gs next k ts g now p e r in
          let b = f (pending_step gs next k p i e) in
          record {
            pending = b.pending;
            reached = reach_goes gs next k a (ts ++ rest) i v ∙ ap longer b.reached
                ∙ longer_last (length ts) (reach (g ∷ now) rest);
          }

      verdict_by : (s : Option (List Goal)) (o : Option ℕ) → step gs k ≡ s → opened gs k ≡ o → verdict gs k ≡ judged s o
      verdict_by s o e f = ap (λ (x : Option (List Goal)). judged x (opened gs k)) e ∙ ap (judged s) f

      shallow : (d : ℕ) (next : List Goal) → d < 64 → judged (Some next) (Some d) ≡ goes next
      shallow d next l = ap (λ (t : Bool). elim t as (λ x. Verdict) [ true ↦ goes next | false ↦ too_deep ]) (lt-ltb d 64 l)

      on_step : (s : Option (List Goal)) (o : Option ℕ) → step gs k ≡ s → opened gs k ≡ o
          → ((next : List Goal) → IsPending next → run next ts ≡ Some (g ∷ now) → AllShallow (trace next ts)
          → Behind next ts rest (g ∷ now))
          → elim s as (λ x. Option (List Goal)) [ None ↦ None | Some next ↦ run next ts ] ≡ Some (g ∷ now)
          → AllShallow (o ∷ elim s as (λ x. List (Option ℕ)) [ None ↦ [] | Some next ↦ trace next ts ])
          → Behind gs (token k a ∷ ts) rest (g ∷ now)
      on_step None o e f rec r t = cc
      on_step (Some next) None e f rec r t = go next e (verdict_by (Some next) None e f) r (λ q. rec next q r t)
      on_step (Some next) (Some d) e f rec r t = go next e (verdict_by (Some next) (Some d) e f ∙ shallow d next t.0) r
          (λ q. rec next q r t.1)

refused_by : (gs : List Goal) (k : Kind) → step gs k ≡ None → verdict gs k ≡ refused
refused_by gs k e = ap (λ (x : Option (List Goal)). judged x (opened gs k)) e

deep_by : (gs next : List Goal) (k : Kind) (d : ℕ) → step gs k ≡ Some next → opened gs k ≡ Some d → 64 ≤ d → verdict gs k ≡ too_deep
deep_by gs next k d e f b = ap (λ (x : Option (List Goal)). judged x (opened gs k)) e ∙ ap (judged (Some next)) f
    ∙ ap (λ (t : Bool). elim t as (λ x. Verdict) [ true ↦ goes next | false ↦ too_deep ]) (le-ltb d 64 b)

last_step : (gs : List Goal) (k : Kind) (a : ℕ) → run gs (token k a ∷ []) ≡ step gs k
last_step gs k a = on (step gs k) where
  on : (s : Option (List Goal)) → elim s as (λ x. Option (List Goal)) [ None ↦ None | Some next ↦ Some next ] ≡ s
  on None = refl
  on (Some next) = refl

-- Where a token can't follow and the tokens before it are no expression, the machine stops.
exact_stops : (front : List Token) (k : Kind) (a : ℕ) (rest : List Token) → FineExpr front → ((e : Expr) → ReadsExpr front e → ⊥)
    → (BeginsExpr (front ++ token k a ∷ []) → ⊥) → reach expression_start (front ++ token k a ∷ rest) ≡ stops_at a
exact_stops front k a rest f n u = by_run (begins_alive front f.0) where
  by_run : (g : Goal) × (gs : List Goal) × (run expression_start front ≡ Some (g ∷ gs))
      → reach expression_start (front ++ token k a ∷ rest) ≡ stops_at a
  by_run (g, gs, h) =
      let b = behind front (token k a ∷ rest) expression_start g gs start_pending h (shallow_of front (g ∷ gs) h f) in
      b.reached ∙ ap (longer_by (length front)) (on_end (ends_before (g ∷ gs) k) b.pending refl) ∙ stops_by (length front) a where
        on_step : (s : Option (List Goal)) → IsPending (g ∷ gs) → ends_before (g ∷ gs) k ≡ false → step (g ∷ gs) k ≡ s
            → step (g ∷ gs) k ≡ None
        on_step None p i e = e
        on_step (Some []) p i e = absurd (pending_step (g ∷ gs) [] k p i e)
        on_step (Some (m ∷ ms)) p i e =
            absurd (u (alive_expr (front ++ token k a ∷ []) m ms (run_front expression_start (g ∷ gs) front (token k a ∷ []) h
            ∙ run_one (g ∷ gs) (m ∷ ms) k a [] e)))

        on_end : (b : Bool) → IsPending (g ∷ gs) → ends_before (g ∷ gs) k ≡ b → reach (g ∷ gs) (token k a ∷ rest) ≡ stops_at a
        on_end true p i = let j = ended (g ∷ gs) k p i in let r = end_reads front (h ∙ ap Some j.0) in absurd (n r.0 r.1)
        on_end false p i = reach_stops (g ∷ gs) k a rest i (refused_by (g ∷ gs) k (on_step (step (g ∷ gs) k) p i refl))

-- Where a token opens one construct too many, the machine says so.
exact_nests : (front : List Token) (k : Kind) (a : ℕ) (rest : List Token) (depths : List (Option ℕ)) (d : ℕ) → FineExpr front
    → BeginsExpr (front ++ token k a ∷ [])
    → OpensExpr (front ++ token k a ∷ []) (depths ++ Some d ∷ []) → 64 ≤ d → reach expression_start (front ++ token k a ∷ rest) ≡ nests_at a
exact_nests front k a rest depths d f b o q = by_run (begins_alive front f.0) (begins_alive (front ++ token k a ∷ []) b) where
  by_run : (g : Goal) × (gs : List Goal) × (run expression_start front ≡ Some (g ∷ gs))
      → (m : Goal) × (ms : List Goal) × (run expression_start (front ++ token k a ∷ []) ≡ Some (m ∷ ms))
      → reach expression_start (front ++ token k a ∷ rest) ≡ nests_at a
  by_run (g, gs, h) (m, ms, i) =
      let w = behind front (token k a ∷ rest) expression_start g gs start_pending h (shallow_of front (g ∷ gs) h f) in
      let j : run (g ∷ gs) (token k a ∷ []) ≡ Some (m ∷ ms) = sym (run_front expression_start (g ∷ gs) front (token k a ∷ []) h) ∙ i in
      let e : step (g ∷ gs) k ≡ Some (m ∷ ms) = sym (last_step (g ∷ gs) k a) ∙ j in
      let t = depths_same (front ++ token k a ∷ []) (m ∷ ms) (depths ++ Some d ∷ []) i b o
      ∙ trace_front front (token k a ∷ []) expression_start (g ∷ gs) h
      ∙ ap (λ x. trace expression_start front ++ x) (opened_last (g ∷ gs) (m ∷ ms) k a j) in
      let v = sym (last_same depths (trace expression_start front) (Some d) (opened (g ∷ gs) k) t) in
      w.reached ∙ ap (longer_by (length front))
      (reach_nests (g ∷ gs) k a rest (goes_on (g ∷ gs) (m ∷ ms) k [] m ms w.pending e refl) (deep_by (g ∷ gs) (m ∷ ms) k d e v q))
      ∙ nests_by (length front) a

-- Where the longest expression ends, the machine ends.
exact_reaches : (front : List Token) (k : Kind) (a : ℕ) (rest : List Token) (e : Expr) → ReadsExpr front e
    → (BeginsExpr (front ++ token k a ∷ []) → ⊥) → FineExpr front
    → reach expression_start (front ++ token k a ∷ rest) ≡ reaches (length front)
exact_reaches front k a rest e r u f =
    let h = reads_run front e r in
    let b = behind front (token k a ∷ rest) expression_start _ _ start_pending h (shallow_of front at_end h f) in
    b.reached ∙ ap (longer_by (length front)) (reach_ends at_end k a rest (ap not (on (is_infix k) h refl)))
    ∙ reaches_by (length front) where
      on : (b : Bool) → run expression_start front ≡ Some at_end → is_infix k ≡ b → is_infix k ≡ false
      on false h i = i
      on true h i = absurd (u (alive_expr (front ++ token k a ∷ []) _ _
          (run_front expression_start at_end front (token k a ∷ []) h ∙ run_one at_end expression_start k a [] (sign_steps k i))))

exact_longest : (ts : List Token) (n : ℕ) (e : Expr) → IsLongest ts n e → reach expression_start ts ≡ reaches n
exact_longest ts n e l = on l.next l.split l.ends where
  on : (t : Token) → ts ≡ l.front ++ t ∷ l.rest → (BeginsExpr (l.front ++ t ∷ []) → ⊥) → reach expression_start ts ≡ reaches n
  on (token k a) i u = ap (reach expression_start) i ∙ exact_reaches l.front k a l.rest e l.reads u l.fine ∙ ap reaches l.size

-- What is found is the only thing that can be said of tokens that have not run out.
pub exact_by : (x t : Reach) (ts : List Token) → x ≡ reach expression_start ts → (t ≡ runs_out → ⊥) → FindsExpr t ts → x ≡ t
exact_by x (reaches n) ts e m (f, l) = e ∙ exact_longest ts n f l
exact_by x runs_out ts e m f = absurd (m refl)
exact_by x (stops_at a) ts e m (front, k, rest, i, f, n, u) = e ∙ ap (reach expression_start) i ∙ exact_stops front k a rest f n u
exact_by x (nests_at a) ts e m (front, k, rest, i, f, b, (depths, d, o, q)) =
    e ∙ ap (reach expression_start) i ∙ exact_nests front k a rest depths d f b o q
