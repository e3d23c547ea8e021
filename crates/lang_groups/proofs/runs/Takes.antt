-- What is kept behind the tokens of an expression.
use Rattle.std.proofs.Common.{◌≡◌, ◌∙◌, ◌++◌, ◌∷◌, ◌≤◌, ℕ, Bool, true, false, ◌||◌, List, [], refl, sym, ap, ap₂}
use Rattle.std.proofs.Common.{append_assoc, append-nil, arith}
use Rattle.std.specs.Prelude.{if◌then◌else◌}
use Rattle.std.proofs.Math.Seq.{drop-append_seam}
use Rattle.lang_groups.specs.declared.run.Run.{Run}
use Rattle.lang_groups.specs.declared.mark.Mark.{Mark}
use Rattle.lang_groups.specs.declared.mark.Mark.TheVariants.{Opens, Closes, Compares, Parts}
use Rattle.lang_groups.specs.Kept.{kept_group}
use Rattle.lang_groups.specs.Shapes.{Shape, nothing, one, enclosed, tied, compared, apart, occurring, Fits, marks_of}
use Rattle.lang_groups.specs.Machine.{State, fresh, group_of_run, run_ended, unwound, taken, taken_all}
use Rattle.lang_groups.specs.Found.{is_compared, inner, found}
use Rattle.lang_groups.proofs.together.Bools.{or_assoc, or_false, or_true}

-- tokens behind others
pub taken_append : (ms ns : List Mark) (st : State) → taken_all (ms ++ ns) st ≡ taken_all ns (taken_all ms st)
taken_append [] ns st = refl
taken_append (m ∷ ms) ns st = taken_append ms ns (taken m st)

-- what is kept within a run behind these variables and groups more, where there was the sign of a comparison or not
abbrev pub with_run : State → List ℕ → Bool → List (List ℕ) → State
with_run st xs b gs = record {
  seen = st.seen ++ xs;
  run = record { start = st.run.start; compared = st.run.compared || b };
  outer = st.outer;
  groups = st.groups ++ gs;
}

-- what is kept behind a run that has ended
abbrev pub with_whole : State → List ℕ → List (List ℕ) → State
with_whole st xs gs = record {
  seen = st.seen ++ xs;
  run = fresh (st.seen ++ xs);
  outer = st.outer;
  groups = st.groups ++ gs;
}

-- The tokens go on with a run. The tokens from the beginning of a run on are whole runs.
abbrev pub GoesOn : Shape → Type 0
GoesOn s = (st : State) → taken_all (marks_of s) st ≡ with_run st (occurring s) (is_compared s) (inner s)

abbrev pub IsWholeOf : Shape → Type 0
IsWholeOf s = (st : State) → st.run ≡ fresh st.seen → run_ended (taken_all (marks_of s) st) ≡ with_whole st (occurring s) (found s)

-- a state by its parts
abbrev made : List ℕ → ℕ → Bool → List Run → List (List ℕ) → State
made xs start b outer gs = record { seen = xs; run = record { start = start; compared = b }; outer = outer; groups = gs }

same_made : {xs ys : List ℕ} {b c : Bool} {gs hs : List (List ℕ)} (start : ℕ) (outer : List Run) → xs ≡ ys → b ≡ c → gs ≡ hs
    → made xs start b outer gs ≡ made ys start c outer hs
same_made {ys = ys} {b = b} {c = c} {gs = gs} start outer e f g =
    ap (λ zs. made zs start b outer gs) e ∙ ap (λ d. made ys start d outer gs) f ∙ ap (λ ks. made ys start c outer ks) g

-- ---- how each shape goes on
goes_on_nothing : GoesOn nothing
goes_on_nothing st =
    same_made st.run.start st.outer (sym (append-nil st.seen)) (sym (or_false st.run.compared)) (sym (append-nil st.groups))

goes_on_one : (x : ℕ) → GoesOn (one x)
goes_on_one x st = same_made st.run.start st.outer refl (sym (or_false st.run.compared)) (sym (append-nil st.groups))

goes_on_enclosed : (s : Shape) → IsWholeOf s → GoesOn (enclosed s)
goes_on_enclosed s w st =
    taken_append (marks_of s) (Closes ∷ []) (taken Opens st)
    ∙ ap (λ (e : State). unwound e e.outer) (w (taken Opens st) refl)
    ∙ same_made st.run.start st.outer refl (sym (or_false st.run.compared)) refl

goes_on_tied : (s t : Shape) → is_compared s ≡ false → is_compared t ≡ false → GoesOn s → GoesOn t → GoesOn (tied s t)
goes_on_tied s t e f r u st =
    taken_append (marks_of s) (marks_of t) st
    ∙ ap (λ (k : State). taken_all (marks_of t) k) (r st)
    ∙ u (with_run st (occurring s) (is_compared s) (inner s))
    ∙ same_made st.run.start st.outer (append_assoc st.seen (occurring s) (occurring t))
    (or_assoc st.run.compared (is_compared s) (is_compared t) ∙ ap (λ b. st.run.compared || b) (ap₂ ◌||◌ e f))
    (append_assoc st.groups (inner s) (inner t))

goes_on_compared : (s t : Shape) → GoesOn s → GoesOn t → GoesOn (compared s t)
goes_on_compared s t r u st =
    taken_append (marks_of s) (Compares ∷ marks_of t) st
    ∙ ap (λ (k : State). taken_all (marks_of t) (taken Compares k)) (r st)
    ∙ u (taken Compares (with_run st (occurring s) (is_compared s) (inner s)))
    ∙ same_made st.run.start st.outer (append_assoc st.seen (occurring s) (occurring t)) (sym (or_true st.run.compared))
    (append_assoc st.groups (inner s) (inner t))

-- ---- a run that ends
-- the group of a run that has just ended
run_groups : (gs is : List (List ℕ)) (r : Run) (seen xs : List ℕ) (b : Bool) → r ≡ fresh seen
    → (gs ++ is) ++ group_of_run (record { start = r.start; compared = r.compared || b }) (seen ++ xs)
    ≡ gs ++ (is ++ (if b then kept_group xs else []))
run_groups gs is r seen xs b e =
    ap (λ (k : Run). (gs ++ is) ++ group_of_run (record { start = k.start; compared = k.compared || b }) (seen ++ xs)) e
    ∙ ap (λ ys. (gs ++ is) ++ (if b then kept_group ys else [])) (drop-append_seam seen xs)
    ∙ append_assoc gs is (if b then kept_group xs else [])

whole_of_run : (s : Shape) → found s ≡ inner s ++ (if is_compared s then kept_group (occurring s) else []) → GoesOn s → IsWholeOf s
whole_of_run s e r st f =
    ap run_ended (r st)
    ∙ ap (λ (gs : List (List ℕ)).
    record { seen = st.seen ++ occurring s; run = fresh (st.seen ++ occurring s); outer = st.outer; groups = gs })
    (run_groups st.groups (inner s) st.run st.seen (occurring s) (is_compared s) f ∙ ap (λ gs. st.groups ++ gs) (sym e))

whole_apart : (s t : Shape) → IsWholeOf s → IsWholeOf t → IsWholeOf (apart s t)
whole_apart s t w v st f =
    ap run_ended (taken_append (marks_of s) (Parts ∷ marks_of t) st)
    ∙ ap (λ (k : State). run_ended (taken_all (marks_of t) k)) (w st f)
    ∙ v (with_whole st (occurring s) (found s)) refl
    ∙ ap₂ (λ (xs : List ℕ) (gs : List (List ℕ)). record { seen = xs; run = fresh xs; outer = st.outer; groups = gs })
    (append_assoc st.seen (occurring s) (occurring t)) (append_assoc st.groups (found s) (found t))

-- no comparison stands in an operand outside of brackets
pub is_operand : (s : Shape) → Fits 2 s → is_compared s ≡ false
is_operand nothing f = refl
is_operand (one x) f = refl
is_operand (enclosed s) f = refl
is_operand (tied s t) f = refl
is_operand (compared s t) f = refl_not f.0
  where
    refl_not : 2 ≤ 1 → true ≡ false
    refl_not l = absurd (omega (arith, l))
is_operand (apart s t) f = refl

-- what holds tighter stands where something looser may
pub looser : (s : Shape) → Fits 2 s → Fits 1 s
looser nothing f = f
looser (one x) f = f
looser (enclosed s) f = f
looser (tied s t) f = f
looser (compared s t) f = (omega (arith, f.0), f.1, f.2)
looser (apart s t) f = absurd (let e = f.0 in omega (arith, e))

-- ---- every shape
mutual
  -- a run goes on
  pub run_goes_on : (s : Shape) → Fits 1 s → GoesOn s
  run_goes_on nothing f = goes_on_nothing
  run_goes_on (one x) f = goes_on_one x
  run_goes_on (enclosed s) f = goes_on_enclosed s (is_whole s f)
  run_goes_on (tied s t) f = goes_on_tied s t (is_operand s f.0) (is_operand t f.1) (run_goes_on s (looser s f.0))
      (run_goes_on t (looser t f.1))
  run_goes_on (compared s t) f = goes_on_compared s t (run_goes_on s f.1) (run_goes_on t f.2)
  run_goes_on (apart s t) f = absurd (let e = f.0 in omega (arith, e))

  -- from the beginning of a run on
  pub is_whole : (s : Shape) → Fits 0 s → IsWholeOf s
  is_whole nothing f = whole_of_run nothing refl goes_on_nothing
  is_whole (one x) f = whole_of_run (one x) refl (goes_on_one x)
  is_whole (enclosed s) f = whole_of_run (enclosed s) (sym (append-nil (found s))) (goes_on_enclosed s (is_whole s f))
  is_whole (tied s t) f = whole_of_run (tied s t) (sym (append-nil (inner s ++ inner t)))
      (goes_on_tied s t (is_operand s f.0) (is_operand t f.1) (run_goes_on s (looser s f.0)) (run_goes_on t (looser t f.1)))
  is_whole (compared s t) f = whole_of_run (compared s t) refl (goes_on_compared s t (run_goes_on s f.1) (run_goes_on t f.2))
  is_whole (apart s t) f = whole_apart s t (is_whole s f.1) (is_whole t f.2)
