-- Preludes one after another, what they write, and those whose checks stand under a condition.
use Rattle.std.proofs.Common.{◌≡◌, ◌≢◌, ◌⊎◌, inl, inr, ⊎_elim, ◌≤◌, ℕ, true, List, [], ◌∷◌, ◌++◌, get_or}
use Rattle.std.proofs.Common.{sym, ap, subst, ◌∙◌, arith}
use Rattle.std.specs.Prelude.{ℤ, pos}
use Rattle.lang_tree.specs.declared.check.Check.{Check}
use Rattle.lang_tree.specs.Tree.{Condition}
use Rattle.lang_tree.specs.Meaning.{State, put, MayBe}
use Rattle.std.proofs.lemmas.Bool.Decides.{eqb_tells}
use Rattle.lang_tree.proofs.Put.{get_or-put_same, get_or-put_other}
use Rattle.lang_tree.specs.Tree.{Deed, sets, havocs, wheres, checks}
use Rattle.source_core.specs.Preludes.{AllLeave, MayFail, all_under}
use Rattle.source_core.specs.Laws.{Agree}
use Rattle.source_core.proofs.forms.Over.{agree_trans, agree_less, ConditionOver, may_be-agrees}

-- ---- one after another
-- one list of deeds and then another may leave what the second may leave behind the first
pub leave-then : (ds es : List Deed) (x y z : State) → AllLeave ds x y → AllLeave es y z → AllLeave (ds ++ es) x z
leave-then [] es x y z h k = subst (λ s. AllLeave es s z) h k
leave-then (d ∷ ds) es x y z h k = (h.0, h.1, leave-then ds es h.0 y z h.2 k)

-- a check that may be false in some deeds may be so with others behind them
pub fail-before : (ds es : List Deed) (x : State) (about : Check) → MayFail ds x about → MayFail (ds ++ es) x about
fail-before [] es x about h = absurd h
fail-before (sets i f line ∷ ds) es x about h = (h.0, h.1, fail-before ds es h.0 about h.2)
fail-before (havocs i line ∷ ds) es x about h = (h.0, h.1, fail-before ds es h.0 about h.2)
fail-before (wheres c line ∷ ds) es x about h = (h.0, h.1, fail-before ds es h.0 about h.2)
fail-before (checks other c line ∷ ds) es x about h = ⊎_elim (λ k. inl k) (λ k. inr (fail-before ds es x about k)) h

-- a check that may be false in some deeds may be so with others before them, from where these begin
pub fail-behind : (ds es : List Deed) (x y : State) (about : Check) → AllLeave ds x y → MayFail es y about → MayFail (ds ++ es) x about
fail-behind [] es x y about h k = subst (λ s. MayFail es s about) h k
fail-behind (sets i f line ∷ ds) es x y about h k = (h.0, h.1, fail-behind ds es h.0 y about h.2 k)
fail-behind (havocs i line ∷ ds) es x y about h k = (h.0, h.1, fail-behind ds es h.0 y about h.2 k)
fail-behind (wheres c line ∷ ds) es x y about h k = (h.0, h.1, fail-behind ds es h.0 y about h.2 k)
fail-behind (checks other c line ∷ ds) es x y about h k =
    inr (fail-behind ds es x y about (subst (λ s. AllLeave ds s y) h.1 h.2) k)

-- ---- what they write
-- no variable is written but these
abbrev pub WritesIn : (ℕ → Type 0) → List Deed → Type 0
WritesIn W [] = Unit {0}
WritesIn W (sets i f line ∷ ds) = W i × WritesIn W ds
WritesIn W (havocs i line ∷ ds) = W i × WritesIn W ds
WritesIn W (wheres c line ∷ ds) = WritesIn W ds
WritesIn W (checks about c line ∷ ds) = WritesIn W ds

-- no variable is written but from the n-th on
abbrev pub WritesFrom : ℕ → List Deed → Type 0
WritesFrom n ds = WritesIn (λ i. n ≤ i) ds

-- where neither of two lists of deeds writes other variables, both together don't
pub writes-then : (W : ℕ → Type 0) (ds es : List Deed) → WritesIn W ds → WritesIn W es → WritesIn W (ds ++ es)
writes-then W [] es h k = k
writes-then W (sets i f line ∷ ds) es h k = (h.0, writes-then W ds es h.1 k)
writes-then W (havocs i line ∷ ds) es h k = (h.0, writes-then W ds es h.1 k)
writes-then W (wheres c line ∷ ds) es h k = writes-then W ds es h k
writes-then W (checks about c line ∷ ds) es h k = writes-then W ds es h k

-- deeds that write these variables alone write none but more of them
pub writes-more : (W V : ℕ → Type 0) (ds : List Deed) → ((i : ℕ) → W i → V i) → WritesIn W ds → WritesIn V ds
writes-more W V [] f h = tt
writes-more W V (sets i g line ∷ ds) f h = (f i h.0, writes-more W V ds f h.1)
writes-more W V (havocs i line ∷ ds) f h = (f i h.0, writes-more W V ds f h.1)
writes-more W V (wheres c line ∷ ds) f h = writes-more W V ds f h
writes-more W V (checks about c line ∷ ds) f h = writes-more W V ds f h

-- a variable keeps its value where another one takes one
pub put-keeps : (i j : ℕ) (x y : State) (z : ℤ) → j ≢ i → y ≡ put (pos 0) x i z → get_or x j (pos 0) ≡ get_or y j (pos 0)
put-keeps i j x y z d e = sym (get_or-put_other (pos 0) x i j z d) ∙ ap (λ (r : State). get_or r j (pos 0)) (sym e)

other : (W : ℕ → Type 0) (i j : ℕ) → W i → ¬ (W j) → j ≢ i
other W i j w n e = n (subst W (sym e) w)

-- deeds keep the variables that they don't write
pub leave-keeps : (W : ℕ → Type 0) (ds : List Deed) (x y : State) (j : ℕ) → WritesIn W ds → AllLeave ds x y → ¬ (W j)
    → get_or x j (pos 0) ≡ get_or y j (pos 0)
leave-keeps W [] x y j w h n = ap (λ (r : State). get_or r j (pos 0)) (sym h)
leave-keeps W (sets i f line ∷ ds) x y j w h n =
    put-keeps i j x h.0 _ (other W i j w.0 n) h.1 ∙ leave-keeps W ds h.0 y j w.1 h.2 n
leave-keeps W (havocs i line ∷ ds) x y j w h n =
    put-keeps i j x h.0 _ (other W i j w.0 n) h.1.1 ∙ leave-keeps W ds h.0 y j w.1 h.2 n
leave-keeps W (wheres c line ∷ ds) x y j w h n =
    ap (λ (r : State). get_or r j (pos 0)) (sym h.1.1) ∙ leave-keeps W ds h.0 y j w h.2 n
leave-keeps W (checks about c line ∷ ds) x y j w h n =
    ap (λ (r : State). get_or r j (pos 0)) (sym h.1) ∙ leave-keeps W ds h.0 y j w h.2 n

-- so the first ones where others are written
pub leave-agrees : (n : ℕ) (ds : List Deed) (x y : State) → WritesFrom n ds → AllLeave ds x y → Agree n x y
leave-agrees n ds x y w h i l = leave-keeps (λ k. n ≤ k) ds x y i w h (λ k. omega (arith, l, k))

-- states agree still where only hidden variables are written behind one of them
pub hidden-agrees : (n h : ℕ) (ds : List Deed) (x y z : State) → n ≤ h → WritesFrom h ds → Agree n x y → AllLeave ds y z → Agree n x z
hidden-agrees n h ds x y z s w a l = agree_trans n x y z a (agree_less n h y z s (leave-agrees h ds y z w l))

put-agrees : (n i : ℕ) (x y : State) (z : ℤ) → n ≤ i → y ≡ put (pos 0) x i z → Agree n x y
put-agrees n i x y z s e j l = put-keeps i j x y z (λ same. omega (arith, s, l, same)) e

-- states that agree agree when one variable takes a value
pub put-agree : (n var : ℕ) (x y : State) (z : ℤ) → Agree n x y → Agree n (put (pos 0) x var z) (put (pos 0) y var z)
put-agree n var x y z a i l = by (⊎_elim (λ h. inl h.1) (λ h. inr h.1) (eqb_tells i var))
  where
    by : (i ≡ var) ⊎ (i ≢ var) → get_or (put (pos 0) x var z) i (pos 0) ≡ get_or (put (pos 0) y var z) i (pos 0)
    by (inl e) = ap (λ k. get_or (put (pos 0) x var z) k (pos 0)) e ∙ get_or-put_same (pos 0) x var z (pos 0)
        ∙ sym (get_or-put_same (pos 0) y var z (pos 0)) ∙ ap (λ k. get_or (put (pos 0) y var z) k (pos 0)) (sym e)
    by (inr d) = get_or-put_other (pos 0) x var i z d ∙ a i l ∙ sym (get_or-put_other (pos 0) y var i z d)

-- ---- checks under a condition
-- deeds write the same variables with their checks under a condition
pub writes-under : (W : ℕ → Type 0) (c : Condition) (ds : List Deed) → WritesIn W ds → WritesIn W (all_under c ds)
writes-under W c [] h = tt
writes-under W c (sets i f line ∷ ds) h = (h.0, writes-under W c ds h.1)
writes-under W c (havocs i line ∷ ds) h = (h.0, writes-under W c ds h.1)
writes-under W c (wheres d line ∷ ds) h = writes-under W c ds h
writes-under W c (checks about d line ∷ ds) h = writes-under W c ds h

-- deeds leave the same states with their checks under a condition
pub leave-under : (c : Condition) (ds : List Deed) (x y : State) → AllLeave ds x y → AllLeave (all_under c ds) x y
leave-under c [] x y h = h
leave-under c (sets i f line ∷ ds) x y h = (h.0, h.1, leave-under c ds h.0 y h.2)
leave-under c (havocs i line ∷ ds) x y h = (h.0, h.1, leave-under c ds h.0 y h.2)
leave-under c (wheres d line ∷ ds) x y h = (h.0, h.1, leave-under c ds h.0 y h.2)
leave-under c (checks about d line ∷ ds) x y h = (h.0, h.1, leave-under c ds h.0 y h.2)

-- where the condition may be true the checks may be false as they were
pub fail-under : (n : ℕ) (c : Condition) (ds : List Deed) (x : State) (about : Check) → ConditionOver n c → WritesFrom n ds
    → MayBe true c x → MayFail ds x about → MayFail (all_under c ds) x about
fail-under n c [] x about o w m h = absurd h
fail-under n c (sets i f line ∷ ds) x about o w m h =
    (h.0, h.1, fail-under n c ds h.0 about o w.1 (may_be-agrees n true c x h.0 o (put-agrees n i x h.0 _ w.0 h.1) m) h.2)
fail-under n c (havocs i line ∷ ds) x about o w m h =
    (h.0, h.1, fail-under n c ds h.0 about o w.1 (may_be-agrees n true c x h.0 o (put-agrees n i x h.0 _ w.0 h.1.1) m) h.2)
fail-under n c (wheres d line ∷ ds) x about o w m h =
    (h.0, h.1, fail-under n c ds h.0 about o w (subst (λ s. MayBe true c s) (sym h.1.1) m) h.2)
fail-under n c (checks other d line ∷ ds) x about o w m h =
    ⊎_elim (λ k. inl (k.0, (m, k.1))) (λ k. inr (fail-under n c ds x about o w m k)) h
