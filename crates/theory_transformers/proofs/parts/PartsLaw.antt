-- The parts of a list: in the stated order, admissible, complete, and the classes of reaching each other.
use Rattle.std.proofs.Common.{◌≡◌, ◌∙◌, ◌⊎◌, inl, inr, ⊎_elim, ℕ, zero, suc, ◌<◌, ◌≤◌, not, Bool, true, false, true≢false, List, [], ◌∷◌}
use Rattle.std.proofs.Common.{◌++◌, length, refl, sym, ap, subst, arith, if◌then◌else◌}
use Rattle.std.specs.Prelude.{Option, Some, None}
use Rattle.std.proofs.lemmas.Bool.{cases_Bool, not_from_false, not-true}
use Rattle.base_facts.specs.Elements.{In}
use Rattle.flow_systems.specs.Equations.{Equations}
use Rattle.theory_transformers.specs.JointProblems.{Listed}
use Rattle.theory_transformers.specs.Parts.{leans, together, keep, first_of, ready, part_before, parts_from, parts, InSome, Admissible}
use Rattle.theory_transformers.specs.Parts.{AreClasses, FirstHas, InOrder}
use Rattle.theory_transformers.proofs.parts.NextPart.{together_itself, together_back, together_trans, ready_means, next_part}

-- ---- lists
in_middle : (before : List Listed) (u : Listed) (behind : List Listed) → In (before ++ (u ∷ behind)) u
in_middle [] u behind = inl refl
in_middle (v ∷ before) u behind = inr (in_middle before u behind)

in_first : (xs ys : List Listed) (u : Listed) → In xs u → In (xs ++ ys) u
in_first [] ys u m = absurd m
in_first (x ∷ xs) ys u m = ⊎_elim (λ e. inl e) (λ k. inr (in_first xs ys u k)) m

in_second : (xs ys : List Listed) (u : Listed) → In ys u → In (xs ++ ys) u
in_second [] ys u m = m
in_second (x ∷ xs) ys u m = inr (in_second xs ys u m)

keep_in : (f : Listed → Bool) (list : List Listed) (u : Listed) → In list u → f u ≡ true → In (keep f list) u
unfolding keep
keep_in f [] u m e = absurd m
keep_in f (v ∷ list) u m e = by (f v) refl m (λ k. keep_in f list u k e)
  where
    by : (b : Bool) → f v ≡ b → (v ≡ u) ⊎ In list u → (In list u → In (keep f list) u) → In (if b then v ∷ keep f list else keep f list) u
    by true g (inl i) t = inl i
    by true g (inr k) t = inr (t k)
    by false g (inl i) t = absurd (true≢false (sym e ∙ ap f (sym i) ∙ g))
    by false g (inr k) t = t k

keep_out : (f : Listed → Bool) (list : List Listed) (u : Listed) → In (keep f list) u → In list u × (f u ≡ true)
unfolding keep
keep_out f [] u m = absurd m
keep_out f (v ∷ list) u m = by (f v) refl m (λ k. keep_out f list u k)
  where
    by : (b : Bool) → f v ≡ b → In (if b then v ∷ keep f list else keep f list) u → (In (keep f list) u → In list u × (f u ≡ true))
        → ((v ≡ u) ⊎ In list u) × (f u ≡ true)
    by true g m t = ⊎_elim (λ i. (inl i, ap f (sym i) ∙ g)) (λ k. let r = t k in (inr r.0, r.1)) m
    by false g m t = let r = t m in (inr r.0, r.1)

keep_length : (f : Listed → Bool) (list : List Listed) → length (keep f list) ≤ length list
unfolding keep
keep_length f [] = omega arith
keep_length f (v ∷ list) = by (f v) (keep_length f list)
  where
    by : (b : Bool) → length (keep f list) ≤ length list → length (if b then v ∷ keep f list else keep f list) ≤ suc (length list)
    by true h = omega (arith, h)
    by false h = omega (arith, h)

keep_shorter : (f : Listed → Bool) (list : List Listed) (u : Listed) → In list u → f u ≡ false → length (keep f list) < length list
unfolding keep
keep_shorter f [] u m e = absurd m
keep_shorter f (v ∷ list) u m e = by (f v) refl m (keep_length f list) (λ k. keep_shorter f list u k e)
  where
    by : (b : Bool) → f v ≡ b → (v ≡ u) ⊎ In list u → length (keep f list) ≤ length list → (In list u → length (keep f list) < length list)
        →
        length (if b then v ∷ keep f list else keep f list) < suc (length list)
    by true g (inl i) h t = absurd (true≢false (sym g ∙ ap f i ∙ e))
    by true g (inr k) h t = let s = t k in omega (arith, s)
    by false g m h t = omega (arith, h)

-- ---- the first that has a property
abbrev IsFirst : (Listed → Bool) → List Listed → Option Listed → Type 0
IsFirst f list None = (v : Listed) → In list v → f v ≡ false
IsFirst f list (Some u) = FirstHas f list u

first_is : (f : Listed → Bool) (list : List Listed) → IsFirst f list (first_of f list)
unfolding first_of
first_is f [] = λ v m. absurd m
first_is f (x ∷ list) = by (f x) refl (first_of f list) (first_is f list)
  where
    by : (b : Bool) → f x ≡ b → (o : Option Listed) → IsFirst f list o → IsFirst f (x ∷ list) (if b then Some x else o)
    by true e o h = record { before = []; behind = list; cut = refl; has = e; none = λ v m. absurd m }
    by false e None h = λ v m. ⊎_elim (λ i. ap f (sym i) ∙ e) (λ k. h v k) m
    by false e (Some u) h = record {
      before = x ∷ h.before;
      behind = h.behind;
      cut = ap (λ s. x ∷ s) h.cut;
      has = h.has;
      none = λ v m. ⊎_elim (λ i. ap f (sym i) ∙ e) (λ k. h.none v k) m;
    }

first_in : (f : Listed → Bool) (list : List Listed) (u : Listed) → FirstHas f list u → In list u
first_in f list u h = subst (λ s. In s u) (sym h.cut) (in_middle h.before u h.behind)

-- ---- the order
nothing_left : (system : Equations) (list rest : List Listed) → ((x : Listed) → In rest x → In list x)
    → ((v : Listed) → In rest v → ready system list rest v ≡ false) → rest ≡ []
nothing_left system list [] sub h = refl
nothing_left system list (x ∷ rest) sub h = let n = next_part system list (x ∷ rest) x sub (inl refl) in
    absurd (true≢false (sym n.2 ∙ h n.0 n.1))

no_length : (rest : List Listed) → length rest ≤ 0 → rest ≡ []
no_length [] l = refl
no_length (x ∷ rest) l = absurd (omega (arith, l))

-- the parts are in the stated order, and none is missing
from_in_order : (n : ℕ) (system : Equations) (list rest : List Listed) → ((x : Listed) → In rest x → In list x) → length rest ≤ n
    → InOrder system list rest (parts_from n system list rest)
unfolding parts_from part_before
from_in_order zero system list rest sub l = no_length rest l
from_in_order (suc n) system list rest sub l =
    by (first_of (ready system list rest) rest) (first_is (ready system list rest) rest) (λ next s k. from_in_order n system list next s k)
  where
    by : (o : Option Listed) → IsFirst (ready system list rest) rest o
        → ((next : List Listed) → ((x : Listed) → In next x → In list x) → length next ≤ n
        → InOrder system list next (parts_from n system list next)) →
        InOrder system list rest (part_before system list rest (parts_from n system list) o)
    by None h t = nothing_left system list rest sub h
    by (Some u) h t =
        let others = λ (v : Listed). not (together system list u v) in
        let s = keep_shorter others rest u (first_in (ready system list rest) rest u h) (ap not (together_itself system list u)) in
        (u, h, refl, t (keep others rest) (λ x m. sub x (keep_out others rest x m).0) (omega (arith, s, l)))

-- the parts of a list are in the stated order, and none is missing
pub parts_in_order : (system : Equations) (list : List Listed) → InOrder system list list (parts system list)
unfolding parts
parts_in_order system list = from_in_order (length list) system list list (λ x m. m) (omega arith)

-- ---- what the order gives
-- each unknown is in a part
order_complete : (system : Equations) (list rest : List Listed) (ps : List (List Listed)) → InOrder system list rest ps → (u : Listed)
    → In rest u → InSome ps u
order_complete system list rest [] h u m = subst (λ s. In s u) h m
order_complete system list rest (part ∷ more) h u m = ⊎_elim
    (λ e. inl (subst (λ s. In s u) (sym h.2) (keep_in (together system list h.0) rest u m e)))
    (λ e. inr (order_complete system list (keep (λ v. not (together system list h.0 v)) rest) more h.3 u
    (keep_in (λ v. not (together system list h.0 v)) rest u m (not_from_false (together system list h.0 u) e))))
    (cases_Bool (together system list h.0 u))

-- and nothing else is
order_sound : (system : Equations) (list rest : List Listed) (ps : List (List Listed)) → InOrder system list rest ps → (u : Listed)
    → InSome ps u → In rest u
order_sound system list rest [] h u m = absurd m
order_sound system list rest (part ∷ more) h u m = ⊎_elim
    (λ k. (keep_out (together system list h.0) rest u (subst (λ s. In s u) h.2 k)).0)
    (λ k. (keep_out (λ v. not (together system list h.0 v)) rest u (order_sound system list
    (keep (λ v. not (together system list h.0 v)) rest) more h.3 u k)).0)
    m

order_admissible : (system : Equations) (list placed rest : List Listed) (ps : List (List Listed)) → InOrder system list rest ps
    → ((x : Listed) → In list x → In placed x ⊎ In rest x) → Admissible system list placed ps
order_admissible system list placed rest [] h all = tt
order_admissible system list placed rest (part ∷ more) h all = (
  λ u v m n l. ⊎_elim (λ k. inr k) (λ k. inl (to u v m k l)) (all v n),
  order_admissible system list (placed ++ part) (keep (λ v. not (together system list h.0 v)) rest) more h.3
      (λ x n. ⊎_elim (λ k. inl (in_first placed part x k)) (λ k. divided x k (cases_Bool (together system list h.0 x))) (all x n)),
)
  where
    to : (u v : Listed) → In part u → In rest v → leans system u v ≡ true → In part v
    to u v m k l =
        let o = keep_out (together system list h.0) rest u (subst (λ s. In s u) h.2 m) in
        subst (λ s. In s v) (sym h.2) (keep_in (together system list h.0) rest v k
        (ready_means system list rest h.0 u v h.1.has o.0 o.1 k l))

    divided : (x : Listed) → In rest x → (together system list h.0 x ≡ true) ⊎ (together system list h.0 x ≡ false)
        → In (placed ++ part) x ⊎ In (keep (λ v. not (together system list h.0 v)) rest) x
    divided x k (inl e) = inl (in_second placed part x (subst (λ s. In s x) (sym h.2) (keep_in (together system list h.0) rest x k e)))
    divided x k (inr e) = inr (keep_in (λ v. not (together system list h.0 v)) rest x k (not_from_false (together system list h.0 x) e))

order_classes : (system : Equations) (list rest : List Listed) (ps : List (List Listed)) → InOrder system list rest ps
    → ((x : Listed) → In rest x → In list x) → AreClasses system list ps
order_classes system list rest [] h sub = tt
order_classes system list rest (part ∷ more) h sub = (
  λ u v m n. let a = member u m in let b = member v n in together_trans system list u h.0 v top (together_back system list h.0 u a.1) b.1,
  λ u v m n. apart u v (member u m) n (cases_Bool (together system list u v)),
  order_classes system list (keep (λ v. not (together system list h.0 v)) rest) more h.3
      (λ x m. sub x (keep_out (λ v. not (together system list h.0 v)) rest x m).0),
)
  where
    top : In list h.0
    top = sub h.0 (first_in (ready system list rest) rest h.0 h.1)

    member : (u : Listed) → In part u → In rest u × (together system list h.0 u ≡ true)
    member u m = keep_out (together system list h.0) rest u (subst (λ s. In s u) h.2 m)

    apart : (u v : Listed) → In rest u × (together system list h.0 u ≡ true) → InSome more v
        → (together system list u v ≡ true) ⊎ (together system list u v ≡ false) → together system list u v ≡ false
    apart u v a n (inr e) = e
    apart u v a n (inl e) =
        let o = keep_out (λ x. not (together system list h.0 x)) rest v
        (order_sound system list (keep (λ x. not (together system list h.0 x)) rest) more h.3 v n) in
        absurd (true≢false (sym (together_trans system list h.0 u v (sub u a.0) a.1 e) ∙ not-true (together system list h.0 v) o.1))

-- each unknown of the list is in a part
pub parts_complete : (system : Equations) (list : List Listed) (u : Listed) → In list u → InSome (parts system list) u
parts_complete system list u m = order_complete system list list (parts system list) (parts_in_order system list) u m

-- and each member of a part is in the list
pub parts_sound : (system : Equations) (list : List Listed) (u : Listed) → InSome (parts system list) u → In list u
parts_sound system list u m = order_sound system list list (parts system list) (parts_in_order system list) u m

-- a member of a part leans on listed unknowns of its own part and of earlier ones alone
pub parts_admissible : (system : Equations) (list : List Listed) → Admissible system list [] (parts system list)
parts_admissible system list = order_admissible system list [] list (parts system list) (parts_in_order system list) (λ x m. inr m)

-- the parts are the classes of unknowns that reach each other, each once
pub parts_classes : (system : Equations) (list : List Listed) → AreClasses system list (parts system list)
parts_classes system list = order_classes system list list (parts system list) (parts_in_order system list) (λ x m. m)
