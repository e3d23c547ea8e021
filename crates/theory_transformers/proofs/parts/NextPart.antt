-- There is always a next part: among unknowns not yet placed some unknown's part leans on no other.
use Rattle.std.proofs.Common.{◌≡◌, ◌∙◌, ◌⊎◌, inl, inr, ⊎_elim, ℕ, zero, suc, ◌<◌, ◌≤◌, ◌&&◌, ◌||◌, not, Bool, true, false, true≢false, List}
use Rattle.std.proofs.Common.{[], ◌∷◌, refl, sym, ap, subst, arith, if◌then◌else◌}
use Rattle.std.proofs.lemmas.Bool.{and_parts, and_from, cases_Bool}
use Rattle.base_facts.specs.Elements.{In}
use Rattle.flow_systems.specs.Equations.{Equations}
use Rattle.theory_transformers.specs.JointProblems.{Listed}
use Rattle.theory_transformers.specs.Parts.{leans, reaches, together, all_in, ready}
use Rattle.theory_transformers.proofs.parts.Reaching.{reach_itself, reach_leans, reach_trans}

-- ---- all of a list
-- a test that passes on a whole list passes at each member
pub all_at : (f : Listed → Bool) (list : List Listed) (u : Listed) → all_in f list ≡ true → In list u → f u ≡ true
unfolding all_in
all_at f [] u e m = absurd m
all_at f (v ∷ list) u e m = let h = and_parts (f v) (all_in f list) e in
    ⊎_elim (λ i. subst (λ s. f s ≡ true) i h.0) (λ k. all_at f list u h.1 k) m

some_not : (f : Listed → Bool) (list : List Listed) → all_in f list ≡ false → (u : Listed) × In list u × (f u ≡ false)
unfolding all_in
some_not f [] e = absurd (true≢false e)
some_not f (v ∷ list) e = by (f v) refl e (λ h. some_not f list h)
  where
    by : (b : Bool) → f v ≡ b → b && all_in f list ≡ false → (all_in f list ≡ false → (u : Listed) × In list u × (f u ≡ false))
        → (u : Listed) × In (v ∷ list) u × (f u ≡ false)
    by true g h k = let r = k h in (r.0, inr r.1, r.2)
    by false g h k = (v, inl refl, g)

implied : (a b : Bool) → not a || b ≡ true → a ≡ true → b ≡ true
implied true b e f = e
implied false b e f = absurd (true≢false (sym f))

not_implied : (a b : Bool) → not a || b ≡ false → (a ≡ true) × (b ≡ false)
not_implied true b e = (refl, e)
not_implied false b e = absurd (true≢false e)

-- ---- counting
unfoldable count : (Listed → Bool) → List Listed → ℕ
count f [] = 0
count f (u ∷ list) = if f u then suc (count f list) else count f list

count_le : (f g : Listed → Bool) (list : List Listed) → ((u : Listed) → In list u → f u ≡ true → g u ≡ true) → count f list ≤ count g list
unfolding count
count_le f g [] h = omega arith
count_le f g (u ∷ list) h = by (f u) (g u) (h u (inl refl)) (count_le f g list (λ v m. h v (inr m)))
  where
    by : (a b : Bool) → (a ≡ true → b ≡ true) → count f list ≤ count g list
        → (if a then suc (count f list) else count f list) ≤ (if b then suc (count g list) else count g list)
    by true true i k = omega (arith, k)
    by true false i k = absurd (true≢false (sym (i refl)))
    by false true i k = omega (arith, k)
    by false false i k = k

count_lt : (f g : Listed → Bool) (list : List Listed) (u : Listed) → ((v : Listed) → In list v → f v ≡ true → g v ≡ true) → In list u
    → f u ≡ false → g u ≡ true → count f list < count g list
unfolding count
count_lt f g [] u h m e k = absurd m
count_lt f g (v ∷ list) u h m e k = by (f v) (g v) refl refl (h v (inl refl)) m (count_le f g list (λ w n. h w (inr n)))
    (λ n. count_lt f g list u (λ w o. h w (inr o)) n e k)
  where
    by : (a b : Bool) → f v ≡ a → g v ≡ b → (a ≡ true → b ≡ true) → (v ≡ u) ⊎ In list u → count f list ≤ count g list
        → (In list u → count f list < count g list) →
        (if a then suc (count f list) else count f list) < (if b then suc (count g list) else count g list)
    by true b p q i (inl j) l t = absurd (true≢false (sym p ∙ ap f j ∙ e))
    by true true p q i (inr n) l t = let s = t n in omega (arith, s)
    by true false p q i (inr n) l t = absurd (true≢false (sym (i refl)))
    by false true p q i j l t = omega (arith, l)
    by false false p q i (inl j) l t = absurd (true≢false (sym k ∙ ap g (sym j) ∙ q))
    by false false p q i (inr n) l t = t n

-- ---- together
-- an unknown is in its own part
pub together_itself : (system : Equations) (list : List Listed) (u : Listed) → together system list u u ≡ true
unfolding together
together_itself system list u = and_from (reaches system list u u) (reaches system list u u) (reach_itself system list u)
    (reach_itself system list u)

-- being in one part is symmetric
pub together_back : (system : Equations) (list : List Listed) (u v : Listed) → together system list u v ≡ true
    → together system list v u ≡ true
unfolding together
together_back system list u v e = let h = and_parts (reaches system list u v) (reaches system list v u) e in
    and_from (reaches system list v u) (reaches system list u v) h.1 h.0

-- being in one part is transitive at members of the list
pub together_trans : (system : Equations) (list : List Listed) (u w v : Listed) → In list w → together system list u w ≡ true
    → together system list w v ≡ true → together system list u v ≡ true
unfolding together
together_trans system list u w v m e f =
    let h = and_parts (reaches system list u w) (reaches system list w u) e in
    let i = and_parts (reaches system list w v) (reaches system list v w) f in
    and_from (reaches system list u v) (reaches system list v u) (reach_trans system list u w v m h.0 i.0)
    (reach_trans system list v w u m i.1 h.1)

-- ---- what being ready means
-- where an unknown's part is ready, its members lean on no unplaced unknown outside it
pub ready_means : (system : Equations) (list rest : List Listed) (u v w : Listed) → ready system list rest u ≡ true → In rest v
    → together system list u v ≡ true → In rest w → leans system v w ≡ true →
    together system list u w ≡ true
unfolding ready
ready_means system list rest u v w e m t n l =
    implied (leans system v w) (together system list u w)
    (all_at (λ w. not (leans system v w) || together system list u w) rest w
    (implied (together system list u v) (all_in (λ w. not (leans system v w) || together system list u w) rest)
    (all_at (λ v. not (together system list u v) || all_in (λ w. not (leans system v w) || together system list u w) rest) rest v e m) t) n)
    l

not_ready : (system : Equations) (list rest : List Listed) (u : Listed) → ready system list rest u ≡ false →
    (v : Listed) × (w : Listed) × In rest v × (together system list u v ≡ true) × In rest w × (leans system v w ≡ true)
    × (together system list u w ≡ false)
unfolding ready
not_ready system list rest u e =
    let a = some_not (λ v. not (together system list u v) || all_in (λ w. not (leans system v w) || together system list u w) rest) rest
    e in
    let b = not_implied (together system list u a.0) (all_in (λ w. not (leans system a.0 w) || together system list u w) rest) a.2 in
    let c = some_not (λ w. not (leans system a.0 w) || together system list u w) rest b.1 in
    let d = not_implied (leans system a.0 c.0) (together system list u c.0) c.2 in
    (a.0, c.0, a.1, b.0, c.1, d.0, d.1)

-- an unknown on which another's part leans, in another part, reaches fewer
fewer : (system : Equations) (list : List Listed) (u v w : Listed) → In list u → In list v → In list w → together system list u v ≡ true
    → leans system v w ≡ true → together system list u w ≡ false →
    count (reaches system list w) list < count (reaches system list u) list
unfolding together
fewer system list u v w mu mv mw t l n =
    let uv = (and_parts (reaches system list u v) (reaches system list v u) t).0 in
    let uw = reach_trans system list u v w mv uv (reach_leans system list v w l) in
    count_lt (reaches system list w) (reaches system list u) list u (λ x m e. reach_trans system list u w x mw uw e) mu
    (back uw (cases_Bool (reaches system list w u))) (reach_itself system list u)
  where
    back : reaches system list u w ≡ true → (reaches system list w u ≡ true) ⊎ (reaches system list w u ≡ false)
        → reaches system list w u ≡ false
    back uw (inl e) = absurd (true≢false (sym (and_from (reaches system list u w) (reaches system list w u) uw e) ∙ n))
    back uw (inr e) = e

ready_within : (k : ℕ) (system : Equations) (list rest : List Listed) (u : Listed) → ((x : Listed) → In rest x → In list x) → In rest u
    → count (reaches system list u) list < k →
    (x : Listed) × In rest x × (ready system list rest x ≡ true)
ready_within zero system list rest u sub m l = absurd (omega arith)
ready_within (suc k) system list rest u sub m l = ⊎_elim
    (λ e. (u, m, e))
    (λ e.
    let n = not_ready system list rest u e in
    let f = fewer system list u n.0 n.1 (sub u m) (sub n.0 n.2) (sub n.1 n.4) n.3 n.5 n.6 in
    ready_within k system list rest n.1 sub n.4 (omega (arith, f, l)))
    (cases_Bool (ready system list rest u))

-- where unknowns are left, the part of one of them may come next
pub next_part : (system : Equations) (list rest : List Listed) (u : Listed) → ((x : Listed) → In rest x → In list x) → In rest u
    → (x : Listed) × In rest x × (ready system list rest x ≡ true)
next_part system list rest u sub m = ready_within (suc (count (reaches system list u) list)) system list rest u sub m (omega arith)
