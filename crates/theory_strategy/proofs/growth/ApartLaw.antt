-- The growth raises no unknown twice.
use Rattle.std.proofs.Common.{◌≡◌, ◌∙◌, ◌⊎◌, inl, inr, ⊎_elim, ℕ, zero, suc, ◌+◌, ◌<◌, ◌≤◌, List, [], ◌∷◌, ◌++◌, length, refl, sym, ap}
use Rattle.std.proofs.Common.{subst, subst₂, arith}
use Rattle.std.specs.Prelude.{ℤ, Bool, Option, Some, None, flat_map}
use Rattle.std.specs.List.{range_with_len}
use Rattle.base_facts.proofs.elements.Membership.{of_append, of_flat_map}
use Rattle.base_facts.specs.Elements.{In}
use Rattle.base_numbers.specs.Rational.{ℚ}
use Rattle.base_numbers.specs.Extended.{◌≤ᴱ◌, ◌<ᴱ◌}
use Rattle.base_numbers.proofs.extended.ExtendedLaws.{ext_le_or_lt}
use Rattle.flow_edges.specs.declared.edge.Edge.{Edge}
use Rattle.flow_systems.specs.Equations.{Equations, Vector}
use Rattle.theory_validity.specs.Steps.{Item, Step, after_step, Unnamed, Distinct}
use Rattle.theory_validity.specs.Certificates.{after_steps}
use Rattle.theory_validity.proofs.steps.Puts.{not_unnamed}
use Rattle.theory_strategy.specs.Picks.{Pick, Transformer, value_at, Picks, IsPick, choice, choice_at, choices}
use Rattle.theory_strategy.specs.Growth.{Evident, Sizes, Log, stay, go, continue, raise_at, pass, passes, items_of}
use Rattle.theory_strategy.proofs.growth.RaiseStep.{Raise, SameChoice, raise_is}
use Rattle.theory_strategy.proofs.growth.GrowthLaw.{items-append}
use Rattle.theory_strategy.proofs.round.TurnLaw.{unnamed_by_all}

-- ---- distinct lists
unnamed_both : (xs ys : List Item) (p r : ℕ) → Unnamed xs p r → Unnamed ys p r → Unnamed (xs ++ ys) p r
unnamed_both [] ys p r a b = b
unnamed_both (x ∷ xs) ys p r a b = (a.0, unnamed_both xs ys p r a.1 b)

-- distinct lists that name no unknown of one another
pub distinct_append : (xs ys : List Item) → Distinct xs → Distinct ys → ((x : Item) → In xs x → Unnamed ys x.point x.row)
    → Distinct (xs ++ ys)
distinct_append [] ys a b apart = b
distinct_append (x ∷ xs) ys a b apart = (
  unnamed_both xs ys x.point x.row a.0 (apart x (inl refl)),
  distinct_append xs ys a.1 b (λ y m. apart y (inr m)),
)

Increasing : List ℕ → Type 0
Increasing [] = Unit {0}
Increasing (x ∷ xs) = ((y : ℕ) → In xs y → x < y) × Increasing xs

range_above : (a n y : ℕ) → In (range_with_len a n) y → a ≤ y
range_above a zero y m = absurd m
range_above a (suc n) y m = ⊎_elim (λ e. omega arith) (λ k. let h = range_above (a + 1) n y k in omega arith) m

range_increasing : (a n : ℕ) → Increasing (range_with_len a n)
unfolding Increasing
range_increasing a zero = tt
range_increasing a (suc n) = ((λ y m. let h = range_above (a + 1) n y m in omega arith), range_increasing (a + 1) n)

-- lists whose members differ in a key that increases
distinct_flat : (f : ℕ → List Item) (key : Item → ℕ) (xs : List ℕ) → Increasing xs → ((k : ℕ) → Distinct (f k))
    → ((k : ℕ) (u : Item) → In (f k) u → key u ≡ k) →
    ((u v : Item) → u.point ≡ v.point → u.row ≡ v.row → key u ≡ key v) → Distinct (flat_map f xs)
unfolding Increasing
distinct_flat f key [] h each at respects = tt
distinct_flat f key (x ∷ xs) h each at respects =
    distinct_append (f x) (flat_map f xs) (each x) (distinct_flat f key xs h.1 each at respects)
    (λ u m. unnamed_by_all (flat_map f xs) u.point u.row (λ v k e g.
    let y = of_flat_map f xs v k in
    let l = h.0 y.0 y.1 in
    let same = sym (at x u m) ∙ respects u v (sym e) (sym g) ∙ at y.0 v y.2 in
    absurd (omega arith)))

choice_at_is : (p r : ℕ) (o : Option ℕ) (u : Item) → In (choice_at p r o) u → (u.point ≡ p) × (u.row ≡ r)
unfolding choice_at choice
choice_at_is p r None u m = absurd m
choice_at_is p r (Some k) u m = ⊎_elim (λ e. (sym (ap (λ i. i.point) e), sym (ap (λ i. i.row) e))) (λ j. absurd j) m

choice_at_distinct : (p r : ℕ) (o : Option ℕ) → Distinct (choice_at p r o)
unfolding choice_at
choice_at_distinct p r None = tt
choice_at_distinct p r (Some k) = (tt, tt)

-- a pick's choices are distinct
pub choices_distinct : (system : Equations) (pick : Pick) → Distinct (choices system pick)
unfolding choices
choices_distinct system pick =
    distinct_flat (λ p. flat_map (λ r. choice_at p r (pick p r)) (range_with_len 0 (length system.template))) (λ u. u.point)
    (range_with_len 0 system.points) (range_increasing 0 system.points)
    (λ p. distinct_flat (λ r. choice_at p r (pick p r)) (λ u. u.row) (range_with_len 0 (length system.template))
    (range_increasing 0 (length system.template))
    (λ r. choice_at_distinct p r (pick p r)) (λ r u m. (choice_at_is p r (pick p r) u m).1) (λ u v e g. g))
    (λ p u m. let y = of_flat_map (λ r. choice_at p r (pick p r)) (range_with_len 0 (length system.template)) u m in
    (choice_at_is p y.0 (pick p y.0) u y.2).0)
    (λ u v e g. e)

-- ---- the log's unknowns
-- the items come from the list, are distinct, and none is left
pub record Apart (us : List Item) (log : Log) : Type 0 where
  -- each item of the log's steps is for an unknown and edge of the list
  pub from : (v : Item) → In (items_of log.steps) v → (u : Item) × In us u × SameChoice v u
  -- no two items are for one unknown
  pub distinct : Distinct (items_of log.steps)
  -- the unknowns that are left are of the list
  pub within : (u : Item) → In log.left u → In us u
  -- no unknown is left twice
  pub left_distinct : Distinct log.left
  -- no unknown that is left was raised
  pub left_apart : (u : Item) → In log.left u → Unnamed (items_of log.steps) u.point u.row

-- what a list doesn't name, items from it don't
items_unnamed : (us : List Item) (log : Log) → Apart us log → (p r : ℕ) → Unnamed us p r → Unnamed (items_of log.steps) p r
items_unnamed us log a p r n = unnamed_by_all (items_of log.steps) p r (λ v m e f.
    let u = a.from v m in not_unnamed us u.0 u.1 (subst₂ (λ s t. Unnamed us s t) (sym (sym u.2.point ∙ e)) (sym (sym u.2.row ∙ f)) n))

left_unnamed : (us : List Item) (log : Log) → Apart us log → (p r : ℕ) → Unnamed us p r → Unnamed log.left p r
left_unnamed us log a p r n = unnamed_by_all log.left p r (λ v m e f. not_unnamed us v (a.within v m)
    (subst₂ (λ s t. Unnamed us s t) (sym e) (sym f) n))

module _ (fitting : ℚ → Bool) (system : Equations) (T : Transformer) (reaches : Evident system T)
    (sizes : (z : Vector) (edge : Edge) (row : List ℤ) → Sizes system z edge row (T z edge row) (reaches z edge row)) (pick : Pick)
    (is_pick : IsPick system pick) where
  stay_apart : (u : Item) (us : List Item) (log : Log) → Unnamed us u.point u.row → Apart us log → Apart (u ∷ us) (stay u log)
  unfolding stay
  stay_apart u us log n a =
      record {
        from = λ v m. let w = a.from v m in (w.0, inr w.1, w.2);
        distinct = a.distinct;
        within = λ v m. ⊎_elim (λ e. inl e) (λ k. inr (a.within v k)) m;
        left_distinct = (left_unnamed us log a u.point u.row n, a.left_distinct);
        left_apart = λ v m. ⊎_elim (λ e. subst (λ w. Unnamed (items_of log.steps) w.point w.row) e (items_unnamed us log a u.point u.row n))
            (λ k. a.left_apart v k) m;
      }

  go_apart : (z : Vector) (u : Item) (us : List Item) (s : Step) (log : Log) → (r : Raise system T pick z s) → SameChoice r.item u
      → Unnamed us u.point u.row → Apart us log → Apart (u ∷ us) (go s log)
  unfolding go items_of
  go_apart z u us s log r same n a =
      record {
        from = λ v m. ⊎_elim (λ k. one v (subst (λ l. In l v) r.single k)) (λ k. let w = a.from v k in (w.0, inr w.1, w.2))
            (of_append s.items (items_of log.steps) v m);
        distinct = subst (λ l. Distinct (l ++ items_of log.steps)) (sym r.single) (
          subst₂ (λ p q. Unnamed (items_of log.steps) p q) (sym same.point) (sym same.row) (items_unnamed us log a u.point u.row n),
          a.distinct,
        );
        within = λ v m. inr (a.within v m);
        left_distinct = a.left_distinct;
        left_apart = λ v m. subst (λ l. Unnamed (l ++ items_of log.steps) v.point v.row) (sym r.single)
            (unnamed_both (r.item ∷ []) (items_of log.steps) v.point v.row
            (unnamed_by_all (r.item ∷ []) v.point v.row (λ w k e f. other v m w k e f)) (a.left_apart v m));
      }
    where
      one : (v : Item) → In (r.item ∷ []) v → (w : Item) × In (u ∷ us) w × SameChoice v w
      one v (inl e) = (u, inl refl, subst (λ i. SameChoice i u) e same)
      one v (inr k) = absurd k

      other : (v : Item) → In log.left v → (w : Item) → In (r.item ∷ []) w → w.point ≡ v.point → w.row ≡ v.row → ⊥
      other v m w (inl g) e f =
          not_unnamed us v (a.within v m) (subst₂ (λ p q. Unnamed us p q) (sym same.point ∙ ap (λ i. i.point) g ∙ e)
          (sym same.row ∙ ap (λ i. i.row) g ∙ f) n)
      other v m w (inr k) e f = absurd k

  pass_apart : (us : List Item) (z : Vector) → ((u : Item) → In us u → Picks pick u) → Distinct us
      → Apart us (pass fitting system T reaches z us)
  unfolding pass items_of
  pass_apart [] z picked d = record {
    from = λ v m. absurd m;
    distinct = tt;
    within = λ v m. m;
    left_distinct = tt;
    left_apart =
        λ v m. absurd m;
  }
  pass_apart (u ∷ us) z picked d =
      by (pass_apart us z (λ v m. picked v (inr m)) d.1) (pass_apart us (after_step (raise_at fitting system T reaches z u) z)
      (λ v m. picked v (inr m)) d.1) (ext_le_or_lt (value_at system T z u) (z u.point u.row))
    where
      by : Apart us (pass fitting system T reaches z us) → Apart us (pass fitting system T reaches
          (after_step (raise_at fitting system T reaches z u) z) us) →
          (o : (value_at system T z u ≤ᴱ z u.point u.row) ⊎ (z u.point u.row <ᴱ value_at system T z u)) →
          Apart (u ∷ us) (⊎_elim (λ h. stay u (pass fitting system T reaches z us))
          (λ h. go (raise_at fitting system T reaches z u) (pass fitting system T reaches
          (after_step (raise_at fitting system T reaches z u) z) us)) o)
      by a b (inl h) = stay_apart u us (pass fitting system T reaches z us) d.0 a
      by a b (inr h) =
          let p = picked u (inl refl) in
          let r = raise_is fitting system T reaches sizes pick z u (is_pick u p) p h in
          go_apart z u us (raise_at fitting system T reaches z u) (pass fitting system T reaches
          (after_step (raise_at fitting system T reaches z u) z) us) r.0 r.1 d.0 b

  join_apart : (us : List Item) (log rest : Log) → Apart us log → Apart log.left rest
      → Apart us (record { steps = log.steps ++ rest.steps; left = rest.left })
  join_apart us log rest a b =
      record {
        from = λ v m. ⊎_elim (λ k. a.from v k) (λ k. let w = b.from v k in (w.0, a.within w.0 w.1, w.2))
            (of_append (items_of log.steps) (items_of rest.steps) v (subst (λ l. In l v) (items-append log.steps rest.steps) m));
        distinct = subst Distinct (sym (items-append log.steps rest.steps))
            (distinct_append (items_of log.steps) (items_of rest.steps) a.distinct b.distinct
            (λ v m. unnamed_by_all (items_of rest.steps) v.point v.row (λ w k e f.
            let x = b.from w k in
            not_unnamed (items_of log.steps) v m (subst₂ (λ p q. Unnamed (items_of log.steps) p q) (sym x.2.point ∙ e) (sym x.2.row ∙ f)
            (a.left_apart x.0 x.1)))));
        within = λ v m. a.within v (b.within v m);
        left_distinct = b.left_distinct;
        left_apart = λ v m. subst (λ l. Unnamed l v.point v.row) (sym (items-append log.steps rest.steps))
            (unnamed_both (items_of log.steps) (items_of rest.steps) v.point v.row (a.left_apart v (b.within v m)) (b.left_apart v m));
      }

  -- the passes raise no unknown twice
  pub passes_apart : (n : ℕ) (us : List Item) (z : Vector) → ((u : Item) → In us u → Picks pick u) → Distinct us
      → Apart us (passes fitting system T reaches n z us)
  unfolding passes items_of continue
  passes_apart zero us z picked d = record {
    from = λ v m. absurd m;
    distinct = tt;
    within = λ v m. m;
    left_distinct = d;
    left_apart =
        λ v m. tt;
  }
  passes_apart (suc n) us z picked d =
      let log = pass fitting system T reaches z us in
      let a = pass_apart us z picked d in
      by a (passes_apart n log.left (after_steps log.steps z) (λ u m. picked u (a.within u m)) a.left_distinct) log.steps
    where
      by : Apart us (pass fitting system T reaches z us) → Apart (pass fitting system T reaches z us).left
          (passes fitting system T reaches n (after_steps (pass fitting system T reaches z us).steps z)
          (pass fitting system T reaches z us).left) →
          (steps : List Step) → Apart us (continue steps (pass fitting system T reaches z us) z
          (λ y left. passes fitting system T reaches n y left))
      by a b [] = a
      by a b (s ∷ ss) = join_apart us (pass fitting system T reaches z us)
          (passes fitting system T reaches n (after_steps (pass fitting system T reaches z us).steps z)
          (pass fitting system T reaches z us).left) a b
