-- The passes of the growth end, and at the end no unraised unknown's transformer exceeds its bound.
use Rattle.std.proofs.Common.{◌≡◌, ◌⊎◌, inl, inr, ⊎_elim, ℕ, zero, suc, ◌+◌, ◌≤◌, List, [], ◌∷◌, ◌++◌, length, length-append, refl, sym, ap}
use Rattle.std.proofs.Common.{subst, arith}
use Rattle.std.specs.Prelude.{ℤ}
use Rattle.std.specs.Prelude.{Bool}
use Rattle.base_facts.proofs.elements.Membership.{in_left, in_right}
use Rattle.base_facts.specs.Elements.{In}
use Rattle.base_numbers.specs.Rational.{ℚ}
use Rattle.base_numbers.specs.Extended.{◌≤ᴱ◌, ◌<ᴱ◌}
use Rattle.base_numbers.proofs.extended.ExtendedLaws.{ext_le_or_lt}
use Rattle.flow_edges.specs.declared.edge.Edge.{Edge}
use Rattle.flow_systems.specs.Equations.{Equations, Vector}
use Rattle.theory_validity.specs.Steps.{Item, Step, after_step}
use Rattle.theory_validity.specs.Certificates.{after_steps}
use Rattle.theory_strategy.specs.Picks.{Pick, Transformer, value_at, Picks, IsPick}
use Rattle.theory_strategy.specs.Growth.{Evident, Sizes, Log, stay, go, continue, raise_at, pass, passes, items_of}
use Rattle.theory_strategy.proofs.growth.RaiseStep.{Raise, SameChoice, raise_is}
use Rattle.theory_strategy.proofs.growth.GrowthLaw.{Raises, items-append, led-append, raises_append}

-- what is known of raises over unknowns
pub record Logged (system : Equations) (T : Transformer) (pick : Pick) (z : Vector) (us : List Item) (log : Log) : Type 0 where
  -- the steps are raises
  pub raises : Raises system T pick z log.steps
  -- each unknown is left or was raised
  pub covers : (u : Item) → In us u → In log.left u ⊎ ((v : Item) × In (items_of log.steps) v × SameChoice v u)
  -- the unknowns that are left are among them
  pub within : (u : Item) → In log.left u → In us u
  -- as many are left or raised as there are
  pub count : length log.left + length log.steps ≡ length us

module _ (fitting : ℚ → Bool) (system : Equations) (T : Transformer) (reaches : Evident system T)
    (sizes : (z : Vector) (edge : Edge) (row : List ℤ) → Sizes system z edge row (T z edge row) (reaches z edge row)) (pick : Pick)
    (is_pick : IsPick system pick) where
  record PassDone (z : Vector) (us : List Item) (log : Log) : Type 0 where
    logged : Logged system T pick z us log
    idle : log.steps ≡ [] → (u : Item) → In log.left u → value_at system T z u ≤ᴱ z u.point u.row

  stay_done : (z : Vector) (u : Item) (us : List Item) (log : Log) → value_at system T z u ≤ᴱ z u.point u.row → PassDone z us log
      → PassDone z (u ∷ us) (stay u log)
  unfolding stay
  stay_done z u us log h d =
      record {
        logged = record {
          raises = d.logged.raises;
          covers = λ v m. ⊎_elim (λ e. inl (inl e)) (λ k. ⊎_elim (λ j. inl (inr j)) (λ j. inr j) (d.logged.covers v k)) m;
          within = λ v m. ⊎_elim (λ e. inl e) (λ k. inr (d.logged.within v k)) m;
          count = let c = d.logged.count in omega arith;
        };
        idle = λ e v m. ⊎_elim (λ f. subst (λ w. value_at system T z w ≤ᴱ z w.point w.row) f h) (λ k. d.idle e v k) m;
      }

  go_done : (z : Vector) (u : Item) (us : List Item) (s : Step) (log : Log) → (r : Raise system T pick z s) → SameChoice r.item u
      → PassDone (after_step s z) us log → PassDone z (u ∷ us) (go s log)
  unfolding go items_of
  go_done z u us s log r same d =
      record {
        logged = record {
          raises = (r, d.logged.raises);
          covers = λ v m. ⊎_elim
              (λ e. inr (
                r.item,
                in_left s.items (items_of log.steps) r.item (subst (λ l. In l r.item) (sym r.single) (inl refl)),
                subst (SameChoice r.item) e same,
              ))
              (λ k. ⊎_elim (λ j. inl j) (λ j. inr (j.0, in_right s.items (items_of log.steps) j.0 j.1, j.2)) (d.logged.covers v k)) m;
          within = λ v m. inr (d.logged.within v m);
          count = let c = d.logged.count in omega arith;
        };
        idle = λ e v m. cc;
      }

  pass_done : (us : List Item) (z : Vector) → ((u : Item) → In us u → Picks pick u) → PassDone z us (pass fitting system T reaches z us)
  unfolding pass items_of
  pass_done [] z picked = record {
    logged = record { raises = tt; covers = λ u m. absurd m; within = λ u m. m; count = omega arith };
    idle =
        λ e u m. absurd m;
  }
  pass_done (u ∷ us) z picked =
      by (pass_done us z (λ v m. picked v (inr m))) (pass_done us (after_step (raise_at fitting system T reaches z u) z)
      (λ v m. picked v (inr m))) (ext_le_or_lt (value_at system T z u) (z u.point u.row))
    where
      by : PassDone z us (pass fitting system T reaches z us) → PassDone (after_step (raise_at fitting system T reaches z u) z) us
          (pass fitting system T reaches (after_step (raise_at fitting system T reaches z u) z) us) →
          (o : (value_at system T z u ≤ᴱ z u.point u.row) ⊎ (z u.point u.row <ᴱ value_at system T z u)) →
          PassDone z (u ∷ us) (⊎_elim (λ h. stay u (pass fitting system T reaches z us))
          (λ h. go (raise_at fitting system T reaches z u) (pass fitting system T reaches
          (after_step (raise_at fitting system T reaches z u) z) us)) o)
      by a b (inl h) = stay_done z u us (pass fitting system T reaches z us) h a
      by a b (inr h) =
          let p = picked u (inl refl) in
          let r = raise_is fitting system T reaches sizes pick z u (is_pick u p) p h in
          go_done z u us (raise_at fitting system T reaches z u) (pass fitting system T reaches
          (after_step (raise_at fitting system T reaches z u) z) us) r.0 r.1 b

  -- what is known of the passes
  pub record PassesDone (z : Vector) (us : List Item) (log : Log) : Type 0 where
    -- the steps are raises over these unknowns
    pub logged : Logged system T pick z us log
    -- at the end no transformer of an unknown that is left exceeds its bound
    pub ended : (u : Item) → In log.left u → value_at system T (after_steps log.steps z) u ≤ᴱ after_steps log.steps z u.point u.row

  -- a pass and the passes after it
  joined : (z : Vector) (us : List Item) (log rest : Log) → Logged system T pick z us log
      → PassesDone (after_steps log.steps z) log.left rest →
      PassesDone z us (record { steps = log.steps ++ rest.steps; left = rest.left })
  joined z us log rest a b =
      record {
        logged = record {
          raises = raises_append system T pick log.steps rest.steps z a.raises b.logged.raises;
          covers = λ u m. ⊎_elim
              (λ k. ⊎_elim (λ j. inl j) (λ j. inr (
                j.0,
                subst (λ l. In l j.0) (sym (items-append log.steps rest.steps))
                    (in_right (items_of log.steps) (items_of rest.steps) j.0 j.1),
                j.2,
              )) (b.logged.covers u k))
              (λ j. inr (
                j.0,
                subst (λ l. In l j.0) (sym (items-append log.steps rest.steps))
                    (in_left (items_of log.steps) (items_of rest.steps) j.0 j.1),
                j.2,
              ))
              (a.covers u m);
          within = λ u m. a.within u (b.logged.within u m);
          count = let c = a.count in let e = b.logged.count in omega (arith, length-append log.steps rest.steps);
        };
        ended = λ u m. subst (λ y. value_at system T y u ≤ᴱ y u.point u.row) (sym (led-append log.steps rest.steps z)) (b.ended u m);
      }

  -- enough passes end
  pub passes_done : (n : ℕ) (us : List Item) (z : Vector) → length us ≤ n → ((u : Item) → In us u → Picks pick u)
      → PassesDone z us (passes fitting system T reaches n z us)
  unfolding passes items_of continue after_steps
  passes_done zero [] z h picked = record {
    logged = record {
      raises = tt;
      covers = λ u m. absurd m;
      within = λ u m. m;
      count =
          omega arith;
    };
    ended = λ u m. absurd m;
  }
  passes_done zero (u ∷ us) z h picked = absurd (omega arith)
  passes_done (suc n) us z h picked =
      let log = pass fitting system T reaches z us in
      let d = pass_done us z picked in
      by d (λ l. passes_done n log.left (after_steps log.steps z) l (λ u m. picked u (d.logged.within u m))) log.steps refl
    where
      by : PassDone z us (pass fitting system T reaches z us) →
          (length (pass fitting system T reaches z us).left ≤ n → PassesDone (after_steps (pass fitting system T reaches z us).steps z)
          (pass fitting system T reaches z us).left
          (passes fitting system T reaches n (after_steps (pass fitting system T reaches z us).steps z)
          (pass fitting system T reaches z us).left)) →
          (steps : List Step) → (pass fitting system T reaches z us).steps ≡ steps →
          PassesDone z us (continue steps (pass fitting system T reaches z us) z (λ y left. passes fitting system T reaches n y left))
      by d next [] e = record {
        logged = d.logged;
        ended = λ u m. subst
            (λ l. value_at system T (after_steps l z) u ≤ᴱ after_steps l z u.point u.row) (sym e) (d.idle e u m);
      }
      by d next (s ∷ ss) e =
          let c = d.logged.count in
          let f = ap length e in
          joined z us (pass fitting system T reaches z us) (passes fitting system T reaches n
          (after_steps (pass fitting system T reaches z us).steps z) (pass fitting system T reaches z us).left) d.logged
          (next (omega arith))
