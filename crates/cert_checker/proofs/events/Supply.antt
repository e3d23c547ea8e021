-- Evidence that is taken need by need.
use Rattle.std.proofs.Common.{◌≡◌, ◌∙◌, ⊎_elim, ℕ, suc, ◌+◌, ◌/◌, ◌%◌, ◌<◌, ◌≤◌, eqb, false, List, [], ◌∷◌, length, get_or, drop}
use Rattle.std.proofs.Common.{append-nil, sym, ap, add-one, refl}
use Rattle.std.specs.Prelude.{Option, Some, None, MatchOption}
use Rattle.std.proofs.Math.Seq.{drop-cons}
use Rattle.std.proofs.lemmas.Bool.Decides.{eqb_tells}
use Rattle.std.proofs.lemmas.List.{drop_all}
use Rattle.flow_systems.specs.declared.spot.Site.TheVariants.{Upper}
use Rattle.flow_systems.specs.Equations.{Equations, Vector}
use Rattle.theory_validity.specs.Certificates.{Evidence, Need, needs}
use Rattle.theory_validity.specs.Faults.{Fault, UpperFault}
use Rattle.cert_checker.specs.declared.fault.CheckFault.{CheckFault}
use Rattle.cert_checker.specs.declared.fault.CheckFault.TheVariants.{Upper as UpperAnswer}
use Rattle.cert_checker.specs.declared.needs.Needed.{Needed}
use Rattle.cert_checker.specs.Events.{Event, fault_answer, first_stop}
use Rattle.cert_checker.specs.EvidenceEvents.{evidence_events}
use Rattle.cert_checker.specs.CheckEvents.{number_of, uppers_events}
use Rattle.cert_checker.specs.Needs.{IsNext, need_of, needs_left}
use Rattle.cert_checker.proofs.following.Traces.{stop_sooner, stop_later}
use Rattle.cert_checker.proofs.events.Numbers.{number_is}

-- what a test of equal numbers tells
pub eqb_no : (a b : ℕ) → ¬ (a ≡ b) → eqb a b ≡ false
eqb_no a b n = ⊎_elim (λ h. absurd (n h.1)) (λ h. h.0) (eqb_tells a b)

-- what an answer about evidence tells
pub told_passes : (events : List Event) (fault : Fault) (o : Option (Unit {0})) (u : Unit {0}) → o ≡ Some u
    → MatchOption o (first_stop events ≡ Some (fault_answer fault)) (λ r. Unit {0} × (first_stop events ≡ None)) → first_stop events ≡ None
told_passes events fault None u e h = cc
told_passes events fault (Some v) u e h = h.1

-- where an answer about evidence is none, the fault stops
pub told_fails : (events : List Event) (fault : Fault) (o : Option (Unit {0})) → o ≡ None
    → MatchOption o (first_stop events ≡ Some (fault_answer fault)) (λ r. Unit {0} × (first_stop events ≡ None))
    → first_stop events ≡ Some (fault_answer fault)
told_fails events fault None e h = h
told_fails events fault (Some v) e h = cc

module _ (system : Equations) (z : Vector) where
  abbrev given : Need → Evidence → List Event
  given need e = evidence_events (Upper (number_of system need.edge.to need.row) need.number)
      (UpperFault (number_of system need.edge.to need.row) need.number) system z need.edge (get_or system.template need.row [])
      (z need.edge.to need.row) e

  one : (need : Need) (e : Evidence) → uppers_events system z (need ∷ []) (e ∷ []) ≡ given need e
  unfolding uppers_events
  one need e = append-nil (given need e)

  -- where nothing is needed, nothing stops
  pub uppers_none : (es : List Evidence) → first_stop (uppers_events system z [] es) ≡ None
  unfolding uppers_events first_stop
  uppers_none es = refl

  -- where nothing stops at the first need, the rest decides
  pub uppers_later : (need : Need) (needs : List Need) (e : Evidence) (es : List Evidence)
      → first_stop (uppers_events system z (need ∷ []) (e ∷ [])) ≡ None
      → first_stop (uppers_events system z (need ∷ needs) (e ∷ es)) ≡ first_stop (uppers_events system z needs es)
  unfolding uppers_events
  uppers_later need needs e es h =
      stop_later (given need e) (uppers_events system z needs es) (sym (ap first_stop (one need e)) ∙ h)

  -- what stops at the first need
  pub uppers_sooner : (need : Need) (needs : List Need) (e : Evidence) (es : List Evidence) (f : CheckFault)
      → first_stop (uppers_events system z (need ∷ []) (e ∷ [])) ≡ Some f
      → first_stop (uppers_events system z (need ∷ needs) (e ∷ es)) ≡ Some f
  unfolding uppers_events
  uppers_sooner need needs e es f h =
      stop_sooner (given need e) (uppers_events system z needs es) f (sym (ap first_stop (one need e)) ∙ h)

  -- ---- the need of an unknown and an edge
  module _ (needed : Needed) (to : (need_of system needed).edge.to ≡ needed.unknown / length system.template) where
    number : number_of system (need_of system needed).edge.to (needed.unknown % length system.template) ≡ needed.unknown
    number = ap (λ p. number_of system p (needed.unknown % length system.template)) to ∙ number_is needed.unknown (length system.template)

    -- without evidence
    pub one_absent : (needs : List Need) → first_stop (uppers_events system z (need_of system needed ∷ needs) [])
        ≡ Some (UpperAnswer needed.unknown needed.edge)
    unfolding uppers_events first_stop
    one_absent needs = ap (λ n. Some (UpperAnswer n needed.edge)) number

    -- with a piece
    pub one_given : (e : Evidence) → first_stop (uppers_events system z (need_of system needed ∷ []) (e ∷ []))
        ≡ first_stop (evidence_events (Upper needed.unknown needed.edge) (UpperFault needed.unknown needed.edge) system z
        (need_of system needed).edge (get_or system.template (needed.unknown % length system.template) [])
        (z (needed.unknown / length system.template) (needed.unknown % length system.template)) e)
    one_given e =
        let r = needed.unknown % length system.template in
        let row = get_or system.template r [] in
        let edge = (need_of system needed).edge in
        ap first_stop (one (need_of system needed) e)
        ∙ ap (λ n. first_stop (evidence_events (Upper n needed.edge) (UpperFault n needed.edge) system z edge row (z edge.to r) e)) number
        ∙ ap (λ p. first_stop (evidence_events (Upper needed.unknown needed.edge) (UpperFault needed.unknown needed.edge) system z edge row
        (z p r) e)) to

  -- ---- piece by piece
  module _ (es : List Evidence) where
    -- what is left from a place on, where so many pieces have been taken
    abbrev pub UppersLeft : Needed → ℕ → Type 0
    UppersLeft from i = first_stop (uppers_events system z (needs system z) es)
        ≡ first_stop (uppers_events system z (needs_left system z from) (drop i es))

    module _ (from : Needed) (i : ℕ) (h : UppersLeft from i) where
      -- where no more is needed, nothing stops
      pub uppers_enough : needs_left system z from ≡ [] → first_stop (uppers_events system z (needs system z) es) ≡ None
      uppers_enough e = h ∙ ap (λ ns. first_stop (uppers_events system z ns (drop i es))) e ∙ uppers_none (drop i es)

      -- where no more is there, what is needed decides
      pub uppers_out : length es ≤ i → first_stop (uppers_events system z (needs system z) es)
          ≡ first_stop (uppers_events system z (needs_left system z from) [])
      uppers_out l = h ∙ ap (λ r. first_stop (uppers_events system z (needs_left system z from) r)) (drop_all i es l)

      module _ (needed : Needed) (next : IsNext system z from needed) (e : Evidence) (l : i < length es) (is : e ≡ get_or es i e) where
        after : Needed
        after = record { unknown = needed.unknown; edge = needed.edge + 1 }

        both : first_stop (uppers_events system z (needs system z) es)
            ≡ first_stop (uppers_events system z (need_of system needed ∷ needs_left system z after) (e ∷ drop (suc i) es))
        unfolding after
        both = h ∙ ap (λ ns. first_stop (uppers_events system z ns (drop i es))) next.left
            ∙ ap (λ r. first_stop (uppers_events system z (need_of system needed ∷ needs_left system z after) r))
            (drop-cons es i e l ∙ ap (λ x. x ∷ drop (suc i) es) (sym is))

        -- where nothing stops at the next piece, the rest is left
        pub uppers_more : first_stop (uppers_events system z (need_of system needed ∷ []) (e ∷ [])) ≡ None
            → UppersLeft (record { unknown = needed.unknown; edge = needed.edge + 1 }) (i + 1)
        unfolding after
        uppers_more n = both ∙ uppers_later (need_of system needed) (needs_left system z after) e (drop (suc i) es) n
            ∙ ap (λ j. first_stop (uppers_events system z (needs_left system z after) (drop j es))) (sym (add-one i))

        -- where something stops at it, all the evidence stops there
        pub uppers_stop : (f : CheckFault) → first_stop (uppers_events system z (need_of system needed ∷ []) (e ∷ [])) ≡ Some f
            → first_stop (uppers_events system z (needs system z) es) ≡ Some f
        uppers_stop f n = both ∙ uppers_sooner (need_of system needed) (needs_left system z after) e (drop (suc i) es) f n
