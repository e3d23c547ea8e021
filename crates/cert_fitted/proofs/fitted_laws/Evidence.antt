-- Valid evidence stands for the same one without zeros; so does a valid certificate.
use Rattle.std.proofs.Common.{◌≡◌, ◌+◌, ◌-◌, ◌++◌, ℕ, suc, eqb, Bool, true, false, List, [], ◌∷◌, length, map, refl, sym, ap, ap₂, ◌∙◌}
use Rattle.std.proofs.Common.{arith, cond, if◌then◌else◌, subst}
use Rattle.std.specs.Prelude.{ℤ, flat_map}
use Rattle.std.specs.List.{range_with_len}
use Rattle.std.proofs.lemmas.List.{map-append}
use Rattle.std.proofs.lemmas.List.Recursion.{is_count_by}
use Rattle.base_numbers.specs.Rational.{ℚ}
use Rattle.base_numbers.specs.Extended.{Ext, neg_inf, fin, pos_inf}
use Rattle.flow_edges.specs.declared.edge.Action.{Action}
use Rattle.flow_edges.specs.declared.edge.Action.TheVariants.{Guard, Assign, Havoc, Check}
use Rattle.flow_edges.specs.declared.edge.Edge.{Edge}
use Rattle.flow_systems.specs.Cells.{guard_count, is_guard}
use Rattle.flow_systems.specs.Equations.{Equations, Vector}
use Rattle.theory_validity.specs.Words.{Affine, column, columns, composed, guard_forms, guards_from, with_form}
use Rattle.theory_validity.specs.Certificates.{AllPass, Multipliers, Need, ValidCertificate, bounds_vector, into_needs, needs, needs_at}
use Rattle.cert_types.specs.Certificates.{certificate_of, evidence_of}
use Rattle.cert_types.specs.declared.cert.Cert.{Cert}
use Rattle.cert_types.specs.declared.step.Step.{Step}
use Rattle.cert_types.specs.declared.upper.Upper.{Upper}
use Rattle.cert_types.specs.declared.upper.Upper.TheVariants as evidence
use Rattle.cert_written.specs.Bare.{bare_entries, bare_upper}
use Rattle.cert_written.specs.Entries.{entries_for}
use Rattle.cert_written.specs.declared.entries.Entries.{Entries}
use Rattle.cert_written.specs.declared.upper.Upper.{Upper as WrittenUpper}
use Rattle.cert_written.specs.declared.upper.Upper.TheVariants.{Unreached, Empty, Bound}
use Rattle.cert_fitted.specs.Dense.{dense_cert, dense_upper}
use Rattle.cert_fitted.specs.Fitted.{upper_for, uppers_for}
use Rattle.cert_fitted.specs.Laws.{DenseComeBack, ValidComeBack, ValidStayTheSame}
use Rattle.cert_fitted.specs.Needed.{bound_of, guards_at, guards_into, guards_needed}
use Rattle.cert_fitted.proofs.fitted_laws.Lists.{entries_same}
use Rattle.cert_fitted.proofs.fitted_laws.Steps.{steps_back, steps_same}

-- ---- as many guards as composed ones

abbrev counted : List Action → ℕ
counted [] = 0
counted (Guard form ∷ actions) = suc (counted actions)
counted (Assign var form ∷ actions) = counted actions
counted (Havoc var ∷ actions) = counted actions
counted (Check about ∷ actions) = counted actions

as_many : (k : ℕ) (fs : List Affine) (actions : List Action) → length (guards_from k fs actions) ≡ counted actions
unfolding guards_from
as_many k fs [] = refl
as_many k fs (Guard form ∷ actions) = ap suc (as_many k fs actions)
as_many k fs (Assign var form ∷ actions) = as_many k (with_form fs var (composed form fs)) actions
as_many k fs (Havoc var ∷ actions) = as_many (suc k) (with_form fs var (column k)) actions
as_many k fs (Check about ∷ actions) = as_many k fs actions

counted_so : (actions : List Action) → counted actions ≡ guard_count actions
counted_so actions = is_count_by counted is_guard refl one actions
  where
    one : (a : Action) (actions : List Action) → counted (a ∷ actions) ≡ cond (is_guard a) (1 + counted actions) (counted actions)
    one (Guard form) actions = omega arith
    one (Assign var form) actions = refl
    one (Havoc var) actions = refl
    one (Check about) actions = refl

guards_same : (n : ℕ) (actions : List Action) → length (guard_forms n actions) ≡ guard_count actions
unfolding guard_forms
guards_same n actions = as_many n (columns n) actions ∙ counted_so actions

-- ---- the guards of what is needed

-- of one need
abbrev pub guards_of : Need → ℕ
guards_of need = guard_count need.edge.actions

into_guards : (p r k : ℕ) (edges : List Edge) → map guards_of (into_needs p r k edges) ≡ guards_into p edges
unfolding into_needs
into_guards p r k [] = refl
into_guards p r k (edge ∷ edges) = by (eqb edge.to p) (into_guards p r (suc k) edges)
  where
    by : (b : Bool) → map guards_of (into_needs p r (suc k) edges) ≡ guards_into p edges
        → map guards_of (if b then record { edge = edge; number = k; row = r } ∷ into_needs p r (suc k) edges
        else into_needs p r (suc k) edges)
        ≡ (if b then guard_count edge.actions ∷ guards_into p edges else guards_into p edges)
    by true e = ap (λ ns. guard_count edge.actions ∷ ns) e
    by false e = e

at_guards : (system : Equations) (p r : ℕ) (v : Ext) → map guards_of (needs_at system p r v) ≡ guards_at system p v
unfolding needs_at
at_guards system p r neg_inf = into_guards p r 0 system.edges
at_guards system p r (fin c) = into_guards p r 0 system.edges
at_guards system p r pos_inf = refl

flat_guards : (f : ℕ → List Need) (g : ℕ → List ℕ) (xs : List ℕ) → ((x : ℕ) → map guards_of (f x) ≡ g x)
    → map guards_of (flat_map f xs) ≡ flat_map g xs
flat_guards f g [] h = refl
flat_guards f g (x ∷ xs) h = map-append guards_of (f x) (flat_map f xs) ∙ ap₂ (λ a b. a ++ b) (h x) (flat_guards f g xs h)

-- of all needs
pub needed_guards : (system : Equations) (bounds : List Ext) → map guards_of (needs system (bounds_vector system bounds))
    ≡ guards_needed system bounds
unfolding needs bounds_vector
needed_guards system bounds =
    flat_guards _ _ (range_with_len 1 (system.points - 1)) (λ p. flat_guards _ _ (range_with_len 0 (length system.template))
    (λ r. at_guards system p r (bound_of system bounds p r)))

-- ---- evidence

module _ (system : Equations) (z : Vector) where
  abbrev rows_for_all : Entries → List ℚ
  rows_for_all e = entries_for (length system.template) e

  multipliers_same : (edge : Edge) (rows guards : Entries) (make : List ℚ → List ℚ → Upper)
      → Multipliers system z edge (rows_for_all rows) (entries_for (guard_count edge.actions) guards)
      → make (rows_for_all (bare_entries rows)) (entries_for (guard_count edge.actions) (bare_entries guards))
      ≡ make (rows_for_all rows) (entries_for (guard_count edge.actions) guards)
  multipliers_same edge rows guards make m = ap₂ make (entries_same (length system.template) rows m.row_count)
      (entries_same (guard_count edge.actions) guards (m.guard_count ∙ guards_same system.variables edge.actions))

  uppers_same : (ns : List Need) (us : List WrittenUpper)
      → AllPass system z ns (map evidence_of (uppers_for (length system.template) (map guards_of ns) us))
      → uppers_for (length system.template) (map guards_of ns) (map bare_upper us)
      ≡ uppers_for (length system.template) (map guards_of ns) us
  uppers_same [] [] h = refl
  uppers_same [] (u ∷ us) h = absurd h
  uppers_same (n ∷ ns) [] h = refl
  uppers_same (n ∷ ns) (Unreached row ∷ us) h = ap (λ (xs : List Upper). evidence.Unreached row ∷ xs) (uppers_same ns us h.1)
  uppers_same (n ∷ ns) (Empty rows guards ∷ us) h = ap₂ (λ (x : Upper) xs. x ∷ xs)
      (multipliers_same n.edge rows guards evidence.Empty h.0.multipliers) (uppers_same ns us h.1)
  uppers_same (n ∷ ns) (Bound rows guards ∷ us) h = ap₂ (λ (x : Upper) xs. x ∷ xs)
      (multipliers_same n.edge rows guards evidence.Bound h.0.multipliers) (uppers_same ns us h.1)

upper_back : (rows guards : ℕ) (u : Upper) → upper_for rows guards (dense_upper u) ≡ u
upper_back rows guards (evidence.Unreached row) = refl
upper_back rows guards (evidence.Empty r g) = refl
upper_back rows guards (evidence.Bound r g) = refl

-- evidence with all entries stands for itself
uppers_back : (rows : ℕ) (counts : List ℕ) (us : List Upper) → uppers_for rows counts (map dense_upper us) ≡ us
uppers_back rows counts [] = nothing counts
  where
    nothing : (counts : List ℕ) → uppers_for rows counts [] ≡ []
    nothing [] = refl
    nothing (count ∷ counts) = refl
uppers_back rows [] (u ∷ us) = ap₂ (λ (x : Upper) xs. x ∷ xs) (upper_back rows 0 u) (uppers_back rows [] us)
uppers_back rows (count ∷ counts) (u ∷ us) = ap₂ (λ (x : Upper) xs. x ∷ xs) (upper_back rows count u) (uppers_back rows counts us)

-- ---- certificates

abbrev made : Equations → List Ext → List Step → List Upper → Cert
made system bounds steps uppers = record { rows = system.template; bounds = bounds; steps = steps; uppers = uppers }

-- a valid certificate stands for the same one without zeros
pub valid_same : ValidStayTheSame
valid_same system written v =
    let z = bounds_vector system written.bounds in
    let counts = guards_needed system written.bounds in
    ap₂ (λ (s : List Step) (u : List Upper). made system written.bounds s u)
    (steps_same system (length system.template) _ written.steps v.steps)
    (subst (λ (ns : List ℕ). uppers_for (length system.template) ns (map bare_upper written.uppers)
    ≡ uppers_for (length system.template) ns written.uppers) (needed_guards system written.bounds)
    (uppers_same system z (needs system z) written.uppers
    (subst (λ (ns : List ℕ). AllPass system z (needs system z) (map evidence_of (uppers_for (length system.template) ns written.uppers)))
    (sym (needed_guards system written.bounds)) v.uppers)))

-- one with all entries stands for itself
pub dense_back : DenseComeBack
dense_back system c same =
    ap₂ (λ (s : List Step) (u : List Upper). made system c.bounds s u) (steps_back system c.steps)
    (uppers_back (length system.template) (guards_needed system c.bounds) c.uppers)
    ∙ ap (λ (rows : List (List ℤ)). let r : Cert = record { rows = rows; bounds = c.bounds; steps = c.steps; uppers = c.uppers } in r)
    (sym same)

-- a valid certificate that is written without zeros stands for itself
pub valid_back : ValidComeBack
valid_back system c same v =
    let back = dense_back system c same in
    valid_same system (dense_cert c)
    (subst (λ (x : Cert). ValidCertificate system (certificate_of (length system.template) x)) (sym back) v) ∙ back
