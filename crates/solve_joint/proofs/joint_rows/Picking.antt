-- Lists of picked unknowns.
use Rattle.std.proofs.Common.{◌≡◌, ◌∙◌, ℕ, zero, suc, ◌+◌, ◌*◌, ◌<◌, ◌≤◌, List, [], ◌∷◌, length, get_or, ap, sym, subst, Option, None}
use Rattle.std.proofs.Common.{arith}
use Rattle.std.specs.Prelude.{IsTrue, nat_le}
use Rattle.std.proofs.lemmas.Bool.{leb-true}
use Rattle.flow_systems.specs.declared.system.System.{System}
use Rattle.flow_systems.specs.SystemLimits.{is_over}
use Rattle.flow_systems.proofs.Sizes.{both}
use Rattle.solve_joint.specs.Numbers.{Rises, IsPicked, ArePicked, edge_of}
use Rattle.flow_systems.specs.declared.limits.TheConstants.{MOST_UNKNOWNS}

-- each number of a list of picked unknowns is picked
pub picked_at : (system : System) (pick : List (Option ℕ)) (list : List ℕ) (i : ℕ) → ArePicked system pick list → i < length list
    → IsPicked system pick (get_or list i 0)
picked_at system pick [] i h l = absurd (omega (arith, l))
picked_at system pick (u ∷ list) zero h l = h.0
picked_at system pick (u ∷ list) (suc i) h l = picked_at system pick list i h.1 (omega (arith, l))

-- a rising list is no longer than the unknowns from its first on
rising_length : (system : System) (pick : List (Option ℕ)) (from : ℕ) (list : List ℕ) → Rises from list → ArePicked system pick list
    → from ≤ length system.flow.points * length system.template →
    length list + from ≤ length system.flow.points * length system.template
rising_length system pick from [] r p l = omega (arith, l)
rising_length system pick from (u ∷ list) r p l =
    let i = p.0.in_range in
    let k = rising_length system pick (u + 1) list r.1 p.1 (omega (arith, i)) in
    let a = r.0 in
    omega (arith, k, a)

-- a system has at most the greatest number of unknowns
pub system_size : (system : System) → length system.flow.points * length system.template ≤ MOST_UNKNOWNS
system_size system =
    let n = length system.flow.points * length system.template in
    leb-true n MOST_UNKNOWNS (both (is_over (length system.flow.names) system.template) (nat_le n MOST_UNKNOWNS) system.within_limits).1

-- the template of a system is over its variables
pub over : (system : System) → IsTrue (is_over (length system.flow.names) system.template)
over system = (both (is_over (length system.flow.names) system.template)
    (nat_le (length system.flow.points * length system.template) MOST_UNKNOWNS) system.within_limits).0

-- a rising list of picked unknowns is no longer than the greatest number of unknowns
pub few_listed : (system : System) (pick : List (Option ℕ)) (list : List ℕ) → Rises 0 list → ArePicked system pick list
    → length list ≤ MOST_UNKNOWNS
few_listed system pick list r p =
    let n = length system.flow.points * length system.template in
    let s = system_size system in
    let k = rising_length system pick 0 list r p (omega arith) in
    omega (arith, s, k)

-- a listed unknown has a place in the pick
pub listed_within : (system : System) (pick : List (Option ℕ)) (list : List ℕ) (i : ℕ)
    → length pick ≡ length system.flow.points * length system.template → ArePicked system pick list → i < length list
    → get_or list i 0 < length pick
listed_within system pick list i size h l = let p = picked_at system pick list i h l in omega (arith, p.in_range, size)

-- the picked edge of an unknown is one of the system
pub edge_within : (system : System) (pick : List (Option ℕ)) (u edge : ℕ) → IsPicked system pick u → edge ≡ edge_of (get_or pick u None)
    → edge < length system.flow.edges
edge_within system pick u edge p e = subst (λ j. j < length system.flow.edges) (sym (e ∙ ap edge_of p.picks)) p.is_edge

-- so is that of a listed one
pub listed_edge : (system : System) (pick : List (Option ℕ)) (list : List ℕ) (i edge : ℕ) → ArePicked system pick list → i < length list
    → edge ≡ edge_of (get_or pick (get_or list i 0) None) → edge < length system.flow.edges
listed_edge system pick list i edge h l e = edge_within system pick (get_or list i 0) edge (picked_at system pick list i h l) e
