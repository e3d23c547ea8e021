-- Which fault of a transition system comes first.
use Rattle.std.proofs.Common.{◌≡◌, ◌∙◌, ℕ, ◌+◌, ◌<◌, ◌≤◌, Bool, true, false, List, [], ◌∷◌, length, map, refl, sym, ap, ap₂, arith}
use Rattle.std.specs.Prelude.{Option, Some, None, cond, position, option_map, if◌then◌else◌}
use Rattle.std.specs.List.{position_from}
use Rattle.std.proofs.lemmas.Bool.{lt-ltb, le-ltb, ltb-false}
use Rattle.std.proofs.lemmas.List.{take_all}
use Rattle.std.proofs.lemmas.Iterator.Adapters.{position_from-zero}
use Rattle.flow_edges.specs.declared.edge.Edge.{Edge}
use Rattle.flow_edges.specs.Trails.{kept_edge}
use Rattle.flow_edges.proofs.Each.{Each}
use Rattle.flow_edges.specs.declared.limits.TheConstants.{KEPT}
use Rattle.flow_edges.proofs.faults.FlowLaws.{place-kept}
use Rattle.flow_transitions.specs.declared.auto_edge.AutoEdge.{AutoEdge}
use Rattle.flow_transitions.specs.declared.fault.AutoFault.{AutoFault}
use Rattle.flow_transitions.specs.declared.fault.AutoFault.TheVariants.{Edges, Actions}
use Rattle.flow_transitions.specs.Choices.{edges_of}
use Rattle.flow_transitions.specs.AutoFaults.{cases_fault, edges_fault, is_long, actions_fault, fault_or, fault_of}
use Rattle.flow_transitions.specs.declared.limits.TheConstants.{MOST_EDGES, MOST_ACTIONS}

-- ---- edges that aren't too long
abbrev pub IsShort : Edge → Type 0
IsShort e = length e.actions ≤ MOST_ACTIONS

none_first : (b : Bool) (i : ℕ) (o : Option ℕ) → cond b (Some i) o ≡ None → (b ≡ false) × (o ≡ None)
none_first true i o h = absurd cc
none_first false i o h = (refl, h)

short_from : (i : ℕ) (es : List Edge) → position_from is_long i es ≡ None → Each IsShort es
short_from i [] h = tt
short_from i (e ∷ es) h =
    let p = none_first (is_long e) i (position_from is_long (i + 1) es) h in
    (ltb-false MOST_ACTIONS (length e.actions) p.0, short_from (i + 1) es p.1)

-- where no edge has a position as one with too many actions, each is short
pub none_long : (es : List Edge) → position is_long es ≡ None → Each IsShort es
none_long es h = short_from 0 es (sym (position_from-zero is_long es) ∙ h)

whole : (es : List Edge) → Each IsShort es → map kept_edge es ≡ es
whole [] h = refl
whole (e ∷ es) h = ap₂ (λ a r. let f : Edge = record e { actions = a } in f ∷ r) (take_all KEPT e.actions (omega (arith, h.0)))
    (whole es h.1)

-- the first edge that is too long is the same when only so many actions of each edge are kept
long_place-kept : (es : List Edge) → position is_long (map kept_edge es) ≡ position is_long es
long_place-kept es = place-kept MOST_ACTIONS (omega arith) es

-- where no edge is too long nothing of them is cut off
pub nothing_cut : (es : List Edge) → position is_long (map kept_edge es) ≡ None → map kept_edge es ≡ es
nothing_cut es h = whole es (none_long es (sym (long_place-kept es) ∙ h))

-- ---- the first fault
abbrev after_cases : ℕ → List AutoEdge → Option AutoFault → Option AutoFault
after_cases points edges o = fault_or o (fault_or (edges_fault (edges_of points edges)) (actions_fault (edges_of points edges)))

abbrev after_edges : List Edge → Bool → Option AutoFault
after_edges es b = fault_or (if b then Some Edges else None) (actions_fault es)

-- the first edge with too many cases is the first fault
pub wide_first : (points : ℕ) (edges : List AutoEdge) (f : AutoFault) → cases_fault edges ≡ Some f → fault_of points edges ≡ Some f
wide_first points edges f h = ap (after_cases points edges) h

-- where no edge has too many cases, too many edges are the first fault
pub many_edges : (points : ℕ) (edges : List AutoEdge) → cases_fault edges ≡ None → MOST_EDGES < length (edges_of points edges)
    → fault_of points edges ≡ Some Edges
many_edges points edges h l = ap (after_cases points edges) h ∙ ap (after_edges (edges_of points edges))
    (lt-ltb MOST_EDGES (length (edges_of points edges)) l)

few : (points : ℕ) (edges : List AutoEdge) → cases_fault edges ≡ None → length (edges_of points edges) ≤ MOST_EDGES
    → fault_of points edges ≡ actions_fault (edges_of points edges)
few points edges h l = ap (after_cases points edges) h ∙ ap (after_edges (edges_of points edges))
    (le-ltb MOST_EDGES (length (edges_of points edges)) l)

-- where neither is so, the first edge whose kept actions are too many is the fault
pub long_edge : (points : ℕ) (edges : List AutoEdge) (k : ℕ) → cases_fault edges ≡ None → length (edges_of points edges) ≤ MOST_EDGES →
    position is_long (map kept_edge (edges_of points edges)) ≡ Some k → fault_of points edges ≡ Some (Actions k)
long_edge points edges k h l p =
    few points edges h l ∙ ap (option_map (λ e. Actions e)) (sym (long_place-kept (edges_of points edges)) ∙ p)

-- where no edge has too many cases or kept actions, and there are not too many of them, there is no fault
pub no_fault : (points : ℕ) (edges : List AutoEdge) → cases_fault edges ≡ None → length (edges_of points edges) ≤ MOST_EDGES →
    position is_long (map kept_edge (edges_of points edges)) ≡ None → fault_of points edges ≡ None
no_fault points edges h l p =
    few points edges h l ∙ ap (option_map (λ e. Actions e)) (sym (long_place-kept (edges_of points edges)) ∙ p)
