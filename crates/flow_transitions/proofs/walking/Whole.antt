-- What is met in the tokens of a whole transition system.
use Rattle.std.proofs.Common.{◌≡◌, ◌∙◌, ◌++◌, ℕ, Bool, false, List, [], ◌∷◌, drop, Option, Some, None, refl, sym, ap, append-nil}
use Rattle.std.specs.Prelude.{codes, if◌then◌else◌}
use Rattle.lang_grammar.specs.Grammar.{a_name, right_brace, semicolon, the_end, Token, token}
use Rattle.lang_meaning.specs.Names.{place_of}
use Rattle.lang_groups.specs.Groups.{SameTogether}
use Rattle.lang_groups.specs.Kept.{kept_group}
use Rattle.lang_groups.specs.Machine.{ended, ended_together}
use Rattle.lang_groups.proofs.together.Same.{same_equal, same_trans}
use Rattle.flow_transitions.specs.declared.grouping.Walk.{Walk}
use Rattle.flow_transitions.specs.declared.grouping.turn.Turn.TheVariants.{Ends}
use Rattle.flow_transitions.specs.AutoGrammar.{Spot, Names, Head, Heads, Written, System, ReadsSystem, GoodEdges, commas_then, names_then}
use Rattle.flow_transitions.specs.AutoGrammar.{head_then, heads_then, acts_then, edge_then, edges_then, points_then}
use Rattle.flow_transitions.specs.AutoGroups.{groups_in_acts, groups_in_edges}
use Rattle.flow_transitions.specs.AutoWalk.{named, at_start, turned, walked}
use Rattle.flow_transitions.proofs.walking.Leads.{Leads, leads_nowhere, leads_on, acts_lead}

-- No comparison and no assignment has begun behind these groups.
record IsQuiet (gs : List (List ℕ)) (w : Walk) : Type 0 where
  -- the groups are these
  pub groups : w.collector.groups ≡ gs
  -- there was no sign of a comparison
  pub plain : w.collector.run.compared ≡ false
  -- there was no sign of an assignment
  pub free : w.assigned ≡ false

quiet_start : (gs : List (List ℕ)) → IsQuiet gs (at_start gs)
quiet_start gs = record { groups = refl; plain = refl; free = refl }

-- a name begins none
quiet_name : (gs : List (List ℕ)) (o : Option ℕ) (w : Walk) → IsQuiet gs w → IsQuiet gs (turned (named o) w)
quiet_name gs (Some x) w q = record { groups = q.groups; plain = q.plain; free = q.free }
quiet_name gs None w q = q

-- what ends then gives no group
quiet_ends : (gs : List (List ℕ)) (w : Walk) → IsQuiet gs w → turned Ends w ≡ at_start gs
quiet_ends gs w q =
    ap (λ (b : Bool). record { collector = if b then ended_together w.collector else ended w.collector; assigned = false }) q.free
    ∙ ap at_start (ap (λ (b : Bool). w.collector.groups
    ++ (if b then kept_group (drop w.collector.run.start w.collector.seen) else [])) q.plain
    ∙ append-nil w.collector.groups ∙ q.groups)

-- names with their signs
names_pass : (names gs : List (List ℕ)) (ss : List Spot) (x : List ℕ) (a b : ℕ) (rest : List Token) (w : Walk) → IsQuiet gs w
    → walked names (commas_then ss (token (a_name x) a ∷ token semicolon b ∷ rest)) w ≡ walked names rest (at_start gs)
names_pass names gs [] x a b rest w q =
    ap (walked names rest) (quiet_ends gs (turned (named (place_of x names)) w) (quiet_name gs (place_of x names) w q))
names_pass names gs (s ∷ ss) x a b rest w q =
    names_pass names gs ss x a b rest (turned (named (place_of s.name names)) w) (quiet_name gs (place_of s.name names) w q)

word_names_pass : (names gs : List (List ℕ)) (word : List ℕ) (ns : Names) (rest : List Token)
    → walked names (names_then ns rest) (turned (named (place_of word names)) (at_start gs)) ≡ walked names rest (at_start gs)
word_names_pass names gs word ns rest =
    names_pass names gs ns.first_ones ns.last.name ns.last.at ns.last.sign_at rest (turned (named (place_of word names)) (at_start gs))
    (quiet_name gs (place_of word names) (at_start gs) (quiet_start gs))

heads_pass : (names : List (List ℕ)) (h : Heads) (rest : List Token)
    → walked names (heads_then h rest) (at_start []) ≡ walked names rest (at_start [])
heads_pass names h rest =
    word_names_pass names [] (codes "vars") h.variables (points_then h.points_at (names_then h.points rest))
    ∙ word_names_pass names [] (codes "points") h.points rest

-- the head of an edge
head_passes : (names gs : List (List ℕ)) (h : Head) (rest : List Token)
    → walked names (head_then h rest) (at_start gs) ≡ walked names rest (at_start gs)
head_passes names gs h rest =
    let first : Walk = turned (named (place_of (codes "edge") names)) (at_start gs) in
    let second : Walk = turned (named (place_of h.source names)) first in
    let third : Walk = turned (named (place_of h.target names)) second in
    let quiet_first = quiet_name gs (place_of (codes "edge") names) (at_start gs) (quiet_start gs) in
    let quiet_second = quiet_name gs (place_of h.source names) first quiet_first in
    ap (walked names rest) (quiet_ends gs third (quiet_name gs (place_of h.target names) second quiet_second))

-- edges
edge_leads : (names : List (List ℕ)) (w : Written) (gs : List (List ℕ)) → Leads names (acts_then w.acts) gs (groups_in_acts names w.acts)
    → Leads names (edge_then w) gs (groups_in_acts names w.acts)
edge_leads names w gs h = record {
  more = h.more;
  same = h.same;
  leads = λ rest. head_passes names gs w.head (acts_then w.acts (token right_brace w.closing_at ∷ rest))
      ∙ h.leads (token right_brace w.closing_at ∷ rest);
}

edges_lead : (names : List (List ℕ)) (ws : List Written) → GoodEdges ws → (gs : List (List ℕ))
    → Leads names (edges_then ws) gs (groups_in_edges names ws)
edges_lead names [] good gs = leads_nowhere names gs
edges_lead names (w ∷ ws) good gs =
    leads_on names (edge_then w) (edges_then ws) gs (groups_in_acts names w.acts) (groups_in_edges names ws)
    (edge_leads names w gs (acts_lead names w.acts good.0 gs)) (edges_lead names ws good.1)

-- the groups that are met in the tokens of a transition system
pub system_groups : (names : List (List ℕ)) (s : System) (tokens : List Token) → ReadsSystem tokens s
    → SameTogether (walked names tokens (at_start [])).collector.groups (groups_in_edges names s.edges)
system_groups names s tokens r =
    let led = edges_lead names s.edges r.good [] in
    same_trans (same_equal (ap (λ ts. (walked names ts (at_start [])).collector.groups) (sym r.spelled)
    ∙ ap (λ (w : Walk). w.collector.groups) (heads_pass names s.heads (edges_then s.edges (token the_end r.end_at ∷ []))
    ∙ led.leads (token the_end r.end_at ∷ [])))) led.same
