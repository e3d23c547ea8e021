-- The reading along the names of variables and points.
use Rattle.std.proofs.Common.{◌≡◌, ◌∙◌, ◌+◌, ◌++◌, ◌<◌, ◌≤◌, ℕ, Bool, true, false, List, [], ◌∷◌, length, map, None, Ok}
use Rattle.std.proofs.Common.{refl, sym, ap, subst, arith, append_assoc}
use Rattle.std.proofs.lemmas.Bool.{ltb-false, leb-false}
use Rattle.std.proofs.lemmas.List.{append-nil, length-append, length-map}
use Rattle.std.specs.Prelude.{codes, nat_lt, nat_le}
use Rattle.lang_tokens.specs.declared.token.Token as lex_token
use Rattle.lang_tokens.specs.Lines.{line_at}
use Rattle.lang_grammar.specs.Grammar.{a_name, comma, semicolon, Token, token}
use Rattle.flow_transitions.specs.declared.limits.TheConstants.{MOST_VARIABLES}
use Rattle.flow_transitions.specs.declared.limits.TheConstants.{MOST_POINTS}
use Rattle.lang_meaning.specs.Names.{place_of}
use Rattle.flow_transitions.specs.declared.reading.point_name.PointName.{PointName}
use Rattle.flow_transitions.specs.AutoReading.{Progress, progress, start, Stepped, token_at, variable_if, point_if, counted_then}
use Rattle.flow_transitions.specs.AutoReading.{at_variable, past_variable, at_points, at_point, past_point, at_edge}
use Rattle.flow_transitions.specs.AutoGrammar.{Spot, Names, Heads, commas_then, names_then, vars_then, points_then, heads_then}
use Rattle.flow_transitions.specs.AutoTrees.{spot_names, all_spots, names_in, point_here, AreNew, AreVariables, AreHeads}
use Rattle.flow_transitions.proofs.trees.Has.{names_more, points_more, names_back}
use Rattle.flow_transitions.proofs.trees.Here.{seen_here}
use Rattle.flow_transitions.proofs.trees.Leads.{Leads, stays, chain, token_leads}

-- names that are new, the last one too, are new without it, and it stands not among them
pub new_split : (before ss : List Spot) (s : Spot) → AreNew (spot_names before) (ss ++ s ∷ [])
    → AreNew (spot_names before) ss × (place_of s.name (spot_names (before ++ ss)) ≡ None)
new_split before [] s h = (tt, subst (λ (z : List Spot). place_of s.name (spot_names z) ≡ None) (sym (append-nil before)) h.0)
new_split before (t ∷ ss) s h =
    let q = new_split (before ++ t ∷ []) ss s (subst (λ z. AreNew z (ss ++ s ∷ [])) (sym (names_more before t)) h.1) in (
      (h.0, subst (λ z. AreNew z ss) (names_more before t) q.0),
      subst (λ (z : List Spot). place_of s.name (spot_names z) ≡ None) (append_assoc before (t ∷ []) ss) q.1,
    )

-- ---- one name
-- a variable that is new, where there is room for one more
pub new_variable : (text : List ℕ) (before : List Spot) (x : List ℕ) (a : ℕ) → place_of x (spot_names before) ≡ None
    → length before < MOST_VARIABLES
    → token_at at_variable (progress (spot_names before) [] [] at_variable) (seen_here text (a_name x) a)
    ≡ Ok (progress (spot_names before ++ x ∷ []) [] [] past_variable)
new_variable text before x a new room =
    ap (λ o. variable_if o (progress (spot_names before) [] [] at_variable) (seen_here text (a_name x) a)) new
    ∙ on (nat_lt (length (spot_names before)) MOST_VARIABLES) refl where
      size : length (spot_names before) ≡ length before
      size = length-map before (λ (s : Spot). s.name)

      on : (t : Bool) → nat_lt (length (spot_names before)) MOST_VARIABLES ≡ t
          → variable_if None (progress (spot_names before) [] [] at_variable) (seen_here text (a_name x) a)
          ≡ Ok (progress (spot_names before ++ x ∷ []) [] [] past_variable)
      on true t = rw t refl
      on false t = let l = ltb-false (length (spot_names before)) MOST_VARIABLES t in absurd (omega (arith, l, size, room))

-- a point that is new
pub new_point : (text : List ℕ) (names : List (List ℕ)) (before : List Spot) (x : List ℕ) (a : ℕ)
    → place_of x (spot_names before) ≡ None
    → token_at at_point (progress names (map (point_here text) before) [] at_point) (seen_here text (a_name x) a)
    ≡ Ok (progress names (map (point_here text) before ++ record { name = x; line = line_at text a } ∷ []) [] past_point)
new_point text names before x a new =
    ap (λ o. point_if o (progress names (map (point_here text) before) [] at_point) (seen_here text (a_name x) a))
    (ap (place_of x) (names_back text before) ∙ new)

module _ (text : List ℕ) (tokens : List lex_token.Token) where
  abbrev To : Progress → List Token → Progress → List Token → Type 0
  To r xs s ys = Leads text tokens r xs s ys

  -- ---- variables
  abbrev variables_at : List Spot → Progress
  variables_at ss = progress (spot_names ss) [] [] at_variable

  abbrev variable_past : List Spot → List ℕ → Progress
  variable_past ss x = progress (spot_names ss ++ x ∷ []) [] [] past_variable

  variable_leads : (ss : List Spot) (x : List ℕ) (a : ℕ) (ys : List Token) → place_of x (spot_names ss) ≡ None → length ss < MOST_VARIABLES
      → To (variables_at ss) (token (a_name x) a ∷ ys) (variable_past ss x) ys
  variable_leads ss x a ys new room =
      token_leads text tokens (variables_at ss) (a_name x) a ys refl (variable_past ss x) (new_variable text ss x a new room)

  variables_lead : (before ss : List Spot) (ys : List Token) → AreNew (spot_names before) ss
      → length before + length ss ≤ MOST_VARIABLES
      → To (variables_at before) (commas_then ss ys) (variables_at (before ++ ss)) ys
  variables_lead before [] ys new room =
      subst (λ z. To (variables_at before) ys (variables_at z) ys) (sym (append-nil before)) (stays text tokens (variables_at before) ys)
  variables_lead before (s ∷ ss) ys new room =
      let more : List Spot = before ++ s ∷ [] in
      let behind : List Token = commas_then ss ys in
      let first = variable_leads before s.name s.at (token comma s.sign_at ∷ behind) new.0 (omega (arith, room)) in
      let sign = token_leads text tokens (variable_past before s.name) comma s.sign_at behind refl (variables_at more)
      (ap (λ z. Ok (progress z [] [] at_variable)) (sym (names_more before s))) in
      let size = length-append before (s ∷ []) in
      let others = variables_lead more ss ys (subst (λ z. AreNew z ss) (sym (names_more before s)) new.1) (omega (arith, room, size)) in
      subst (λ z. To (variables_at before) (commas_then (s ∷ ss) ys) (variables_at z) ys) (append_assoc before (s ∷ []) ss)
      (chain text tokens (variables_at before) (variable_past before s.name) (variables_at (more ++ ss)) _ _ ys first
      (chain text tokens (variable_past before s.name) (variables_at more) (variables_at (more ++ ss)) _ behind ys sign others))

  -- the word, and variables behind it
  pub to_variables : (v : ℕ) (ss : List Spot) (ys : List Token) → AreVariables ss
      → To start (vars_then v (commas_then ss ys)) (variables_at ss) ys
  to_variables v ss ys h =
      chain text tokens start (variables_at []) (variables_at ss) _ _ ys
      (token_leads text tokens start (a_name (codes "vars")) v (commas_then ss ys) refl (variables_at []) refl)
      (variables_lead [] ss ys h.0 (let most = h.1 in omega (arith, most)))

  -- the same, and one variable more
  pub to_variable : (v : ℕ) (ss : List Spot) (x : List ℕ) (a : ℕ) (ys : List Token)
      → AreVariables ss × (place_of x (spot_names ss) ≡ None) × (length ss < MOST_VARIABLES)
      → To start (vars_then v (commas_then ss (token (a_name x) a ∷ ys))) (variable_past ss x) ys
  to_variable v ss x a ys h =
      chain text tokens start (variables_at ss) (variable_past ss x) _ _ ys (to_variables v ss (token (a_name x) a ∷ ys) h.0)
      (variable_leads ss x a ys h.1 h.2)

  abbrev points_word : List (List ℕ) → Progress
  points_word names = progress names [] [] at_points

  -- all variables, and `;` behind the last one
  pub to_points_word : (v : ℕ) (ns : Names) (ys : List Token) → AreVariables (all_spots ns)
      → To start (vars_then v (names_then ns ys)) (points_word (names_in ns)) ys
  to_points_word v ns ys h =
      let q = new_split [] ns.first_ones ns.last h.0 in
      let size = length-append ns.first_ones (ns.last ∷ []) in
      let most = h.1 in
      let room : length ns.first_ones < MOST_VARIABLES = omega (arith, most, size) in
      let few : length ns.first_ones ≤ MOST_VARIABLES = omega (arith, room) in
      subst (λ z. To start (vars_then v (names_then ns ys)) (points_word z) ys) (sym (names_more ns.first_ones ns.last))
      (chain text tokens start (variable_past ns.first_ones ns.last.name) (points_word (spot_names ns.first_ones ++ ns.last.name ∷ [])) _ _
      ys
      (to_variable v ns.first_ones ns.last.name ns.last.at (token semicolon ns.last.sign_at ∷ ys) ((q.0, few), q.1, room))
      (token_leads text tokens (variable_past ns.first_ones ns.last.name) semicolon ns.last.sign_at ys refl _ refl))

  -- ---- points
  module _ (names : List (List ℕ)) where
    abbrev points_at : List Spot → Progress
    points_at ss = progress names (map (point_here text) ss) [] at_point

    abbrev point_past : List Spot → List ℕ → ℕ → Progress
    point_past ss x a = progress names (map (point_here text) ss ++ record { name = x; line = line_at text a } ∷ []) [] past_point

    point_leads : (ss : List Spot) (x : List ℕ) (a : ℕ) (ys : List Token) → place_of x (spot_names ss) ≡ None
        → To (points_at ss) (token (a_name x) a ∷ ys) (point_past ss x a) ys
    point_leads ss x a ys new =
        token_leads text tokens (points_at ss) (a_name x) a ys refl (point_past ss x a) (new_point text names ss x a new)

    points_lead : (before ss : List Spot) (ys : List Token) → AreNew (spot_names before) ss
        → To (points_at before) (commas_then ss ys) (points_at (before ++ ss)) ys
    points_lead before [] ys new =
        subst (λ z. To (points_at before) ys (points_at z) ys) (sym (append-nil before)) (stays text tokens (points_at before) ys)
    points_lead before (s ∷ ss) ys new =
        let more : List Spot = before ++ s ∷ [] in
        let behind : List Token = commas_then ss ys in
        let first = point_leads before s.name s.at (token comma s.sign_at ∷ behind) new.0 in
        let sign = token_leads text tokens (point_past before s.name s.at) comma s.sign_at behind refl (points_at more)
        (ap (λ z. Ok (progress names z [] at_point)) (sym (points_more text before s))) in
        let others = points_lead more ss ys (subst (λ z. AreNew z ss) (sym (names_more before s)) new.1) in
        subst (λ z. To (points_at before) (commas_then (s ∷ ss) ys) (points_at z) ys) (append_assoc before (s ∷ []) ss)
        (chain text tokens (points_at before) (point_past before s.name s.at) (points_at (more ++ ss)) _ _ ys first
        (chain text tokens (point_past before s.name s.at) (points_at more) (points_at (more ++ ss)) _ behind ys sign others))

  -- the word `points`, and points behind it
  pub to_points : (v : ℕ) (ns : Names) (p : ℕ) (ss : List Spot) (ys : List Token) → AreVariables (all_spots ns) × AreNew [] ss
      → To start (vars_then v (names_then ns (points_then p (commas_then ss ys)))) (points_at (names_in ns) ss) ys
  to_points v ns p ss ys h =
      let names = names_in ns in
      let behind : List Token = commas_then ss ys in
      chain text tokens start (points_word names) (points_at names ss) _ _ ys (to_points_word v ns (points_then p behind) h.0)
      (chain text tokens (points_word names) (points_at names []) (points_at names ss) _ behind ys
      (token_leads text tokens (points_word names) (a_name (codes "points")) p behind refl (points_at names []) refl)
      (points_lead names [] ss ys h.1))

  -- the same, and one point more
  pub to_point : (v : ℕ) (ns : Names) (p : ℕ) (ss : List Spot) (x : List ℕ) (a : ℕ) (ys : List Token)
      → AreVariables (all_spots ns) × AreNew [] ss × (place_of x (spot_names ss) ≡ None)
      → To start (vars_then v (names_then ns (points_then p (commas_then ss (token (a_name x) a ∷ ys))))) (point_past (names_in ns) ss x a)
      ys
  to_point v ns p ss x a ys h =
      chain text tokens start (points_at (names_in ns) ss) (point_past (names_in ns) ss x a) _ _ ys
      (to_points v ns p ss (token (a_name x) a ∷ ys) (h.0, h.1)) (point_leads (names_in ns) ss x a ys h.2)

  -- ---- both heads
  abbrev pub edges_at : Heads → Progress
  edges_at h = progress (names_in h.variables) (map (point_here text) (all_spots h.points)) [] at_edge

  counted : (count : ℕ) (next : Stepped) → 2 ≤ count → count ≤ MOST_POINTS → counted_then count next ≡ next
  counted count next some few = on (nat_le 2 count) (nat_le count MOST_POINTS) refl refl where
    on : (t u : Bool) → nat_le 2 count ≡ t → nat_le count MOST_POINTS ≡ u → counted_then count next ≡ next
    on true true e f = rw (e, f) refl
    on true false e f = let l = leb-false count MOST_POINTS f in absurd (omega (arith, l, few))
    on false u e f = let l = leb-false 2 count e in absurd (omega (arith, l, some))

  -- both heads without fault lead from the start to the edges
  pub to_edges : (h : Heads) (ys : List Token) → AreHeads h → To start (heads_then h ys) (edges_at h) ys
  to_edges h ys heads =
      let names = names_in h.variables in
      let before = h.points.first_ones in
      let last = h.points.last in
      let q = new_split [] before last heads.points in
      let points : List PointName = map (point_here text) (all_spots h.points) in
      let size = length-map (all_spots h.points) (point_here text) in
      let some = heads.some in
      let few = heads.few in
      subst (λ z. To start (heads_then h ys) (progress names z [] at_edge) ys) (sym (points_more text before last))
      (chain text tokens start (point_past names before last.name last.at) (progress names
      (map (point_here text) before ++ point_here text last ∷ []) [] at_edge) _ _ ys
      (to_point h.vars_at h.variables h.points_at before last.name last.at (token semicolon last.sign_at ∷ ys) (heads.variables, q.0, q.1))
      (token_leads text tokens (point_past names before last.name last.at) semicolon last.sign_at ys refl _
      (subst (λ z. counted_then (length z) (Ok (progress names z [] at_edge)) ≡ Ok (progress names z [] at_edge))
      (points_more text before last)
      (counted (length points) (Ok (progress names points [] at_edge)) (omega (arith, size, some)) (omega (arith, size, few))))))
