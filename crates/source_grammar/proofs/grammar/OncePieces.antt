-- Changes have at most one reading.
use Rattle.std.proofs.Common.{◌≡◌, ◌∙◌, ◌++◌, ℕ, List, [], ◌∷◌, refl, sym, ap, ap₂, append_assoc, subst}
use Rattle.source_grammar.specs.Tokens.{Change, Direction, Kind, a_name, right_paren, comma, semicolon, change_sign, step_sign, Token}
use Rattle.source_grammar.specs.Tokens.{token, Name}
use Rattle.source_grammar.specs.Grammar.{Expr, Optional, absent, present, spell_optional, GoodOptional, Index, no_index, index, spell_index}
use Rattle.source_grammar.specs.Grammar.{GoodIndex, Place, place, spell_place, GoodPlace, Effect, assigns, steps, spell_effect, GoodEffect}
use Rattle.source_grammar.specs.Grammar.{Update, update, step_before, spell_update, GoodUpdate, MoreUpdates, last_update, next_update}
use Rattle.source_grammar.specs.Grammar.{spell_more_updates, GoodMoreUpdates, Updates, no_updates, some_updates, spell_updates, GoodUpdates}
use Rattle.source_grammar.proofs.machine.Goes.{First}
use Rattle.source_grammar.proofs.grammar.Follow.{AfterExpr, AfterList, AfterPart, AfterPlace, list_expr, list_part, part_expr, part_place}
use Rattle.source_grammar.proofs.grammar.Follow.{expr_first, StartsUpdate, NoBracket, place_no_bracket}
use Rattle.source_grammar.proofs.grammar.Unique.{expr_once, tail_of, head_of, first_at, list_starts, no_bracket, subscripts_once}

-- a list that begins with one of these kinds begins with one of those, where all of these are
pub widen : (kinds others : Kind → Type 0) (w : List Token) → ((k : Kind) → kinds k → others k) → First kinds w → First others w
widen kinds others [] h i = i
widen kinds others (token k a ∷ w) h i = h k i

-- ---- trees that are determined by their parts
place_same : (x : Name) (a : ℕ) (i : Index) (y : Name) (b : ℕ) (j : Index) → token (a_name x) a ≡ token (a_name y) b → i ≡ j
    → place x a i ≡ place y b j
place_same x a i y b j h k = cc

assigns_same : (g : Change) (a : ℕ) (e : Expr) (h : Change) (b : ℕ) (f : Expr) → token (change_sign g) a ≡ token (change_sign h) b → e ≡ f
    → assigns g a e ≡ assigns h b f
assigns_same g a e h b f i j = cc

before_same : (g : Direction) (a : ℕ) (p : Place) (h : Direction) (b : ℕ) (q : Place)
    → token (step_sign g) a ≡ token (step_sign h) b → p ≡ q → step_before g a p ≡ step_before h b q
before_same g a p h b q i j = cc

next_update_same : (a b : ℕ) (u v : Update) (us vs : MoreUpdates) → token comma a ≡ token comma b → u ≡ v → us ≡ vs
    → next_update a u us ≡ next_update b v vs
next_update_same a b u v us vs h i j = cc

-- ---- changes
-- an expression that may be absent
pub optional_once : (t u : Optional) (w x : List Token) → GoodOptional t → GoodOptional u → First AfterList w → First AfterList x
    → spell_optional t ++ w ≡ spell_optional u ++ x → (t ≡ u) × (w ≡ x)
optional_once absent absent w x g h i j q = (refl, q)
optional_once absent (present f) w x g h i j q = absurd (list_starts w _ i q (expr_first f x))
optional_once (present e) absent w x g h i j q = absurd (list_starts x _ j (sym q) (expr_first e w))
optional_once (present e) (present f) w x g h i j q =
    let r = expr_once e f w x g h (widen AfterList AfterExpr w list_expr i) (widen AfterList AfterExpr x list_expr j) q in
    (ap present r.0, r.1)

-- the brackets of a place
index_once : (t u : Index) (w x : List Token) → GoodIndex t → GoodIndex u → First AfterPlace w → First AfterPlace x
    → spell_index t ++ w ≡ spell_index u ++ x → (t ≡ u) × (w ≡ x)
index_once no_index no_index w x g h i j q = (refl, q)
index_once no_index (index js) w x g h i j q = absurd (no_bracket js w x (widen AfterPlace NoBracket w place_no_bracket i) q)
index_once (index is) no_index w x g h i j q = absurd (no_bracket is x w (widen AfterPlace NoBracket x place_no_bracket j) (sym q))
index_once (index is) (index js) w x g h i j q =
    let r = subscripts_once is js w x g h (widen AfterPlace NoBracket w place_no_bracket i)
    (widen AfterPlace NoBracket x place_no_bracket j) q in
    (ap index r.0, r.1)

place_once : (p r : Place) (w x : List Token) → GoodPlace p → GoodPlace r → First AfterPlace w → First AfterPlace x
    → spell_place p ++ w ≡ spell_place r ++ x → (p ≡ r) × (w ≡ x)
place_once (place y a t) (place z b u) w x g h i j q =
    let r = index_once t u w x g h i j (tail_of _ _ _ _ q) in
    (place_same y a t z b u (head_of _ _ _ _ q) r.0, r.1)

effect_once : (t u : Effect) (w x : List Token) → GoodEffect t → GoodEffect u → First AfterPart w → First AfterPart x
    → spell_effect t ++ w ≡ spell_effect u ++ x → (t ≡ u) × (w ≡ x)
effect_once (assigns a c e) (assigns b d f) w x g h i j q =
    let r = expr_once e f w x g h (widen AfterPart AfterExpr w part_expr i) (widen AfterPart AfterExpr x part_expr j)
    (tail_of _ _ _ _ q) in
    (assigns_same a c e b d f (head_of _ _ _ _ q) r.0, r.1)
effect_once (assigns a c e) (steps b d) w x g h i j q = cc
effect_once (steps a c) (assigns b d f) w x g h i j q = cc
effect_once (steps a c) (steps b d) w x g h i j q = ((cc), (cc))

effect_first : (f : Effect) (w : List Token) → First AfterPlace (spell_effect f ++ w)
effect_first (assigns g a e) w = tt
effect_first (steps g a) w = tt

-- a change
pub update_once : (u v : Update) (w x : List Token) → GoodUpdate u → GoodUpdate v → First AfterPart w → First AfterPart x
    → spell_update u ++ w ≡ spell_update v ++ x → (u ≡ v) × (w ≡ x)
update_once (update p e) (update r f) w x g h i j q =
    let s = place_once p r (spell_effect e ++ w) (spell_effect f ++ x) g.0 h.0 (effect_first e w) (effect_first f x)
    (sym (append_assoc (spell_place p) (spell_effect e) w) ∙ q ∙ append_assoc (spell_place r) (spell_effect f) x) in
    let t = effect_once e f w x g.1 h.1 i j s.1 in
    (ap₂ update s.0 t.0, t.1)
update_once (update (place y a t) e) (step_before d b p) w x g h i j q = cc
update_once (step_before d b p) (update (place y a t) e) w x g h i j q = cc
update_once (step_before d b p) (step_before e c r) w x g h i j q =
    let s = place_once p r w x g h (widen AfterPart AfterPlace w part_place i) (widen AfterPart AfterPlace x part_place j)
    (tail_of _ _ _ _ q) in
    (before_same d b p e c r (head_of _ _ _ _ q) s.0, s.1)

more_updates_first : (us : MoreUpdates) (w : List Token) → First AfterList w → First AfterPart (spell_more_updates us ++ w)
more_updates_first last_update w h = widen AfterList AfterPart w list_part h
more_updates_first (next_update a u us) w h = tt

more_updates_once : (us vs : MoreUpdates) (w x : List Token) → GoodMoreUpdates us → GoodMoreUpdates vs → First AfterList w
    → First AfterList x → spell_more_updates us ++ w ≡ spell_more_updates vs ++ x → (us ≡ vs) × (w ≡ x)
more_updates_once last_update last_update w x g h i j q = (refl, q)
more_updates_once last_update (next_update a v vs) w x g h i j q = absurd (first_at AfterList w comma a _ i q)
more_updates_once (next_update a u us) last_update w x g h i j q = absurd (first_at AfterList x comma a _ j (sym q))
more_updates_once (next_update a u us) (next_update b v vs) w x g h i j q =
    let r = update_once u v (spell_more_updates us ++ w) (spell_more_updates vs ++ x) g.0 h.0 (more_updates_first us w i)
    (more_updates_first vs x j) (sym (append_assoc (spell_update u) (spell_more_updates us) w) ∙ tail_of _ _ _ _ q
    ∙ append_assoc (spell_update v) (spell_more_updates vs) x) in
    let s = more_updates_once us vs w x g.1 h.1 i j r.1 in
    (next_update_same a b u v us vs (head_of _ _ _ _ q) r.0 s.0, s.1)

-- a text doesn't begin with two kinds of token that exclude one another
pub clash : (kinds others : Kind → Type 0) (w y : List Token) → ((k : Kind) → kinds k → others k → ⊥) → First kinds w → w ≡ y
    → First others y → ⊥
clash kinds others w y f h e i = on y (subst (First kinds) e h) i where
  on : (y : List Token) → First kinds y → First others y → ⊥
  on [] h i = h
  on (token k a ∷ y) h i = f k h i

-- what may follow a list begins no change
no_update : (k : Kind) → AfterList k → StartsUpdate k → ⊥
no_update semicolon h i = i
no_update right_paren h i = i
no_update _ h i = h

some_first : (u : Update) (us : MoreUpdates) (w : List Token) → First StartsUpdate ((spell_update u ++ spell_more_updates us) ++ w)
some_first (update (place x a i) f) us w = tt
some_first (step_before g a p) us w = tt

-- changes, if there are any
pub updates_once : (us vs : Updates) (w x : List Token) → GoodUpdates us → GoodUpdates vs → First AfterList w → First AfterList x
    → spell_updates us ++ w ≡ spell_updates vs ++ x → (us ≡ vs) × (w ≡ x)
updates_once no_updates no_updates w x g h i j q = (refl, q)
updates_once no_updates (some_updates v vs) w x g h i j q =
    absurd (clash AfterList StartsUpdate w _ no_update i q (some_first v vs x))
updates_once (some_updates u us) no_updates w x g h i j q =
    absurd (clash AfterList StartsUpdate x _ no_update j (sym q) (some_first u us w))
updates_once (some_updates u us) (some_updates v vs) w x g h i j q =
    let r = update_once u v (spell_more_updates us ++ w) (spell_more_updates vs ++ x) g.0 h.0 (more_updates_first us w i)
    (more_updates_first vs x j) (sym (append_assoc (spell_update u) (spell_more_updates us) w) ∙ q
    ∙ append_assoc (spell_update v) (spell_more_updates vs) x) in
    let s = more_updates_once us vs w x g.1 h.1 i j r.1 in
    (ap₂ some_updates r.0 s.0, s.1)
