-- One token on, among the names of variables and points.
use Rattle.std.proofs.Common.{◌≡◌, ◌∙◌, ◌+◌, ◌++◌, ◌<◌, ◌⊎◌, inl, inr, ℕ, Bool, true, false, List, [], ◌∷◌, length, map}
use Rattle.std.proofs.Common.{Option, Some, None, Ok, Err, refl, sym, ap, subst, arith}
use Rattle.std.proofs.lemmas.Bool.{ltb-true, ltb-false, leb-true, leb-false}
use Rattle.std.proofs.lemmas.List.{length-append, length-map}
use Rattle.std.proofs.lemmas.Slice.Eq.{bytes_eq-Decides}
use Rattle.std.specs.Prelude.{codes, nat_lt, nat_le, if◌then◌else◌}
use Rattle.std.specs.Str.{bytes_eq}
use Rattle.lang_tokens.specs.Lines.{line_at}
use Rattle.lang_grammar.specs.Expressions.{BeginsExpr}
use Rattle.lang_grammar.specs.Grammar.{Kind, a_name, comma, semicolon, change_sign, replaces}
use Rattle.lang_grammar.specs.Grammar.{demand_word, assumes as to_assume, the_end, Token, token, spell_expr}
use Rattle.flow_transitions.specs.declared.limits.TheConstants.{MOST_VARIABLES}
use Rattle.flow_transitions.specs.declared.limits.TheConstants.{MOST_POINTS}
use Rattle.lang_meaning.specs.Names.{place_of}
use Rattle.flow_transitions.specs.declared.fault.AutoFault.TheVariants as fault
use Rattle.flow_transitions.specs.AutoReading.{Progress, progress, start, Stepped, token_at}
use Rattle.flow_transitions.specs.AutoReading.{unexpected_fault}
use Rattle.flow_transitions.specs.AutoReading.{at_vars, at_variable, past_variable, at_points, at_point, past_point, at_edge}
use Rattle.flow_transitions.specs.AutoReading.{at_end, variable_if, point_if}
use Rattle.flow_transitions.specs.AutoGrammar.{Spot, Names, Written, Heads, vars_then}
use Rattle.flow_transitions.specs.AutoGrammar.{names_then, points_then}
use Rattle.flow_transitions.specs.AutoGrammar.{Begun, begun_then, no_token, some_variables}
use Rattle.flow_transitions.specs.AutoGrammar.{a_variable, all_variables}
use Rattle.flow_transitions.specs.AutoGrammar.{some_points, a_point, some_edges}
use Rattle.flow_transitions.specs.AutoGrammar.{an_expression as whole_expression}
use Rattle.flow_transitions.specs.AutoTrees.{spot_names, all_spots, names_in, point_here, AreNew, AreVariables, Outer}
use Rattle.flow_transitions.specs.AutoTrees.{Faultless, FirstFault}
use Rattle.flow_transitions.specs.AutoTrees.{variable_twice, many_variables, point_twice, point_count}
use Rattle.flow_transitions.specs.AutoTrees.{unexpected as unexpected_token}
use Rattle.flow_transitions.proofs.grammar.Accepts.{Accepts, unexpected_by}
use Rattle.flow_transitions.proofs.grammar.Lists.{commas_more}
use Rattle.flow_transitions.proofs.trees.Has.{Has, outside, good_of, new_more, variables_more, names_more}
use Rattle.flow_transitions.proofs.trees.Has.{points_more, names_back}
use Rattle.flow_transitions.proofs.trees.Here.{seen_here}

-- behind a whole expression its first token doesn't go on with it
abbrev pub Ready : Begun → Kind → ℕ → Type 0
Ready (whole_expression i f e) k a = BeginsExpr (spell_expr e ++ token k a ∷ []) → ⊥
Ready _ k a = Unit {0}

-- a beginning behind which any token is ready
abbrev pub IsReady : Begun → Type 0
IsReady b = (k : Kind) (a : ℕ) → Ready b k a

-- the reading goes on behind a longer beginning
pub record Moves (text : List ℕ) (b : Begun) (k : Kind) (a : ℕ) (r : Progress) : Type 0 where
  -- the longer beginning
  pub now : Begun
  -- the reading stands behind it
  pub has : Has text now r
  -- it is the shorter one with the token behind it
  pub grown : (ts : List Token) → begun_then b (token k a ∷ ts) ≡ begun_then now ts
  -- any token may follow it
  pub ready : IsReady now
  -- the token isn't the end
  pub more : k ≡ the_end → ⊥

-- the text ends
pub record Ends (text : List ℕ) (b : Begun) (k : Kind) (r : Progress) : Type 0 where
  -- the heads of the text
  pub heads : Heads
  -- its edges
  pub edges : List Written
  -- they are without fault
  pub outer : Outer text heads edges
  -- the beginning is these heads and edges
  pub place : b ≡ some_edges heads edges
  -- the token is the end
  pub kind : k ≡ the_end
  -- the reading is over, with what they say
  pub there : r ≡ outside text heads edges outer at_end

abbrev pub After : List ℕ → Begun → Kind → ℕ → Stepped → Type 0
After text b k a (Ok r) = Moves text b k a r ⊎ Ends text b k r
After text b k a (Err f) = (ts : List Token) → FirstFault text (begun_then b (token k a ∷ ts)) f

-- bytes that compare as equal are equal
pub bytes_same : (x y : List ℕ) → bytes_eq x y ≡ true → x ≡ y
bytes_same x y e = (bytes_eq-Decides x y).0 e

-- what refutes each of two refutes that one of them holds
pub neither : (k : Kind) {A B : Type 0} → (A → ⊥) → (B → ⊥) → A ⊎ B → ⊥
neither k f g (inl h) = f h
neither k f g (inr h) = g h

module _ (text : List ℕ) where
  -- a token that may not stand behind a beginning without fault is the first fault there
  pub refuse : (b : Begun) (k : Kind) (a : ℕ) → Faultless text b → (Accepts b k a → ⊥)
      → After text b k a (Err (unexpected_fault (seen_here text k a)))
  refuse b k a f n = λ ts. unexpected_token b k a ts refl (unexpected_by b k a (good_of text b f) n) f refl

  -- a word
  pub by_word : (b : Begun) (x : List ℕ) (a : ℕ) (word : List ℕ) (r : Progress) → Faultless text b
      → (Accepts b (a_name x) a → a_name x ≡ a_name word)
      → (x ≡ word → Moves text b (a_name x) a r) → (t : Bool) → bytes_eq x word ≡ t
      → After text b (a_name x) a (if t then Ok r else Err (unexpected_fault (seen_here text (a_name x) a)))
  by_word b x a word r f n m true e = inl (m (bytes_same x word e))
  by_word b x a word r f n m false e = refuse b (a_name x) a f (λ h. let i : x ≡ word = (let j = n h in cc) in differs i) where
    differs : x ≡ word → ⊥
    differs i = let t = (bytes_eq-Decides x word).1 i in let j : true ≡ false = sym t ∙ e in cc

  -- ---- variables
  pub step_start : (k : Kind) (a : ℕ) → After text no_token k a (token_at at_vars start (seen_here text k a))
  step_start (a_name x) a =
      by_word no_token x a (codes "vars") (progress [] [] [] at_variable) tt (λ h. h)
      (λ e. record {
        now = some_variables a [];
        has = ((tt, omega arith), refl);
        grown = λ ts. ap (λ z. token (a_name z) a ∷ ts) e;
        ready = λ k a. tt;
        more = λ h. cc;
      }) (bytes_eq x (codes "vars")) refl
  step_start (change_sign replaces) a = refuse no_token (change_sign replaces) a tt (λ h. cc)
  step_start (demand_word to_assume) a = refuse no_token (demand_word to_assume) a tt (λ h. cc)
  step_start _ a = refuse no_token _ a tt (λ h. cc)

  variable_by : (v : ℕ) (ss : List Spot) (x : List ℕ) (a : ℕ) → AreVariables ss → (o : Option ℕ) → place_of x (spot_names ss) ≡ o
      → After text (some_variables v ss) (a_name x) a (variable_if o (progress (spot_names ss) [] [] at_variable)
      (seen_here text (a_name x) a))
  variable_by v ss x a h (Some i) e = λ ts. variable_twice v ss x a ts i refl h e refl
  variable_by v ss x a h None e = on (nat_lt (length (spot_names ss)) MOST_VARIABLES) refl where
    size : length (spot_names ss) ≡ length ss
    size = length-map ss (λ (s : Spot). s.name)

    on : (t : Bool) → nat_lt (length (spot_names ss)) MOST_VARIABLES ≡ t
        → After text (some_variables v ss) (a_name x) a (if t then Ok (progress (spot_names ss ++ x ∷ []) [] [] past_variable)
        else Err (fault.Parse (Rattle.lang_meaning.specs.declared.fault.ParseFault.TheVariants.Limit a
        Rattle.lang_meaning.specs.declared.fault.Limit.TheVariants.Variables)))
    on true t = inl (record {
      now = a_variable v ss x a;
      has = ((h, e, let l = ltb-true (length (spot_names ss)) MOST_VARIABLES t in omega (arith, l, size)), refl);
      grown = λ ts. refl;
      ready = λ k a. tt;
      more = λ h. cc;
    })
    on false t = λ ts. many_variables v ss x a ts refl h e (let l = ltb-false (length (spot_names ss)) MOST_VARIABLES t in let m = h.1 in
        omega (arith, l, m, size)) refl

  -- one token on where a variable's name has to stand
  pub step_variables : (v : ℕ) (ss : List Spot) (k : Kind) (a : ℕ) → AreVariables ss
      → After text (some_variables v ss) k a (token_at at_variable (progress (spot_names ss) [] [] at_variable) (seen_here text k a))
  step_variables v ss (a_name x) a h = variable_by v ss x a h (place_of x (spot_names ss)) refl
  step_variables v ss (change_sign replaces) a h = refuse (some_variables v ss) (change_sign replaces) a h (λ n. let e = n.1 in cc)
  step_variables v ss (demand_word to_assume) a h = refuse (some_variables v ss) (demand_word to_assume) a h (λ n. let e = n.1 in cc)
  step_variables v ss _ a h = refuse (some_variables v ss) _ a h (λ n. let e = n.1 in cc)

  -- one token on behind a variable's name
  pub step_variable : (v : ℕ) (ss : List Spot) (x : List ℕ) (b : ℕ) (k : Kind) (a : ℕ)
      → AreVariables ss × (place_of x (spot_names ss) ≡ None) × (length ss < MOST_VARIABLES)
      → After text (a_variable v ss x b) k a (token_at past_variable (progress (spot_names ss ++ x ∷ []) [] [] past_variable)
      (seen_here text k a))
  step_variable v ss x b comma a h = inl (record {
    now = some_variables v (ss ++ record { name = x; at = b; sign_at = a } ∷ []);
    has = (
      variables_more ss (record { name = x; at = b; sign_at = a }) h.0 h.1 h.2,
      ap (λ z. progress z [] [] at_variable) (sym (names_more ss (record { name = x; at = b; sign_at = a }))),
    );
    grown = λ ts. ap (vars_then v) (sym (commas_more ss (record { name = x; at = b; sign_at = a }) ts));
    ready = λ k a. tt;
    more = λ h. cc;
  })
  step_variable v ss x b semicolon a h = inl (record {
    now = all_variables v (record { first_ones = ss; last = record { name = x; at = b; sign_at = a } });
    has = (
      variables_more ss (record { name = x; at = b; sign_at = a }) h.0 h.1 h.2,
      ap (λ z. progress z [] [] at_points) (sym (names_more ss (record { name = x; at = b; sign_at = a }))),
    );
    grown = λ ts. refl;
    ready = λ k a. tt;
    more = λ h. cc;
  })
  step_variable v ss x b (change_sign replaces) a h = refuse (a_variable v ss x b) (change_sign replaces) a h
      (neither comma (λ e. cc) (λ e. cc))
  step_variable v ss x b (demand_word to_assume) a h = refuse (a_variable v ss x b) (demand_word to_assume) a h
      (neither comma (λ e. cc) (λ e. cc))
  step_variable v ss x b _ a h = refuse (a_variable v ss x b) _ a h (neither comma (λ e. cc) (λ e. cc))

  -- ---- points
  pub step_all : (v : ℕ) (ns : Names) (k : Kind) (a : ℕ) → AreVariables (all_spots ns)
      → After text (all_variables v ns) k a (token_at at_points (progress (names_in ns) [] [] at_points) (seen_here text k a))
  step_all v ns (a_name x) a h =
      by_word (all_variables v ns) x a (codes "points") (progress (names_in ns) [] [] at_point) h (λ h. h)
      (λ e. record {
        now = some_points v ns a [];
        has = ((h, tt), refl);
        grown = λ ts. ap (λ z. vars_then v (names_then ns (token (a_name z) a ∷ ts))) e;
        ready = λ k a. tt;
        more = λ h. cc;
      }) (bytes_eq x (codes "points")) refl
  step_all v ns (change_sign replaces) a h = refuse (all_variables v ns) (change_sign replaces) a h (λ h. cc)
  step_all v ns (demand_word to_assume) a h = refuse (all_variables v ns) (demand_word to_assume) a h (λ h. cc)
  step_all v ns _ a h = refuse (all_variables v ns) _ a h (λ h. cc)

  point_by : (v : ℕ) (ns : Names) (p : ℕ) (ss : List Spot) (x : List ℕ) (a : ℕ) → AreVariables (all_spots ns) × AreNew [] ss
      → (o : Option ℕ) → place_of x (spot_names ss) ≡ o
      → After text (some_points v ns p ss) (a_name x) a (point_if o (progress (names_in ns) (map (point_here text) ss) [] at_point)
      (seen_here text (a_name x) a))
  point_by v ns p ss x a h (Some i) e = λ ts. point_twice (some_points v ns p ss) v ns p ss x a ts i refl refl h e refl
  point_by v ns p ss x a h None e = inl (record {
    now = a_point v ns p ss x a;
    has = ((h.0, h.1, e), refl);
    grown = λ ts. refl;
    ready = λ k a. tt;
    more = λ h. cc;
  })

  -- one token on where a point's name has to stand
  pub step_points : (v : ℕ) (ns : Names) (p : ℕ) (ss : List Spot) (k : Kind) (a : ℕ) → AreVariables (all_spots ns) × AreNew [] ss
      → After text (some_points v ns p ss) k a (token_at at_point (progress (names_in ns) (map (point_here text) ss) [] at_point)
      (seen_here text k a))
  step_points v ns p ss (a_name x) a h =
      subst (λ y. After text (some_points v ns p ss) (a_name x) a (point_if (place_of x y)
      (progress (names_in ns) (map (point_here text) ss) [] at_point) (seen_here text (a_name x) a)))
      (sym (names_back text ss)) (point_by v ns p ss x a h (place_of x (spot_names ss)) refl)
  step_points v ns p ss (change_sign replaces) a h = refuse (some_points v ns p ss) (change_sign replaces) a h (λ n. let e = n.1 in cc)
  step_points v ns p ss (demand_word to_assume) a h = refuse (some_points v ns p ss) (demand_word to_assume) a h (λ n. let e = n.1 in cc)
  step_points v ns p ss _ a h = refuse (some_points v ns p ss) _ a h (λ n. let e = n.1 in cc)

  abbrev pointed : List Spot → List ℕ → ℕ → List Rattle.flow_transitions.specs.declared.reading.point_name.PointName.PointName
  pointed ss x b = map (point_here text) ss ++ record { name = x; line = line_at text b } ∷ []

  module _ (v : ℕ) (ns : Names) (p : ℕ) (ss : List Spot) (x : List ℕ) (b a : ℕ)
      (h : AreVariables (all_spots ns) × AreNew [] ss × (place_of x (spot_names ss) ≡ None)) where
    abbrev whole_heads : Heads
    whole_heads = record {
      vars_at = v;
      variables = ns;
      points_at = p;
      points =
          record { first_ones = ss; last = record { name = x; at = b; sign_at = a } };
    }

    size : length (pointed ss x b) ≡ length ss + 1
    size = length-append (map (point_here text) ss) _ ∙ ap (λ z. z + 1) (length-map ss (point_here text))

    spots : length (all_spots whole_heads.points) ≡ length ss + 1
    spots = length-append ss _

    at_last : Stepped → Type 0
    at_last s = After text (a_point v ns p ss x b) semicolon a s

    abbrev behind : Stepped
    behind = Ok (progress (names_in ns) (pointed ss x b) [] at_edge)

    abbrev count_fault : Stepped
    count_fault = Err (fault.Points (length (pointed ss x b)))

    counted : (length ss + 1 < 2) ⊎ (MOST_POINTS < length ss + 1) → (ts : List Token)
        → FirstFault text (begun_then (a_point v ns p ss x b) (token semicolon a ∷ ts))
        (fault.Points (length (pointed ss x b)))
    counted w ts = point_count v ns p ss x b a ts refl h w (ap fault.Points size)

    by_count : (t u : Bool) → nat_le 2 (length (pointed ss x b)) ≡ t → nat_le (length (pointed ss x b)) MOST_POINTS ≡ u
        → After text (a_point v ns p ss x b) semicolon a (if t then (if u then behind else count_fault) else count_fault)
    by_count true true e f = inl (record {
      now = some_edges whole_heads [];
      has = (
        record {
          heads = record {
            variables = h.0;
            points = new_more [] ss (record { name = x; at = b; sign_at = a }) h.1 h.2;
            some = (let l = leb-true 2 (length (pointed ss x b)) e in omega (arith, l, size, spots));
            few = (let l = leb-true (length (pointed ss x b)) MOST_POINTS f in omega (arith, l, size, spots));
          };
          edges = [];
          say = tt;
        },
        ap (λ z. progress (names_in ns) z [] at_edge) (sym (points_more text ss (record { name = x; at = b; sign_at = a }))),
      );
      grown = λ ts. refl;
      ready = λ k a. tt;
      more = λ h. cc;
    })
    by_count true false e f = counted (inr (let l = leb-false (length (pointed ss x b)) MOST_POINTS f in omega (arith, l, size)))
    by_count false u e f = counted (inl (let l = leb-false 2 (length (pointed ss x b)) e in omega (arith, l, size)))

  -- one token on behind a point's name
  pub step_point : (v : ℕ) (ns : Names) (p : ℕ) (ss : List Spot) (x : List ℕ) (b : ℕ) (k : Kind) (a : ℕ)
      → AreVariables (all_spots ns) × AreNew [] ss × (place_of x (spot_names ss) ≡ None)
      → After text (a_point v ns p ss x b) k a (token_at past_point (progress (names_in ns) (pointed ss x b) [] past_point)
      (seen_here text k a))
  step_point v ns p ss x b comma a h = inl (record {
    now = some_points v ns p (ss ++ record { name = x; at = b; sign_at = a } ∷ []);
    has = (
      (h.0, new_more [] ss (record { name = x; at = b; sign_at = a }) h.1 h.2),
      ap (λ z. progress (names_in ns) z [] at_point) (sym (points_more text ss (record { name = x; at = b; sign_at = a }))),
    );
    grown = λ ts. ap (λ z. vars_then v (names_then ns (points_then p z)))
        (sym (commas_more ss (record { name = x; at = b; sign_at = a }) ts));
    ready = λ k a. tt;
    more = λ h. cc;
  })
  step_point v ns p ss x b semicolon a h = by_count v ns p ss x b a h (nat_le 2 (length (pointed ss x b)))
      (nat_le (length (pointed ss x b)) MOST_POINTS) refl refl
  step_point v ns p ss x b (change_sign replaces) a h = refuse (a_point v ns p ss x b) (change_sign replaces) a h
      (neither comma (λ e. cc) (λ e. cc))
  step_point v ns p ss x b (demand_word to_assume) a h = refuse (a_point v ns p ss x b) (demand_word to_assume) a h
      (neither comma (λ e. cc) (λ e. cc))
  step_point v ns p ss x b _ a h = refuse (a_point v ns p ss x b) _ a h (neither comma (λ e. cc) (λ e. cc))
