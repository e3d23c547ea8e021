-- The head of a function has at most one reading.
use Rattle.std.proofs.Common.{◌≡◌, ◌∙◌, ◌++◌, ℕ, List, ◌∷◌, refl, sym, ap, ap₂, append_assoc}
use Rattle.source_grammar.specs.Tokens.{Kind, a_name, right_paren, left_bracket, right_bracket, comma, semicolon, void_word, storage_word}
use Rattle.source_grammar.specs.Tokens.{Token, token, Name, infix_sign, times_op}
use Rattle.source_grammar.specs.Grammar.{Specifiers, gives_int, gives_void, storage, spell_specifiers, FunctionName, called, called_main}
use Rattle.source_grammar.specs.Grammar.{spell_function_name, MoreParameters, last_parameter, next_parameter, spell_more_parameters}
use Rattle.source_grammar.specs.Grammar.{Parameters, no_parameters, void_parameters, spell_parameters, Bounds, IntType, Parameter, Sizes}
use Rattle.source_grammar.specs.Grammar.{array_parameter, last_size, name_size, next_size, number_parameter, number_size, open_bound}
use Rattle.source_grammar.specs.Grammar.{open_bounds, pointer_parameter, sized_bounds, some_parameters, spell_bounds, spell_parameter}
use Rattle.source_grammar.specs.Grammar.{spell_sizes, spell_type}
use Rattle.source_grammar.proofs.machine.Goes.{First}
use Rattle.source_grammar.proofs.grammar.Follow.{AfterList, AfterPart, list_part, NoBracket, StartsParameter, part_no_bracket}
use Rattle.source_grammar.proofs.grammar.Unique.{tail_of, head_of, place_of, first_at}
use Rattle.source_grammar.proofs.grammar.OncePieces.{clash, widen}
use Rattle.source_grammar.proofs.grammar.OnceDeclared.{no_sizes, sizes_once, type_once}
use Rattle.source_grammar.proofs.grammar.Follow.{parameter_first}

-- ---- trees that are determined by their parts
pointer_same : (s : IntType) (a : ℕ) (x : Name) (b : ℕ) (t : IntType) (a2 : ℕ) (y : Name) (b2 : ℕ) → s ≡ t
    → token (infix_sign times_op) a ≡ token (infix_sign times_op) a2 → token (a_name x) b ≡ token (a_name y) b2
    → pointer_parameter s a x b ≡ pointer_parameter t a2 y b2
pointer_same s a x b t a2 y b2 h i j = cc

number_same : (s : IntType) (x : Name) (a : ℕ) (t : IntType) (y : Name) (b : ℕ) → s ≡ t → token (a_name x) a ≡ token (a_name y) b
    → number_parameter s x a ≡ number_parameter t y b
number_same s x a t y b h i = cc

array_same : (s : IntType) (x : Name) (a : ℕ) (bs : Bounds) (t : IntType) (y : Name) (b : ℕ) (cs : Bounds) → s ≡ t
    → token (a_name x) a ≡ token (a_name y) b → bs ≡ cs → array_parameter s x a bs ≡ array_parameter t y b cs
array_same s x a bs t y b cs h i j = cc

open_same : (a b : ℕ) (ss : Sizes) (c d : ℕ) (ts : Sizes) → token left_bracket a ≡ token left_bracket c
    → token right_bracket b ≡ token right_bracket d → ss ≡ ts → open_bounds a b ss ≡ open_bounds c d ts
open_same a b ss c d ts h i j = cc

next_parameter_same : (a : ℕ) (p : Parameter) (ps : MoreParameters) (b : ℕ) (r : Parameter) (qs : MoreParameters)
    → token comma a ≡ token comma b → p ≡ r → ps ≡ qs → next_parameter a p ps ≡ next_parameter b r qs
next_parameter_same a p ps b r qs h i j = cc

-- ---- the head of a function
-- what stands before its name
pub specifiers_once : (s t : Specifiers) (w x : List Token) → spell_specifiers s ++ w ≡ spell_specifiers t ++ x → (s ≡ t) × (w ≡ x)
specifiers_once (gives_int a) (gives_int b) w x q = ((cc), (cc))
specifiers_once (gives_void a) (gives_void b) w x q = ((cc), (cc))
specifiers_once (storage a s) (storage b t) w x q =
    let r = specifiers_once s t w x (tail_of _ _ _ _ q) in (ap₂ storage (place_of storage_word a b (head_of _ _ _ _ q)) r.0, r.1)
specifiers_once (gives_int a) (gives_void b) w x q = cc
specifiers_once (gives_int a) (storage b t) w x q = cc
specifiers_once (gives_void a) (gives_int b) w x q = cc
specifiers_once (gives_void a) (storage b t) w x q = cc
specifiers_once (storage a s) (gives_int b) w x q = cc
specifiers_once (storage a s) (gives_void b) w x q = cc

-- its name
pub name_once : (s t : FunctionName) (w x : List Token) → spell_function_name s ++ w ≡ spell_function_name t ++ x → (s ≡ t) × (w ≡ x)
name_once (called y a) (called z b) w x q = ((cc), (cc))
name_once (called_main a) (called_main b) w x q = ((cc), (cc))
name_once (called y a) (called_main b) w x q = cc
name_once (called_main a) (called z b) w x q = cc

-- empty brackets are no sizes
open_sizes : (ss : Sizes) (a b : ℕ) (w y : List Token) → token left_bracket a ∷ token right_bracket b ∷ y ≡ spell_sizes ss ++ w → ⊥
open_sizes (last_size c (number_size n d) e) a b w y q = cc
open_sizes (last_size c (name_size x d) e) a b w y q = cc
open_sizes (next_size c (number_size n d) e ss) a b w y q = cc
open_sizes (next_size c (name_size x d) e ss) a b w y q = cc

bounds_once : (bs cs : Bounds) (w x : List Token) → First NoBracket w → First NoBracket x → spell_bounds bs ++ w ≡ spell_bounds cs ++ x
    → (bs ≡ cs) × (w ≡ x)
bounds_once (sized_bounds ss) (sized_bounds ts) w x i j q = let r = sizes_once ss ts w x i j q in (ap sized_bounds r.0, r.1)
bounds_once (sized_bounds ss) (open_bound a b) w x i j q = absurd (open_sizes ss a b w x (sym q))
bounds_once (open_bound a b) (sized_bounds ss) w x i j q = absurd (open_sizes ss a b x w q)
bounds_once (sized_bounds ss) (open_bounds a b ts) w x i j q = absurd (open_sizes ss a b w _ (sym q))
bounds_once (open_bounds a b ts) (sized_bounds ss) w x i j q = absurd (open_sizes ss a b x _ q)
bounds_once (open_bound a b) (open_bound c d) w x i j q = ((cc), (cc))
bounds_once (open_bound a b) (open_bounds c d ts) w x i j q = absurd (no_sizes ts w x i (tail_of _ _ _ _ (tail_of _ _ _ _ q)))
bounds_once (open_bounds a b ss) (open_bound c d) w x i j q = absurd (no_sizes ss x w j (sym (tail_of _ _ _ _ (tail_of _ _ _ _ q))))
bounds_once (open_bounds a b ss) (open_bounds c d ts) w x i j q =
    let k = tail_of _ _ _ _ q in
    let r = sizes_once ss ts w x i j (tail_of _ _ _ _ k) in
    (open_same a b ss c d ts (head_of _ _ _ _ q) (head_of _ _ _ _ k) r.0, r.1)

no_bounds : (bs : Bounds) (w y : List Token) → First NoBracket w → w ≡ spell_bounds bs ++ y → ⊥
no_bounds (sized_bounds ss) w y h q = no_sizes ss w y h q
no_bounds (open_bound a b) w y h q = first_at NoBracket w left_bracket a _ h q
no_bounds (open_bounds a b ss) w y h q = first_at NoBracket w left_bracket a _ h q

-- a type and what is behind it
typed : (s t : IntType) (y z w x : List Token) → (spell_type s ++ y) ++ w ≡ (spell_type t ++ z) ++ x → (s ≡ t) × (y ++ w ≡ z ++ x)
typed s t y z w x q = type_once s t (y ++ w) (z ++ x)
    (sym (append_assoc (spell_type s) y w) ∙ q ∙ append_assoc (spell_type t) z x)

part_first : (w : List Token) → First AfterPart w → First NoBracket w
part_first w h = widen AfterPart NoBracket w part_no_bracket h

parameter_once : (p r : Parameter) (w x : List Token) → First AfterPart w → First AfterPart x
    → spell_parameter p ++ w ≡ spell_parameter r ++ x → (p ≡ r) × (w ≡ x)
parameter_once (number_parameter s y a) (number_parameter t z b) w x i j q =
    let r = typed s t _ _ w x q in (number_same s y a t z b r.0 (head_of _ _ _ _ r.1), tail_of _ _ _ _ r.1)
parameter_once (number_parameter s y a) (pointer_parameter t b z c) w x i j q = let r = (typed s t _ _ w x q).1 in cc
parameter_once (pointer_parameter s b z c) (number_parameter t y a) w x i j q = let r = (typed s t _ _ w x q).1 in cc
parameter_once (number_parameter s y a) (array_parameter t z b cs) w x i j q =
    absurd (no_bounds cs w x (part_first w i) (tail_of _ _ _ _ (typed s t _ _ w x q).1))
parameter_once (array_parameter s z b cs) (number_parameter t y a) w x i j q =
    absurd (no_bounds cs x w (part_first x j) (sym (tail_of _ _ _ _ (typed s t _ _ w x q).1)))
parameter_once (pointer_parameter s a y b) (pointer_parameter t c z d) w x i j q =
    let r = typed s t _ _ w x q in
    let k = tail_of _ _ _ _ r.1 in
    (pointer_same s a y b t c z d r.0 (head_of _ _ _ _ r.1) (head_of _ _ _ _ k), tail_of _ _ _ _ k)
parameter_once (pointer_parameter s a y b) (array_parameter t z c cs) w x i j q = let r = (typed s t _ _ w x q).1 in cc
parameter_once (array_parameter s z c cs) (pointer_parameter t a y b) w x i j q = let r = (typed s t _ _ w x q).1 in cc
parameter_once (array_parameter s y a bs) (array_parameter t z b cs) w x i j q =
    let r = typed s t _ _ w x q in
    let k = bounds_once bs cs w x (part_first w i) (part_first x j) (tail_of _ _ _ _ r.1) in
    (array_same s y a bs t z b cs r.0 (head_of _ _ _ _ r.1) k.0, k.1)

more_parameters_first : (ps : MoreParameters) (w : List Token) → First AfterList w → First AfterPart (spell_more_parameters ps ++ w)
more_parameters_first last_parameter w h = widen AfterList AfterPart w list_part h
more_parameters_first (next_parameter a p ps) w h = tt

more_parameters_once : (ps qs : MoreParameters) (w x : List Token) → First AfterList w → First AfterList x
    → spell_more_parameters ps ++ w ≡ spell_more_parameters qs ++ x → (ps ≡ qs) × (w ≡ x)
more_parameters_once last_parameter last_parameter w x i j q = (refl, q)
more_parameters_once last_parameter (next_parameter a p ps) w x i j q = absurd (first_at AfterList w comma a _ i q)
more_parameters_once (next_parameter a p ps) last_parameter w x i j q = absurd (first_at AfterList x comma a _ j (sym q))
more_parameters_once (next_parameter a p ps) (next_parameter b r qs) w x i j q =
    let s = parameter_once p r (spell_more_parameters ps ++ w) (spell_more_parameters qs ++ x) (more_parameters_first ps w i)
    (more_parameters_first qs x j) (sym (append_assoc (spell_parameter p) (spell_more_parameters ps) w) ∙ tail_of _ _ _ _ q
    ∙ append_assoc (spell_parameter r) (spell_more_parameters qs) x) in
    let t = more_parameters_once ps qs w x i j s.1 in
    (next_parameter_same a p ps b r qs (head_of _ _ _ _ q) s.0 t.0, t.1)

-- what may follow a list begins no parameter
no_parameter : (k : Kind) → AfterList k → StartsParameter k → ⊥
no_parameter semicolon h i = i
no_parameter right_paren h i = i
no_parameter _ h i = h

some_parameter : (p : Parameter) (ps : MoreParameters) (w : List Token)
    → First StartsParameter ((spell_parameter p ++ spell_more_parameters ps) ++ w)
some_parameter p ps w = rw append_assoc (parameter_first p _)

-- its parameters
pub parameters_once : (ps qs : Parameters) (w x : List Token) → First AfterList w → First AfterList x
    → spell_parameters ps ++ w ≡ spell_parameters qs ++ x → (ps ≡ qs) × (w ≡ x)
parameters_once no_parameters no_parameters w x i j q = (refl, q)
parameters_once no_parameters (void_parameters a) w x i j q = absurd (first_at AfterList w void_word a _ i q)
parameters_once (void_parameters a) no_parameters w x i j q = absurd (first_at AfterList x void_word a _ j (sym q))
parameters_once no_parameters (some_parameters p ps) w x i j q =
    absurd (clash AfterList StartsParameter w _ no_parameter i q (some_parameter p ps x))
parameters_once (some_parameters p ps) no_parameters w x i j q =
    absurd (clash AfterList StartsParameter x _ no_parameter j (sym q) (some_parameter p ps w))
parameters_once (void_parameters a) (void_parameters b) w x i j q = ((cc), (cc))
parameters_once (void_parameters a) (some_parameters p ps) w x i j q =
    absurd (first_at StartsParameter _ void_word a _ (some_parameter p ps x) (sym q))
parameters_once (some_parameters p ps) (void_parameters a) w x i j q =
    absurd (first_at StartsParameter _ void_word a _ (some_parameter p ps w) q)
parameters_once (some_parameters p ps) (some_parameters r qs) w x i j q =
    let s = parameter_once p r (spell_more_parameters ps ++ w) (spell_more_parameters qs ++ x) (more_parameters_first ps w i)
    (more_parameters_first qs x j) (sym (append_assoc (spell_parameter p) (spell_more_parameters ps) w) ∙ q
    ∙ append_assoc (spell_parameter r) (spell_more_parameters qs) x) in
    let t = more_parameters_once ps qs w x i j s.1 in
    (ap₂ some_parameters s.0 t.0, t.1)
