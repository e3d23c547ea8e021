-- What the tokens of a function declare.
use Rattle.std.proofs.Common.{◌≡◌, ◌∙◌, ◌++◌, ℕ, false, List, [], ◌∷◌, min, refl, sym, ap, append_assoc}
use Rattle.std.proofs.lemmas.List.{append-nil}
use Rattle.lang_tree.specs.declared.limits.TheConstants.{MOST_VARIABLES}
use Rattle.source_grammar.specs.Tokens.{times_op, infix_sign, left_paren, right_paren, left_brace, right_brace, Token, token}
use Rattle.source_grammar.specs.Grammar.{Specifiers, gives_int, gives_void, storage, spell_specifiers, FunctionName, called, called_main}
use Rattle.source_grammar.specs.Grammar.{spell_function_name, IntType, plain_int, const_int, spell_type, sized_bounds}
use Rattle.source_grammar.specs.Grammar.{open_bound, open_bounds, spell_bounds, Bounds, Parameter, number_parameter, pointer_parameter}
use Rattle.source_grammar.specs.Grammar.{array_parameter, spell_parameter, MoreParameters, last_parameter, next_parameter}
use Rattle.source_grammar.specs.Grammar.{spell_more_parameters, Parameters, no_parameters, void_parameters, some_parameters}
use Rattle.source_grammar.specs.Grammar.{spell_parameters, Items, spell_items, Function, function, spell}
use Rattle.source_grammar.specs.Tokens.{Name, a_name}
use Rattle.source_meaning.specs.Walk.{declared_items, declared_parameter, declared_after, declared_parameters, distinct, width_of}
use Rattle.source_file.specs.declared.width.Place.TheVariants.{Heading, Elsewhere, Declaring, Behind}
use Rattle.source_file.specs.Width.{begins_bracket, declared_from}
use Rattle.source_file.proofs.trees.Expressions.{sizes_read}
use Rattle.source_file.proofs.trees.Statements.{items_read}
use Rattle.source_file.proofs.width.Counts.{inside, Calm, Level, reader, walker, bare_declares, sized_declares}

specifiers_declare : (ss : Specifiers) (ts : List Token) → declared_from Heading (spell_specifiers ss ++ ts) ≡ declared_from Heading ts
specifiers_declare (gives_int a) ts = refl
specifiers_declare (gives_void a) ts = refl
specifiers_declare (storage a ss) ts = specifiers_declare ss ts

name_declares : (n : FunctionName) (ts : List Token) → declared_from Heading (spell_function_name n ++ ts) ≡ declared_from Heading ts
name_declares (called x a) ts = refl
name_declares (called_main a) ts = refl

-- an array's name before its brackets declares nothing
bounds_declare : (x : Name) (a : ℕ) (bs : Bounds) (ts : List Token)
    → declared_from Declaring (token (a_name x) a ∷ (spell_bounds bs ++ ts)) ≡ declared_from (Behind 0) ts
bounds_declare x a (sized_bounds zs) ts = sized_declares x a zs ts
bounds_declare x a (open_bound b c) ts = refl
bounds_declare x a (open_bounds b c zs) ts = sizes_read declared_from inside Calm reader zs (Behind 0) tt ts

-- what stands before a name that is declared
type_first : (t : IntType) (ts : List Token) → declared_from Elsewhere (spell_type t ++ ts) ≡ declared_from Declaring ts
type_first (plain_int a) ts = refl
type_first (const_int a b) ts = refl

type_next : (t : IntType) (ts : List Token) → declared_from Declaring (spell_type t ++ ts) ≡ declared_from Declaring ts
type_next (plain_int a) ts = refl
type_next (const_int a b) ts = refl

-- what of a parameter stands behind its type
abbrev name_of : Parameter → List Token
name_of (number_parameter t x a) = token (a_name x) a ∷ []
name_of (pointer_parameter t a x b) = token (infix_sign times_op) a ∷ token (a_name x) b ∷ []
name_of (array_parameter t x a bs) = token (a_name x) a ∷ spell_bounds bs

abbrev type_of : Parameter → IntType
type_of (number_parameter t x a) = t
type_of (pointer_parameter t a x b) = t
type_of (array_parameter t x a bs) = t

parameter_is : (p : Parameter) → spell_parameter p ≡ spell_type (type_of p) ++ name_of p
parameter_is (number_parameter t x a) = refl
parameter_is (pointer_parameter t a x b) = refl
parameter_is (array_parameter t x a bs) = refl

-- a parameter behind its type
name_declared : (p : Parameter) (ts : List Token) → begins_bracket ts ≡ false
    → declared_from Declaring (name_of p ++ ts) ≡ declared_parameter p ++ declared_from (Behind 0) ts
name_declared (number_parameter t x a) ts e = bare_declares x a ts e
name_declared (pointer_parameter t a x b) ts e = refl
name_declared (array_parameter t x a bs) ts e = bounds_declare x a bs ts

-- a parameter with what follows
parameter_behind : (p : Parameter) (ts : List Token) → spell_parameter p ++ ts ≡ spell_type (type_of p) ++ (name_of p ++ ts)
parameter_behind p ts = ap (λ (x : List Token). x ++ ts) (parameter_is p) ∙ append_assoc (spell_type (type_of p)) (name_of p) ts

-- no `[` stands behind a parameter
after_bare : (ps : MoreParameters) (b : ℕ) (ts : List Token) → begins_bracket (spell_more_parameters ps ++ token right_paren b ∷ ts) ≡ false
after_bare last_parameter b ts = refl
after_bare (next_parameter a p ps) b ts = refl

after_declare : (ps : MoreParameters) (b : ℕ) (ts : List Token)
    → declared_from (Behind 0) (spell_more_parameters ps ++ token right_paren b ∷ ts) ≡ declared_after ps ++ declared_from Elsewhere ts
after_declare last_parameter b ts = refl
after_declare (next_parameter a p ps) b ts =
    let rest = spell_more_parameters ps ++ token right_paren b ∷ ts in
    ap (declared_from Declaring) (append_assoc (spell_parameter p) (spell_more_parameters ps) (token right_paren b ∷ ts)
    ∙ parameter_behind p rest)
    ∙ type_next (type_of p) (name_of p ++ rest) ∙ name_declared p rest (after_bare ps b ts)
    ∙ ap (λ (l : List (List ℕ)). declared_parameter p ++ l) (after_declare ps b ts)
    ∙ sym (append_assoc (declared_parameter p) (declared_after ps) (declared_from Elsewhere ts))

parameters_declare : (ps : Parameters) (b : ℕ) (ts : List Token)
    → declared_from Elsewhere (spell_parameters ps ++ token right_paren b ∷ ts) ≡ declared_parameters ps ++ declared_from Elsewhere ts
parameters_declare no_parameters b ts = refl
parameters_declare (void_parameters a) b ts = refl
parameters_declare (some_parameters p ps) b ts =
    let rest = spell_more_parameters ps ++ token right_paren b ∷ ts in
    ap (declared_from Elsewhere) (append_assoc (spell_parameter p) (spell_more_parameters ps) (token right_paren b ∷ ts)
    ∙ parameter_behind p rest)
    ∙ type_first (type_of p) (name_of p ++ rest) ∙ name_declared p rest (after_bare ps b ts)
    ∙ ap (λ (l : List (List ℕ)). declared_parameter p ++ l) (after_declare ps b ts)
    ∙ sym (append_assoc (declared_parameter p) (declared_after ps) (declared_from Elsewhere ts))

body_declares : (c : ℕ) (is : Items) (d : ℕ)
    → declared_from Elsewhere (token left_brace c ∷ (spell_items is ++ token right_brace d ∷ [])) ≡ declared_items is
body_declares c is d =
    items_read declared_from inside Calm Level (λ xs r. xs ++ r) walker is Elsewhere tt (token right_brace d ∷ [])
    ∙ append-nil (declared_items is)

-- the tokens of a function declare its variables
pub spelled_width : (f : Function) → width_of f ≡ min MOST_VARIABLES (distinct [] (declared_from Heading (spell f)))
spelled_width (function ss n a ps b c is d) =
    let body : List Token = token left_brace c ∷ (spell_items is ++ token right_brace d ∷ []) in
    let rest : List Token = token left_paren a ∷ (spell_parameters ps ++ token right_paren b ∷ body) in
    let declared : declared_from Heading (spell (function ss n a ps b c is d)) ≡ declared_parameters ps ++ declared_items is =
    specifiers_declare ss (spell_function_name n ++ rest) ∙ name_declares n rest ∙ parameters_declare ps b body
    ∙ ap (λ (l : List (List ℕ)). declared_parameters ps ++ l) (body_declares c is d) in
    ap (λ (l : List (List ℕ)). min MOST_VARIABLES (distinct [] l)) (sym declared)
