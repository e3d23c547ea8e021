-- The brackets of a function end with it.
use Rattle.std.proofs.Common.{◌≡◌, ◌∙◌, ◌++◌, ℕ, suc, List, [], ◌∷◌, Option, Some, refl, sym, ap, subst, append_assoc}
use Rattle.std.proofs.lemmas.List.{append-nil}
use Rattle.source_grammar.specs.Tokens.{replaces, Kind, left_paren, right_paren, left_brace, right_brace, left_bracket, right_bracket}
use Rattle.source_grammar.specs.Tokens.{semicolon, change_sign, Token, token}
use Rattle.source_grammar.specs.Grammar.{spell_sizes, spell_values, bare, given, sized, filled, Declarator, declarator, spell_declarator}
use Rattle.source_grammar.specs.Grammar.{MoreDeclarators, last_declarator, next_declarator, spell_more_declarators, Declarators}
use Rattle.source_grammar.specs.Grammar.{spell_declarators, IntType, plain_int, const_int, spell_type}
use Rattle.source_grammar.specs.Grammar.{Specifiers, gives_int, gives_void, storage, spell_specifiers, FunctionName, called, called_main}
use Rattle.source_grammar.specs.Grammar.{spell_function_name, Bounds, sized_bounds, open_bound, open_bounds, spell_bounds, Parameter}
use Rattle.source_grammar.specs.Grammar.{number_parameter, pointer_parameter, array_parameter, spell_parameter, MoreParameters}
use Rattle.source_grammar.specs.Grammar.{last_parameter, next_parameter, spell_more_parameters, Parameters, no_parameters}
use Rattle.source_grammar.specs.Grammar.{void_parameters, some_parameters, spell_parameters, spell_items, Function, function, spell}
use Rattle.source_grammar.specs.Grammar as tree
use Rattle.source_grammar.specs.Grammar.{Reads}
use Rattle.source_grammar.specs.Faults.{Finds, short}
use Rattle.source_file.proofs.trees.Expressions.{IsPlain, IsOpening, IsClosing, IsReader, expr_read, sizes_read, braced_read}
use Rattle.source_file.proofs.trees.Statements.{IsWalker, items_read}
use Rattle.source_file.proofs.wholes.Turns.{Turn, opening, closing, staying, kind_turn, turns, after, again, twice, turns_append}
use Rattle.source_file.proofs.wholes.Turns.{twice_append}

-- what stands behind the closing bracket of so many and one more
abbrev pub run : ℕ → List Token → Option (List Turn)
run d ts = after (suc d) (turns ts)

plain_turn : (k : Kind) → IsPlain k → kind_turn k ≡ staying
plain_turn left_paren h = absurd h
plain_turn left_bracket h = absurd h
plain_turn left_brace h = absurd h
plain_turn right_paren h = absurd h
plain_turn right_bracket h = absurd h
plain_turn right_brace h = absurd h
plain_turn k h = refl

opening_turn : (k : Kind) → IsOpening k → kind_turn k ≡ opening
opening_turn left_paren h = refl
opening_turn left_bracket h = refl
opening_turn left_brace h = refl
opening_turn k h = absurd h

closing_turn : (k : Kind) → IsClosing k → kind_turn k ≡ closing
closing_turn right_paren h = refl
closing_turn right_bracket h = refl
closing_turn right_brace h = refl
closing_turn k h = absurd h

abbrev Any : ℕ → Type 0
Any d = Unit {0}

reader : IsReader run suc Any
reader = record {
  calm_inside = λ d h. tt;
  plain = λ d h k p a ts. ap (λ (t : Turn). after (suc d) (t ∷ turns ts)) (plain_turn k p);
  opens = λ d h k p a ts. ap (λ (t : Turn). after (suc d) (t ∷ turns ts)) (opening_turn k p);
  closes = λ d h k p a ts. ap (λ (t : Turn). after (suc (suc d)) (t ∷ turns ts)) (closing_turn k p);
  at_comma = λ d h a ts. refl;
}

declarator_run : (x : Declarator) (d : ℕ) (ts : List Token) → run d (spell_declarator x ++ ts) ≡ run d ts
declarator_run (declarator x a bare) d ts = refl
declarator_run (declarator x a (given b e)) d ts = expr_read run suc Any reader e d tt ts
declarator_run (declarator x a (sized zs)) d ts = sizes_read run suc Any reader zs d tt ts
declarator_run (declarator x a (filled zs b c vs f)) d ts =
    let rest = token (change_sign replaces) b ∷ token left_brace c ∷ (spell_values vs ++ token right_brace f ∷ []) in
    ap (run d) (append_assoc (spell_sizes zs) rest ts) ∙ sizes_read run suc Any reader zs d tt (rest ++ ts)
    ∙ braced_read run suc Any reader c vs f d tt ts

more_run : (xs : MoreDeclarators) (d : ℕ) (ts : List Token) → run d (spell_more_declarators xs ++ ts) ≡ run d ts
more_run last_declarator d ts = refl
more_run (next_declarator a x xs) d ts =
    ap (run d) (append_assoc (spell_declarator x) (spell_more_declarators xs) ts)
    ∙ declarator_run x d (spell_more_declarators xs ++ ts) ∙ more_run xs d ts

declarators_run : (xs : Declarators) (d : ℕ) (ts : List Token) → run d (spell_declarators xs ++ ts) ≡ run d ts
declarators_run (tree.declares x xs) d ts =
    ap (run d) (append_assoc (spell_declarator x) (spell_more_declarators xs) ts)
    ∙ declarator_run x d (spell_more_declarators xs ++ ts) ∙ more_run xs d ts

abbrev kept : List (List ℕ) → Option (List Turn) → Option (List Turn)
kept xs o = o

walker : IsWalker run suc Any Any kept
walker = record {
  reads = reader;
  calm = λ d h. h;
  level_inside = λ d h. tt;
  at_comma = λ d h a ts. refl;
  at_semicolon = λ d h a ts. refl;
  declares = λ d h a xs b ts. declarators_run xs d (token semicolon b ∷ ts);
  none = λ r. refl;
  more = λ xs ys r. refl;
}

specifiers_run : (ss : Specifiers) (ts : List Token) → after 0 (turns (spell_specifiers ss ++ ts)) ≡ after 0 (turns ts)
specifiers_run (gives_int a) ts = refl
specifiers_run (gives_void a) ts = refl
specifiers_run (storage a ss) ts = specifiers_run ss ts

name_run : (n : FunctionName) (ts : List Token) → after 0 (turns (spell_function_name n ++ ts)) ≡ after 0 (turns ts)
name_run (called x a) ts = refl
name_run (called_main a) ts = refl

type_run : (t : IntType) (d : ℕ) (ts : List Token) → run d (spell_type t ++ ts) ≡ run d ts
type_run (plain_int a) d ts = refl
type_run (const_int a b) d ts = refl

bounds_run : (bs : Bounds) (d : ℕ) (ts : List Token) → run d (spell_bounds bs ++ ts) ≡ run d ts
bounds_run (sized_bounds zs) d ts = sizes_read run suc Any reader zs d tt ts
bounds_run (open_bound a b) d ts = refl
bounds_run (open_bounds a b zs) d ts = sizes_read run suc Any reader zs d tt ts

parameter_run : (p : Parameter) (d : ℕ) (ts : List Token) → run d (spell_parameter p ++ ts) ≡ run d ts
parameter_run (number_parameter t x a) d ts = ap (run d) (append_assoc (spell_type t) _ ts) ∙ type_run t d _
parameter_run (pointer_parameter t a x b) d ts = ap (run d) (append_assoc (spell_type t) _ ts) ∙ type_run t d _
parameter_run (array_parameter t x a bs) d ts = ap (run d) (append_assoc (spell_type t) _ ts) ∙ type_run t d _ ∙ bounds_run bs d ts

after_run : (ps : MoreParameters) (d : ℕ) (ts : List Token) → run d (spell_more_parameters ps ++ ts) ≡ run d ts
after_run last_parameter d ts = refl
after_run (next_parameter a p ps) d ts =
    ap (run d) (append_assoc (spell_parameter p) (spell_more_parameters ps) ts)
    ∙ parameter_run p d (spell_more_parameters ps ++ ts) ∙ after_run ps d ts

parameters_run : (ps : Parameters) (d : ℕ) (ts : List Token) → run d (spell_parameters ps ++ ts) ≡ run d ts
parameters_run no_parameters d ts = refl
parameters_run (void_parameters a) d ts = refl
parameters_run (some_parameters p ps) d ts =
    ap (run d) (append_assoc (spell_parameter p) (spell_more_parameters ps) ts)
    ∙ parameter_run p d (spell_more_parameters ps ++ ts) ∙ after_run ps d ts

-- the parameters and the body are all
pub function_twice : (f : Function) → twice (turns (spell f)) ≡ Some []
function_twice (function ss n a ps b c is d) =
    let body : List Token = token left_brace c ∷ (spell_items is ++ token right_brace d ∷ []) in
    ap again (specifiers_run ss (spell_function_name n ++ token left_paren a ∷ (spell_parameters ps ++ token right_paren b ∷ body))
    ∙ name_run n (token left_paren a ∷ (spell_parameters ps ++ token right_paren b ∷ body))
    ∙ parameters_run ps 0 (token right_paren b ∷ body))
    ∙ items_read run suc Any Any kept walker is 0 tt (token right_brace d ∷ [])

none_left : (ts : List Token) → turns ts ≡ [] → ts ≡ []
none_left [] e = refl
none_left (token k a ∷ ts) e = cc

some_once : (ts us : List Turn) (o : Option (List Turn)) → o ≡ Some ts → o ≡ Some us → ts ≡ us
some_once ts us o e f = cc

-- tokens whose brackets end with them don't end too early
pub never_short : (ts : List Token) → twice (turns ts) ≡ Some [] → Finds short ts → ⊥
never_short ts e (n, ((f, rest, reads), more)) =
    let all : twice (turns (ts ++ rest)) ≡ Some (turns rest) =
    ap twice (turns_append ts rest) ∙ twice_append (turns ts) (turns rest) [] e in
    let end : twice (turns (ts ++ rest)) ≡ Some [] = ap (λ (x : List Token). twice (turns x)) (sym reads.spelled) ∙ function_twice f in
    let left : rest ≡ [] = none_left rest (some_once (turns rest) [] (twice (turns (ts ++ rest))) all end) in
    let same : ts ++ rest ≡ ts = ap (λ (x : List Token). ts ++ x) left ∙ append-nil ts in
    n f (subst (λ x. Reads x f) same reads)
