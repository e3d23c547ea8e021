-- The cases of a condition have few guards each, which are forms over the variables.
use Rattle.std.proofs.Common.{ℕ, ◌+◌, ◌≤◌, Bool, true, false, List, [], ◌∷◌, ◌++◌, length, length-append, map}
use Rattle.std.proofs.Common.{refl, lit≤, arith}
use Rattle.std.specs.Prelude.{not, IsTrue, nat_le}
use Rattle.std.specs.List.{list_all}
use Rattle.std.proofs.lemmas.Bool.{and_parts, and_from, leb-true, le-leb}
use Rattle.lang_tree.specs.declared.form.Form.{Form}
use Rattle.lang_tree.specs.declared.cond.Rel.{Rel}
use Rattle.lang_tree.specs.declared.cond.Rel.TheVariants.{Eq, Ne, Lt, Le, Gt, Ge}
use Rattle.lang_tree.specs.Limits.{is_form, is_condition, is_tested}
use Rattle.lang_tree.specs.Tree.{Condition, free, compare, negation, both, either, leaf_count}
use Rattle.lang_tree.specs.Cases.{comparison_cases, crossed, cases_of}
use Rattle.ask_verdicts.specs.Breaking.{is_case}
use Rattle.flow_edges.proofs.Each.{Each, each-append, each-map, each_weaker, each_passes}
use Rattle.flow_edges.proofs.constants.FormLimits.{IsForm, cases_forms}
use Rattle.flow_edges.specs.declared.limits.TheConstants.{MOST_ACTIONS}

-- so many guards at most
abbrev IsShort : ℕ → List Form → Type 0
IsShort m case = length case ≤ m

comparison_short : (truth : Bool) (rel : Rel) (f : Form) → Each (IsShort 2) (comparison_cases truth rel f)
comparison_short true Lt f = (lit≤ tt, tt)
comparison_short false Lt f = (lit≤ tt, tt)
comparison_short true Le f = (lit≤ tt, tt)
comparison_short false Le f = (lit≤ tt, tt)
comparison_short true Gt f = (lit≤ tt, tt)
comparison_short false Gt f = (lit≤ tt, tt)
comparison_short true Ge f = (lit≤ tt, tt)
comparison_short false Ge f = (lit≤ tt, tt)
comparison_short true Eq f = (lit≤ tt, tt)
comparison_short false Eq f = (lit≤ tt, (lit≤ tt, tt))
comparison_short true Ne f = (lit≤ tt, (lit≤ tt, tt))
comparison_short false Ne f = (lit≤ tt, tt)

weaker : (a b : ℕ) → a ≤ b → (cases : List (List Form)) → Each (IsShort a) cases → Each (IsShort b) cases
weaker a b l = each_weaker (IsShort a) (IsShort b) (λ case h. omega (arith, l, h))

crossed_short : (a b m : ℕ) → a + b ≤ m → (us vs : List (List Form)) → Each (IsShort a) us → Each (IsShort b) vs
    → Each (IsShort m) (crossed us vs)
crossed_short a b m l [] vs h k = tt
crossed_short a b m l (u ∷ us) vs h k =
    let first = h.0 in
    each-append (IsShort m) (map (λ v. u ++ v) vs) (crossed us vs)
    (each-map (IsShort b) (IsShort m) (λ v. u ++ v) (λ v s. let both = length-append u v in omega (arith, l, first, s, both)) vs k)
    (crossed_short a b m l us vs h.1 k)

joined_short : (a b m : ℕ) → a ≤ m → b ≤ m → (us vs : List (List Form)) → Each (IsShort a) us → Each (IsShort b) vs
    → Each (IsShort m) (us ++ vs)
joined_short a b m l r us vs h k = each-append (IsShort m) us vs (weaker a m l us h) (weaker b m r vs k)

cases_short : (truth : Bool) (c : Condition) → Each (IsShort (leaf_count c + leaf_count c)) (cases_of truth c)
cases_short truth free = (lit≤ tt, tt)
cases_short truth (compare rel f) = comparison_short truth rel f
cases_short truth (negation c) = cases_short (not truth) c
cases_short true (both c d) =
    let a = leaf_count c in
    let b = leaf_count d in
    crossed_short (a + a) (b + b) (a + b + (a + b)) (omega arith) (cases_of true c) (cases_of true d) (cases_short true c)
    (cases_short true d)
cases_short false (both c d) =
    let a = leaf_count c in
    let b = leaf_count d in
    joined_short (a + a) (b + b) (a + b + (a + b)) (omega arith) (omega arith) (cases_of false c) (cases_of false d) (cases_short false c)
    (cases_short false d)
cases_short true (either c d) =
    let a = leaf_count c in
    let b = leaf_count d in
    joined_short (a + a) (b + b) (a + b + (a + b)) (omega arith) (omega arith) (cases_of true c) (cases_of true d) (cases_short true c)
    (cases_short true d)
cases_short false (either c d) =
    let a = leaf_count c in
    let b = leaf_count d in
    crossed_short (a + a) (b + b) (a + b + (a + b)) (omega arith) (cases_of false c) (cases_of false d) (cases_short false c)
    (cases_short false d)

-- ---- all cases
all_cases : (n : ℕ) (cases : List (List Form)) → Each (Each (IsForm n)) cases → Each (IsShort MOST_ACTIONS) cases
    → IsTrue (list_all (is_case n) cases)
all_cases n [] forms short = refl
all_cases n (case ∷ cases) forms short =
    and_from (is_case n case) (list_all (is_case n) cases)
    (and_from (nat_le (length case) MOST_ACTIONS) (list_all (is_form n) case) (le-leb (length case) MOST_ACTIONS short.0)
    (each_passes (is_form n) case forms.0))
    (all_cases n cases forms.1 short.1)

-- the cases of a condition that may be tested have few guards each, all over the variables
pub tested_cases : (n : ℕ) (truth : Bool) (c : Condition) → IsTrue (is_tested n c) → IsTrue (list_all (is_case n) (cases_of truth c))
tested_cases n truth c tested =
    let p = and_parts (nat_le (leaf_count c) 64) (is_condition n c) tested in
    let few = leb-true (leaf_count c) 64 p.0 in
    all_cases n (cases_of truth c) (cases_forms n truth c p.1)
    (weaker (leaf_count c + leaf_count c) MOST_ACTIONS (omega (arith, few)) (cases_of truth c) (cases_short truth c))

-- a case of such a list has few guards
pub case_short : (n : ℕ) (case : List Form) → IsTrue (is_case n case) → length case ≤ MOST_ACTIONS
case_short n case h = leb-true (length case) MOST_ACTIONS (and_parts (nat_le (length case) MOST_ACTIONS) (list_all (is_form n) case) h).0

-- and they are over the variables
pub case_forms : (n : ℕ) (case : List Form) → IsTrue (is_case n case) → IsTrue (list_all (is_form n) case)
case_forms n case h = (and_parts (nat_le (length case) MOST_ACTIONS) (list_all (is_form n) case) h).1
