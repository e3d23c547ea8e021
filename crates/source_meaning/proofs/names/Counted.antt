-- How often the names of variables stand among tokens.
use Rattle.std.proofs.Common.{◌≡◌, ◌≢◌, ◌≤◌, ◌+◌, ℕ, ℤ, List, [], ◌∷◌, ◌++◌, Bool, true, false, cond, IsTrue, Option, Some, None}
use Rattle.std.proofs.Common.{Result, Ok, Err}
use Rattle.std.proofs.Common.{length, nat_lt, refl, sym, ap, subst, arith, nat_eq, eqb-true, ne_eqb, true≢false, count_by}
use Rattle.std.specs.Prelude.{◌==◌, if◌then◌else◌}
use Rattle.std.specs.Str.{bytes_eq}
use Rattle.std.proofs.lemmas.List.Sums.{sum_by-cons, sum_by-append}
use Rattle.std.proofs.lemmas.Slice.Eq.{bytes_eq-Decides}
use Rattle.lang_tree.specs.declared.limits.TheConstants.{MOST_VARIABLES}
use Rattle.source_grammar.specs.Tokens.{Name, a_name, Token, token}
use Rattle.source_core.proofs.expressions.Apart.{occurs_in, counted-once}
use Rattle.source_meaning.specs.declared.fault.FunctionFault.{FunctionFault}
use Rattle.source_meaning.specs.declared.fault.FunctionFault.TheVariants.{NameTwice}
use Rattle.source_meaning.specs.declared.fault.FunctionFault.TheVariants as fault
use Rattle.source_meaning.specs.declared.fault.Limit.TheVariants as limit
use Rattle.source_meaning.specs.Names.{Thing, variable, array, constant, Named, State, declared, is_named, stands_once, fresh}
use Rattle.source_meaning.specs.Names.{as_variable_again, with_variable, declared_number}
use Rattle.source_meaning.proofs.results.Values.{OnValue, on_bind, on_both, on_provided}
use Rattle.source_meaning.proofs.names.Numbers.{name_of, name_below, name_same}
use Rattle.source_meaning.proofs.names.Sound.{Sound, IsVariable, Was, fresh_was}

-- how often a name stands among tokens
abbrev pub standing : List ℕ → List Token → ℕ
standing x ts = count_by (is_named x) ts

-- a token more
pub standing_more : (x : List ℕ) (t : Token) (ts : List Token) → standing x (t ∷ ts) ≡ cond (is_named x t) 1 0 + standing x ts
standing_more x t ts = sum_by-cons (λ u. cond (is_named x u) 1 0) t ts

-- tokens behind others
pub standing_then : (x : List ℕ) (ts us : List Token) → standing x (ts ++ us) ≡ standing x ts + standing x us
standing_then x ts us = sum_by-append (λ u. cond (is_named x u) 1 0) ts us

-- each variable is counted at most as often as its name stands among tokens
abbrev pub Counted : (vs : List (List ℕ)) → List Token → (ℕ → ℕ) → Type 0
Counted vs ts counts = (i : ℕ) (x : List ℕ) → name_of vs i ≡ Some x → counts i ≤ standing x ts

-- no variable is counted
pub counted_none : (vs : List (List ℕ)) (ts : List Token) → Counted vs ts (λ i. 0)
counted_none vs ts i x e = omega arith

-- a token more may stand before them
pub counted_more : (vs : List (List ℕ)) (t : Token) (ts : List Token) (c : ℕ → ℕ) → Counted vs ts c → Counted vs (t ∷ ts) c
counted_more vs t ts c h i x e = let k = standing_more x t ts in omega (arith, k, h i x e)

-- counts of two lists of tokens add up in both together
pub counted_then : (vs : List (List ℕ)) (ts us : List Token) (c d : ℕ → ℕ) → Counted vs ts c → Counted vs us d
    → Counted vs (ts ++ us) (λ i. c i + d i)
counted_then vs ts us c d h k i x e = let l = standing_then x ts us in omega (arith, l, h i x e, k i x e)

-- tokens more may stand behind them
pub counted_first : (vs : List (List ℕ)) (ts us : List Token) (c : ℕ → ℕ) → Counted vs ts c → Counted vs (ts ++ us) c
counted_first vs ts us c h i x e = let l = standing_then x ts us in omega (arith, l, h i x e)

-- or before them
pub counted_behind : (vs : List (List ℕ)) (ts us : List Token) (c : ℕ → ℕ) → Counted vs ts c → Counted vs (us ++ ts) c
counted_behind vs ts us c h i x e = let l = standing_then x us ts in omega (arith, l, h i x e)

-- tokens in which each name stands as often have room for them
pub counted_within : (vs : List (List ℕ)) (ts us : List Token) (c : ℕ → ℕ) → Counted vs ts c
    → ((x : List ℕ) → standing x ts ≤ standing x us) → Counted vs us c
counted_within vs ts us c h w i x e = omega (arith, h i x e, w x)

-- the name of a variable is that
pub is_itself : (x : Name) (at : ℕ) (z : List ℕ) → x.value ≡ None → z ≡ x.text → IsTrue (is_named z (token (a_name x) at))
is_itself x at z e f = by x.value e where
  by : (o : Option ℤ) → o ≡ None → IsTrue (elim o as (λ v. Bool) [ None ↦ bytes_eq z x.text | Some v ↦ false ])
  by None k = (bytes_eq-Decides z x.text).1 f
  by (Some v) k = cc

-- a variable stands where its name does
pub counted_name : (vs : List (List ℕ)) (x : Name) (at var : ℕ) → IsVariable x vs var
    → Counted vs (token (a_name x) at ∷ []) (λ i. occurs_in i var)
counted_name vs x at var k i z e =
    by (var == i)
    (λ t. is_itself x at z k.0 (name_same vs i z x.text e (subst (λ j. name_of vs j ≡ Some x.text) (counted-once var i t) k.1)))
  where
    one : IsTrue (is_named z (token (a_name x) at)) → 1 ≤ standing z (token (a_name x) at ∷ [])
    one t = let l = standing_more z (token (a_name x) at) [] in
        let m = ap {B = ℕ} (λ b. cond b 1 0) t in omega (arith, l, m)

    by : (b : Bool) → (IsTrue b → IsTrue (is_named z (token (a_name x) at)))
        → (let n : ℕ = if b then 1 else 0 in n ≤ standing z (token (a_name x) at ∷ []))
    by true f = one (f refl)
    by false f = omega arith

-- a name that may be declared is no constant
fresh_plain : (x : Name) (at : ℕ) (st : State) → OnValue (λ before. x.value ≡ None) (fresh x at st)
fresh_plain x at st = by x.value refl where
  known_no_more : (m : Named) (b : Bool) → x.value ≡ None
      → OnValue (λ before. x.value ≡ None) (cond b (Err (NameTwice at)) (Ok (Some m.thing)))
  known_no_more m true e = tt
  known_no_more m false e = e

  plain : (o : Option Named) → x.value ≡ None
      → OnValue (λ before. x.value ≡ None) (elim o as (λ z. Result (Option Thing) FunctionFault)
      [ None ↦ Ok None | Some m ↦ cond m.is_known (Err (NameTwice at)) (Ok (Some m.thing)) ])
  plain None e = e
  plain (Some m) e = known_no_more m m.is_known e

  by : (o : Option ℤ) → x.value ≡ o → OnValue (λ before. x.value ≡ None) (elim o as (λ z. Result (Option Thing) FunctionFault) [
    | Some v ↦ Err (NameTwice at)
    | None ↦ elim (declared x.text st.names) as (λ z. Result (Option Thing) FunctionFault)
        [ None ↦ Ok None | Some m ↦ cond m.is_known (Err (NameTwice at)) (Ok (Some m.thing)) ]
  ])
  by None e = plain (declared x.text st.names) e
  by (Some v) e = tt

-- of the variables so far one that is declared is that of its name
pub counted_declared : (x : Name) (at : ℕ) (st : State) → Sound st
    → OnValue (λ now. Counted st.variables (token (a_name x) at ∷ []) (λ i. occurs_in i (declared_number now))) (with_variable x at st)
counted_declared x at st s =
    on_bind (λ before. Was st x.text before × (x.value ≡ None)) Target (fresh x at st) _
    (on_both (Was st x.text) (λ before. x.value ≡ None) (fresh x at st) (fresh_was x at st s) (fresh_plain x at st))
    (λ before w. by before w.0 w.1)
  where
    Target : State → Type 0
    Target now = Counted st.variables (token (a_name x) at ∷ []) (λ i. occurs_in i (declared_number now))

    count : ℕ
    count = length st.variables

    none : (i : ℕ) → count ≢ i → occurs_in i count ≡ 0
    none i d = ap (λ (b : Bool). let k : ℕ = if b then 1 else 0 in k) (ne_eqb count i d)

    new : Counted st.variables (token (a_name x) at ∷ []) (λ i. occurs_in i count)
    new i z e = let l = name_below st.variables i z e in let k = none i (λ d. omega (arith, l, d)) in omega (arith, k)

    by : (before : Option Thing) → Was st x.text before → x.value ≡ None → OnValue Target (as_variable_again x.text at st before)
    by None w e = on_provided Target (nat_lt count MOST_VARIABLES) (fault.Limit at limit.Variables) _ (λ t. new)
    by (Some (variable i)) w e = counted_name st.variables x at i (e, w.2)
    by (Some (array extents)) w e = tt
    by (Some (constant v)) w e = tt

-- ---- steps
-- the name of this variable stands once, where C comes to each step
abbrev pub is_single : (vs : List (List ℕ)) → Option (List Token) → ℕ → Bool
is_single vs None i = false
is_single vs (Some ts) i = elim (name_of vs i) [ None ↦ false | Some x ↦ nat_eq (standing x ts) 1 ]

-- so it is where its name stands once
pub single_named : (vs : List (List ℕ)) (x : List ℕ) (around : Option (List Token)) (i : ℕ) → name_of vs i ≡ Some x
    → IsTrue (stands_once x around) → IsTrue (is_single vs around i)
single_named vs x None i e t = t
single_named vs x (Some ts) i e t =
    subst (λ o. IsTrue (elim o as (λ z. Bool) [ None ↦ false | Some y ↦ nat_eq (standing y ts) 1 ])) (sym e) t

-- and it is counted once at most
pub single_once : (vs : List (List ℕ)) (ts : List Token) (c : ℕ → ℕ) → Counted vs ts c → (i : ℕ) → IsTrue (is_single vs (Some ts) i)
    → c i ≤ 1
single_once vs ts c h i t = by (name_of vs i) (h i) t where
  by : (o : Option (List ℕ)) → ((x : List ℕ) → o ≡ Some x → c i ≤ standing x ts)
      → IsTrue (elim o as (λ z. Bool) [ None ↦ false | Some x ↦ nat_eq (standing x ts) 1 ]) → c i ≤ 1
  by None f u = absurd (true≢false (sym u))
  by (Some x) f u = let k = f x refl in let l = eqb-true (standing x ts) 1 u in omega (arith, k, l)
