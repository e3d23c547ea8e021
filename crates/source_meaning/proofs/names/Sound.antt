-- What is true of the names that have been met, and stays true.
use Rattle.std.proofs.Common.{◌≡◌, ◌∙◌, ◌≤◌, ◌<◌, ◌+◌, ◌-◌, ℕ, zero, suc, ℤ, List, [], ◌∷◌, length, Bool, true, false, cond, IsTrue}
use Rattle.std.proofs.Common.{Result, Ok, Err, Option, Some, None, refl, sym, ap, subst, arith, nat_le, nat_lt}
use Rattle.std.specs.Prelude.{◌||◌}
use Rattle.std.specs.List.{list_any}
use Rattle.std.specs.Str.{bytes_eq}
use Rattle.std.proofs.lemmas.Bool.{ltb-true, leb-true}
use Rattle.std.proofs.lemmas.Bool.Decides.{not_from_Decides}
use Rattle.std.proofs.lemmas.Slice.Eq.{bytes_eq-Decides}
use Rattle.lang_tree.specs.declared.limits.TheConstants.{MOST_VARIABLES}
use Rattle.source_grammar.specs.Tokens.{Name, Token}
use Rattle.source_tree.specs.Expressions.{Extent}
use Rattle.source_meaning.specs.declared.fault.FunctionFault.{FunctionFault}
use Rattle.source_meaning.specs.declared.fault.FunctionFault.TheVariants.{NameTwice, SideEffect}
use Rattle.source_meaning.specs.declared.fault.FunctionFault.TheVariants as fault
use Rattle.source_meaning.specs.declared.fault.Limit.TheVariants as limit
use Rattle.source_meaning.specs.Names.{Thing, variable, array, constant, Named, State, start_state, declared, known_if, known, thing_of}
use Rattle.source_meaning.specs.Names.{as_variable, variable_of, fresh, as_variable_again, with_variable, declared_number, as_array_again}
use Rattle.source_meaning.specs.Names.{fresh_array, with_name, with_array, forgotten, closed, among, passable, stands_once, stepped_of}
use Rattle.source_meaning.specs.Limits.{counted}
use Rattle.source_meaning.specs.Statements.{new_label, jumped}
use Rattle.source_meaning.specs.Laws.{IsNoneOf, AreApart}
use Rattle.source_meaning.proofs.results.Values.{OnValue, on_bind, on_provided, on_weaker}
use Rattle.source_meaning.proofs.names.Added.{added, added_new, added_known}
use Rattle.source_meaning.proofs.names.Numbers.{name_of, name_more, name_last}

-- a variable is one of those met, and so is its name, which this is
abbrev pub IsMet : List (List ℕ) → (name : List ℕ) → Thing → Type 0
IsMet vs x (variable i) = (i < length vs) × (list_any (bytes_eq x) vs ≡ true) × (name_of vs i ≡ Some x)
IsMet vs x (array extents) = Unit {0}
IsMet vs x (constant v) = Unit {0}

-- so is each of the variables that are named
abbrev pub AllMet : List (List ℕ) → List Named → Type 0
AllMet vs [] = Unit {0}
AllMet vs (m ∷ ms) = IsMet vs m.name m.thing × AllMet vs ms

-- a state in which names stand for variables
pub record Sound (st : State) : Type 0 where
  -- each name of a variable stands for one of them
  pub met : AllMet st.variables st.names
  -- a name that was not declared is the name of none
  pub none : (x : List ℕ) → declared x st.names ≡ None → list_any (bytes_eq x) st.variables ≡ false
  -- no two have one name
  pub apart : AreApart st.variables
  -- there are no more than there may be
  pub few : length st.variables ≤ MOST_VARIABLES
  -- nor are there more statements
  pub short : st.count ≤ 4096

-- nothing has been met at the start
pub start_sound : Sound start_state
start_sound = record { met = tt; none = λ x e. refl; apart = tt; few = omega arith; short = omega arith }

-- it matters to none of this among which tokens an expression stands
pub among_sound : (ts : List Token) (st : State) → Sound st → Sound (among ts st)
among_sound ts st s = record { met = s.met; none = s.none; apart = s.apart; few = s.few; short = s.short }

-- nor whether C may pass over it
pub passable_sound : (st : State) → Sound st → Sound (passable st)
passable_sound st s = record { met = s.met; none = s.none; apart = s.apart; few = s.few; short = s.short }

-- ---- names that are looked up
-- what holds of what was found
abbrev pub OnFound : {A : Type 0} → (A → Type 0) → Option A → Type 0
OnFound P None = Unit {0}
OnFound P (Some x) = P x

-- a name that was declared has what holds of each
declared_met : (x : List ℕ) (vs : List (List ℕ)) (ns : List Named) → AllMet vs ns → OnFound (λ m. IsMet vs x m.thing) (declared x ns)
declared_met x vs [] h = tt
declared_met x vs (m ∷ ms) h = by (declared_met x vs ms h.1) (bytes_eq x m.name) refl where
  by : OnFound (λ m. IsMet vs x m.thing) (declared x ms) → (b : Bool) → bytes_eq x m.name ≡ b
      → OnFound (λ m. IsMet vs x m.thing) (cond b (Some m) (declared x ms))
  by k true e = subst (λ y. IsMet vs y m.thing) (sym ((bytes_eq-Decides x m.name).0 e)) h.0
  by k false e = k

-- a variable is one of the first n
abbrev pub IsBelow : ℕ → Thing → Type 0
IsBelow n (variable i) = i < n
IsBelow n (array extents) = Unit {0}
IsBelow n (constant v) = Unit {0}

met_below : (vs : List (List ℕ)) (x : List ℕ) (t : Thing) → IsMet vs x t → IsBelow (length vs) t
met_below vs x (variable i) h = h.0
met_below vs x (array extents) h = tt
met_below vs x (constant v) h = tt

-- a name that is known stands for one of the variables
known_below : (x : List ℕ) (vs : List (List ℕ)) (ns : List Named) → AllMet vs ns → OnFound (IsBelow (length vs)) (known x ns)
known_below x vs ns h = by (declared x ns) (declared_met x vs ns h) where
  if_known : (m : Named) (b : Bool) → IsMet vs x m.thing → OnFound (IsBelow (length vs)) (cond b (Some m.thing) None)
  if_known m true k = met_below vs x m.thing k
  if_known m false k = tt

  by : (o : Option Named) → OnFound (λ m. IsMet vs x m.thing) o
      → OnFound (IsBelow (length vs)) (elim o as (λ z. Option Thing) [ None ↦ None | Some m ↦ known_if m ])
  by None k = tt
  by (Some m) k = if_known m m.is_known k

-- so does a name where it stands, if it is a variable
pub thing_below : (x : Name) (st : State) → Sound st → OnFound (IsBelow (length st.variables)) (thing_of x st)
thing_below x st s = by x.value where
  by : (o : Option ℤ)
      → OnFound (IsBelow (length st.variables))
      (elim o as (λ z. Option Thing) [ None ↦ known x.text st.names | Some v ↦ Some (constant v) ])
  by None = known_below x.text st.variables st.names s.met
  by (Some v) = tt

-- and the variable of a name
pub variable_below : (x : Name) (at : ℕ) (st : State) → Sound st → OnValue (λ i. i < length st.variables) (variable_of x at st)
variable_below x at st s = by (thing_of x st) (thing_below x st s) where
  by : (o : Option Thing) → OnFound (IsBelow (length st.variables)) o → OnValue (λ i. i < length st.variables) (as_variable at o)
  by None k = tt
  by (Some (variable i)) k = k
  by (Some (array extents)) k = tt
  by (Some (constant v)) k = tt

-- so is that of one that is stepped
pub stepped_below : (x : Name) (at sign : ℕ) (st : State) → Sound st
    → OnValue (λ i. i < length st.variables) (stepped_of x at sign st)
stepped_below x at sign st s =
    on_bind (λ i. i < length st.variables) (λ i. i < length st.variables) (variable_of x at st) _ (variable_below x at st s)
    (λ i l. on_provided (λ j. j < length st.variables) (stands_once x.text st.around) (SideEffect sign) i (λ t. l))

-- this is the name of a variable, and no constant
abbrev pub IsVariable : Name → List (List ℕ) → ℕ → Type 0
IsVariable x vs i = (x.value ≡ None) × (name_of vs i ≡ Some x.text)

-- so it is if a thing is one
abbrev pub IsThing : Name → List (List ℕ) → Thing → Type 0
IsThing x vs (variable i) = IsVariable x vs i
IsThing x vs (array extents) = Unit {0}
IsThing x vs (constant v) = Unit {0}

-- a name where it stands is that of the variable that it stands for
pub thing_named : (x : Name) (st : State) → Sound st → OnFound (IsThing x st.variables) (thing_of x st)
thing_named x st s = constants x.value refl where
  thing : (t : Thing) → x.value ≡ None → IsMet st.variables x.text t → IsThing x st.variables t
  thing (variable i) e k = (e, k.2)
  thing (array extents) e k = tt
  thing (constant v) e k = tt

  if_known : (m : Named) (b : Bool) → x.value ≡ None → IsMet st.variables x.text m.thing
      → OnFound (IsThing x st.variables) (cond b (Some m.thing) None)
  if_known m true e k = thing m.thing e k
  if_known m false e k = tt

  by : (o : Option Named) → x.value ≡ None → OnFound (λ m. IsMet st.variables x.text m.thing) o
      → OnFound (IsThing x st.variables) (elim o as (λ z. Option Thing) [ None ↦ None | Some m ↦ known_if m ])
  by None e k = tt
  by (Some m) e k = if_known m m.is_known e k

  constants : (o : Option ℤ) → x.value ≡ o
      → OnFound (IsThing x st.variables)
      (elim o as (λ z. Option Thing) [ None ↦ known x.text st.names | Some v ↦ Some (constant v) ])
  constants None e = by (declared x.text st.names) e (declared_met x.text st.variables st.names s.met)
  constants (Some v) e = tt

-- so is the name of a variable
pub variable_named : (x : Name) (at : ℕ) (st : State) → Sound st → OnValue (IsVariable x st.variables) (variable_of x at st)
variable_named x at st s = by (thing_of x st) (thing_named x st s) where
  by : (o : Option Thing) → OnFound (IsThing x st.variables) o → OnValue (IsVariable x st.variables) (as_variable at o)
  by None k = tt
  by (Some (variable i)) k = k
  by (Some (array extents)) k = tt
  by (Some (constant v)) k = tt

-- and one that is stepped, which stands once around the step
pub stepped_named : (x : Name) (at sign : ℕ) (st : State) → Sound st
    → OnValue (λ i. IsVariable x st.variables i × IsTrue (stands_once x.text st.around)) (stepped_of x at sign st)
stepped_named x at sign st s =
    let P : ℕ → Type 0 = λ i. IsVariable x st.variables i × IsTrue (stands_once x.text st.around) in
    on_bind (IsVariable x st.variables) P (variable_of x at st) _ (variable_named x at st s)
    (λ i k. on_provided P (stands_once x.text st.around) (SideEffect sign) i (λ t. (k, t)))

-- ---- names that are declared
-- a name that may be declared was nothing before, or is among those met
abbrev pub Was : State → List ℕ → Option Thing → Type 0
Was st x None = list_any (bytes_eq x) st.variables ≡ false
Was st x (Some t) = IsMet st.variables x t

-- a name that may be declared
pub fresh_was : (x : Name) (at : ℕ) (st : State) → Sound st → OnValue (Was st x.text) (fresh x at st)
fresh_was x at st s = constants x.value where
  known_no_more : (m : Named) (b : Bool) → IsMet st.variables x.text m.thing
      → OnValue (Was st x.text) (cond b (Err (NameTwice at)) (Ok (Some m.thing)))
  known_no_more m true k = tt
  known_no_more m false k = k

  by : (o : Option Named) → declared x.text st.names ≡ o → OnFound (λ m. IsMet st.variables x.text m.thing) o
      → OnValue (Was st x.text) (elim o as (λ z. Result (Option Thing) FunctionFault)
      [ None ↦ Ok None | Some m ↦ cond m.is_known (Err (NameTwice at)) (Ok (Some m.thing)) ])
  by None e k = s.none x.text e
  by (Some m) e k = known_no_more m m.is_known k

  constants : (o : Option ℤ) → OnValue (Was st x.text) (elim o as (λ z. Result (Option Thing) FunctionFault) [
    | Some v ↦ Err (NameTwice at)
    | None ↦ elim (declared x.text st.names) as (λ z. Result (Option Thing) FunctionFault)
        [ None ↦ Ok None | Some m ↦ cond m.is_known (Err (NameTwice at)) (Ok (Some m.thing)) ]
  ])
  constants None = by (declared x.text st.names) refl (declared_met x.text st.variables st.names s.met)
  constants (Some v) = tt

-- a name that is none of some texts
none_of : (x : List ℕ) (vs : List (List ℕ)) → list_any (bytes_eq x) vs ≡ false → IsNoneOf x vs
none_of x [] e = tt
none_of x (v ∷ vs) e = by (bytes_eq x v) refl (none_of x vs) e where
  by : (b : Bool) → bytes_eq x v ≡ b → (list_any (bytes_eq x) vs ≡ false → IsNoneOf x vs) → (b || list_any (bytes_eq x) vs) ≡ false
      → IsNoneOf x (v ∷ vs)
  by true e f h = cc
  by false e f h = (not_from_Decides (bytes_eq x v) (bytes_eq-Decides x v) e, f h)

-- what was met stays met behind one variable more
met_more : (v : List ℕ) (vs : List (List ℕ)) (ns : List Named) → AllMet vs ns → AllMet (v ∷ vs) ns
met_more v vs [] h = tt
met_more v vs (m ∷ ms) h = (one m.name m.thing h.0, met_more v vs ms h.1) where
  any_more : (b c : Bool) → c ≡ true → (b || c) ≡ true
  any_more true c e = refl
  any_more false c e = e

  one : (x : List ℕ) (t : Thing) → IsMet vs x t → IsMet (v ∷ vs) x t
  one x (variable i) k = (
    let l = k.0 in omega (arith, l),
    any_more (bytes_eq x v) (list_any (bytes_eq x) vs) k.1,
    name_more v vs i x k.2,
  )
  one x (array extents) k = tt
  one x (constant c) k = tt

-- a state in which a variable of this name was declared
pub record Declares (x : List ℕ) (st now : State) : Type 0 where
  -- its names stand for variables
  pub sound : Sound now
  -- its variables are those from before, and this one, if it is new
  pub variables : now.variables ≡ added st.variables (x ∷ [])
  -- there are no fewer
  pub more : length st.variables ≤ length now.variables
  -- the one that was declared last is one of them
  pub below : declared_number now < length now.variables
  -- it has as many statements
  pub same : now.count ≡ st.count

-- a name that stands for something is declared
declared_none : (x y : List ℕ) (t : Thing) (ns : List Named)
    → declared x (record { name = y; thing = t; is_known = true } ∷ ns) ≡ None
    → (bytes_eq x y ≡ false) × (declared x ns ≡ None)
declared_none x y t ns e = by (bytes_eq x y) refl e where
  by : (b : Bool) → bytes_eq x y ≡ b → cond b (Some (record { name = y; thing = t; is_known = true })) (declared x ns) ≡ None
      → (bytes_eq x y ≡ false) × (declared x ns ≡ None)
  by true f h = cc
  by false f h = (f, h)

-- a variable that is declared
pub variable_sound : (x : Name) (at : ℕ) (st : State) → Sound st → OnValue (Declares x.text st) (with_variable x at st)
variable_sound x at st s = on_bind (Was st x.text) (Declares x.text st) (fresh x at st) _ (fresh_was x at st s)
    (λ before w. by before w) where
      count : ℕ
      count = length st.variables

      new : list_any (bytes_eq x.text) st.variables ≡ false → count < MOST_VARIABLES
          → Declares x.text st (with_name x.text (variable count) (record st { variables = x.text ∷ st.variables }))
      new w l = record {
        sound = record {
          met = (
            (
              omega arith,
              ap (λ b. b || list_any (bytes_eq x.text) st.variables) ((bytes_eq-Decides x.text x.text).1 refl),
              name_last x.text st.variables,
            ),
            met_more x.text st.variables st.names s.met,
          );
          none = λ y e. let p = declared_none y x.text (variable count) st.names e in
              ap (λ b. b || list_any (bytes_eq y) st.variables) p.0 ∙ s.none y p.1;
          apart = (none_of x.text st.variables w, s.apart);
          few = omega (arith, l);
          short = s.short;
        };
        variables = sym (added_new x.text st.variables w);
        more = omega arith;
        below = omega arith;
        same = refl;
      }

      by : (before : Option Thing) → Was st x.text before → OnValue (Declares x.text st) (as_variable_again x.text at st before)
      by None w = on_provided (Declares x.text st) (nat_lt count MOST_VARIABLES) (fault.Limit at limit.Variables) _
          (λ t. new w (ltb-true count MOST_VARIABLES t))
      by (Some (variable i)) w = record {
        sound = record {
          met = (w, s.met);
          none = λ y e. s.none y (declared_none y x.text (variable i) st.names e).1;
          apart = s.apart;
          few = s.few;
          short = s.short;
        };
        variables = sym (added_known x.text st.variables w.1);
        more = omega arith;
        below = w.0;
        same = refl;
      }
      by (Some (array extents)) w = tt
      by (Some (constant v)) w = tt

-- a state with the same variables, and so many statements more
pub record Counts (more : ℕ) (st now : State) : Type 0 where
  -- its names stand for variables
  pub sound : Sound now
  -- it has the same variables
  pub variables : now.variables ≡ st.variables
  -- so it has as many
  pub width : length now.variables ≡ length st.variables
  -- it has so many statements more
  pub count : now.count ≡ st.count + more

-- an array that may be declared changes nothing
pub fresh_array_same : (x : Name) (at : ℕ) (st : State) → OnValue (λ now. now ≡ st) (fresh_array x at st)
fresh_array_same x at st = on_bind (λ before. Unit {0}) (λ now. now ≡ st) (fresh x at st) _ (anything (fresh x at st))
    (λ before u. by before)
  where
    anything : (r : Result (Option Thing) FunctionFault) → OnValue (λ before. Unit {0}) r
    anything (Ok o) = tt
    anything (Err e) = tt

    by : (before : Option Thing) → OnValue (λ now. now ≡ st) (as_array_again at before st)
    by None = refl
    by (Some (variable i)) = tt
    by (Some (array extents)) = refl
    by (Some (constant v)) = tt

-- an array that is declared
pub array_sound : (x : Name) (extents : List Extent) (st : State) → Sound st → Sound (with_array x extents st)
array_sound x extents st s = record {
  met = (tt, s.met);
  none = λ y e. s.none y (declared_none y x.text (array extents) st.names e).1;
  apart = s.apart;
  few = s.few;
  short = s.short;
}

-- ---- names that are forgotten
forgotten_met : (vs : List (List ℕ)) (k : ℕ) (ns : List Named) → AllMet vs ns → AllMet vs (forgotten k ns)
forgotten_met vs zero ns h = h
forgotten_met vs (suc k) [] h = h
forgotten_met vs (suc k) (m ∷ ms) h = (h.0, forgotten_met vs k ms h.1)

forgotten_none : (x : List ℕ) (k : ℕ) (ns : List Named) → declared x (forgotten k ns) ≡ None → declared x ns ≡ None
forgotten_none x zero ns e = e
forgotten_none x (suc k) [] e = e
forgotten_none x (suc k) (m ∷ ms) e = by (bytes_eq x m.name) (forgotten_none x k ms) e where
  by : (b : Bool) → (declared x (forgotten k ms) ≡ None → declared x ms ≡ None)
      → cond b (Some (record m { is_known = false })) (declared x (forgotten k ms)) ≡ None → cond b (Some m) (declared x ms) ≡ None
  by true f h = cc
  by false f h = f h

-- names that are forgotten stand for the same variables
pub closed_sound : (before : ℕ) (st : State) → Sound st → Sound (closed before st)
closed_sound before st s = let k = length st.names - before in record {
  met = forgotten_met st.variables k st.names s.met;
  none = λ x e. s.none x (forgotten_none x k st.names e);
  apart = s.apart;
  few = s.few;
  short = s.short;
}

-- ---- statements that are counted
-- so many statements more
pub counted_sound : (at more : ℕ) (st : State) → Sound st → OnValue (Counts more st) (counted at more st)
counted_sound at more st s = on_provided (Counts more st) (nat_le (st.count + more) 4096) (fault.Limit at limit.Statements) _ (λ t. record {
  sound = record {
    met = s.met;
    none = s.none;
    apart = s.apart;
    few = s.few;
    short = leb-true (st.count + more) 4096 t;
  };
  variables = refl;
  width = refl;
  count = refl;
})

-- a label that has not been met
pub label_sound : (x : Name) (at : ℕ) (st : State) → Sound st → OnValue (Counts 1 st) (new_label x at st)
label_sound x at st s = by (list_any (λ y. bytes_eq x.text y) st.labels) where
  by : (b : Bool) → OnValue (Counts 1 st) (cond b (Err (NameTwice at)) (counted at 1 (record st { labels = x.text ∷ st.labels })))
  by true = tt
  by false = on_weaker _ (Counts 1 st) (counted at 1 (record st { labels = x.text ∷ st.labels }))
      (counted_sound at 1 (record st { labels = x.text ∷ st.labels })
      (record { met = s.met; none = s.none; apart = s.apart; few = s.few; short = s.short }))
      (λ now c. record { sound = c.sound; variables = c.variables; width = c.width; count = c.count })

-- a `break` or a `continue`, which stands in a loop's body
pub jumped_sound : (inside : Bool) (at : ℕ) (st : State) → Sound st → OnValue (λ now. Counts 1 st now × IsTrue inside) (jumped inside at st)
jumped_sound true at st s = on_weaker (Counts 1 st) (λ now. Counts 1 st now × IsTrue true) (counted at 1 st) (counted_sound at 1 st s)
    (λ now c. (c, refl))
jumped_sound false at st s = tt
