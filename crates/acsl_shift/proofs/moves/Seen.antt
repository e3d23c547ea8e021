-- Answers without their places.
use Rattle.std.proofs.Common.{◌≡◌, ◌∙◌, Bool, true, false, ℕ, ◌+◌, List, Result, Ok, Err, refl, sym, ap, ap₂, subst}
use Rattle.std.proofs.Common.{◌&&◌, nat_le, if◌then◌else◌}
use Rattle.std.specs.List.{list_all}
use Rattle.lang_tree.specs.Tree.{Condition, Deed}
use Rattle.lang_tree.specs.declared.limits.TheConstants.{MOST_HIDDEN}
use Rattle.source_meaning.specs.declared.fault.FunctionFault.{FunctionFault}
use Rattle.source_meaning.specs.declared.fault.FunctionFault.TheVariants as fault
use Rattle.source_meaning.specs.declared.fault.Limit.TheVariants as limit
use Rattle.source_meaning.specs.Results.{◌>>=◌, provided}
use Rattle.source_meaning.specs.Names.{State}
use Rattle.source_meaning.specs.Limits.{is_small, is_small_deed, limited, counted}

-- a fault without its place
abbrev pub fault_without : FunctionFault → FunctionFault
fault_without (fault.UnknownName at) = fault.UnknownName 0
fault_without (fault.NameTwice at) = fault.NameTwice 0
fault_without (fault.WrongKind at) = fault.WrongKind 0
fault_without (fault.Array at) = fault.Array 0
fault_without (fault.BigNumber at) = fault.BigNumber 0
fault_without (fault.SideEffect at) = fault.SideEffect 0
fault_without (fault.Limit at which) = fault.Limit 0 which
fault_without (fault.OutsideLoop at) = fault.OutsideLoop 0
fault_without fault.NoVariables = fault.NoVariables
fault_without fault.NoMemory = fault.NoMemory

-- an answer by a view, and its fault without a place
abbrev pub seen : {A B : Type 0} → (A → B) → Result A FunctionFault → Result B FunctionFault
seen view (Ok x) = Ok (view x)
seen view (Err e) = Err (fault_without e)

-- the second answer is the first one by a view
pub record Seen {A B : Type 0} (view : A → B) (r : Result A FunctionFault) (s : Result B FunctionFault) : Type 0 where
  -- it is what is seen of the first
  pub same : seen view r ≡ s

-- the same
abbrev pub Same : {A : Type 0} → Result A FunctionFault → Result A FunctionFault → Type 0
Same {A = A} r s = let view : A → A = λ x. x in Seen view r s

-- a value
pub seen_ok : {A B : Type 0} (view : A → B) (x : A) (y : B) → view x ≡ y → Seen view (Ok x) (Ok y)
seen_ok view x y h = record { same = ap Ok h }

-- a fault
pub seen_err : {A B : Type 0} (view : A → B) (e : FunctionFault) → Seen view (Err e) (Err (fault_without e))
seen_err view e = record { same = refl }

-- both go on
pub seen_then : {A B C D : Type 0} (view : A → B) (last : C → D) (r : Result A FunctionFault) (s : Result B FunctionFault)
    (f : A → Result C FunctionFault) (g : B → Result D FunctionFault) → Seen view r s → ((x : A) → Seen last (f x) (g (view x)))
    → Seen last (r >>= f) (s >>= g)
seen_then view last (Ok x) s f g h k = record { same = (k x).same ∙ ap (λ z. z >>= g) h.same }
seen_then view last (Err e) s f g h k = record { same = ap (λ z. z >>= g) h.same }

-- what is there if it may be
pub seen_provided : {A B : Type 0} (view : A → B) (a b : Bool) (e : FunctionFault) (x : A) → a ≡ b
    → Seen view (provided a e x) (provided b (fault_without e) (view x))
seen_provided view true b e x h = record { same = ap (λ z. provided z (fault_without e) (view x)) h }
seen_provided view false b e x h = record { same = ap (λ z. provided z (fault_without e) (view x)) h }

-- one of two
pub seen_if : {A B : Type 0} (view : A → B) (b c : Bool) (x y : Result A FunctionFault) (z w : Result B FunctionFault) → c ≡ b
    → Seen view x z → Seen view y w → Seen view (if b then x else y) (if c then z else w)
seen_if view b c x y z w e h i =
    let P : Bool → Type 0 = λ d. Seen view (if b then x else y) (if d then z else w) in subst P (sym e) (by_case b) where
      by_case : (d : Bool) → Seen view (if d then x else y) (if d then z else w)
      by_case true = h
      by_case false = i

-- from another hidden variable on that is the same
pub from_hidden : {A B : Type 0} (view : A → B) (r : Result A FunctionFault) (s : ℕ → Result B FunctionFault) (h i : ℕ) → h ≡ i
    → Seen view r (s h) → Seen view r (s i)
from_hidden view r s h i e k = let P : ℕ → Type 0 = λ z. Seen view r (s z) in subst P e k

-- statements more
pub seen_counted : (at n m : ℕ) (st : State) → n ≡ m → Same (counted at n st) (counted 0 m st)
seen_counted at n m st h = record {
  same = (seen_provided (λ x. x) (nat_le (st.count + n) 4096) (nat_le (st.count + n) 4096) (fault.Limit at limit.Statements)
      (record st { count = st.count + n }) refl).same ∙ ap (λ k. counted 0 k st) h;
}

-- the limits of a statement
pub seen_limited : {A B : Type 0} (view : A → B) (n at next now : ℕ) (ds es : List Deed) (cs bs : List Condition) (x : A)
    → next ≡ now → list_all is_small_deed ds ≡ list_all is_small_deed es → cs ≡ bs
    → Seen view (limited n at next ds cs x) (limited n 0 now es bs (view x))
seen_limited view n at next now ds es cs bs x h i j =
    seen_then view view (provided (nat_le next (n + MOST_HIDDEN)) (fault.Limit at limit.Hidden) x)
    (provided (nat_le now (n + MOST_HIDDEN)) (fault.Limit 0 limit.Hidden) (view x)) _ _
    (seen_provided view _ _ (fault.Limit at limit.Hidden) x (ap (λ k. nat_le k (n + MOST_HIDDEN)) h))
    (λ x. seen_provided view _ _ (fault.Limit at limit.Leaves) x (ap₂ (λ y z. y && list_all is_small z) i j))
