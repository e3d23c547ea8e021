-- In the middle of an item: the core has done some of its deeds, and the source stands where the item began.
use Rattle.std.proofs.Common.{◌≡◌, ◌⊎◌, inl, inr, ◌≤◌, ℕ, List, [], ◌∷◌, ◌++◌, length}
use Rattle.std.proofs.Common.{refl, sym, ap₂, subst, ◌∙◌}
use Rattle.lang_tree.specs.Tree.{Deed}
use Rattle.lang_tree.specs.Meaning.{State}
use Rattle.lang_tree.specs.Runs as core
use Rattle.lang_tree.specs.Runs.{left_at}
use Rattle.source_core.specs.Preludes.{AllLeave}
use Rattle.source_core.specs.Laws.{Agree}
use Rattle.source_core.specs.RunLaws.{over_test, apart_test, exact_test}
use Rattle.source_core.specs.SourceRuns.{Item, Configuration, Step, Follows}
use Rattle.source_core.proofs.runs.Work.{deed_items, image}
use Rattle.source_core.proofs.runs.Passing.{item_passes, work_passes}
use Rattle.source_core.proofs.backward.Completed.{Asked, completes}
use Rattle.source_core.proofs.backward.Items.{parts, control, number_of, item_core-is}
use Rattle.base_integers.specs.declared.integers.Integers.TheVariants.{Mathematical}

-- ---- steps of the source one after another
-- the last configuration of a path of the source, which is where it begins if it is empty
abbrev pub final_of : Configuration → List Configuration → Configuration
final_of c [] = c
final_of c (d ∷ ds) = final_of d ds

-- steps of the source lead from one configuration to another
pub record Comes (n exit : ℕ) (c d : Configuration) : Type 0 where
  -- the configurations behind the first
  pub path : List Configuration
  -- each is a step from the one before it
  pub follows : Follows Mathematical n exit c path
  -- the last of them is the other one
  pub ends : final_of c path ≡ d

-- the source comes from a configuration to itself
pub comes-same : (n exit : ℕ) (c : Configuration) → Comes n exit c c
comes-same n exit c = record { path = []; follows = tt; ends = refl }

-- where the source comes to behind a step it comes to from before it
pub comes-step : (n exit : ℕ) (c d e : Configuration) → Step Mathematical n exit c d → Comes n exit d e → Comes n exit c e
comes-step n exit c d e s r = record { path = d ∷ r.path; follows = (s, r.follows); ends = r.ends }

-- ---- in the middle of an item
-- something is left to do: deeds, or what stands behind them
abbrev pub Live : List Deed → List core.Item → Type 0
Live [] [] = ⊥
Live [] (k ∷ ks) = Unit {0}
Live (d ∷ ds) ks = Unit {0}

-- the core is in the middle of an item, before which the source stands
pub record Mid (n : ℕ) (s : Configuration) (c : core.Configuration) : Type 0 where
  -- the item
  pub item : Item
  -- the work behind it
  pub rest : List Item
  -- the source's work begins with the item
  pub first : s.work ≡ item ∷ rest
  -- the core's state where the item began
  pub start : State
  -- it has the source's values of the variables
  pub agree : Agree n s.state start
  -- the source's state has a value for each variable, and no more
  pub size : length s.state ≡ n
  -- the core's has a value for each, and maybe hidden ones
  pub enough : n ≤ length start
  -- the source's work has no variables but these
  pub over : item_passes (over_test n) item × work_passes (over_test n) rest
  -- steps in it stand apart
  pub apart : item_passes apart_test item × work_passes apart_test rest
  -- its operations are exact
  pub exact : item_passes (exact_test n) item × work_passes (exact_test n) rest
  -- the deeds of the item that are done
  pub done : List Deed
  -- the deeds that are not
  pub todo : List Deed
  -- together they are the deeds of the item
  pub all : parts n item ≡ done ++ todo
  -- what is done leads to the core's state
  pub left : AllLeave done start c.state
  -- the core's work is what is not done, what the item tests, and the work behind it
  pub work : c.work ≡ deed_items (number_of item) todo (control n item ++ image Mathematical n rest)
  -- something of the item is left to do
  pub live : Live todo (control n item)
  -- no hidden value is there where a mark stands first
  pub kept : left_at n c.work c.state ≡ c.state

-- both are at the end, or the core is in the middle of an item
abbrev pub Settled : ℕ → Configuration → core.Configuration → Type 0
Settled n s c = ((s.work ≡ []) × (c.work ≡ [])) ⊎ Mid n s c

-- where the core has the work for the source's, the source goes past what does nothing there, and both are settled
pub settle : (n exit : ℕ) (is : List Item) (y : State) (w : List core.Item) (z : State) → w ≡ image Mathematical n is → Agree n y z
    → length y ≡ n
    → n ≤ length z
    → work_passes (over_test n) is → work_passes apart_test is → work_passes (exact_test n) is → left_at n w z ≡ z
    → (t : Configuration) × Comes n exit record { work = is; state = y } t × Settled n t record { work = w; state = z }
settle n exit [] y w z e a l g o p q k =
    (record { work = []; state = y }, comes-same n exit record { work = []; state = y }, inl (refl, e))
settle n exit (i ∷ is) y w z e a l g o p q k =
    by (λ v f b m. settle n exit is v w z f b m g o.1 p.1 q.1 k) (parts n i) (control n i) refl refl
  where
    here : Live (parts n i) (control n i) → Settled n record { work = i ∷ is; state = y } record { work = w; state = z }
    here v = inr record {
      item = i;
      rest = is;
      first = refl;
      start = z;
      agree = a;
      size = l;
      enough = g;
      over = o;
      apart = p;
      exact = q;
      done = [];
      todo = parts n i;
      all = refl;
      left = refl;
      work = e ∙ item_core-is n i (image Mathematical n is);
      live = v;
      kept = k;
    }

    stay : Live (parts n i) (control n i)
        → (t : Configuration) × Comes n exit record { work = i ∷ is; state = y } t × Settled n t record { work = w; state = z }
    stay v = (record { work = i ∷ is; state = y }, comes-same n exit record { work = i ∷ is; state = y }, here v)

    by : ((v : State) → w ≡ image Mathematical n is → Agree n v z → length v ≡ n
        → (t : Configuration) × Comes n exit record { work = is; state = v } t × Settled n t record { work = w; state = z })
        → (ds : List Deed) (ks : List core.Item) → parts n i ≡ ds → control n i ≡ ks
        → (t : Configuration) × Comes n exit record { work = i ∷ is; state = y } t × Settled n t record { work = w; state = z }
    by later (d ∷ ds) ks f c = stay (subst (λ v. Live v (control n i)) (sym f) tt)
    by later [] (x ∷ ks) f c = stay (subst (λ v. Live (parts n i) v) (sym c) (subst (λ v. Live v (x ∷ ks)) (sym f) tt))
    by later [] [] f c =
        let asked : Asked n i = record { over = o.0; apart = p.0; exact = q.0 } in
        let r = completes n i y z z c asked a l (subst (λ v. AllLeave v z z) (sym f) refl) in
        let next : w ≡ image Mathematical n is = e ∙ item_core-is n i (image Mathematical n is)
        ∙ ap₂ (λ (v : List Deed) (u : List core.Item). deed_items (number_of i) v (u ++ image Mathematical n is)) f c in
        let more = later r.0 next r.2 r.3 in (
          more.0,
          comes-step n exit record { work = i ∷ is; state = y } record { work = is; state = r.0 } more.0
              record { item = i; rest = is; first = refl; does = r.1 exit is } more.1,
          more.2,
        )
