-- Where operations are exact each run of the core is one of the source: in the middle of an item the source stands where the item began.
use Rattle.std.proofs.Common.{◌≡◌, inr, ◌≤◌, ℕ, true, List, [], ◌∷◌, ◌++◌, length, append-nil}
use Rattle.std.proofs.Common.{refl, sym, ap, subst, ◌∙◌, arith}
use Rattle.std.specs.Prelude.{if◌then◌else◌, get_or, drop}
use Rattle.lang_tree.specs.Tree.{Deed, statement_by, breaks, continues, returns}
use Rattle.lang_tree.specs.Tree as tree
use Rattle.lang_tree.specs.Meaning.{State}
use Rattle.lang_tree.specs.PointNumbers.{splits}
use Rattle.lang_tree.specs.Runs as core
use Rattle.lang_tree.specs.Runs.{left_at}
use Rattle.source_tree.specs.Statements.{declares, changes, assumes, asserts, never, branch, loop, jump, label}
use Rattle.source_core.specs.Preludes.{Leaves, AllLeave}
use Rattle.source_core.specs.Laws.{Agree}
use Rattle.source_core.specs.RunLaws.{over_test, apart_test, exact_test}
use Rattle.source_core.specs.Core.{condition_of, kind_of, core_in}
use Rattle.source_core.specs.SourceRuns.{Item, node, change, mark, turn, end, Does, Configuration, past_loop, end_of_body}
use Rattle.source_core.specs.SourceRuns.{head_work, turn_work, end_work, branch_work}
use Rattle.source_core.proofs.preludes.Preludes.{leave-then}
use Rattle.source_core.proofs.runs.Work.{deed_items, image, image-branch, image-head, image-turn, image-end, image-split, image-past}
use Rattle.source_core.proofs.runs.Work.{image-ending}
use Rattle.source_core.proofs.runs.Passing.{branch_tested, loop_tested, passing-does}
use Rattle.source_core.proofs.runs.Steps.{condition-size, left-agrees, left-enough, left-left, leave-longer}
use Rattle.source_core.proofs.backward.Completed.{Asked, completes, condition_exact, nothing_there}
use Rattle.source_core.proofs.backward.Items.{parts, control, number_of}
use Rattle.source_core.proofs.backward.Middle.{Comes, comes-same, comes-step, Live, Mid, Settled, settle}
use Rattle.base_integers.specs.declared.integers.Integers.TheVariants.{Mathematical}

-- ---- a step of the core
-- equal lists have the same first element
pub cons_head : {A : Type 0} (a b : A) (as' bs : List A) → a ∷ as' ≡ b ∷ bs → a ≡ b
cons_head {A = A} a b as' bs e = ap (λ (xs : List A). get_or xs 0 a) e

cons_tail : {A : Type 0} (a b : A) (as' bs : List A) → a ∷ as' ≡ b ∷ bs → as' ≡ bs
cons_tail {A = A} a b as' bs e = ap (λ (xs : List A). drop 1 xs) e

-- what a step does is what its first item does, where that is known
step_does : (n exit : ℕ) (c d : core.Configuration) (item : core.Item) (rest : List core.Item) → core.Step n exit c d → c.work ≡ item ∷ rest
    → (z : State) × core.Does exit item rest c.state d.work z × (d.state ≡ left_at n d.work z)
step_does n exit c d item rest s w =
    let e : s.item ∷ s.rest ≡ item ∷ rest = sym s.first ∙ w in
    let h = cons_head s.item item s.rest rest e in
    let t = cons_tail s.item item s.rest rest e in (
      s.reached,
      subst (λ i. core.Does exit i rest c.state d.work s.reached) h
          (subst (λ r. core.Does exit s.item r c.state d.work s.reached) t s.does),
      s.left,
    )

-- a node of a deed does the deed
deed_done : (exit : ℕ) (d : Deed) (m : ℕ) (rest work : List core.Item) (x z : State)
    → core.Does exit (core.node (statement_by d) m) rest x work z
    → Leaves d x z × (work ≡ rest)
deed_done exit (tree.sets v f line) m rest work x z h = (h.1, h.0)
deed_done exit (tree.havocs v line) m rest work x z h = ((h.0, h.2), h.1)
deed_done exit (tree.wheres c line) m rest work x z h = ((h.0, h.2), h.1)
deed_done exit (tree.checks about c line) m rest work x z h = (h.1, h.0)

-- what stands behind deeds of an item is no mark
unmarked : (n : ℕ) (i : Item) (d : Deed) (ds : List Deed) (k : core.Item) (ks more : List core.Item) (z : State) → parts n i ≡ d ∷ ds
    → control n i ≡ k ∷ ks → left_at n (control n i ++ more) z ≡ z
unmarked n (mark p) d ds k ks more z e c = nothing_there d ds (sym e)
unmarked n (change g) d ds k ks more z e c = nothing_there k ks (sym c)
unmarked n (node (declares var line) m) d ds k ks more z e c = nothing_there k ks (sym c)
unmarked n (node (changes g) m) d ds k ks more z e c = nothing_there k ks (sym c)
unmarked n (node (assumes e' line) m) d ds k ks more z e c = refl
unmarked n (node (asserts e' at line) m) d ds k ks more z e c = nothing_there k ks (sym c)
unmarked n (node (never at line) m) d ds k ks more z e c = nothing_there k ks (sym c)
unmarked n (node (branch e' first second line) m) d ds k ks more z e c = refl
unmarked n (node (loop kind e' body line) m) d ds k ks more z e c = refl
unmarked n (node (jump kind line) m) d ds k ks more z e c = refl
unmarked n (node (label name line) m) d ds k ks more z e c = refl
unmarked n (turn kind e' body line m) d ds k ks more z e c = refl
unmarked n (end kind e' body line m) d ds k ks more z e c = refl

-- what an item tests, or does besides, is what the source does
pub record Controlled (n exit : ℕ) (item : Item) (rest : List Item) (x : State) (work : List core.Item) (t z : State) : Type 0 where
  -- the source's work behind the item
  pub next : List Item
  -- the state that it leaves
  pub state : State
  -- a step of the source with the item leads to both
  pub does : Does Mathematical n exit item rest x next state
  -- the core's work is that for it
  pub is : work ≡ image Mathematical n next
  -- the core's state stays
  pub same : z ≡ t
  -- it has the source's values of the variables
  pub agree : Agree n state t
  -- the source's state has a value for each variable, and no more
  pub size : length state ≡ n

-- the first of one item
moved : (exit : ℕ) (first k : core.Item) (ks more : List core.Item) (t : State) (work : List core.Item) (z : State) → first ∷ [] ≡ k ∷ ks
    → core.Does exit k (ks ++ more) t work z → core.Does exit first more t work z
moved exit first k ks more t work z c d =
    subst (λ v. core.Does exit v more t work z) (sym (cons_head first k [] ks c))
    (subst (λ (v : List core.Item). core.Does exit k (v ++ more) t work z) (sym (cons_tail first k [] ks c)) d)

controlled : (n exit : ℕ) (item : Item) (rest : List Item) (x s t : State) (k : core.Item) (ks : List core.Item) (work : List core.Item)
    (z : State) → control n item ≡ k ∷ ks → Asked n item → Agree n x s → length x ≡ n
    → AllLeave (parts n item) s t → core.Does exit k (ks ++ image Mathematical n rest) t work z → Controlled n exit item rest x work t z
controlled n exit (change g) rest x s t k ks work z c o a v l d = nothing_there k ks (sym c)
controlled n exit (node (declares var line) m) rest x s t k ks work z c o a v l d = nothing_there k ks (sym c)
controlled n exit (node (changes g) m) rest x s t k ks work z c o a v l d = nothing_there k ks (sym c)
controlled n exit (node (asserts e at line) m) rest x s t k ks work z c o a v l d = nothing_there k ks (sym c)
controlled n exit (node (never at line) m) rest x s t k ks work z c o a v l d = nothing_there k ks (sym c)
controlled n exit (mark p) rest x s t k ks work z c o a v l d =
    let h = moved exit (core.mark p) k ks (image Mathematical n rest) t work z c d in
    record {
      next = rest;
      state = x;
      does = (refl, refl);
      is = h.0;
      same = h.1;
      agree = subst (λ w. Agree n x w) (sym l) a;
      size = v;
    }
controlled n exit (node (assumes e line) m) rest x s t k ks work z c o a v l d =
    let con = (condition_of Mathematical n line e).condition in
    let h = moved exit (core.node (tree.assume con line) m) k ks (image Mathematical n rest) t work z c d in
    let r = condition_exact n line e x s t true o.over o.apart o.exact a l h.0 in
    record {
      next = if splits con then mark m ∷ rest else rest;
      state = r.1;
      does = (r.0, r.2, r.3, refl);
      is = h.1 ∙ image-split Mathematical n (splits con) m rest;
      same = h.2;
      agree = r.4;
      size = condition-size Mathematical n e x r.0 r.1 o.over v r.2;
    }
controlled n exit (node (branch e first second line) m) rest x s t k ks work z c o a v l d =
    let con = (condition_of Mathematical n line e).condition in
    let h = moved exit (core.node (tree.branch con (core_in Mathematical n first) (core_in Mathematical n second) line) m) k ks
    (image Mathematical n rest) t work z c d in
    let over = branch_tested (over_test n) e first second line o.over in
    let r = condition_exact n line e x s t h.0 over (branch_tested apart_test e first second line o.apart)
    (branch_tested (exact_test n) e first second line o.exact) a l h.1 in
    record {
      next = branch_work Mathematical n h.0 first second m rest;
      state = r.1;
      does = (r.0, h.0, r.2, r.3, refl);
      is = h.2 ∙ image-branch Mathematical n h.0 first second m rest;
      same = h.3;
      agree = r.4;
      size = condition-size Mathematical n e x r.0 r.1 over v r.2;
    }
controlled n exit (node (loop kind e body line) m) rest x s t k ks work z c o a v l d =
    let h = moved exit _ k ks (image Mathematical n rest) t work z c d in
    record {
      next = mark m ∷ head_work Mathematical n kind e body line m rest;
      state = x;
      does = (refl, refl);
      is = h.0 ∙ ap (λ w. core.mark m ∷ w) (image-head Mathematical n kind e body line m rest);
      same = h.1;
      agree = subst (λ w. Agree n x w) (sym l) a;
      size = v;
    }
controlled n exit (node (jump breaks line) m) rest x s t k ks work z c o a v l d =
    let h = moved exit (core.node (tree.jump breaks line) m) k ks (image Mathematical n rest) t work z c d in
    record {
      next = past_loop rest;
      state = x;
      does = (refl, refl);
      is = h.0 ∙ image-past Mathematical n rest;
      same = h.1;
      agree = subst (λ w. Agree n x w) (sym l) a;
      size = v;
    }
controlled n exit (node (jump continues line) m) rest x s t k ks work z c o a v l d =
    let h = moved exit (core.node (tree.jump continues line) m) k ks (image Mathematical n rest) t work z c d in
    record {
      next = end_of_body rest;
      state = x;
      does = (refl, refl);
      is = h.0 ∙ image-ending Mathematical n rest;
      same = h.1;
      agree = subst (λ w. Agree n x w) (sym l) a;
      size = v;
    }
controlled n exit (node (jump returns line) m) rest x s t k ks work z c o a v l d =
    let h = moved exit (core.node (tree.jump returns line) m) k ks (image Mathematical n rest) t work z c d in
    record {
      next = mark exit ∷ [];
      state = x;
      does = (refl, refl);
      is = h.0;
      same = h.1;
      agree = subst (λ w. Agree n x w) (sym l) a;
      size = v;
    }
controlled n exit (node (label name line) m) rest x s t k ks work z c o a v l d =
    let h = moved exit (core.node (tree.label name line) m) k ks (image Mathematical n rest) t work z c d in
    record {
      next = mark m ∷ rest;
      state = x;
      does = (refl, refl);
      is = h.0;
      same = h.1;
      agree = subst (λ w. Agree n x w) (sym l) a;
      size = v;
    }
controlled n exit (turn kind e body line m) rest x s t k ks work z c o a v l d =
    let con = condition_of Mathematical n line e in
    let h = moved exit (core.turn (kind_of Mathematical n kind con.prelude) con.condition (core_in Mathematical n body) line m) k ks
    (image Mathematical n rest) t work z c d in
    let over = loop_tested (over_test n) kind e body line o.over in
    let r = condition_exact n line e x s t h.0 over (loop_tested apart_test kind e body line o.apart)
    (loop_tested (exact_test n) kind e body line o.exact) a l h.1 in
    record {
      next = turn_work Mathematical n h.0 kind e body line m rest;
      state = r.1;
      does = (r.0, h.0, r.2, r.3, refl);
      is = h.2 ∙ image-turn Mathematical n h.0 kind e body line m rest;
      same = h.3;
      agree = r.4;
      size = condition-size Mathematical n e x r.0 r.1 over v r.2;
    }
controlled n exit (end kind e body line m) rest x s t k ks work z c o a v l d =
    let h = moved exit _ k ks (image Mathematical n rest) t work z c d in
    record {
      next = end_work Mathematical n kind e body line m rest;
      state = x;
      does = (refl, refl);
      is = h.0 ∙ image-end Mathematical n kind e body line m rest;
      same = h.1;
      agree = subst (λ w. Agree n x w) (sym l) a;
      size = v;
    }

-- ---- each step
append_one : {A : Type 0} (xs : List A) (y : A) (ys : List A) → xs ++ (y ∷ ys) ≡ (xs ++ (y ∷ [])) ++ ys
append_one [] y ys = refl
append_one (x ∷ xs) y ys = ap (λ r. x ∷ r) (append_one xs y ys)

-- behind a step of the core steps of the source settle both again
pub advances : (n exit : ℕ) (s : Configuration) (c d : core.Configuration) → Mid n s c → core.Step n exit c d
    → (t : Configuration) × Comes n exit s t × Settled n t d
advances n exit s c d m step = by m.todo m.all m.work m.live
  where
    at : Configuration
    at = record { work = m.item ∷ m.rest; state = s.state }

    back : (t : Configuration) → Comes n exit at t → Comes n exit s t
    back t k = subst (λ v. Comes n exit v t)
        (ap (λ w. let r : Configuration = record { work = w; state = s.state } in r) (sym m.first)) k

    longer : AllLeave m.done m.start c.state → n ≤ length c.state
    longer l = let g = leave-longer m.done m.start c.state l in omega (arith, g, m.enough)

    asked : Asked n m.item
    asked = record { over = m.over.0; apart = m.apart.0; exact = m.exact.0 }

    -- the item ends
    ended : (next : List Item) (y z : State) → Does Mathematical n exit m.item m.rest s.state next y
        → d.work ≡ image Mathematical n next → Agree n y z
        → length y ≡ n → n ≤ length z → d.state ≡ left_at n d.work z
        → (t : Configuration) × Comes n exit s t × Settled n t d
    ended next y z does is a l g k =
        let w = left_at n d.work z in
        let r = settle n exit next y d.work w is (left-agrees n d.work y z a) l (left-enough n d.work z g)
        (passing-does (over_test n) Mathematical n exit m.item m.rest next s.state y m.over.0 m.over.1 does)
        (passing-does apart_test Mathematical n exit m.item m.rest next s.state y m.apart.0 m.apart.1 does)
        (passing-does (exact_test n) Mathematical n exit m.item m.rest next s.state y m.exact.0 m.exact.1 does) (left-left n d.work z) in
        let e : record { work = d.work; state = w } ≡ d =
        ap (λ v. let r : core.Configuration = record { work = d.work; state = v } in r) (sym k) in (
          r.0,
          back r.0 (comes-step n exit at record { work = next; state = y } r.0
              record { item = m.item; rest = m.rest; first = refl; does = does } r.1),
          subst (λ v. Settled n r.0 v) e r.2,
        )

    -- what is left of the item
    goes_on : (done todo : List Deed) (z : State) → parts n m.item ≡ done ++ todo → AllLeave done m.start z
        → d.work ≡ deed_items (number_of m.item) todo (control n m.item ++ image Mathematical n m.rest) → Live todo (control n m.item)
        → left_at n d.work z ≡ z
        → d.state ≡ left_at n d.work z → (t : Configuration) × Comes n exit s t × Settled n t d
    goes_on done todo z all left work live same k =
        let e : d.state ≡ z = k ∙ same in (
          s,
          comes-same n exit s,
          inr record {
            item = m.item;
            rest = m.rest;
            first = m.first;
            start = m.start;
            agree = m.agree;
            size = m.size;
            enough = m.enough;
            over = m.over;
            apart = m.apart;
            exact = m.exact;
            done = done;
            todo = todo;
            all = all;
            left = subst (λ v. AllLeave done m.start v) (sym e) left;
            work = work;
            live = live;
            kept = ap (λ v. left_at n d.work v) e ∙ same ∙ sym e;
          },
        )

    -- the item's last part
    control_done : (w : List core.Item) → control n m.item ≡ w → parts n m.item ≡ m.done ++ []
        → c.work ≡ control n m.item ++ image Mathematical n m.rest
        → Live [] (control n m.item) → (t : Configuration) × Comes n exit s t × Settled n t d
    control_done [] e all work live = absurd (subst (λ v. Live [] v) e live)
    control_done (k ∷ ks) e all work live =
        let h = step_does n exit c d k (ks ++ image Mathematical n m.rest) step (work
        ∙ ap (λ (v : List core.Item). v ++ image Mathematical n m.rest) e) in
        let whole = subst (λ v. AllLeave v m.start c.state) (sym (all ∙ append-nil m.done)) m.left in
        let r = controlled n exit m.item m.rest s.state m.start c.state k ks d.work h.0 e asked m.agree m.size whole h.1 in
        let size = longer m.left in
        ended r.next r.state h.0 r.does r.is (subst (λ v. Agree n r.state v) (sym r.same) r.agree) r.size
        (subst (λ (v : State). n ≤ length v) (sym r.same) size) h.2

    -- a deed, by what is left behind it
    deed_left : (e : Deed) (ds : List Deed) (ks : List core.Item) (z : State) → control n m.item ≡ ks
        → parts n m.item ≡ (m.done ++ (e ∷ [])) ++ ds
        → AllLeave (m.done ++ (e ∷ [])) m.start z → d.work ≡ deed_items (number_of m.item) ds
        (control n m.item ++ image Mathematical n m.rest)
        → d.state ≡ left_at n d.work z → (t : Configuration) × Comes n exit s t × Settled n t d
    deed_left e [] [] z ct all left work k =
        let whole = subst (λ v. AllLeave v m.start z) (sym (all ∙ append-nil (m.done ++ (e ∷ [])))) left in
        let r = completes n m.item s.state m.start z ct asked m.agree m.size whole in
        let g = leave-longer (m.done ++ (e ∷ [])) m.start z left in
        ended m.rest r.0 z (r.1 exit m.rest) (work ∙ ap (λ (v : List core.Item). v ++ image Mathematical n m.rest) ct) r.2 r.3
        (omega (arith, g, m.enough)) k
    deed_left e [] (x ∷ ks) z ct all left work k =
        let first = all ∙ append-nil (m.done ++ (e ∷ [])) in
        goes_on (m.done ++ (e ∷ [])) [] z all left work (subst (λ v. Live [] v) (sym ct) tt)
        (ap (λ v. left_at n v z) work ∙ by_parts (parts n m.item) refl first) k
      where
        by_parts : (ps : List Deed) → parts n m.item ≡ ps → parts n m.item ≡ m.done ++ (e ∷ [])
            → left_at n (control n m.item ++ image Mathematical n m.rest) z ≡ z
        by_parts [] q f = absurd (ends_in m.done e (sym f ∙ q))
          where
            ends_in : (xs : List Deed) (y : Deed) → xs ++ (y ∷ []) ≡ [] → ⊥
            ends_in [] y h = nothing_there y [] h
            ends_in (x ∷ xs) y h = nothing_there x (xs ++ (y ∷ [])) h
        by_parts (p ∷ ps) q f = unmarked n m.item p ps x ks (image Mathematical n m.rest) z q ct
    deed_left e (b ∷ ds) ks z ct all left work k =
        goes_on (m.done ++ (e ∷ [])) (b ∷ ds) z all left work tt (ap (λ v. left_at n v z) work) k

    by : (todo : List Deed) → parts n m.item ≡ m.done ++ todo
        → c.work ≡ deed_items (number_of m.item) todo (control n m.item ++ image Mathematical n m.rest)
        → Live todo (control n m.item) → (t : Configuration) × Comes n exit s t × Settled n t d
    by [] all work live = control_done (control n m.item) refl all work live
    by (e ∷ ds) all work live =
        let tail = deed_items (number_of m.item) ds (control n m.item ++ image Mathematical n m.rest) in
        let h = step_does n exit c d (core.node (statement_by e) (number_of m.item)) tail step work in
        let q = deed_done exit e (number_of m.item) tail d.work c.state h.0 h.1 in
        deed_left e ds (control n m.item) h.0 refl (all ∙ append_one m.done e ds)
        (leave-then m.done (e ∷ []) m.start c.state h.0 m.left (h.0, q.0, refl)) q.1 h.2
