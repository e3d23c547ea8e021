-- A best point of a joint problem gives a valid jump from the base to the vector reached.
use Rattle.std.proofs.Common.{◌≡◌, ◌∙◌, ⊎_elim, ℕ, Bool, true, false, List, [], ◌∷◌, length, refl, sym, ap, subst, subst₂, if◌then◌else◌}
use Rattle.theory_validity.proofs.certificates.StepNumbers.{num-fin}
use Rattle.base_facts.specs.Elements.{In}
use Rattle.base_numbers.specs.Rational.{ℚ, ◌≤ℚ◌, ◌<ℚ◌}
use Rattle.base_numbers.specs.Extended.{Ext, fin, ◌≤ᴱ◌, ◌<ᴱ◌}
use Rattle.flow_systems.specs.Equations.{Equations, Vector}
use Rattle.theory_validity.specs.Words.{Word}
use Rattle.theory_validity.specs.Steps.{Runs, end_value, Item, Kind, Plain, Jump, Ray, Step, edge_of, row_of, names, put, new_value}
use Rattle.theory_validity.specs.Steps.{after_step, Placed, Unnamed, JumpItem, ValidStep}
use Rattle.theory_validity.specs.Certificates.{num}
use Rattle.lp_theory.specs.Problem.{IsPoint}
use Rattle.theory_transformers.specs.JointProblems.{Listed, picked, own_row, columns_of, is_at, raised, joint_problem, joint_words}
use Rattle.theory_transformers.specs.JointProblems.{Supports, AllSupport, Rising, AllRising}
use Rattle.theory_transformers.specs.JointPoints.{Unlisted, Distinct}
use Rattle.theory_transformers.specs.Candidates.{Supported}
use Rattle.theory_transformers.specs.JointSteps.{Low, AllLow, AllPicked, item_of, jump_items}
use Rattle.theory_transformers.proofs.joint_problems.JointMeaning.{point_supports, point_rises}
use Rattle.theory_transformers.proofs.joint_problems.Rises.{is_at_means, raised_above, raised_unlisted}
use Rattle.theory_transformers.proofs.joint_problems.JointBest.{raised_candidate}
use Rattle.theory_transformers.proofs.joint_problems.JointLows.{word_pieces, pieces_sized, AllSized, words_sized, item_placed, num_back}

-- the vector is finite at each listed unknown
abbrev AllFinite : Vector → List Listed → Type 0
AllFinite y [] = Unit {0}
AllFinite y (u ∷ rest) = ((c : ℚ) × (y u.point u.row ≡ fin c)) × AllFinite y rest

-- the items put the vector's numbers in place
put_jump : (b y : Vector) (list : List Listed) (ls hs : List Word) (system : Equations) (p r : ℕ) → AllLow system b list ls
    → AllSized system list hs → AllFinite y list → (Unlisted list p r → b p r ≡ y p r) →
    put (new_value Jump) (jump_items system.variables y list ls hs) b p r ≡ y p r
unfolding put jump_items item_of names is_at new_value
put_jump b y [] ls hs system p r lo si f k = k tt
put_jump b y (u ∷ rest) [] hs system p r lo si f k = absurd lo
put_jump b y (u ∷ rest) (l ∷ ls) [] system p r lo si f k = absurd si
put_jump b y (u ∷ rest) (l ∷ ls) (h ∷ hs) system p r lo si f k = by (is_at u p r) refl
    (λ e. put_jump b y rest ls hs system p r lo.1 si.1 f.1 (λ n. k (e, n)))
  where
    by : (t : Bool) → is_at u p r ≡ t → (is_at u p r ≡ false → put (new_value Jump) (jump_items system.variables y rest ls hs) b p r
        ≡ y p r) →
        (if t then fin (num (y u.point u.row)) else put (new_value Jump) (jump_items system.variables y rest ls hs) b p r) ≡ y p r
    by true e t = let n = is_at_means u p r e in num_back (y u.point u.row) f.0.0 f.0.1 ∙ ap (λ s. y s u.row) n.0 ∙ ap (λ s. y p s) n.1
    by false e t = t e

jump_unnamed : (system : Equations) → (y : Vector) (list : List Listed) (ls hs : List Word) (p r : ℕ) → Unlisted list p r
    → Unnamed (jump_items system.variables y list ls hs) p r
unfolding jump_items item_of names is_at
jump_unnamed system y [] ls hs p r n = tt
jump_unnamed system y (u ∷ rest) [] hs p r n = tt
jump_unnamed system y (u ∷ rest) (l ∷ ls) [] p r n = tt
jump_unnamed system y (u ∷ rest) (l ∷ ls) (h ∷ hs) p r n = (n.0, jump_unnamed system y rest ls hs p r n.1)

jump_distinct : (system : Equations) → (y : Vector) (list : List Listed) (ls hs : List Word) → Distinct list
    → Rattle.theory_validity.specs.Steps.Distinct (jump_items system.variables y list ls hs)
unfolding jump_items item_of
jump_distinct system y [] ls hs d = tt
jump_distinct system y (u ∷ rest) [] hs d = tt
jump_distinct system y (u ∷ rest) (l ∷ ls) [] d = tt
jump_distinct system y (u ∷ rest) (l ∷ ls) (h ∷ hs) d = (
  jump_unnamed system y rest ls hs u.point u.row d.0,
  jump_distinct system y rest ls hs d.1,
)

jump_placed : (system : Equations) (y : Vector) (list : List Listed) (ls hs : List Word) → AllPicked system list → (item : Item)
    → In (jump_items system.variables y list ls hs) item → Placed system item
unfolding jump_items
jump_placed system y [] ls hs p item m = absurd m
jump_placed system y (u ∷ rest) [] hs p item m = absurd m
jump_placed system y (u ∷ rest) (l ∷ ls) [] p item m = absurd m
jump_placed system y (u ∷ rest) (l ∷ ls) (h ∷ hs) p item m =
    ⊎_elim (λ e. subst (λ s. Placed system s) e (item_placed system u l h (num (y u.point u.row)) p.0))
    (λ k. jump_placed system y rest ls hs p.1 item k) m

fin_lt : (v : Ext) (c a : ℚ) → v ≡ fin c → v <ᴱ fin a → c <ℚ a
fin_lt v c a e h = subst (λ s. s <ᴱ fin a) e h

fin_le_num : (v w : Ext) (a c : ℚ) → v ≡ fin a → w ≡ fin c → v ≤ᴱ w → a ≤ℚ num w
fin_le_num v w a c e f h = subst (λ s. a ≤ℚ s) (sym (num-fin w c f)) (subst₂ (λ s t. s ≤ᴱ t) e f h)

num_le : (v : Ext) (c a : ℚ) → v ≡ fin c → v ≤ᴱ fin a → num v ≤ℚ a
num_le v c a e h = subst (λ s. s ≤ℚ a) (sym (num-fin v c e)) (subst (λ s. s ≤ᴱ fin a) e h)

jump_item : (system : Equations) (b y : Vector) (u : Listed) (l h : Word) (c : ℚ) → Rising system b u → Low system b u l
    → Supports system y u h → length h ≡ columns_of system u → y u.point u.row ≡ fin c → b u.point u.row ≤ᴱ y u.point u.row →
    JumpItem system b y (item_of system.variables u l h (num (y u.point u.row)))
unfolding item_of edge_of row_of picked own_row columns_of
jump_item system b y u l h c rising low high size f above = record {
  low_size = pieces_sized system u l low.size;
  high_size = pieces_sized system u h size;
  bound = rising.bound;
  finite = rising.finite;
  low_runs = subst (λ s. Runs system b (picked system u) s) (sym (word_pieces system.variables l)) low.runs;
  low_above = subst (λ s. rising.bound <ℚ end_value system (picked system u) (own_row system u) s) (sym (word_pieces system.variables l))
      (fin_lt (b u.point u.row) rising.bound (end_value system (picked system u) (own_row system u) l) rising.finite low.above);
  rises = fin_le_num (b u.point u.row) (y u.point u.row) rising.bound c rising.finite f above;
  high_runs = subst (λ s. Runs system y (picked system u) s) (sym (word_pieces system.variables h)) high.runs;
  high_reaches = subst (λ s. num (y u.point u.row) ≤ℚ end_value system (picked system u) (own_row system u) s)
      (sym (word_pieces system.variables h)) (num_le (y u.point u.row) c (end_value system (picked system u) (own_row system u) h) f
      high.reaches);
}

jump_valid : (system : Equations) (b y : Vector) (list : List Listed) (ls hs : List Word) → AllRising system b list
    → AllLow system b list ls → AllSupport system y list hs → AllSized system list hs → AllFinite y list →
    ((p r : ℕ) → b p r ≤ᴱ y p r) → (item : Item) → In (jump_items system.variables y list ls hs) item → JumpItem system b y item
unfolding jump_items
jump_valid system b y [] ls hs ri lo su si f above item m = absurd m
jump_valid system b y (u ∷ rest) [] hs ri lo su si f above item m = absurd m
jump_valid system b y (u ∷ rest) (l ∷ ls) [] ri lo su si f above item m = absurd m
jump_valid system b y (u ∷ rest) (l ∷ ls) (h ∷ hs) ri lo su si f above item m = ⊎_elim
    (λ e. subst (λ s. JumpItem system b y s) e (jump_item system b y u l h f.0.0 ri.0 lo.0 su.0 si.0 f.0.1 (above u.point u.row)))
    (λ k. jump_valid system b y rest ls hs ri.1 lo.1 su.1 si.1 f.1 above item k)
    m

all_finite : (system : Equations) (b y : Vector) (list : List Listed) →
    Rattle.theory_transformers.specs.Candidates.AllSupported system b y list → AllFinite y list
all_finite system b y [] h = tt
all_finite system b y (u ∷ rest) h = ((h.0.bound, h.0.finite), all_finite system b y rest h.1)

-- the jump of a joint problem's point
abbrev pub joint_jump : Equations → Vector → List Listed → (ℕ → ℚ) → List Word → Step
joint_jump system b list x ls = record {
  kind = Jump;
  items = jump_items system.variables (raised list x b) list ls
      (joint_words system list x);
}

-- it leads to base plus rise
joint_jump_leads : (system : Equations) (b : Vector) (list : List Listed) (x : ℕ → ℚ) (ls : List Word) → AllRising system b list
    → AllLow system b list ls → IsPoint (joint_problem system b list) x →
    (p r : ℕ) → after_step (joint_jump system b list x ls) b p r ≡ raised list x b p r
unfolding after_step joint_words
joint_jump_leads system b list x ls rising lo point p r =
    put_jump b (raised list x b) list ls (joint_words system list x) system p r lo (words_sized system list _)
    (all_finite system b (raised list x b) list (raised_candidate system b list x rising point).inside)
    (λ n. sym (raised_unlisted list x b p r n))

-- and is valid
pub joint_jump_valid : (system : Equations) (b : Vector) (list : List Listed) (x : ℕ → ℚ) (ls : List Word) → AllRising system b list
    → Distinct list → AllPicked system list → AllLow system b list ls → IsPoint (joint_problem system b list) x →
    ValidStep system b (joint_jump system b list x ls)
unfolding after_step joint_words
joint_jump_valid system b list x ls rising distinct pick lo point =
    let y = raised list x b in
    let hs = joint_words system list x in
    record {
      distinct = jump_distinct system y list ls hs distinct;
      placed = jump_placed system y list ls hs pick;
      valid = λ item m. subst (λ z. JumpItem system b z item) (λ i p r. sym (joint_jump_leads system b list x ls rising lo point p r) i)
          (jump_valid system b y list ls hs rising lo (point_supports system b list x rising point) (words_sized system list _)
          (all_finite system b y list (raised_candidate system b list x rising point).inside)
          (λ p r. raised_above list x b p r (point_rises system b list x point)) item m);
    }
