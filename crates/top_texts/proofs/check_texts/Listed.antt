-- What verdicts on the checks of a program say of each, and whether one is open.
use Rattle.std.proofs.Common.{◌≡◌, ◌∙◌, ℕ, zero, suc, ◌<◌, Bool, true, false, List, [], ◌∷◌, length, map, refl, sym, ap, subst, arith}
use Rattle.std.specs.Prelude.{◌↔◌, ℤ, IsSomeAnd, IsTrue, MatchOption, Option, Some, Contains, option_map, slice_get}
use Rattle.std.specs.List.{AllZip}
use Rattle.std.proofs.lemmas.List.{length-map}
use Rattle.std.proofs.lemmas.Option.{get_or_from_slice_get, slice_get-map, slice_get_read, slice_get_within}
use Rattle.std.proofs.lemmas.Slice.Zip.{AllZip-left, AllZip-long}
use Rattle.lang_tree.specs.Limits.{is_program}
use Rattle.lang_tree.specs.Tree.{Statements}
use Rattle.flow_edges.specs.Checks.{Checked, checks_in, checks_of_program, with_cases}
use Rattle.flow_systems.specs.Equations.{Equations, PostSolution, Vector}
use Rattle.flow_systems.specs.SystemLimits.{is_over}
use Rattle.flow_systems.specs.Solutions.{equations_of_program}
use Rattle.flow_systems.specs.States.{RationalState}
use Rattle.ask_checks.specs.Laws.{OpenStatesBreak, ProvedVerdictsHold}
use Rattle.ask_checks.specs.Places.{NoneBreaksCheck}
use Rattle.ask_checks.specs.Verdicts.{AreCheckVerdicts, IsCheckVerdict}
use Rattle.ask_verdicts.specs.declared.outcome.Verdict.{Verdict}
use Rattle.ask_verdicts.specs.declared.outcome.Verdict.TheVariants.{Proved, Open}
use Rattle.top_texts.specs.CheckTexts.{AllProved, ChecksEnd, IsTrueInEachRun, SomeOpen, SpeakOfChecks, all_proved, ending_of, some_open}
use Rattle.top_status.specs.declared.status.Status.{Status}
use Rattle.top_status.specs.declared.status.Status.TheVariants.{Done, Open as OpenEnding}

-- ---- lists

-- something stands at each place within a list
some_at : {A : Type 0} (xs : List A) (k : ℕ) → k < length xs → (x : A) × (slice_get xs k ≡ Some x)
some_at [] k l = let no : ⊥ = omega arith in absurd no
some_at (x ∷ xs) zero l = (x, refl)
some_at (x ∷ xs) (suc k) l = some_at xs k (omega arith)

-- an element stands at some place
pub place_of : {A : Type 0} (xs : List A) (x : A) → Contains xs x → (k : ℕ) × (slice_get xs k ≡ Some x)
place_of xs x c = (c.0, slice_get_read xs (length xs) c.0 x refl c.1 (sym c.2))

-- what stands at a place is an element
among : {A : Type 0} (xs : List A) (k : ℕ) (x : A) → slice_get xs k ≡ Some x → Contains xs x
among xs k x e = (k, slice_get_within xs k x e, get_or_from_slice_get xs k x x e)

-- what is so of two lists place by place is so of what stands at a place
zip_at : {A B : Type 0} (R : A → B → Type 0) (xs : List A) (ys : List B) (k : ℕ) (x : A) (y : B) → AllZip R xs ys
    → slice_get xs k ≡ Some x → slice_get ys k ≡ Some y → R x y
zip_at {A} {B} R xs ys k x y h e f =
    let P : Option A → Type 0 = λ o. MatchOption o (Unit {0}) (λ a. IsSomeAnd (slice_get ys k) (R a)) in
    let Q : Option B → Type 0 = λ o. IsSomeAnd o (R x) in
    subst Q f (subst P e (AllZip-left R xs ys h k))

-- a check at a place of a program stands there with its cases
cased : (checks : List Checked) (k : ℕ) (check : Checked) → slice_get checks k ≡ Some check
    → slice_get (map with_cases checks) k ≡ Some (with_cases check)
cased checks k check e = slice_get-map with_cases checks k ∙ ap (option_map with_cases) e

-- ---- verdicts

module _ (body : Statements) (system : Equations) (vector : Vector) (verdicts : List Verdict)
    (are : AreCheckVerdicts system vector (checks_of_program body) verdicts) where
  one_each : length verdicts ≡ length (checks_in body)
  one_each = AllZip-long (IsCheckVerdict system vector) (checks_of_program body) verdicts are ∙ length-map (checks_in body) with_cases

  verdict_at : (k : ℕ) (check : Checked) (said : Verdict) → slice_get (checks_in body) k ≡ Some check → slice_get verdicts k ≡ Some said
      → IsCheckVerdict system vector (with_cases check) said
  verdict_at k check said e f =
      zip_at (IsCheckVerdict system vector) (checks_of_program body) verdicts k (with_cases check) said are
      (cased (checks_in body) k check e) f

  open_one : OpenStatesBreak → (state : RationalState) → Contains verdicts (Open state) → SomeOpen body system vector
  open_one law state c =
      let at = place_of verdicts (Open state) c in
      let here = some_at (checks_in body) at.0 (subst (λ n. at.0 < n) one_each (slice_get_within verdicts at.0 (Open state) at.1)) in
      record {
        check = here.0;
        among = among (checks_in body) at.0 here.0 here.1;
        state = state;
        breaks = law system vector (checks_of_program body) verdicts at.0 (with_cases here.0) state are
            (cased (checks_in body) at.0 here.0 here.1) at.1;
      }

  none_by : (said : Verdict) (check : Checked) → IsCheckVerdict system vector (with_cases check) said
      → ((state : RationalState) → said ≡ Open state → ⊥) → NoneBreaksCheck system vector (with_cases check)
  none_by Proved check v none = v.proved.0 refl
  none_by (Open state) check v none = absurd (none state refl)

  none_open : ((state : RationalState) → Contains verdicts (Open state) → ⊥) → AllProved body system vector
  none_open none check is =
      let at = place_of (checks_in body) check is in
      let here = some_at verdicts at.0 (subst (λ n. at.0 < n) (sym one_each) (slice_get_within (checks_in body) at.0 check at.1)) in
      none_by here.0 check (verdict_at at.0 check here.0 at.1 here.1)
      (λ state e. none state (among verdicts at.0 (Open state) (here.1 ∙ ap Some e)))

  not_true : IsTrue false → ⊥
  not_true e = cc

  -- whether a verdict is open decides the ending
  pub verdicts_end : OpenStatesBreak → (is_open : Bool) → IsTrue is_open ↔ ((state : RationalState) × Contains verdicts (Open state))
      → ChecksEnd body system vector (ending_of is_open)
  verdicts_end law true h = let o = h.0 refl in some_open refl (open_one law o.0 o.1)
  verdicts_end law false h = all_proved refl (none_open (λ state c. not_true (h.1 (state, c))))

-- at a post-solution of a program's system they speak of its runs
pub verdicts_speak : (variables : ℕ) (body : Statements) (template : List (List ℤ)) (vector : Vector) (verdicts : List Verdict)
    → AreCheckVerdicts (equations_of_program variables body template) vector (checks_of_program body) verdicts
    → IsTrue (is_program variables body) → IsTrue (is_over variables template)
    → PostSolution (equations_of_program variables body template) vector → ProvedVerdictsHold → OpenStatesBreak
    → SpeakOfChecks variables body (equations_of_program variables body template) vector verdicts
verdicts_speak variables body template vector verdicts are program over post hold break =
    let system = equations_of_program variables body template in
    record {
      one_each = one_each body system vector verdicts are;
      proved_where = λ k check said e f. (verdict_at body system vector verdicts are k check said e f).proved;
      proved = λ k check e f run is. hold variables body template vector (checks_of_program body) verdicts k check.about check.cond program
          over post are (cased (checks_in body) k check e) f run is;
      open_ones = λ k check state e f. break system vector (checks_of_program body) verdicts k (with_cases check) state are
          (cased (checks_in body) k check e) f;
    }

open_undone : (s : Status) → s ≡ OpenEnding → s ≡ Done → ⊥
open_undone s e f = cc

-- where they end as `Done`, each check of the program is true in every run of it
pub all_true : (variables : ℕ) (body : Statements) (system : Equations) (vector : Vector) (verdicts : List Verdict)
    → SpeakOfChecks variables body system vector verdicts → (ending : Status) → ChecksEnd body system vector ending → ending ≡ Done
    → (check : Checked) → Contains (checks_in body) check → IsTrueInEachRun variables body check
all_true variables body system vector verdicts speak ending (all_proved e h) d check among =
    let at = place_of (checks_in body) check among in
    let here = some_at verdicts at.0 (subst (λ n. at.0 < n) (sym speak.one_each) (slice_get_within (checks_in body) at.0 check at.1)) in
    speak.proved at.0 check at.1 (here.1 ∙ ap Some ((speak.proved_where at.0 check here.0 at.1 here.1).1 (h check among)))
all_true variables body system vector verdicts speak ending (some_open e o) d check among = absurd (open_undone ending e d)
