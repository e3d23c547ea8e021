-- Operands one behind the other, of which the second keeps what the first is.
use Rattle.std.proofs.Common.{◌≤◌, ◌+◌, ℕ, Bool, false, ◌++◌}
use Rattle.std.specs.Prelude.{IsTrue}
use Rattle.lang_tree.specs.Meaning.{State}
use Rattle.lang_tree.specs.Tree as tree
use Rattle.source_tree.specs.Expressions.{Expression}
use Rattle.source_tree.specs.Values.{May}
use Rattle.source_core.specs.Laws.{occurrences}
use Rattle.source_core.specs.Preludes.{all_under}
use Rattle.source_core.specs.Elaborated.{elaborated, numbered, tested, choice}
use Rattle.source_core.proofs.preludes.Preludes.{WritesFrom}
use Rattle.source_core.proofs.preludes.Parts.{fits-more, hidden-alone, Keeps, KeepsNumber, KeepsTruth}
use Rattle.source_core.proofs.preludes.Results.{keeps-number, keeps-truth}
use Rattle.source_core.proofs.expressions.Operated.{Both}
use Rattle.source_core.proofs.expressions.Operands.{Stays, both-numbered, Joint, joint-tested, OneMay, keeps-choice}
use Rattle.source_core.proofs.expressions.Apart.{Stepped, counts, wider-first, wider-second, stepless}
use Rattle.source_core.proofs.expressions.Lacking.{lacking, lacking-number, stays}
use Rattle.base_integers.specs.declared.integers.Integers.{Integers}

-- what is kept of an expression whose hidden variables are taken from h on, where steps of variables that pass the test stand apart
abbrev pub KeptAt : (integers : Integers) (line n h : ℕ) (test : ℕ → Bool) → Expression → Type 0
KeptAt integers line n h test e = Keeps integers n (Stepped n test (counts e)) h (May integers e) (elaborated integers line e h)

module _ (integers : Integers) (line n h : ℕ) (test : ℕ → Bool) where
  -- an operand as a number
  pub as-number : (e : Expression) → KeptAt integers line n h test e
      → KeepsNumber n (Stepped n test (counts e)) h (May integers e) (numbered integers line (elaborated integers line e h))
  as-number e k = keeps-number integers line n (Stepped n test (counts e)) h (May integers e) (elaborated integers line e h) k

  -- an operand as a condition
  pub as-truth : (e : Expression) → KeptAt integers line n h test e
      → KeepsTruth n (Stepped n test (counts e)) h (May integers e) (tested (elaborated integers line e h))
  as-truth e k = keeps-truth integers n (Stepped n test (counts e)) h (May integers e) (elaborated integers line e h) k

  -- a number, as what is kept of it where more variables may be stepped
  more-number : (e : Expression) (V : ℕ → Type 0) → ((i : ℕ) → Stepped n test (counts e) i → V i) → KeptAt integers line n h test e
      → KeepsNumber n V h (May integers e) (numbered integers line (elaborated integers line e h))
  more-number e V m k =
      let a = as-number e k in
      let v = numbered integers line (elaborated integers line e h) in
      record { fits = fits-more n (Stepped n test (counts e)) V h v.prelude v.next m a.fits; over = a.over; keeps = a.keeps }

  -- a condition likewise
  more-truth : (e : Expression) (V : ℕ → Type 0) → ((i : ℕ) → Stepped n test (counts e) i → V i) → KeptAt integers line n h test e
      → KeepsTruth n V h (May integers e) (tested (elaborated integers line e h))
  more-truth e V m k =
      let a = as-truth e k in
      let v = elaborated integers line e h in
      record { fits = fits-more n (Stepped n test (counts e)) V h v.prelude v.next m a.fits; over = a.over; keeps = a.keeps }

-- an operand without steps writes hidden variables alone
pub writes-alone : (integers : Integers) (line n h : ℕ) (e : Expression) → KeptAt integers line n h (λ i. false) e
    → WritesFrom h (elaborated integers line e h).prelude
writes-alone integers line n h e k =
    let v = elaborated integers line e h in
    hidden-alone n (Stepped n (λ i. false) (counts e)) h v.prelude v.next (stepless n (counts e)) k.fits

-- so as a number
pub number-alone : (integers : Integers) (line n h : ℕ) (e : Expression) → KeptAt integers line n h (λ i. false) e
    → WritesFrom h (numbered integers line (elaborated integers line e h)).prelude
number-alone integers line n h e k =
    let v = numbered integers line (elaborated integers line e h) in
    hidden-alone n (Stepped n (λ i. false) (counts e)) h v.prelude v.next (stepless n (counts e))
    (as-number integers line n h (λ i. false) e k).fits

-- two operands, the second behind the first as a number
module _ (integers : Integers) (line n h : ℕ) (test : ℕ → Bool) (e f : Expression)
    (once : (i : ℕ) → IsTrue (test i) → occurrences i e + occurrences i f ≤ 1)
    (k : KeptAt integers line n h test e)
    (l : KeptAt integers line n (numbered integers line (elaborated integers line e h)).next test f) where
  -- the form of the first keeps its value while the second is evaluated
  pub first-stays : Stays
      (numbered integers line (elaborated integers line f (numbered integers line (elaborated integers line e h)).next)).prelude
      (numbered integers line (elaborated integers line e h)).form
  first-stays =
      let u = numbered integers line (elaborated integers line e h) in
      let w = numbered integers line (elaborated integers line f u.next) in
      let one = as-number integers line n h test e k in
      let two = as-number integers line n u.next test f l in
      let lacks = lacking-number integers line (counts e) h (elaborated integers line e h) (lacking integers line e h) in
      stays n h u.next test (counts e) (counts f) u.form w.prelude w.next one.fits.above one.over lacks.lacks two.fits once

  -- both are kept together
  pub two-numbers : Both n (Stepped n test (λ i. occurrences i e + occurrences i f)) h
      (λ x a b y. (w : State) × May integers e x a w × May integers f w b y)
      ((numbered integers line (elaborated integers line e h)).prelude
      ++ (numbered integers line (elaborated integers line f (numbered integers line (elaborated integers line e h)).next)).prelude)
      (numbered integers line (elaborated integers line f (numbered integers line (elaborated integers line e h)).next)).next
      (numbered integers line (elaborated integers line e h)).form
      (numbered integers line (elaborated integers line f (numbered integers line (elaborated integers line e h)).next)).form
  two-numbers =
      let u = numbered integers line (elaborated integers line e h) in
      let w = numbered integers line (elaborated integers line f u.next) in
      let S = Stepped n test (λ i. occurrences i e + occurrences i f) in
      both-numbered n S h (May integers e) (May integers f) u w first-stays
      (more-number integers line n h test e S (wider-first n test (counts e) (counts f)) k)
      (more-number integers line n u.next test f S (wider-second n test (counts e) (counts f)) l)

-- two conditions, the second without steps, and its checks under a third
pub two-truths : (integers : Integers) (line n h : ℕ) (test : ℕ → Bool) (c d : Expression) (third : tree.Condition)
    → KeptAt integers line n h test c → KeptAt integers line n (elaborated integers line c h).next (λ i. false) d
    → Joint n (Stepped n test (λ i. occurrences i c + occurrences i d)) h (May integers c) (May integers d)
    ((elaborated integers line c h).prelude ++ all_under third (elaborated integers line d (elaborated integers line c h).next).prelude)
    (elaborated integers line d (elaborated integers line c h).next).next (tested (elaborated integers line c h)).condition
    (tested (elaborated integers line d (elaborated integers line c h).next)).condition
two-truths integers line n h test c d third k l =
    let a = elaborated integers line c h in
    let b = elaborated integers line d a.next in
    let S = Stepped n test (λ i. occurrences i c + occurrences i d) in
    joint-tested n S h (May integers c) (May integers d) (tested a) (tested b) third (writes-alone integers line n a.next d l)
    (more-truth integers line n h test c S (wider-first n test (counts c) (counts d)) k)
    (more-truth integers line n a.next (λ i. false) d S (λ i q. absurd (stepless n (counts d) i q)) l)

-- one of two numbers without steps, by a condition
pub one-number : (integers : Integers) (line n h : ℕ) (test : ℕ → Bool) (c e f : Expression)
    → KeptAt integers line n h test c → KeptAt integers line n (elaborated integers line c h).next (λ i. false) e
    → KeptAt integers line n (numbered integers line (elaborated integers line e (elaborated integers line c h).next)).next (λ i. false) f
    → Keeps integers n (Stepped n test (λ i. occurrences i c + (occurrences i e + occurrences i f))) h
    (OneMay (May integers c) (May integers e) (May integers f))
    (choice line (tested (elaborated integers line c h))
    (numbered integers line (elaborated integers line e (elaborated integers line c h).next))
    (numbered integers line (elaborated integers line f
    (numbered integers line (elaborated integers line e (elaborated integers line c h).next)).next)))
one-number integers line n h test c e f k l m =
    let a = elaborated integers line c h in
    let u = numbered integers line (elaborated integers line e a.next) in
    let w = numbered integers line (elaborated integers line f u.next) in
    let S = Stepped n test (λ i. occurrences i c + (occurrences i e + occurrences i f)) in
    keeps-choice integers line n S h (May integers c) (May integers e) (May integers f) (tested a) u w
    (number-alone integers line n a.next e l) (number-alone integers line n u.next f m)
    (more-truth integers line n h test c S (wider-first n test (counts c) (λ i. occurrences i e + occurrences i f)) k)
    (more-number integers line n a.next (λ i. false) e S (λ i q. absurd (stepless n (counts e) i q)) l)
    (more-number integers line n u.next (λ i. false) f S (λ i q. absurd (stepless n (counts f) i q)) m)
