-- What the rows of a source and of guards say, wherever their columns stand.
use Rattle.std.proofs.Common.{◌≡◌, ℕ, zero, suc, ◌≤◌, Bool, true, false, List, [], ◌∷◌, length, refl, sym, subst}
use Rattle.std.specs.Prelude.{ℤ, slice_get, Some}
use Rattle.std.proofs.lemmas.Option.{same_Some}
use Rattle.base_numbers.proofs.extended.ExtendedLaws.{fin_same}
use Rattle.base_numbers.specs.Rational.{ℚ, zero_ℚ, ◌+ℚ◌, neg_ℚ, ◌≤ℚ◌}
use Rattle.base_numbers.specs.Extended.{Ext, neg_inf, fin, pos_inf}
use Rattle.base_numbers.specs.Vector.{dot}
use Rattle.base_numbers.proofs.tactics.Linarith.{lin_le, le, reads_all}
use Rattle.theory_validity.specs.Words.{Word, Affine, val, lin, start_form, AllAtMost, AllFall}
use Rattle.theory_validity.proofs.words.Widths.{Narrow, start_form_width}
use Rattle.theory_transformers.specs.Limits.{Limit, product, side_for, AllUnder, AllWithin}
use Rattle.theory_transformers.specs.EdgeProblems.{source_limit, source_limits, guard_limits}

-- ---- the source
head_out : (t : Bool) (embed : List ℚ → List ℚ) (n : ℕ) (row : List ℤ) (rest : List Limit) (x : ℕ → ℚ) (c : ℚ) (v : Ext) → v ≡ fin c →
    AllUnder t (source_limit embed n v row rest) x → product (embed (start_form n row).coeffs) x ≤ℚ side_for t c
unfolding source_limit
head_out t embed n row rest x c neg_inf e h = cc
head_out t embed n row rest x c (fin d) e h = subst (λ s. product (embed (start_form n row).coeffs) x ≤ℚ side_for t s) (fin_same d c e) h.0
head_out t embed n row rest x c pos_inf e h = cc

tail_out : (t : Bool) (embed : List ℚ → List ℚ) (n : ℕ) (row : List ℤ) (rest : List Limit) (x : ℕ → ℚ) (v : Ext) →
    AllUnder t (source_limit embed n v row rest) x → AllUnder t rest x
unfolding source_limit
tail_out t embed n row rest x neg_inf h = h
tail_out t embed n row rest x (fin d) h = h.1
tail_out t embed n row rest x pos_inf h = h

-- a template row with a finite bound is met
pub source_out : (t : Bool) (embed : ℕ → List ℚ → List ℚ) (n : ℕ) (bounds : ℕ → Ext) (rows : List (List ℤ)) (x : ℕ → ℚ)
    → AllUnder t (source_limits embed n bounds rows) x →
    (r : ℕ) (row : List ℤ) (c : ℚ) → slice_get rows r ≡ Some row → bounds r ≡ fin c
    → product (embed r (start_form n row).coeffs) x ≤ℚ side_for t c
unfolding source_limits
source_out t embed n bounds [] x h r row c e f = cc
source_out t embed n bounds (first ∷ rows) x h zero row c e f =
    subst (λ s. product (embed 0 (start_form n s).coeffs) x ≤ℚ side_for t c) (same_Some first row e)
    (head_out t (embed 0) n first (source_limits (λ r. embed (suc r)) n (λ r. bounds (suc r)) rows) x c (bounds 0) f h)
source_out t embed n bounds (first ∷ rows) x h (suc r) row c e f =
    source_out t (λ r. embed (suc r)) n (λ r. bounds (suc r)) rows x (tail_out t (embed 0) n first
    (source_limits (λ r. embed (suc r)) n (λ r. bounds (suc r)) rows) x (bounds 0) h) r row c e f

joined_in : (t : Bool) (embed : List ℚ → List ℚ) (n : ℕ) (row : List ℤ) (rest : List Limit) (x : ℕ → ℚ) (v : Ext) →
    ((c : ℚ) → v ≡ fin c → product (embed (start_form n row).coeffs) x ≤ℚ side_for t c) → AllUnder t rest x
    → AllUnder t (source_limit embed n v row rest) x
unfolding source_limit
joined_in t embed n row rest x neg_inf h i = i
joined_in t embed n row rest x (fin d) h i = (h d refl, i)
joined_in t embed n row rest x pos_inf h i = i

-- where each template row with a finite bound is met, the rows of the source are
pub source_in : (t : Bool) (embed : ℕ → List ℚ → List ℚ) (n : ℕ) (bounds : ℕ → Ext) (rows : List (List ℤ)) (x : ℕ → ℚ) →
    ((r : ℕ) (row : List ℤ) (c : ℚ) → slice_get rows r ≡ Some row → bounds r ≡ fin c
    → product (embed r (start_form n row).coeffs) x ≤ℚ side_for t c) → AllUnder t (source_limits embed n bounds rows) x
unfolding source_limits
source_in t embed n bounds [] x h = tt
source_in t embed n bounds (first ∷ rows) x h =
    joined_in t (embed 0) n first (source_limits (λ r. embed (suc r)) n (λ r. bounds (suc r)) rows) x (bounds 0) (λ c e. h 0 first c refl e)
    (source_in t (λ r. embed (suc r)) n (λ r. bounds (suc r)) rows x (λ r row c e f. h (suc r) row c e f))

joined_within : (m : ℕ) (embed : List ℚ → List ℚ) (n : ℕ) (row : List ℤ) (rest : List Limit) (v : Ext) →
    length (embed (start_form n row).coeffs) ≤ m → AllWithin m rest → AllWithin m (source_limit embed n v row rest)
unfolding source_limit
joined_within m embed n row rest neg_inf h i = i
joined_within m embed n row rest (fin d) h i = (h, i)
joined_within m embed n row rest pos_inf h i = i

-- the rows of a source are within the columns in which they are embedded
pub source_within : (m : ℕ) (embed : ℕ → List ℚ → List ℚ) (n : ℕ) (bounds : ℕ → Ext) (rows : List (List ℤ)) →
    ((r : ℕ) (u : List ℚ) → length u ≤ n → length (embed r u) ≤ m) → AllWithin m (source_limits embed n bounds rows)
unfolding source_limits
source_within m embed n bounds [] h = tt
source_within m embed n bounds (first ∷ rows) h =
    joined_within m (embed 0) n first (source_limits (λ r. embed (suc r)) n (λ r. bounds (suc r)) rows) (bounds 0)
    (h 0 (start_form n first).coeffs (start_form_width n first))
    (source_within m (λ r. embed (suc r)) n (λ r. bounds (suc r)) rows (λ r u l. h (suc r) u l))

-- ---- the guards
moved_over : (a c : ℚ) → a ≤ℚ neg_ℚ c → a +ℚ c ≤ℚ zero_ℚ
moved_over a c h = lin_le (a ∷ c ∷ []) (le h ∷ []) (search reads_all depth 40) tt

moved_back : (a c : ℚ) → a +ℚ c ≤ℚ zero_ℚ → a ≤ℚ neg_ℚ c
moved_back a c h = lin_le (a ∷ c ∷ []) (le h ∷ []) (search reads_all depth 40) tt

-- a word that meets the rows of guards passes them
pub guards_out : (embed : List ℚ → List ℚ) (m : ℕ) (gs : List Affine) (x : ℕ → ℚ) (w : Word) → Narrow m gs
    → ((u : List ℚ) → length u ≤ m → product (embed u) x ≡ dot u w) →
    AllUnder true (guard_limits embed gs) x → AllAtMost gs w
unfolding guard_limits val
guards_out embed m [] x w n e h = tt
guards_out embed m (g ∷ gs) x w n e h = (
  moved_over (dot g.coeffs w) g.constant (subst (λ s. s ≤ℚ neg_ℚ g.constant) (e g.coeffs n.0) h.0),
  guards_out embed m gs x w n.1 e h.1,
)

-- along a direction that keeps the rows of guards no guard rises
pub guards_fall : (embed : List ℚ → List ℚ) (m : ℕ) (gs : List Affine) (x : ℕ → ℚ) (w : Word) → Narrow m gs
    → ((u : List ℚ) → length u ≤ m → product (embed u) x ≡ dot u w) →
    AllUnder false (guard_limits embed gs) x → AllFall gs w
unfolding guard_limits lin
guards_fall embed m [] x w n e h = tt
guards_fall embed m (g ∷ gs) x w n e h = (subst (λ s. s ≤ℚ zero_ℚ) (e g.coeffs n.0) h.0, guards_fall embed m gs x w n.1 e h.1)

-- a word that passes guards meets their rows
pub guards_in : (embed : List ℚ → List ℚ) (m : ℕ) (gs : List Affine) (x : ℕ → ℚ) (w : Word) → Narrow m gs
    → ((u : List ℚ) → length u ≤ m → product (embed u) x ≡ dot u w) →
    AllAtMost gs w → AllUnder true (guard_limits embed gs) x
unfolding guard_limits val
guards_in embed m [] x w n e h = tt
guards_in embed m (g ∷ gs) x w n e h = (
  subst (λ s. s ≤ℚ neg_ℚ g.constant) (sym (e g.coeffs n.0))
      (moved_back (dot g.coeffs w) g.constant h.0),
  guards_in embed m gs x w n.1 e h.1,
)

-- the rows of guards are within the columns in which they are embedded
pub guards_within : (k : ℕ) (embed : List ℚ → List ℚ) (m : ℕ) (gs : List Affine) → Narrow m gs
    → ((u : List ℚ) → length u ≤ m → length (embed u) ≤ k) → AllWithin k (guard_limits embed gs)
unfolding guard_limits
guards_within k embed m [] n h = tt
guards_within k embed m (g ∷ gs) n h = (h g.coeffs n.0, guards_within k embed m gs n.1 h)
