-- What is kept of deeds and conditions that are joined.
use Rattle.std.proofs.Common.{◌≡◌, ◌∙◌, ◌++◌, ◌+◌, ◌≤◌, nat_le, ⊎_elim, true≢false, ℕ, List, [], ◌∷◌, Bool, true, false, ◌&&◌}
use Rattle.std.proofs.Common.{refl, sym, ap, ap₂, arith}
use Rattle.std.specs.Prelude.{Some, None}
use Rattle.std.proofs.lemmas.Bool.{and_from, and_left, and_right, and_parts, and_cases, leb-true, le-leb, lt-leb, leb-false}
use Rattle.std.proofs.lemmas.List.Folds.{list_all-append}
use Rattle.lang_tree.specs.Tree.{Condition, negation, leaf_count, Deed, sets, havocs, wheres, checks}
use Rattle.lang_tree.specs.DeedView.{deed_of, deeds_of}
use Rattle.lang_tree.specs.declared.deed.Deed as code
use Rattle.source_core.specs.Preludes.{under, all_under}
use Rattle.source_value.specs.Kept.{is_within, is_small, has_small, have_small, is_unchecked, are_unchecked}
use Rattle.source_value.specs.Kept.{kept, kept_deeds, kept_condition}

-- the code's deeds in a row
pub deeds-append : (xs ys : List code.Deed) → deeds_of (xs ++ ys) ≡ deeds_of xs ++ deeds_of ys
deeds-append [] ys = refl
deeds-append (x ∷ xs) ys = ap (λ r. deed_of x ∷ r) (deeds-append xs ys)

-- ---- what was kept
-- a thing that is kept is itself, and no limit is passed
pub kept_some : {A : Type 0} (b : Bool) (x y : A) → Some x ≡ kept b y → (b ≡ true) × (x ≡ y)
kept_some true x y e = (refl, cc)
kept_some false x y e = absurd cc

-- where nothing is kept a limit is passed
pub kept_none : {A : Type 0} (b : Bool) (y : A) → None ≡ kept b y → b ≡ false
kept_none true y e = absurd cc
kept_none false y e = refl

-- and so the other way
pub some_kept : {A : Type 0} (b : Bool) (x y : A) → b ≡ true → x ≡ y → Some x ≡ kept b y
some_kept true x y e f = ap Some f
some_kept false x y e f = absurd cc

-- where a limit is passed nothing is kept
pub none_kept : {A : Type 0} (b : Bool) (y : A) → b ≡ false → None ≡ kept b y
none_kept true y e = absurd cc
none_kept false y e = refl

-- ---- limits that stay passed
-- the limit of hidden variables, by more of them
pub within_before : (n h k : ℕ) → h ≤ k → is_within n h ≡ false → is_within n k ≡ false
within_before n h k l e = lt-leb k (n + 64) (omega (arith, leb-false h (n + 64) e))

-- and the other way
within_later : (n h k : ℕ) → h ≤ k → is_within n k ≡ true → is_within n h ≡ true
within_later n h k l e = le-leb h (n + 64) (omega (arith, leb-true k (n + 64) e))

-- both limits, where what is joined has no fewer leaves
pub still_passed : (n h k : ℕ) (b c : Bool) → h ≤ k → (b ≡ false → c ≡ false) → is_within n h && b ≡ false → is_within n k && c ≡ false
still_passed n h k b c l f e =
    ⊎_elim (λ w. and_left (is_within n k) c (within_before n h k l w)) (λ s. and_right (is_within n k) c (f s))
    (and_cases (is_within n h) b e)

small_less : (m k : ℕ) → m ≤ k → nat_le m 64 ≡ false → nat_le k 64 ≡ false
small_less m k l e = lt-leb k 64 (omega (arith, leb-false m 64 e))

all_left : (xs ys : List Deed) → have_small xs ≡ false → have_small (xs ++ ys) ≡ false
all_left xs ys e = list_all-append has_small xs ys ∙ and_left (have_small xs) (have_small ys) e

all_right : (xs ys : List Deed) → have_small ys ≡ false → have_small (xs ++ ys) ≡ false
all_right xs ys e = list_all-append has_small xs ys ∙ and_right (have_small xs) (have_small ys) e

-- deeds in a row are as small as both lists
pub all_both : (xs ys : List Deed) → have_small xs ≡ true → have_small ys ≡ true → have_small (xs ++ ys) ≡ true
all_both xs ys e f = list_all-append has_small xs ys ∙ and_from (have_small xs) (have_small ys) e f

-- ---- deeds in a row
-- deeds that are not kept are none behind which others are
pub left_lost : (n h k : ℕ) (ds es : List Deed) → h ≤ k → None ≡ kept_deeds n h ds → None ≡ kept_deeds n k (ds ++ es)
left_lost n h k ds es l e = none_kept (is_within n k && have_small (ds ++ es)) (ds ++ es)
    (still_passed n h k (have_small ds) (have_small (ds ++ es)) l (all_left ds es) (kept_none (is_within n h && have_small ds) ds e))

-- nor are they any behind others
pub right_lost : (n k : ℕ) (ds es : List Deed) → None ≡ kept_deeds n k es → None ≡ kept_deeds n k (ds ++ es)
right_lost n k ds es e = none_kept (is_within n k && have_small (ds ++ es)) (ds ++ es)
    (still_passed n k k (have_small es) (have_small (ds ++ es)) (omega arith) (all_right ds es)
    (kept_none (is_within n k && have_small es) es e))

-- deeds that are kept, and others behind them
pub both_kept : (n h k : ℕ) (xs ys zs : List code.Deed) (ds es : List Deed) → zs ≡ xs ++ ys → Some (deeds_of xs) ≡ kept_deeds n h ds
    → Some (deeds_of ys) ≡ kept_deeds n k es → Some (deeds_of zs) ≡ kept_deeds n k (ds ++ es)
both_kept n h k xs ys zs ds es z e f =
    let p = kept_some (is_within n h && have_small ds) (deeds_of xs) ds e in
    let q = kept_some (is_within n k && have_small es) (deeds_of ys) es f in
    let s = and_parts (is_within n h) (have_small ds) p.0 in
    let t = and_parts (is_within n k) (have_small es) q.0 in
    some_kept (is_within n k && have_small (ds ++ es)) (deeds_of zs) (ds ++ es)
    (and_from (is_within n k) (have_small (ds ++ es)) t.0 (all_both ds es s.1 t.1))
    (ap deeds_of z ∙ deeds-append xs ys ∙ ap₂ ◌++◌ p.1 q.1)

-- a deed without a condition is kept while the other limit isn't passed
pub plain_kept : (n k : ℕ) (x : code.Deed) (d : Deed) → deed_of x ≡ d → has_small d ≡ true → is_within n k ≡ true
    → Some (deeds_of (x ∷ [])) ≡ kept_deeds n k (d ∷ [])
plain_kept n k x d e s w = some_kept (is_within n k && have_small (d ∷ [])) (deeds_of (x ∷ [])) (d ∷ [])
    (and_from (is_within n k) (have_small (d ∷ [])) w (and_from (has_small d) true s refl)) (ap (λ y. y ∷ []) e)

-- past that it is not kept
pub plain_lost : (n k : ℕ) (d : Deed) → is_within n k ≡ false → None ≡ kept_deeds n k (d ∷ [])
plain_lost n k d w = none_kept (is_within n k && have_small (d ∷ [])) (d ∷ []) (and_left (is_within n k) (have_small (d ∷ [])) w)

-- a deed with a condition is kept with it
pub tested_kept : (n k : ℕ) (c : Condition) (d : Deed) (x : Condition) (y : code.Deed) (f : Condition → Deed) → f c ≡ d
    → has_small d ≡ is_small c → deed_of y ≡ f x → Some x ≡ kept_condition n k c → Some (deeds_of (y ∷ [])) ≡ kept_deeds n k (d ∷ [])
tested_kept n k c d x y f e s g h =
    let p = kept_some (is_within n k && is_small c) x c h in
    let q = and_parts (is_within n k) (is_small c) p.0 in
    plain_kept n k y d (g ∙ ap f p.1 ∙ e) (s ∙ q.1) q.0

-- nor is one whose condition isn't kept
pub tested_lost : (n k : ℕ) (c : Condition) (d : Deed) → has_small d ≡ is_small c → None ≡ kept_condition n k c
    → None ≡ kept_deeds n k (d ∷ [])
tested_lost n k c d s h = none_kept (is_within n k && have_small (d ∷ [])) (d ∷ [])
    (still_passed n k k (is_small c) (have_small (d ∷ [])) (omega arith) (λ e. and_left (has_small d) true (s ∙ e))
    (kept_none (is_within n k && is_small c) c h))

-- ---- conditions
-- "not" of a condition has its leaves
pub inverse_kept : (n h : ℕ) (c x y : Condition) → y ≡ negation x → Some x ≡ kept_condition n h c
    → Some y ≡ kept_condition n h (negation c)
inverse_kept n h c x y e f =
    let p = kept_some (is_within n h && is_small c) x c f in
    some_kept (is_within n h && is_small c) y (negation c) p.0 (e ∙ ap negation p.1)

-- so where it isn't kept
pub inverse_lost : (n h : ℕ) (c : Condition) → None ≡ kept_condition n h c → None ≡ kept_condition n h (negation c)
inverse_lost n h c e = none_kept (is_within n h && is_small c) (negation c) (kept_none (is_within n h && is_small c) c e)

-- a condition of which one side is not kept isn't kept
lost_of : (n h k : ℕ) (c d : Condition) → h ≤ k → leaf_count c ≤ leaf_count d → None ≡ kept_condition n h c → None ≡ kept_condition n k d
lost_of n h k c d l m e = none_kept (is_within n k && is_small d) d
    (still_passed n h k (is_small c) (is_small d) l (small_less (leaf_count c) (leaf_count d) m)
    (kept_none (is_within n h && is_small c) c e))

-- where the first isn't kept
pub first_lost : (n h k : ℕ) (c d e : Condition) → h ≤ k → leaf_count e ≡ leaf_count c + leaf_count d → None ≡ kept_condition n h c
    → None ≡ kept_condition n k e
first_lost n h k c d e l m f = lost_of n h k c e l (omega (arith, m)) f

-- where the second isn't kept
pub second_lost : (n k : ℕ) (c d e : Condition) → leaf_count e ≡ leaf_count c + leaf_count d → None ≡ kept_condition n k d
    → None ≡ kept_condition n k e
second_lost n k c d e m f = lost_of n k k d e (omega arith) (omega (arith, m)) f

-- a condition of two sides that are kept is made of them
pub sides_kept : (n h k : ℕ) (c d x y : Condition) (f : Condition → Condition → Condition) → Some x ≡ kept_condition n h c
    → Some y ≡ kept_condition n k d → kept_condition n k (f x y) ≡ kept_condition n k (f c d)
sides_kept n h k c d x y f e g =
    let p = kept_some (is_within n h && is_small c) x c e in
    let q = kept_some (is_within n k && is_small d) y d g in ap₂ (λ a b. kept_condition n k (f a b)) p.1 q.1

-- ---- checks under a condition
under_more : (c : Condition) (d : Deed) → has_small d ≡ false → has_small (under c d) ≡ false
under_more c (sets var form line) e = e
under_more c (havocs var line) e = e
under_more c (wheres x line) e = e
under_more c (checks about x line) e = small_less (leaf_count x) (leaf_count c + leaf_count x) (omega arith) e

all_under_more : (c : Condition) (ds : List Deed) → have_small ds ≡ false → have_small (all_under c ds) ≡ false
all_under_more c [] e = e
all_under_more c (d ∷ ds) e =
    ⊎_elim (λ h. and_left (has_small (under c d)) (have_small (all_under c ds)) (under_more c d h))
    (λ t. and_right (has_small (under c d)) (have_small (all_under c ds)) (all_under_more c ds t))
    (and_cases (has_small d) (have_small ds) e)

under_large : (c : Condition) (d : Deed) → is_small c ≡ false → is_unchecked d ≡ false → has_small (under c d) ≡ false
under_large c (sets var form line) s e = absurd (true≢false e)
under_large c (havocs var line) s e = absurd (true≢false e)
under_large c (wheres x line) s e = absurd (true≢false e)
under_large c (checks about x line) s e = small_less (leaf_count c) (leaf_count c + leaf_count x) (omega arith) s

all_under_large : (c : Condition) (ds : List Deed) → is_small c ≡ false → are_unchecked ds ≡ false → have_small (all_under c ds) ≡ false
all_under_large c [] s e = e
all_under_large c (d ∷ ds) s e =
    ⊎_elim (λ h. and_left (has_small (under c d)) (have_small (all_under c ds)) (under_large c d s h))
    (λ t. and_right (has_small (under c d)) (have_small (all_under c ds)) (all_under_large c ds s t))
    (and_cases (is_unchecked d) (are_unchecked ds) e)

under_nothing : (c : Condition) (d : Deed) → is_unchecked d ≡ true → under c d ≡ d
under_nothing c (sets var form line) e = refl
under_nothing c (havocs var line) e = refl
under_nothing c (wheres x line) e = refl
under_nothing c (checks about x line) e = absurd (true≢false (sym e))

all_under_nothing : (c : Condition) (ds : List Deed) → are_unchecked ds ≡ true → all_under c ds ≡ ds
all_under_nothing c [] e = refl
all_under_nothing c (d ∷ ds) e =
    let p = and_parts (is_unchecked d) (are_unchecked ds) e in ap₂ ◌∷◌ (under_nothing c d p.0) (all_under_nothing c ds p.1)

-- what isn't kept isn't kept under a condition
pub under_lost : (n k : ℕ) (c : Condition) (ds : List Deed) → None ≡ kept_deeds n k ds → None ≡ kept_deeds n k (all_under c ds)
under_lost n k c ds e = none_kept (is_within n k && have_small (all_under c ds)) (all_under c ds)
    (still_passed n k k (have_small ds) (have_small (all_under c ds)) (omega arith) (all_under_more c ds)
    (kept_none (is_within n k && have_small ds) ds e))

-- where no hidden variable is too many, a condition that isn't kept has too many leaves
large_of : (n h k : ℕ) (c : Condition) → h ≤ k → is_within n k ≡ true → None ≡ kept_condition n h c → is_small c ≡ false
large_of n h k c l w e =
    ⊎_elim (λ x. absurd (true≢false (sym (within_later n h k l w) ∙ x))) (λ s. s)
    (and_cases (is_within n h) (is_small c) (kept_none (is_within n h && is_small c) c e))

-- under a condition that isn't kept no check is
pub checks_lost : (n h k : ℕ) (c : Condition) (xs ds : List Deed) → h ≤ k → None ≡ kept_condition n h c → Some xs ≡ kept_deeds n k ds
    → are_unchecked xs ≡ false → None ≡ kept_deeds n k (all_under c ds)
checks_lost n h k c xs ds l e f u =
    let p = kept_some (is_within n k && have_small ds) xs ds f in
    let w = (and_parts (is_within n k) (have_small ds) p.0).0 in
    none_kept (is_within n k && have_small (all_under c ds)) (all_under c ds)
    (and_right (is_within n k) (have_small (all_under c ds))
    (all_under_large c ds (large_of n h k c l w e) (ap are_unchecked (sym p.1) ∙ u)))

-- deeds without checks stay as they are
pub unchecked_kept : (n k : ℕ) (c : Condition) (xs ds : List Deed) → Some xs ≡ kept_deeds n k ds → are_unchecked xs ≡ true
    → Some xs ≡ kept_deeds n k (all_under c ds)
unchecked_kept n k c xs ds f u =
    let p = kept_some (is_within n k && have_small ds) xs ds f in
    f ∙ ap (kept_deeds n k) (sym (all_under_nothing c ds (ap are_unchecked (sym p.1) ∙ u)))

-- checks under a condition that is kept
pub checks_kept : (n h k : ℕ) (c x : Condition) (xs ds : List Deed) → Some x ≡ kept_condition n h c → Some xs ≡ kept_deeds n k ds
    → kept (have_small (all_under x xs)) (all_under x xs) ≡ kept_deeds n k (all_under c ds)
checks_kept n h k c x xs ds e f =
    let p = kept_some (is_within n h && is_small c) x c e in
    let q = kept_some (is_within n k && have_small ds) xs ds f in
    let w = (and_parts (is_within n k) (have_small ds) q.0).0 in
    ap₂ (λ a b. kept (have_small (all_under a b)) (all_under a b)) p.1 q.1
    ∙ ap (λ (b : Bool). kept (b && have_small (all_under c ds)) (all_under c ds)) (sym w)
