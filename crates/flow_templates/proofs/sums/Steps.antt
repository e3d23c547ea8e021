-- One more term.
use Rattle.std.proofs.Common.{◌≡◌, ◌≤◌, ◌<◌, ◌+◌, ◌+ℤ◌, ℕ, ℤ, pos, Bool, true, false, cond, List, length, take, get_or, Some, unwrap_or}
use Rattle.std.proofs.Common.{Bor, refl, ap, sym}
use Rattle.std.proofs.Common.{◌∙◌, ⊎_elim, arith, IsTrue, w64}
use Rattle.std.specs.BTreeMap.{BTreeMap, get_by, UpdatesBy}
use Rattle.std.specs.Ordering.{nat_cmp}
use Rattle.std.specs.Cmp.Lexicographic.{slice_cmp}
use Rattle.std.specs.Int.RustNames.{FitsSigned}
use Rattle.std.specs.Str.{bytes_eq}
use Rattle.std.proofs.lemmas.Bool.{cases_lt, leb-true, false≢true}
use Rattle.std.proofs.lemmas.Int.{fits_signed_from_abs}
use Rattle.std.proofs.lemmas.List.Sums.{fold_more}
use Rattle.std.proofs.lemmas.Map.Text.{btree_map_updates_str}
use Rattle.std.proofs.lemmas.Slice.Eq.{bytes_eq-Decides}
use Rattle.std.proofs.Math.IntN.{+ℤ_idr}
use Rattle.lang_tree.specs.Numbers.{is_number}
use Rattle.flow_templates.specs.Grammar.{Amount}
use Rattle.flow_templates.specs.Sums.{share, total, StaysWithin}
use Rattle.flow_templates.specs.Kept.{sum_at}

-- a coefficient in its range fits 64 bits
pub number_fits : (z : ℤ) → is_number z ≡ true → FitsSigned w64 z
number_fits z h = fits_signed_from_abs w64 z (omega (arith, leb-true _ _ h))

-- what is kept of a name where the new term is of that name or isn't
chosen : (m : BTreeMap (Bor (List ℕ)) ℤ) (bs name : List ℕ) (c sum : ℤ) (b : Bool) → bytes_eq bs name ≡ b → sum ≡ sum_at m bs +ℤ c
    → unwrap_or (cond b (Some sum) (get_by (λ k. slice_cmp nat_cmp name k.now) m)) (pos 0) ≡ sum_at m name +ℤ cond b c (pos 0)
chosen m bs name c sum true same s = s ∙ ap (λ q. sum_at m q +ℤ c) ((bytes_eq-Decides bs name).0 same)
chosen m bs name c sum false other s = sym (+ℤ_idr _)

-- where a term is added, the sum of each name grows by the term's share of it
pub term_added : (m n : BTreeMap (Bor (List ℕ)) ℤ) (bs : List ℕ) (c sum : ℤ)
    → UpdatesBy (λ (x y : Bor (List ℕ)). slice_cmp nat_cmp x.now y.now) (λ k. slice_cmp nat_cmp bs k.now) m n (Some sum)
    → sum ≡ sum_at m bs +ℤ c → (name : List ℕ) → sum_at n name ≡ sum_at m name +ℤ share name (c, bs)
term_added m n bs c sum u s name =
    ap (λ o. unwrap_or o (pos 0)) (btree_map_updates_str bs m n (Some sum) u name) ∙ chosen m bs name c sum (bytes_eq bs name) refl s

-- the coefficients stay within their range up to this number of terms
abbrev pub WithinUpTo : List Amount → ℕ → Type 0
WithinUpTo amounts i = (name : List ℕ) (k : ℕ) → k ≤ i → IsTrue (is_number (total name (take k amounts)))

-- the total of a name up to one more term grows by that term's share of it
pub total_more : (a : List Amount) (i : ℕ) (t : Amount) (name : List ℕ) → i < length a → get_or a i t ≡ t
    → total name (take (i + 1) a) ≡ total name (take i a) +ℤ share name t
total_more a i t name h e =
    fold_more (λ sum x. sum +ℤ share name x) (pos 0) a i t h ∙ ap (λ x. total name (take i a) +ℤ share name x) e

within_share : (before c : ℤ) (own : ℤ) (bs name : List ℕ) (b : Bool) → bytes_eq bs name ≡ b → (bs ≡ name → before ≡ own)
    → is_number before ≡ true → is_number (own +ℤ c) ≡ true → is_number (before +ℤ cond b c (pos 0)) ≡ true
within_share before c own bs name true e same w f = rw (same ((bytes_eq-Decides bs name).0 e)) f
within_share before c own bs name false e same w f = rw (+ℤ_idr before) w

-- where the sum of one more term stays in its range, the coefficients stay within it up to that term
pub within_more : (a : List Amount) (i : ℕ) (t : Amount) → i < length a → get_or a i t ≡ t → WithinUpTo a i
    → is_number (total t.1 (take i a) +ℤ t.0) ≡ true → WithinUpTo a (i + 1)
within_more a i t h e w f = λ name k le.
    ⊎_elim
    (λ lt. w name k (omega arith))
    (λ ge.
    let at : k ≡ i + 1 = omega arith in
    rw (at, total_more a i t name h e)
    (within_share (total name (take i a)) t.0 (total t.1 (take i a)) t.1 name (bytes_eq t.1 name) refl
    (λ q. ap (λ n. total n (take i a)) (sym q)) (w name i (omega arith)) f))
    (cases_lt k (i + 1))

-- where a term's sum leaves the range, the coefficients don't stay within it
pub leaves_range : (a : List Amount) (i : ℕ) (t : Amount) → i < length a → get_or a i t ≡ t
    → is_number (total t.1 (take i a) +ℤ t.0) ≡ false → StaysWithin a → ⊥
leaves_range a i t h e out w =
    let same : bytes_eq t.1 t.1 ≡ true = (bytes_eq-Decides t.1 t.1).1 refl in
    let own : share t.1 t ≡ t.0 = rw same refl in
    let at : total t.1 (take (i + 1) a) ≡ total t.1 (take i a) +ℤ t.0 =
    total_more a i t t.1 h e ∙ ap (λ z. total t.1 (take i a) +ℤ z) own in
    false≢true (sym out ∙ (ap is_number (sym at) ∙ w t.1 (i + 1) (omega arith)))
