-- What the rows of one listed unknown say: its word runs at base plus rise, and reaches its own number.
use Rattle.std.proofs.Common.{◌≡◌, ◌∙◌, ℕ, ◌≤◌, Bool, true, false, List, [], ◌∷◌, ◌++◌, length, refl, sym, ap, subst}
use Rattle.std.specs.Prelude.{ℤ, slice_get, Some}
use Rattle.std.proofs.lemmas.Option.{slice_get_within}
use Rattle.theory_validity.proofs.certificates.StepNumbers.{num-fin}
use Rattle.base_numbers.specs.Rational.{ℚ, zero_ℚ, one_ℚ, ◌+ℚ◌, ◌*ℚ◌, ◌-ℚ◌, neg_ℚ, ◌≤ℚ◌}
use Rattle.base_numbers.specs.Extended.{Ext, neg_inf, fin, pos_inf, ◌≤ᴱ◌, ◌<ᴱ◌}
use Rattle.base_numbers.specs.Vector.{dot, scale_vec, zeros}
use Rattle.base_numbers.proofs.rational.Laws.{+ℚ_idl}
use Rattle.base_numbers.proofs.vector.Vectors.{dot-scale, length-zeros, length-scale_vec}
use Rattle.base_numbers.proofs.tactics.Linarith.{lin_le, le, reads_all}
use Rattle.flow_systems.specs.States.{dotℚ}
use Rattle.flow_systems.specs.Equations.{Equations, Vector}
use Rattle.theory_validity.specs.Words.{Word, val, lin, width, guard_forms, start_form, end_form, start_of}
use Rattle.theory_validity.specs.Steps.{end_value}
use Rattle.theory_validity.specs.Certificates.{num}
use Rattle.theory_validity.proofs.words.WordLaws.{val-end_form}
use Rattle.theory_validity.proofs.words.Widths.{end_form_width, guard_forms_width}
use Rattle.lp_theory.specs.Free.{unsplit}
use Rattle.theory_transformers.specs.Limits.{product, shift, tabulate, AllUnder}
use Rattle.theory_transformers.specs.EdgeProblems.{source_limits, guard_limits, transformer}
use Rattle.theory_transformers.specs.JointProblems.{Listed, picked, own_row, columns_of, split_list, on_rise, rise_at, raise_by, raised}
use Rattle.theory_transformers.specs.JointProblems.{own_limit, block_limits, Supports, Rising, Follows}
use Rattle.theory_transformers.proofs.limits.LimitLaws.{under_first, under_second, under_both}
use Rattle.theory_transformers.proofs.limits.SourceLimits.{source_out, source_in, guards_out, guards_fall, guards_in}
use Rattle.theory_transformers.proofs.edge_problems.EdgePoints.{start_within, start_is}
use Rattle.theory_transformers.proofs.edge_problems.TransformerOf.{transformer_source}
use Rattle.theory_transformers.proofs.joint_problems.JointProducts.{product-zeros, length-on_rise, product-on_rise, product_of_row}

-- the word of an unknown whose split columns begin at an offset
abbrev pub word_at : Equations → List Listed → ℕ → Listed → (ℕ → ℚ) → Word
word_at system all offset u x = tabulate (columns_of system u) (unsplit (shift offset (shift (length all) x)))

-- ---- products
source_product : (system : Equations) (all : List Listed) (offset : ℕ) (u : Listed) (x : ℕ → ℚ) (r : ℕ) (row : List ℤ) →
    product (on_rise (neg_ℚ one_ℚ) all (picked system u).from r ++ (zeros offset ++ split_list (start_form system.variables row).coeffs)) x
    ≡ neg_ℚ one_ℚ *ℚ rise_at all x (picked system u).from r +ℚ dot (start_form system.variables row).coeffs (word_at system all offset u x)
unfolding columns_of
source_product system all offset u x r row =
    let a = on_rise (neg_ℚ one_ℚ) all (picked system u).from r in
    let v = (start_form system.variables row).coeffs in
    product_of_row a (length all) offset v x (width system.variables (picked system u).actions)
    (length-on_rise (neg_ℚ one_ℚ) all (picked system u).from r) (start_within system (picked system u) row)
    ∙ ap (λ s. s +ℚ dot v (word_at system all offset u x)) (product-on_rise (neg_ℚ one_ℚ) all (picked system u).from r x)

guard_product : (system : Equations) (all : List Listed) (offset : ℕ) (u : Listed) (x : ℕ → ℚ) (v : List ℚ)
    → length v ≤ width system.variables (picked system u).actions →
    product (zeros (length all) ++ (zeros offset ++ split_list v)) x ≡ dot v (word_at system all offset u x)
unfolding columns_of
guard_product system all offset u x v l =
    product_of_row (zeros (length all)) (length all) offset v x (width system.variables (picked system u).actions)
    (length-zeros (length all)) l
    ∙ ap (λ s. s +ℚ dot v (word_at system all offset u x)) (product-zeros (length all) x) ∙ +ℚ_idl (dot v (word_at system all offset u x))

own_product : (system : Equations) (b : Vector) (all : List Listed) (offset : ℕ) (u : Listed) (x : ℕ → ℚ)
    → product (own_limit system b all offset u).coeffs x
    ≡ one_ℚ *ℚ rise_at all x u.point u.row +ℚ neg_ℚ one_ℚ *ℚ dot (end_form system.variables (picked system u).actions
    (own_row system u)).coeffs (word_at system all offset u x)
unfolding own_limit columns_of
own_product system b all offset u x =
    let m = width system.variables (picked system u).actions in
    let f = end_form system.variables (picked system u).actions (own_row system u) in
    product_of_row (on_rise one_ℚ all u.point u.row) (length all) offset (scale_vec (neg_ℚ one_ℚ) f.coeffs) x m
    (length-on_rise one_ℚ all u.point u.row)
    (subst (λ k. k ≤ m) (sym (length-scale_vec (neg_ℚ one_ℚ) f.coeffs))
    (end_form_width system.variables (picked system u).actions (own_row system u)))
    ∙ ap (λ s. s +ℚ dot (scale_vec (neg_ℚ one_ℚ) f.coeffs) (word_at system all offset u x)) (product-on_rise one_ℚ all u.point u.row x)
    ∙ ap (λ s. one_ℚ *ℚ rise_at all x u.point u.row +ℚ s) (dot-scale (neg_ℚ one_ℚ) f.coeffs (word_at system all offset u x))

-- ---- numbers
source_over : (q d c : ℚ) → neg_ℚ one_ℚ *ℚ q +ℚ d ≤ℚ c → d ≤ℚ c +ℚ q
source_over q d c h = lin_le (q ∷ d ∷ c ∷ []) (le h ∷ []) (search reads_all depth 40) tt

source_back : (q d c : ℚ) → d ≤ℚ c +ℚ q → neg_ℚ one_ℚ *ℚ q +ℚ d ≤ℚ c
source_back q d c h = lin_le (q ∷ d ∷ c ∷ []) (le h ∷ []) (search reads_all depth 40) tt

rate_over : (q d : ℚ) → neg_ℚ one_ℚ *ℚ q +ℚ d ≤ℚ zero_ℚ → d ≤ℚ q
rate_over q d h = lin_le (q ∷ d ∷ []) (le h ∷ []) (search reads_all depth 40) tt

gain_over : (q d : ℚ) → one_ℚ *ℚ q +ℚ neg_ℚ one_ℚ *ℚ d ≤ℚ zero_ℚ → q ≤ℚ d
gain_over q d h = lin_le (q ∷ d ∷ []) (le h ∷ []) (search reads_all depth 40) tt

own_over : (q d c b : ℚ) → one_ℚ *ℚ q +ℚ neg_ℚ one_ℚ *ℚ d ≤ℚ c -ℚ b → b +ℚ q ≤ℚ d +ℚ c
own_over q d c b h = lin_le (q ∷ d ∷ c ∷ b ∷ []) (le h ∷ []) (search reads_all depth 40) tt

own_back : (q d c b : ℚ) → b +ℚ q ≤ℚ d +ℚ c → one_ℚ *ℚ q +ℚ neg_ℚ one_ℚ *ℚ d ≤ℚ c -ℚ b
own_back q d c b h = lin_le (q ∷ d ∷ c ∷ b ∷ []) (le h ∷ []) (search reads_all depth 40) tt

at_most_raised : (a : ℚ) (v : Ext) (q : ℚ) → neg_inf <ᴱ v → ((c : ℚ) → v ≡ fin c → a ≤ℚ c +ℚ q) → fin a ≤ᴱ raise_by v q
unfolding raise_by
at_most_raised a neg_inf q h i = h
at_most_raised a (fin c) q h i = i c refl
at_most_raised a pos_inf q h i = tt

raised_le : (a : ℚ) (v : Ext) (q c : ℚ) → fin a ≤ᴱ raise_by v q → v ≡ fin c → a ≤ℚ c +ℚ q
unfolding raise_by
raised_le a neg_inf q c h e = absurd h
raised_le a (fin d) q c h e = subst (λ s. a ≤ℚ s +ℚ q) (same d c e) h
  where
    same : (d c : ℚ) → fin d ≡ fin c → d ≡ c
    same d c e = cc
raised_le a pos_inf q c h e = cc

own_end : (system : Equations) (u : Listed) (w : Word) → end_value system (picked system u) (own_row system u) w
    ≡ dot (end_form system.variables (picked system u).actions (own_row system u)).coeffs w +ℚ
    (end_form system.variables (picked system u).actions (own_row system u)).constant
unfolding end_value val
own_end system u w = sym (val-end_form system.variables (picked system u).actions (own_row system u) w)

-- the list condition keeps the source from −∞
pub source_above : (system : Equations) (b : Vector) (u : Listed) → Rising system b u → (r : ℕ) (row : List ℤ)
    → slice_get system.template r ≡ Some row → neg_inf <ᴱ b (picked system u).from r
source_above system b u rising r row e =
    transformer_source system b (picked system u) (own_row system u) (over (transformer system b (picked system u) (own_row system u))
    rising.above) r (slice_get_within system.template r row e)
  where
    over : (v : Ext) → fin rising.bound <ᴱ v → neg_inf <ᴱ v
    over neg_inf h = h
    over (fin c) h = tt
    over pos_inf h = tt

-- ---- the rows of one unknown
-- those of its source, those of its guards, and its own one
block_parts : (rows : Bool) (system : Equations) (b : Vector) (all : List Listed) (offset : ℕ) (u : Listed) (x : ℕ → ℚ)
    → AllUnder rows (block_limits system b all offset u) x → let e = picked system u in
    AllUnder rows (source_limits (λ r v. on_rise (neg_ℚ one_ℚ) all e.from r ++ (zeros offset ++ split_list v)) system.variables (b e.from)
    system.template) x
    × AllUnder rows (guard_limits (λ v. zeros (length all) ++ (zeros offset ++ split_list v)) (guard_forms system.variables e.actions)) x
    × AllUnder rows (own_limit system b all offset u ∷ []) x
unfolding block_limits
block_parts rows system b all offset u x h =
    let e = picked system u in
    let ls = source_limits (λ r v. on_rise (neg_ℚ one_ℚ) all e.from r ++ (zeros offset ++ split_list v)) system.variables (b e.from)
    system.template in
    let gs = guard_limits (λ v. zeros (length all) ++ (zeros offset ++ split_list v)) (guard_forms system.variables e.actions) in
    let os = own_limit system b all offset u ∷ [] in
    let behind : AllUnder rows (gs ++ os) x = under_second rows ls (gs ++ os) x h in
    (under_first rows ls (gs ++ os) x h, under_first rows gs os x behind, under_second rows gs os x behind)

-- where its rows are met, an unknown's word supports base plus rise
pub block_out : (system : Equations) (b : Vector) (all : List Listed) (offset : ℕ) (u : Listed) (x : ℕ → ℚ) → Rising system b u →
    AllUnder true (block_limits system b all offset u) x → Supports system (raised all x b) u (word_at system all offset u x)
unfolding block_limits raised raise_by own_limit
block_out system b all offset u x rising h =
    let n = system.variables in
    let e = picked system u in
    let w = word_at system all offset u x in
    let f = end_form n e.actions (own_row system u) in
    let parts = block_parts true system b all offset u x h in
    record {
      runs = record {
        passes = record {
          all = guards_out (λ v. zeros (length all) ++ (zeros offset ++ split_list v)) (width n e.actions) (guard_forms n e.actions) x w
              (guard_forms_width n e.actions)
              (λ v l. guard_product system all offset u x v l) parts.1;
        };
        fits = λ r row g. at_most_raised (dotℚ row (start_of n w)) (b e.from r) (rise_at all x e.from r)
            (source_above system b u rising r row g)
            (λ c k. subst (λ s. s ≤ℚ c +ℚ rise_at all x e.from r) (start_is n row w)
            (source_over (rise_at all x e.from r) (dot (start_form n row).coeffs w) c
            (subst (λ s. s ≤ℚ c) (source_product system all offset u x r row)
            (source_out true (λ r v. on_rise (neg_ℚ one_ℚ) all e.from r ++ (zeros offset ++ split_list v)) n (b e.from) system.template x
            parts.0 r row c g k))));
      };
      reaches = subst (λ s. raise_by s (rise_at all x u.point u.row) ≤ᴱ fin (end_value system e (own_row system u) w)) (sym rising.finite)
          (subst (λ s. rising.bound +ℚ rise_at all x u.point u.row ≤ℚ s) (sym (own_end system u w))
          (own_over (rise_at all x u.point u.row) (dot f.coeffs w) f.constant rising.bound
          (subst (λ s. one_ℚ *ℚ rise_at all x u.point u.row +ℚ neg_ℚ one_ℚ *ℚ dot f.coeffs w ≤ℚ f.constant -ℚ s)
          (num-fin (b u.point u.row) rising.bound rising.finite)
          (subst (λ s. s ≤ℚ f.constant -ℚ num (b u.point u.row)) (own_product system b all offset u x) parts.2.0))));
    }

-- where an unknown's word supports base plus rise, its rows are met
pub block_in : (system : Equations) (b : Vector) (all : List Listed) (offset : ℕ) (u : Listed) (x : ℕ → ℚ) → Rising system b u →
    Supports system (raised all x b) u (word_at system all offset u x) → AllUnder true (block_limits system b all offset u) x
unfolding block_limits raised raise_by own_limit
block_in system b all offset u x rising s =
    let n = system.variables in
    let e = picked system u in
    let w = word_at system all offset u x in
    let ls = source_limits (λ r v. on_rise (neg_ℚ one_ℚ) all e.from r ++ (zeros offset ++ split_list v)) n (b e.from) system.template in
    let gs = guard_limits (λ v. zeros (length all) ++ (zeros offset ++ split_list v)) (guard_forms n e.actions) in
    let os = own_limit system b all offset u ∷ [] in
    let f = end_form n e.actions (own_row system u) in
    let reached = subst (λ k. raise_by k (rise_at all x u.point u.row) ≤ᴱ fin (end_value system e (own_row system u) w)) rising.finite
    s.reaches in
    under_both true ls (gs ++ os) x
    (source_in true (λ r v. on_rise (neg_ℚ one_ℚ) all e.from r ++ (zeros offset ++ split_list v)) n (b e.from) system.template x
    (λ r row c g k. subst (λ t. t ≤ℚ c) (sym (source_product system all offset u x r row))
    (source_back (rise_at all x e.from r) (dot (start_form n row).coeffs w) c
    (subst (λ t. t ≤ℚ c +ℚ rise_at all x e.from r) (sym (start_is n row w))
    (raised_le (dotℚ row (start_of n w)) (b e.from r) (rise_at all x e.from r) c (s.runs.fits r row g) k)))))
    (under_both true gs os x
    (guards_in (λ v. zeros (length all) ++ (zeros offset ++ split_list v)) (width n e.actions) (guard_forms n e.actions) x w
    (guard_forms_width n e.actions)
    (λ v l. guard_product system all offset u x v l) s.runs.passes.all) (
      subst (λ t. t ≤ℚ f.constant -ℚ num (b u.point u.row)) (sym (own_product system b all offset u x))
          (subst (λ t. one_ℚ *ℚ rise_at all x u.point u.row +ℚ neg_ℚ one_ℚ *ℚ dot f.coeffs w ≤ℚ f.constant -ℚ t)
          (sym (num-fin (b u.point u.row) rising.bound rising.finite))
          (own_back (rise_at all x u.point u.row) (dot f.coeffs w) f.constant rising.bound
          (subst (λ t. rising.bound +ℚ rise_at all x u.point u.row ≤ℚ t) (own_end system u w) reached))),
      tt,
    ))

-- what they say of a direction
pub block_falls : (system : Equations) (b : Vector) (all : List Listed) (offset : ℕ) (u : Listed) (d : ℕ → ℚ) →
    AllUnder false (block_limits system b all offset u) d → Follows system b all d u (word_at system all offset u d)
unfolding block_limits lin own_limit
block_falls system b all offset u d h =
    let n = system.variables in
    let e = picked system u in
    let w = word_at system all offset u d in
    let f = end_form n e.actions (own_row system u) in
    let parts = block_parts false system b all offset u d h in
    record {
      still = λ r row bound g k. rate_over (rise_at all d e.from r) (dot (start_form n row).coeffs w)
          (subst (λ s. s ≤ℚ zero_ℚ) (source_product system all offset u d r row)
          (source_out false (λ r v. on_rise (neg_ℚ one_ℚ) all e.from r ++ (zeros offset ++ split_list v)) n (b e.from) system.template d
          parts.0 r row bound g k));
      falls = record {
        all = guards_fall (λ v. zeros (length all) ++ (zeros offset ++ split_list v)) (width n e.actions) (guard_forms n e.actions) d w
            (guard_forms_width n e.actions)
            (λ v l. guard_product system all offset u d v l) parts.1;
      };
      gains = gain_over (rise_at all d u.point u.row) (dot f.coeffs w)
          (subst (λ s. s ≤ℚ zero_ℚ) (own_product system b all offset u d) parts.2.0);
    }
