-- A certificate that is read can be written again.
use Rattle.std.proofs.Common.{◌≡◌, ◌⊎◌, inl, inr, ⊎_elim, ◌*◌, ◌%◌, ◌<◌, ◌&&◌, ◌||◌, ◌==◌, ℕ, suc, Bool, true, false, List, [], ◌∷◌, length}
use Rattle.std.proofs.Common.{map, Option, Some, None, refl, sym, ap, ap₂, ◌∙◌, arith, codes, Result, Ok, Err, IfOk, MatchResult, subst}
use Rattle.std.proofs.Common.{length-append}
use Rattle.std.specs.Prelude.{nat_lt, is_some, if◌then◌else◌, option_map, option_and_then}
use Rattle.std.specs.List.{list_all}
use Rattle.std.proofs.lemmas.Bool.{ltb-true}
use Rattle.std.proofs.Math.Nat.{mul-mod_left}
use Rattle.serde_json.specs.Data.{Data, Items, item, no_items}
use Rattle.serde_json.specs.Events.{items_len}
use Rattle.serde_json.specs.Find.{as_array, at, get}
use Rattle.base_fractions.specs.Extended.{extended}
use Rattle.base_fractions.specs.declared.ext.Ext.{Ext}
use Rattle.cert_written.specs.Shaped.{are_whole, has_item, has_some}
use Rattle.cert_written.specs.declared.trace.Trace.{Trace}
use Rattle.cert_written.specs.declared.cert.Cert.{Cert}
use Rattle.cert_written.specs.declared.entries.Entries.{Entries}
use Rattle.cert_written.specs.declared.step.Step.{Step}
use Rattle.cert_written.specs.declared.step.Step.TheVariants.{Plain, Jump, Ray}
use Rattle.cert_written.specs.declared.upper.Upper.{Upper}
use Rattle.cert_text.specs.declared.fault.Field.{Field}
use Rattle.cert_text.specs.declared.fault.Field.TheVariants.{Rows, Bounds, Steps}
use Rattle.cert_text.specs.declared.fault.FormFault.{FormFault}
use Rattle.cert_text.specs.declared.fault.FormFault.TheVariants.{Expanded, Shape}
use Rattle.cert_text.specs.declared.setting.Setting.{Setting}
use Rattle.cert_text.specs.Lists.{all_items, is_list, items_in, items_pass, list_in}
use Rattle.cert_text.specs.Numbers.{ext_in, is_text}
use Rattle.cert_text.specs.Keys.{count_items, index_in, is_index, is_kind, is_unknown, item_count, member_count, numbered, passes}
use Rattle.cert_text.specs.Keys.{passes_at, unknown_from}
use Rattle.cert_text.specs.Pairs.{are_entries}
use Rattle.cert_text.specs.Traces.{is_trace_by}
use Rattle.cert_text.specs.Naming.{named_traces, values_of}
use Rattle.cert_text.specs.StepItems.{has_start, is_jump_item, is_plain_item, is_ray_item, jump_item_in, plain_item_in, ray_item_in}
use Rattle.cert_text.specs.StepForms.{has_items, is_filled, is_step, items_at, step_in}
use Rattle.cert_text.specs.BoundLines.{is_line, joined, line_in}
use Rattle.cert_text.specs.Certificates.{IsWritable, and_then, bounds_in, cert_in, fields_in, format_in, is_over, is_sparse_form, list_from}
use Rattle.cert_text.specs.Certificates.{or_number, rest_in, row_in, step_setting}
use Rattle.cert_text.specs.Certificates.{rows_in, steps_in, top_in, traces_in, uppers_in}
use Rattle.cert_text.proofs.bounds.LinesOf.{length_map}
use Rattle.cert_text.proofs.rows.RowNumbers.{row_read}

and_both : (a b : Bool) → (a && b) ≡ true → (a ≡ true) × (b ≡ true)
and_both true b e = (refl, e)
and_both false b e = absurd cc

-- ---- what was read before

then_from : {A B : Type 0} (r : Result A FormFault) (next : A → Result B FormFault) (y : B) → and_then r next ≡ Ok y
    → (x : A) × (r ≡ Ok x) × (next x ≡ Ok y)
then_from (Ok x) next y e = (x, refl, e)
then_from (Err f) next y e = absurd cc

pub record IsRead {A : Type 0} (test : Data → Bool) (read : Data → Option A) (xs : List A) : Type 0 where
  -- the value that was read
  pub value : Data
  -- its elements pass the test
  pub passes : is_list test value ≡ true
  -- they are read as these
  pub reads : list_in read value ≡ Some xs

number_from : {A : Type 0} (field : Field) (o : Option (List A)) (xs : List A) → or_number field o ≡ Ok xs → o ≡ Some xs
number_from field None xs e = absurd cc
number_from field (Some ys) xs e = cc

field_from : {A : Type 0} (field : Field) (test : Data → Bool) (read : Data → Option A) (o : Option Data) (xs : List A)
    → list_from field test read o ≡ Ok xs → IsRead test read xs
field_from field test read None xs e = absurd cc
field_from field test read (Some d) xs e = by (is_list test d) refl e
  where
    by : (b : Bool) → is_list test d ≡ b → (if b then or_number field (list_in read d) else Err (Shape field)) ≡ Ok xs → IsRead test read xs
    by true p e = record { value = d; passes = p; reads = number_from field (list_in read d) xs e }
    by false p e = absurd cc

-- ---- what holds of each element

module _ {A : Type 0} (test : Data → Bool) (read : Data → Option A) where
  module _ (holds : A → Bool) (one : (d : Data) (x : A) → test d ≡ true → read d ≡ Some x → holds x ≡ true) where
    both_hold : (o : Option A) (rest : Option (List A)) (xs : List A) → ((x : A) → o ≡ Some x → holds x ≡ true)
        → ((ys : List A) → rest ≡ Some ys → list_all holds ys ≡ true)
        → option_and_then (λ x. option_map (λ ys. x ∷ ys) rest) o ≡ Some xs → list_all holds xs ≡ true
    both_hold None rest xs f g e = absurd cc
    both_hold (Some x) None xs f g e = absurd cc
    both_hold (Some x) (Some ys) xs f g e = subst (λ (zs : List A). list_all holds zs ≡ true) (let k : x ∷ ys ≡ xs = cc in k)
        (ap₂ (λ a b. a && b) (f x refl) (g ys refl))

    items_hold : (ds : Items) (xs : List A) → all_items test ds ≡ true → items_in read ds ≡ Some xs → list_all holds xs ≡ true
    items_hold no_items xs p e = subst (λ (zs : List A). list_all holds zs ≡ true) (let k : [] ≡ xs = cc in k) refl
    items_hold (item d ds) xs p e = let k = and_both (test d) (all_items test ds) p in
        both_hold (read d) (items_in read ds) xs (λ x f. one d x k.0 f) (λ ys f. items_hold ds ys k.1 f) e

    some_hold : (o : Option Items) (xs : List A) → items_pass test o ≡ true → option_and_then (items_in read) o ≡ Some xs
        → list_all holds xs ≡ true
    some_hold None xs p e = absurd cc
    some_hold (Some ds) xs p e = items_hold ds xs p e

    each_holds : (xs : List A) → IsRead test read xs → list_all holds xs ≡ true
    each_holds xs h = some_hold (as_array h.value) xs h.passes h.reads

module _ {A : Type 0} (read : Data → Option A) where
  both_long : (o : Option A) (rest : Option (List A)) (n : ℕ) (xs : List A) → ((ys : List A) → rest ≡ Some ys → length ys ≡ n)
      → option_and_then (λ x. option_map (λ ys. x ∷ ys) rest) o ≡ Some xs → length xs ≡ suc n
  both_long None rest n xs g e = absurd cc
  both_long (Some x) None n xs g e = absurd cc
  both_long (Some x) (Some ys) n xs g e = ap length (let k : xs ≡ x ∷ ys = cc in k) ∙ ap suc (g ys refl)

  items_long : (ds : Items) (xs : List A) → items_in read ds ≡ Some xs → length xs ≡ items_len ds
  items_long no_items xs e = ap length (let k : xs ≡ [] = cc in k)
  items_long (item d ds) xs e = both_long (read d) (items_in read ds) (items_len ds) xs (λ ys f. items_long ds ys f) e

  some_long : (o : Option Items) (xs : List A) → option_and_then (items_in read) o ≡ Some xs → length xs ≡ count_items o
  some_long None xs e = absurd cc
  some_long (Some ds) xs e = items_long ds xs e

  -- as many elements as values
  list_long : (d : Data) (xs : List A) → list_in read d ≡ Some xs → length xs ≡ item_count d
  list_long d xs e = some_long (as_array d) xs e

-- ---- bounds

eqb_same : (m n : ℕ) → (m == n) ≡ true → m ≡ n
eqb_same m n e = grind (arith, e)

same_eqb : (m n : ℕ) → m ≡ n → (m == n) ≡ true
same_eqb m n e = grind (arith, e)

line_long : (rows : ℕ) (d : Data) (line : List Ext) → is_line rows d ≡ true → line_in d ≡ Some line → (length line == rows) ≡ true
line_long rows d line p e = same_eqb (length line) rows (list_long ext_in d line e
    ∙ eqb_same (item_count d) rows (and_both (is_list is_text d) (item_count d == rows) p).1)

joined_long : {A : Type 0} (rows : ℕ) (lines : List (List A)) → list_all (λ (line : List A). length line == rows) lines ≡ true
    → length (joined lines) ≡ length lines * rows
joined_long rows [] e = omega arith
joined_long rows (line ∷ lines) e =
    let k = and_both (length line == rows) (list_all (λ l. length l == rows) lines) e in
    omega (arith, length-append line (joined lines), eqb_same (length line) rows k.0, joined_long rows lines k.1)

-- ---- steps

passes_from : (test : Data → Bool) (o : Option Data) → passes test o ≡ true → (d : Data) × (o ≡ Some d) × (test d ≡ true)
passes_from test None e = absurd cc
passes_from test (Some d) e = (d, refl, e)

or_cases : (a b : Bool) → (a || b) ≡ true → (a ≡ true) ⊎ (b ≡ true)
or_cases true b e = inl refl
or_cases false b e = inr e

-- the member `items` has this many values
abbrev some_items : Data → Type 0
some_items d = (l : Data) × (get (codes "items") d ≡ Some l) × (0 < item_count l)

filled_from : (kind : List ℕ) (test : Data → Bool) (d : Data) → has_items kind test d ≡ true → some_items d
filled_from kind test d e =
    let k = passes_from (is_filled test) (get (codes "items") d) (and_both (is_kind kind d) _ e).1 in
    (k.0, k.1, ltb-true 0 (item_count k.0) (and_both (nat_lt 0 (item_count k.0)) (is_list test k.0) k.2).0)

-- a step has one of three kinds of items
step_cases : (s : Setting) (d : Data) (P : Type 0) → (has_items (codes "plain") (is_plain_item s) d ≡ true → P)
    → (has_items (codes "jump") (is_jump_item s) d ≡ true → P) → (has_items (codes "ray") (is_ray_item s) d ≡ true → P)
    → is_step s d ≡ true → P
step_cases s d P f g h e =
    let a = has_items (codes "plain") (is_plain_item s) d in
    let b = has_items (codes "jump") (is_jump_item s) d in
    let c = has_items (codes "ray") (is_ray_item s) d in
    ⊎_elim (λ k. ⊎_elim f g (or_cases a b k)) h (or_cases (a || b) c (and_both (member_count d == 2) (a || b || c) e).1)

step_filled : (s : Setting) (d : Data) → is_step s d ≡ true → some_items d
step_filled s d e =
    step_cases s d (some_items d) (filled_from (codes "plain") (is_plain_item s) d) (filled_from (codes "jump") (is_jump_item s) d)
    (filled_from (codes "ray") (is_ray_item s) d) e

has_some_long : {A : Type 0} (xs : List A) → 0 < length xs → has_some xs ≡ true
has_some_long [] h = absurd (omega (arith, h))
has_some_long (x ∷ xs) h = refl

items_some : {A : Type 0} (read : Data → Option A) (d : Data) (xs : List A) → some_items d → items_at read d ≡ Some xs → has_some xs ≡ true
items_some read d xs s e =
    has_some_long xs (subst (λ n. 0 < n) (sym (list_long read s.0 xs (ap (λ o. option_and_then (list_in read) o) (sym s.1) ∙ e))) s.2)

map_from : {A B : Type 0} (f : A → B) (o : Option A) (y : B) → option_map f o ≡ Some y → (x : A) × (o ≡ Some x) × (f x ≡ y)
map_from f None y e = absurd cc
map_from f (Some x) y e = (x, refl, cc)

step_has_item : (s : Setting) (d : Data) (step : Step) → is_step s d ≡ true → step_in s d ≡ Some step → has_item step ≡ true
step_has_item s d step p e = by (is_kind (codes "plain") d) (is_kind (codes "jump") d) (is_kind (codes "ray") d) e
  where
    by : (a b c : Bool) → (if a then option_map (λ items. Plain items) (items_at (plain_item_in s) d)
        else (if b then option_map (λ items. Jump items) (items_at (jump_item_in s) d)
        else (if c then option_map (λ items. Ray items) (items_at (ray_item_in s) d) else None))) ≡ Some step → has_item step ≡ true
    by true b c e = let k = map_from (λ items. Plain items) _ step e in
        subst (λ (t : Step). has_item t ≡ true) k.2 (items_some (plain_item_in s) d k.0 (step_filled s d p) k.1)
    by false true c e = let k = map_from (λ items. Jump items) _ step e in
        subst (λ (t : Step). has_item t ≡ true) k.2 (items_some (jump_item_in s) d k.0 (step_filled s d p) k.1)
    by false false true e = let k = map_from (λ items. Ray items) _ step e in
        subst (λ (t : Step). has_item t ≡ true) k.2 (items_some (ray_item_in s) d k.0 (step_filled s d p) k.1)
    by false false false e = absurd cc

-- ---- without rows there is no unknown, so no item and no step

no_number : (p r : ℕ) → numbered 0 p r ≡ None
no_number p r = grind arith

no_unknown_from : (p r : Option ℕ) → unknown_from 0 p r ≡ None
no_unknown_from None r = refl
no_unknown_from (Some p) None = refl
no_unknown_from (Some p) (Some r) = no_number p r

no_unknown : (d : Data) → is_unknown 0 d ≡ false
no_unknown d = by (item_count d == 2)
  where
    by : (b : Bool) → is_some (if b then unknown_from 0 (option_and_then index_in (at 0 d)) (option_and_then index_in (at 1 d)) else None)
        ≡ false
    by true = ap is_some (no_unknown_from (option_and_then index_in (at 0 d)) (option_and_then index_in (at 1 d)))
    by false = refl

-- however traces are found
module _ (traces : Option (List Trace)) where
  abbrev none : Setting
  none = step_setting 0 traces

  no_start : (d : Data) → has_start none d ≡ true → ⊥
  no_start d e =
      let a = passes_at is_index (codes "edge") d in
      let b = passes_at (is_trace_by (is_some traces) traces) (codes "low") d in
      let c = passes_at (is_unknown 0) (codes "unknown") d in
      let k = passes_from (is_unknown 0) (get (codes "unknown") d) (and_both (a && b) c e).1 in
      false_not_true (sym (no_unknown k.0) ∙ k.2)
    where
      false_not_true : false ≡ true → ⊥
      false_not_true f = cc

  -- a shape that has a count and the start of an item
  start_of : (n : Bool) (d : Data) → (n && has_start none d) ≡ true → ⊥
  start_of n d e = no_start d (and_both n (has_start none d) e).1

  no_plain : (d : Data) → is_plain_item none d ≡ true → ⊥
  no_plain d e = start_of (member_count d == 4) d (and_both (member_count d == 4 && has_start none d) (passes_at is_text (codes "to") d)
      e).0

  no_jump : (d : Data) → is_jump_item none d ≡ true → ⊥
  no_jump d e =
      let start = member_count d == 5 && has_start none d in
      let high = passes_at (is_trace_by (is_some traces) traces) (codes "high") d in
      start_of (member_count d == 5) d (and_both start high (and_both (start && high) (passes_at is_text (codes "to") d) e).0).0

  no_ray : (d : Data) → is_ray_item none d ≡ true → ⊥
  no_ray d e =
      let start = member_count d == 5 && has_start none d in
      let direction = passes_at (is_trace_by (is_some traces) traces) (codes "direction") d in
      start_of (member_count d == 5) d (and_both start direction (and_both (start && direction) (passes_at is_text (codes "rate") d) e).0).0

first_passes : (test : Data → Bool) (o : Option Items) → items_pass test o ≡ true → 0 < count_items o → (d : Data) × (test d ≡ true)
first_passes test None p h = absurd cc
first_passes test (Some no_items) p h = absurd (omega (arith, h))
first_passes test (Some (item d ds)) p h = (d, (and_both (test d) (all_items test ds) p).0)

no_items_without : (kind : List ℕ) (test : Data → Bool) (d : Data) → ((x : Data) → test x ≡ true → ⊥) → has_items kind test d ≡ true → ⊥
no_items_without kind test d none e =
    let k = passes_from (is_filled test) (get (codes "items") d) (and_both (is_kind kind d) _ e).1 in
    let f = and_both (nat_lt 0 (item_count k.0)) (is_list test k.0) k.2 in
    let x = first_passes test (as_array k.0) f.1 (ltb-true 0 (item_count k.0) f.0) in
    none x.0 x.1

no_step : (traces : Option (List Trace)) (d : Data) (step : Step) → is_step (step_setting 0 traces) d ≡ true
    → step_in (step_setting 0 traces) d ≡ Some step → false ≡ true
no_step traces d step e f =
    let s = none traces in
    step_cases s d (false ≡ true) (λ p. absurd (no_items_without (codes "plain") (is_plain_item s) d (no_plain traces) p))
    (λ p. absurd (no_items_without (codes "jump") (is_jump_item s) d (no_jump traces) p))
    (λ p. absurd (no_items_without (codes "ray") (is_ray_item s) d (no_ray traces) p)) e

-- ---- the whole

none_left : {A : Type 0} (xs : List A) → list_all (λ _. false) xs ≡ true → xs ≡ []
none_left [] e = refl
none_left (x ∷ xs) e = absurd cc

nothing_long : {A : Type 0} (xs : List A) → length xs ≡ 0 → xs ≡ []
nothing_long [] e = refl
nothing_long (x ∷ xs) e = absurd (omega (arith, e))

parts_writable : (sparse : Bool) (traces : Option (List Trace)) (rows : List Entries) (lines : List (List Ext)) (steps : List Step)
    (uppers : List Upper)
    → IsRead (are_entries sparse) (row_in sparse) rows → IsRead (is_line (length rows)) line_in lines
    → IsRead (is_step (step_setting (length rows) traces)) (step_in (step_setting (length rows) traces)) steps
    → IsWritable (record { rows = rows; bounds = map extended (joined lines); steps = steps; uppers = uppers })
parts_writable sparse traces [] lines steps uppers r b s =
    let long = joined_long 0 lines (each_holds (is_line 0) line_in (λ (line : List Ext). length line == 0) (line_long 0) lines b) in
    inr record {
      rows = refl;
      bounds = nothing_long (map extended (joined lines)) (omega (arith, length_map extended (joined lines), long));
      steps = none_left steps (each_holds (is_step (step_setting 0 traces)) (step_in (step_setting 0 traces)) (λ _. false) (no_step
          traces) steps s);
    }
parts_writable sparse traces (row ∷ rest) lines steps uppers r b s =
    let rows : List Entries = row ∷ rest in
    let n = length rows in
    let long = joined_long n lines (each_holds (is_line n) line_in (λ (line : List Ext). length line == n) (line_long n) lines b) in
    inl record {
      row = omega arith;
      numbers = each_holds (are_entries sparse) (row_in sparse) are_whole (λ d x _ e. row_read sparse d x e) rows r;
      points = ap (λ m. m % n) (length_map extended (joined lines) ∙ long) ∙ mul-mod_left (length lines) n;
      items = each_holds (is_step (step_setting n traces)) (step_in (step_setting n traces)) has_item (step_has_item (step_setting n
          traces)) steps s;
    }

if_ok : {A : Type 0} (b : Bool) (x y : A) → (if b then Err Expanded else Ok x) ≡ Ok y → x ≡ y
if_ok true x y e = absurd cc
if_ok false x y e = cc

-- the steps that stand in the rest
rest_steps : (sparse : Bool) (s : Setting) (d : Data) (rest : List Step × List Upper) → rest_in sparse s d ≡ Ok rest
    → steps_in s d ≡ Ok rest.0
rest_steps sparse s d rest e =
    let k = then_from (steps_in s d) _ rest e in
    let u = then_from (uppers_in sparse d) _ rest k.2 in
    let is = if_ok (is_over s.traces (values_of (named_traces k.0))) (k.0, u.0) rest u.2 in
    k.1 ∙ ap (λ (r : List Step × List Upper). let o : Result (List Step) FormFault = Ok r.0 in o) is

fields_writable : (sparse : Bool) (d : Data) (c : Cert) → fields_in sparse d ≡ Ok c → IsWritable c
fields_writable sparse d c e =
    let r = then_from (rows_in sparse d) _ c e in
    let b = then_from (bounds_in (length r.0) d) _ c r.2 in
    let l = then_from (traces_in sparse d) _ c b.2 in
    let s = then_from (rest_in sparse (step_setting (length r.0) l.0) d) _ c l.2 in
    let made : (record { rows = r.0; bounds = map extended (joined b.0); steps = s.0.0; uppers = s.0.1 }) ≡ c = cc in
    subst IsWritable made (parts_writable sparse l.0 r.0 b.0 s.0.0 s.0.1 (field_from Rows (are_entries sparse) (row_in sparse)
    (get (codes "rows") d) r.0 r.1)
    (field_from Bounds (is_line (length r.0)) line_in (get (codes "bounds") d) b.0 b.1)
    (field_from Steps (is_step (step_setting (length r.0) l.0)) (step_in (step_setting (length r.0) l.0)) (get (codes "steps") d) s.0.0
    (rest_steps sparse (step_setting (length r.0) l.0) d s.0 s.1)))

read_writable : (d : Data) (c : Cert) → cert_in d ≡ Ok c → IsWritable c
read_writable d c e =
    let t = then_from (top_in d) _ c e in
    let f = then_from (format_in d) _ c t.2 in
    fields_writable (is_sparse_form d) d c f.2

-- a certificate that was read can be written
pub answer_writable : (d : Data) (r : Result Cert FormFault) (Q : FormFault → Type 0) → MatchResult r (λ c. cert_in d ≡ Ok c) Q
    → IfOk r IsWritable
answer_writable d (Ok c) Q e = read_writable d c e
answer_writable d (Err f) Q e = tt
