-- A certificate that is written: no deeper than JSON's reader goes, without floats, and read back.
use Rattle.std.proofs.Common.{◌≡◌, ⊎_elim, ◌*◌, ◌/◌, ◌%◌, ◌<◌, ◌≤◌, ◌&&◌, ◌||◌, ℕ, Bool, true, false, List, [], ◌∷◌, length, map, Option}
use Rattle.std.proofs.Common.{Some, codes, refl, sym, ap, ap₂, ◌∙◌, arith, Vec, Global, Result, Ok, Err, IfOk, subst}
use Rattle.std.specs.Prelude.{IsUtf8, nat_lt, option_and_then, if◌then◌else◌}
use Rattle.std.specs.List.{list_all}
use Rattle.std.specs.declared.alloc.AllocError.{AllocError}
use Rattle.std.proofs.Math.Nat.{div-add-mod', zero-div}
use Rattle.std.proofs.lemmas.Bool.{lt-ltb}
use Rattle.serde_json.specs.Read.{read}
use Rattle.serde_json.specs.Data.{Data, Members, depth, items_depth, object, put}
use Rattle.serde_json.specs.Written.{compact_text, has_float, items_have_float}
use Rattle.base_numbers.specs.Extended.{Ext as Extended}
use Rattle.base_fractions.specs.Extended.{extended}
use Rattle.base_fractions.specs.declared.ext.Ext.{Ext}
use Rattle.cert_written.specs.declared.trace.Trace.{Trace}
use Rattle.cert_written.specs.Bare.{bare_cert, bare_entries, bare_step, bare_trace, bare_upper}
use Rattle.cert_written.specs.Entries.{without_zeros}
use Rattle.cert_written.specs.Shaped.{are_whole, has_item}
use Rattle.cert_written.specs.declared.cert.Cert.{Cert}
use Rattle.cert_written.specs.declared.entries.Entries.{Entries}
use Rattle.cert_written.specs.declared.step.Item.{Item}
use Rattle.cert_written.specs.declared.step.JumpItem.{JumpItem}
use Rattle.cert_written.specs.declared.step.RayItem.{RayItem}
use Rattle.cert_written.specs.declared.step.Step.{Step}
use Rattle.cert_written.specs.declared.step.Step.TheVariants.{Plain, Jump, Ray}
use Rattle.cert_written.specs.declared.upper.Upper.{Upper}
use Rattle.cert_written.specs.declared.upper.Upper.TheVariants.{Unreached, Empty, Bound}
use Rattle.cert_text.specs.declared.fault.Field.{Field}
use Rattle.cert_text.specs.declared.fault.Field.TheVariants.{Rows, Bounds, Traces, Steps, Uppers}
use Rattle.cert_text.specs.declared.fault.FormFault.{FormFault}
use Rattle.cert_text.specs.declared.fault.FormFault.TheVariants.{Expanded, Shape}
use Rattle.cert_text.specs.declared.limits.TheConstants.{MOST_VALUES}
use Rattle.cert_text.specs.declared.setting.Setting.{Setting}
use Rattle.cert_text.specs.Keys.{index_data}
use Rattle.cert_text.specs.Lists.{is_list, items_data, list_data, list_in}
use Rattle.cert_text.specs.Numbers.{bound_data}
use Rattle.cert_text.specs.Pairs.{are_entries, entries_data, pair_data}
use Rattle.cert_text.specs.Traces.{is_trace, listing, trace_data, trace_in}
use Rattle.cert_text.specs.Naming.{is_listed, named_traces, spelt_trace, step_traces, trace_text, values_of}
use Rattle.cert_text.specs.StepItems.{jump_item_data, plain_item_data, ray_item_data}
use Rattle.cert_text.specs.StepForms.{is_step, step_data, step_in}
use Rattle.cert_text.specs.Evidence.{is_upper, upper_data, upper_in}
use Rattle.cert_text.specs.BoundLines.{bounds_data, is_line, joined, line_data, line_in, lines_of}
use Rattle.cert_text.proofs.bounds.LinesOf.{length_map}
use Rattle.cert_text.proofs.naming.Listed.{steps_listed}
use Rattle.cert_text.proofs.reading.ReadRests.{then_ok}
use Rattle.cert_text.specs.Certificates.{IsBeyond, IsEmpty, IsWithin, IsWritable, SpellsCert, SpellsTooMany, and_then, bounds_in, cert_data}
use Rattle.cert_text.specs.Certificates.{cert_in, is_over, last_data, list_from, listed_traces, or_number, read_again, rest_in, row_in}
use Rattle.cert_text.specs.Certificates.{rows_in, steps_in, traces_in, uppers_in, written_values}

-- ---- depth and floats of lists

module _ {A : Type 0} (write : A → Data) where
  items_deep : (k : ℕ) (xs : List A) → ((x : A) → depth (write x) ≤ k) → items_depth (items_data write xs) ≤ k
  items_deep k [] h = omega arith
  items_deep k (x ∷ xs) h = omega (arith, h x, items_deep k xs h)

  items_whole : (xs : List A) → ((x : A) → has_float (write x) ≡ false) → items_have_float (items_data write xs) ≡ false
  items_whole [] h = refl
  items_whole (x ∷ xs) h = ap₂ (λ a b. a || b) (h x) (items_whole xs h)

entries_deep : (e : Entries) → depth (entries_data e) ≤ 2
entries_deep e = omega (arith, items_deep pair_data 1 (without_zeros e) (λ p. omega arith))

entries_whole : (e : Entries) → has_float (entries_data e) ≡ false
entries_whole e = items_whole pair_data (without_zeros e) (λ p. refl)

trace_deep : (t : Trace) → depth (trace_data t) ≤ 3
trace_deep t = omega (arith, entries_deep t.free, entries_deep t.start)

trace_whole : (t : Trace) → has_float (trace_data t) ≡ false
trace_whole t = ap₂ (λ a b. a || (b || false)) (entries_whole t.free) (entries_whole t.start)

plain_deep : (rows : ℕ) (names : List Trace) (i : Item) → depth (plain_item_data rows names i) ≤ 3
plain_deep rows names i = omega arith

jump_deep : (rows : ℕ) (names : List Trace) (i : JumpItem) → depth (jump_item_data rows names i) ≤ 3
jump_deep rows names i = omega arith

ray_deep : (rows : ℕ) (names : List Trace) (i : RayItem) → depth (ray_item_data rows names i) ≤ 3
ray_deep rows names i = omega arith

step_deep : (rows : ℕ) (names : List Trace) (s : Step) → depth (step_data rows names s) ≤ 5
step_deep rows names (Plain items) = omega (arith, items_deep (plain_item_data rows names) 3 items (plain_deep rows names))
step_deep rows names (Jump items) = omega (arith, items_deep (jump_item_data rows names) 3 items (jump_deep rows names))
step_deep rows names (Ray items) = omega (arith, items_deep (ray_item_data rows names) 3 items (ray_deep rows names))

step_whole : (rows : ℕ) (names : List Trace) (s : Step) → has_float (step_data rows names s) ≡ false
step_whole rows names (Plain items) = ap (λ a. a || false) (items_whole (plain_item_data rows names) items (λ i. refl))
step_whole rows names (Jump items) = ap (λ a. a || false) (items_whole (jump_item_data rows names) items (λ i. refl))
step_whole rows names (Ray items) = ap (λ a. a || false) (items_whole (ray_item_data rows names) items (λ i. refl))

upper_deep : (u : Upper) → depth (upper_data u) ≤ 3
upper_deep (Unreached row) = omega arith
upper_deep (Empty rows guards) = omega (arith, entries_deep rows, entries_deep guards)
upper_deep (Bound rows guards) = omega (arith, entries_deep rows, entries_deep guards)

upper_whole : (u : Upper) → has_float (upper_data u) ≡ false
upper_whole (Unreached row) = refl
upper_whole (Empty rows guards) = ap₂ (λ a b. a || (b || false)) (entries_whole guards) (entries_whole rows)
upper_whole (Bound rows guards) = ap₂ (λ a b. a || (b || false)) (entries_whole guards) (entries_whole rows)

line_deep : (line : List Extended) → depth (line_data line) ≤ 1
line_deep line = omega (arith, items_deep bound_data 0 line (λ e. omega arith))

line_whole : (line : List Extended) → has_float (line_data line) ≡ false
line_whole line = items_whole bound_data line (λ e. refl)

cert_deep : (c : Cert) → depth (cert_data c) ≤ 127
cert_deep c =
    let n = length c.rows in
    omega (
      arith,
      items_deep line_data 1 (lines_of n (length c.bounds / n) c.bounds) line_deep,
      items_deep entries_data 2 c.rows entries_deep,
      items_deep (step_data n (listed_traces c)) 5 c.steps (step_deep n (listed_traces c)),
      items_deep trace_data 3 (listed_traces c) trace_deep,
      items_deep upper_data 3 c.uppers upper_deep,
    )

-- the value of a certificate has no float
pub cert_whole : (c : Cert) → has_float (cert_data c) ≡ false
cert_whole c =
    let n = length c.rows in
    ap₂ (λ a b. a || b) (items_whole line_data (lines_of n (length c.bounds / n) c.bounds) line_whole)
    (ap₂ (λ a b. a || b) (items_whole entries_data c.rows entries_whole)
    (ap₂ (λ a b. a || b) (items_whole (step_data n (listed_traces c)) c.steps (step_whole n (listed_traces c)))
    (ap₂ (λ a b. a || (b || false)) (items_whole trace_data (listed_traces c) trace_whole) (items_whole upper_data c.uppers upper_whole))))

-- ---- the text of a trace

-- where a trace is read back from its value, the text that was written for it spells it
pub trace_spelt : (r : Result (Vec ℕ Global) AllocError) (d : Data) (t : Trace) → d ≡ trace_data t
    → trace_in true (trace_data t) ≡ Some (bare_trace t)
    → IfOk r (λ b. depth d ≤ 127 → read b.items ≡ Some d)
    → IfOk r (λ b. b.items ≡ trace_text t) → IfOk r (λ _. spelt_trace (trace_text t) ≡ Some (bare_trace t))
unfolding spelt_trace
trace_spelt (Err e) d t is back reads text = tt
trace_spelt (Ok b) d t is back reads text =
    ap (λ x. option_and_then (trace_in true) (read x)) (sym text) ∙ ap (λ o. option_and_then (trace_in true) o)
    (reads (subst (λ x. depth x ≤ 127) (sym is) (omega (arith, trace_deep t)))) ∙ ap (trace_in true) is ∙ back

-- the text that was written for a trace's value is the trace's text
pub trace_written : (r : Result (Vec ℕ Global) AllocError) (d : Data) (t : Trace) → d ≡ trace_data t
    → IfOk r (λ b. has_float d ≡ false → b.items ≡ compact_text d) → IfOk r (λ b. b.items ≡ trace_text t)
unfolding trace_text
trace_written (Err e) d t is text = tt
trace_written (Ok b) d t is text = text (ap has_float is ∙ trace_whole t) ∙ ap compact_text is

-- ---- reading back

list_back : {A : Type 0} (field : Field) (test : Data → Bool) (read : Data → Option A) (d : Data) (xs : List A) → is_list test d ≡ true
    → list_in read d ≡ Some xs → list_from field test read (Some d) ≡ Ok xs
list_back field test read d xs e f = ap₂ (λ (b : Bool) o. if b then or_number field o else Err (Shape field)) e f

-- the steps and the evidence of a certificate, with what is said of how far it expands
rest_back : (sparse : Bool) (s : Setting) (d : Data) (steps : List Step) (uppers : List Upper) → steps_in s d ≡ Ok steps
    → uppers_in sparse d ≡ Ok uppers
    → rest_in sparse s d ≡ (if is_over s.traces (values_of (named_traces steps)) then Err Expanded else Ok (steps, uppers))
rest_back sparse s d steps uppers e f = then_ok (steps_in s d) steps _ _ e (then_ok (uppers_in sparse d) uppers _ _ f refl)

made_again : (c e : Cert) (b : Bool) → e ≡ c
    → and_then (if b then Err Expanded else Ok (c.steps, c.uppers)) (λ (rest : List Step × List Upper).
    let r : Cert = record { rows = e.rows; bounds = e.bounds; steps = rest.0; uppers = rest.1 } in Ok r)
    ≡ (if b then Err Expanded else Ok c)
made_again c e true h = refl
made_again c e false h = ap (λ (x : Cert). let r : Cert = record { rows = x.rows; bounds = x.bounds; steps = c.steps; uppers = c.uppers } in
    Ok r) h

module _ (c : Cert) where
  abbrev rows_of : ℕ
  rows_of = length c.rows

  abbrev bare_rows : List Entries
  bare_rows = map bare_entries c.rows

  abbrev bare_names : List Trace
  bare_names = map bare_trace (listed_traces c)

  abbrev bare_steps : List Step
  bare_steps = map bare_step c.steps

  abbrev bare_uppers : List Upper
  bare_uppers = map bare_upper c.uppers

  -- the setting where there are so many rows
  abbrev under : ℕ → Setting
  under n = listing n bare_names

  abbrev steps_value : Data
  steps_value = list_data (step_data rows_of (listed_traces c)) c.steps

  -- as many rows as are written
  long : rows_of ≡ length bare_rows
  long = sym (length_map bare_entries c.rows)

  -- where each part of a certificate is read back from its value, the whole is
  pub cert_back : is_list (is_line rows_of) (bounds_data rows_of c.bounds) ≡ true → (lines : List (List Ext))
      → list_in line_in (bounds_data rows_of c.bounds) ≡ Some lines → map extended (joined lines) ≡ c.bounds
      → is_list (are_entries true) (list_data entries_data c.rows) ≡ true
      → list_in (row_in true) (list_data entries_data c.rows) ≡ Some bare_rows
      → is_list (is_step (under rows_of)) steps_value ≡ true → list_in (step_in (under rows_of)) steps_value ≡ Some bare_steps
      → is_list (is_trace true) (list_data trace_data (listed_traces c)) ≡ true
      → list_in (trace_in true) (list_data trace_data (listed_traces c)) ≡ Some bare_names
      → is_list (is_upper true) (list_data upper_data c.uppers) ≡ true
      → list_in (upper_in true) (list_data upper_data c.uppers) ≡ Some bare_uppers
      → cert_in (cert_data c) ≡ read_again c
  cert_back bs lines bb be rs rb ss sb ts tb us ub =
      then_ok (rows_in true (cert_data c)) bare_rows _ (read_again c)
      (list_back Rows (are_entries true) (row_in true) (list_data entries_data c.rows) bare_rows rs rb)
      (then_ok (bounds_in (length bare_rows) (cert_data c)) lines _ (read_again c)
      (list_back Bounds (is_line (length bare_rows)) line_in (bounds_data rows_of c.bounds) lines
      (subst (λ n. is_list (is_line n) (bounds_data rows_of c.bounds) ≡ true) long bs) bb)
      (then_ok (traces_in true (cert_data c)) (Some bare_names) _ (read_again c)
      (ap (λ (r : Result (List Trace) FormFault). and_then r (λ (ts : List Trace). Ok (Some ts)))
      (list_back Traces (is_trace true) (trace_in true) (list_data trace_data (listed_traces c)) bare_names ts tb))
      (ap (λ (r : Result (List Step × List Upper) FormFault). and_then r
      (λ (rest : List Step × List Upper). let e : Cert = record {
        rows = bare_rows;
        bounds = map extended (joined lines);
        steps = rest.0;
        uppers = rest.1;
      } in Ok e))
      (rest_back true (under (length bare_rows)) (cert_data c) bare_steps bare_uppers
      (list_back Steps (is_step (under (length bare_rows))) (step_in (under (length bare_rows))) steps_value bare_steps
      (subst (λ n. is_list (is_step (under n)) steps_value ≡ true) long ss)
      (subst (λ n. list_in (step_in (under n)) steps_value ≡ Some bare_steps) long sb))
      (list_back Uppers (is_upper true) (upper_in true) (list_data upper_data c.uppers) bare_uppers us ub))
      ∙ made_again (bare_cert c)
      (record { rows = bare_rows; bounds = map extended (joined lines); steps = bare_steps; uppers = bare_uppers })
      (nat_lt MOST_VALUES (written_values c))
      (ap (λ (b : List Extended). let r : Cert = record { rows = bare_rows; bounds = b; steps = bare_steps; uppers = bare_uppers } in r)
      be))))

-- the value with the first fields of a certificate put to the last ones
abbrev put_first : Data → Data → Members → Data
put_first b r last = object (put (codes "bounds") b (put (codes "format") (index_data 3) (put (codes "rows") r last)))

-- with the values of a certificate's parts it is the value of the certificate
pub cert_data_is : (c : Cert) (b r : Data) (last : Members) → b ≡ bounds_data (length c.rows) c.bounds → r ≡ list_data entries_data c.rows
    → last ≡ last_data (length c.rows) (listed_traces c) c.steps (listed_traces c) c.uppers → put_first b r last ≡ cert_data c
cert_data_is c b r last eb er el =
    ap₂ (λ x y. put_first x y last) eb er ∙ ap (put_first (bounds_data (length c.rows) c.bounds) (list_data entries_data c.rows)) el

-- ---- what is asked of a certificate that is written

whole_shaped : (b n : ℕ) → b % n ≡ 0 → b / n * n ≡ b
whole_shaped b n e = omega (arith, div-add-mod' b n, e)

-- the bounds of a certificate that can be written are those of whole points
pub writable_whole : (c : Cert) → IsWritable c → length c.bounds / length c.rows * length c.rows ≡ length c.bounds
writable_whole c h = ⊎_elim (λ s. whole_shaped (length c.bounds) (length c.rows) s.points) (λ e. empty e) h
  where
    nothing : 0 * length c.rows ≡ 0
    nothing = omega arith

    empty : IsEmpty c → length c.bounds / length c.rows * length c.rows ≡ length c.bounds
    empty e = ap (λ (bs : List Extended). length bs / length c.rows * length c.rows) e.bounds
        ∙ ap (λ k. k * length c.rows) (zero-div (length c.rows)) ∙ nothing ∙ ap length (sym e.bounds)

steps_shaped : (n : ℕ) (steps : List Step) → 0 < n → list_all has_item steps ≡ true
    → list_all (λ (s : Step). nat_lt 0 n && has_item s) steps ≡ true
steps_shaped n [] l h = refl
steps_shaped n (s ∷ steps) l h = by (has_item s) h (λ k. steps_shaped n steps l k)
  where
    by : (b : Bool) → (b && list_all has_item steps) ≡ true → (list_all has_item steps ≡ true
        → list_all (λ (s : Step). nat_lt 0 n && has_item s) steps ≡ true)
        → ((nat_lt 0 n && b) && list_all (λ (s : Step). nat_lt 0 n && has_item s) steps) ≡ true
    by true k more = ap₂ (λ a b. (a && true) && b) (lt-ltb 0 n l) (more k)
    by false k more = absurd cc

writable_steps : (c : Cert) → IsWritable c → list_all (λ (s : Step). nat_lt 0 (length c.rows) && has_item s) c.steps ≡ true
writable_steps c h =
    ⊎_elim (λ s. steps_shaped (length c.rows) c.steps s.row s.items) (λ e. subst
    (λ (ss : List Step). list_all (λ (s : Step). nat_lt 0 (length c.rows) && has_item s) ss ≡ true) (sym e.steps) refl) h

-- each row of a certificate that can be written has whole numbers alone
pub writable_rows : (c : Cert) (rows : List Entries) → IsWritable c → rows ≡ c.rows → list_all are_whole rows ≡ true
writable_rows c rows h is =
    ap (λ (xs : List Entries). list_all are_whole xs) is
    ∙ ⊎_elim (λ s. s.numbers) (λ e. ap (λ (xs : List Entries). list_all are_whole xs) e.rows) h

-- each step that a certificate has can be written
pub written_steps : (c : Cert) (rows : List Entries) (names : List Trace) (steps : List Step) → IsWritable c → rows ≡ c.rows
    → names ≡ listed_traces c → steps ≡ c.steps
    → list_all (λ (s : Step). nat_lt 0 (length rows) && has_item s && list_all (is_listed names) (step_traces s)) steps ≡ true
written_steps c rows names steps w er en es =
    ap₂ (λ (xs : List Entries) (ss : List Step). list_all (λ (s : Step). nat_lt 0 (length xs) && has_item s
    && list_all (is_listed names) (step_traces s)) ss) er es
    ∙ ap (λ (ts : List Trace). list_all (λ (s : Step). nat_lt 0 (length c.rows) && has_item s && list_all (is_listed ts) (step_traces s))
    c.steps) en
    ∙ steps_listed (length c.rows) c.steps (writable_steps c w)

-- ---- bytes

le-lt_false : (n m : ℕ) → n ≤ m → nat_lt m n ≡ false
le-lt_false n m h = grind (arith, h)

again_within : (c : Cert) → IsWithin c → read_again c ≡ Ok (bare_cert c)
again_within c h = ap (λ b. if b then Err Expanded else Ok (bare_cert c)) (le-lt_false (written_values c) MOST_VALUES h)

again_beyond : (c : Cert) → IsBeyond c → read_again c ≡ Err Expanded
again_beyond c h = ap (λ b. if b then Err Expanded else Ok (bare_cert c)) (lt-ltb MOST_VALUES (written_values c) h)

-- the bytes written for a certificate within the limit of values spell it
pub spelled : (r : Result (Vec ℕ Global) AllocError) (d : Data) (c : Cert) → IfOk r (λ b. IsUtf8 b.items)
    → IfOk r (λ b. depth d ≤ 127 → read b.items ≡ Some d) → d ≡ cert_data c → cert_in (cert_data c) ≡ read_again c
    → IfOk r (λ b. IsWithin c → SpellsCert b.items (bare_cert c))
spelled (Err e) d c utf8 back is reads = tt
spelled (Ok b) d c utf8 back is reads = λ h.
    record {
      data_is = d;
      spells = record { utf8 = utf8; value = back (subst (λ x. depth x ≤ 127) (sym is) (cert_deep c)) };
      reads =
          ap cert_in is ∙ reads ∙ again_within c h;
    }

-- the bytes written for a certificate beyond the limit of values spell one that expands too far
pub spelled_beyond : (r : Result (Vec ℕ Global) AllocError) (d : Data) (c : Cert) → IfOk r (λ b. IsUtf8 b.items)
    → IfOk r (λ b. depth d ≤ 127 → read b.items ≡ Some d) → d ≡ cert_data c → cert_in (cert_data c) ≡ read_again c
    → IfOk r (λ b. IsBeyond c → SpellsTooMany b.items)
spelled_beyond (Err e) d c utf8 back is reads = tt
spelled_beyond (Ok b) d c utf8 back is reads = λ h.
    (d, record { utf8 = utf8; value = back (subst (λ x. depth x ≤ 127) (sym is) (cert_deep c)) }, ap cert_in is ∙ reads ∙ again_beyond c h)
