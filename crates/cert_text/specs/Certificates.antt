-- A certificate as JSON.
use Rattle.std.specs.Prelude.{◌≡◌, ◌≤◌, ◌<◌, ◌&&◌, ◌||◌, ◌==◌, ◌⊎◌, ℕ, ℤ, Bool, false, List, [], Option}
use Rattle.std.specs.Prelude.{Some, None, Result, Ok, Err, IsUtf8, if◌then◌else◌, is_some, length, map, nat_lt, option_and_then, codes, ⊤}
use Rattle.serde_json.specs.Data.{Data, Items, Members, member, no_members, object}
use Rattle.serde_json.specs.Find.{as_i64, as_number, as_u64, get}
use Rattle.serde_json.specs.Read.{read}
use Rattle.base_fractions.specs.Extended.{extended}
use Rattle.base_fractions.specs.declared.ext.Ext.{Ext}
use Rattle.cert_written.specs.declared.trace.Trace.{Trace}
use Rattle.cert_written.specs.Bare.{bare_cert, bare_step}
use Rattle.cert_written.specs.Shaped.{IsShaped, are_whole}
use Rattle.cert_written.specs.declared.cert.Cert.{Cert}
use Rattle.cert_written.specs.declared.entries.Entries.{Entries}
use Rattle.cert_written.specs.declared.step.Step.{Step}
use Rattle.cert_written.specs.declared.upper.Upper.{Upper}
use Rattle.cert_text.specs.declared.fault.Field.{Field}
use Rattle.cert_text.specs.declared.fault.Field.TheVariants.{Top, Format, Rows, Bounds, Traces, Steps, Uppers}
use Rattle.cert_text.specs.declared.fault.FormFault.{FormFault}
use Rattle.cert_text.specs.declared.fault.FormFault.TheVariants.{Expanded, Number, Shape, Version}
use Rattle.cert_text.specs.declared.limits.TheConstants.{MOST_VALUES}
use Rattle.cert_text.specs.declared.setting.Setting.{Setting}
use Rattle.cert_text.specs.Lists.{all_items, is_list, items_in, list_data, list_in}
use Rattle.cert_text.specs.Keys.{index_data, member_count}
use Rattle.cert_text.specs.Pairs.{are_entries, entries_data, entries_in}
use Rattle.cert_text.specs.Traces.{is_trace, trace_data, trace_in}
use Rattle.cert_text.specs.Naming.{named_traces, values_of, with_traces}
use Rattle.cert_text.specs.StepForms.{is_step, step_data, step_in}
use Rattle.cert_text.specs.Evidence.{is_upper, upper_data, upper_in}
use Rattle.cert_text.specs.BoundLines.{bounds_data, is_line, joined, line_in}

-- a first part, or its refusal, and then what follows from it
abbrev pub and_then : {A B : Type 0} → Result A FormFault → (A → Result B FormFault) → Result B FormFault
and_then (Ok x) next = next x
and_then (Err e) next = Err e

-- ---- reading

-- an object has this key
abbrev pub has_key : List ℕ → Data → Bool
has_key key d = is_some (get key d)

-- there is a sixth key: the traces stand in a list of their own
abbrev pub has_traces : Data → Bool
has_traces d = (member_count d == 6) && has_key (codes "traces") d

-- an object with exactly the five keys of format 1, or these and `traces`
abbrev pub is_top : Data → Bool
is_top d = (member_count d == 5 || has_traces d) && has_key (codes "bounds") d && has_key (codes "format") d && has_key (codes "rows") d &&
    has_key (codes "steps") d && has_key (codes "uppers") d

-- whether a value has the keys of a certificate
abbrev pub top_in : Data → Result ⊤ FormFault
top_in d = if is_top d then Ok tt else Err (Shape Top)

-- there is a number, and it is this one
abbrev pub is_this : ℕ → Option ℕ → Bool
is_this m None = false
is_this m (Some n) = n == m

-- a format that has these keys: 1 has no traces of their own, 2 and 3 have
abbrev pub has_keys : Bool → Option ℕ → Bool
has_keys listed n = if listed then is_this 2 n || is_this 3 n else is_this 1 n

-- a whole number is one that JSON's reader gives as 64 bits without or with a sign; 1, 2 and 3 each ask for their keys
abbrev pub format_from : Bool → Option ℕ → Option ℤ → Result ⊤ FormFault
format_from listed n z = if has_keys listed n then Ok tt
    else (if is_this 1 n || is_this 2 n || is_this 3 n then Err (Shape Format)
    else (if is_some n || is_some z then Err Version else Err (Shape Format)))

-- the format as a whole number without a sign, if it is one
abbrev pub natural_format : Data → Option ℕ
natural_format d = option_and_then as_u64 (option_and_then as_number (get (codes "format") d))

-- whether the format is 1, 2 or 3, as the keys say
abbrev pub format_in : Data → Result ⊤ FormFault
format_in d = format_from (has_traces d) (natural_format d) (option_and_then as_i64 (option_and_then as_number (get (codes "format") d)))

-- lists of fractions are without zeros in format 3
abbrev pub is_sparse_form : Data → Bool
is_sparse_form d = is_this 3 (natural_format d)

-- the elements of a field that has its shape
abbrev pub or_number : {A : Type 0} → Field → Option (List A) → Result (List A) FormFault
or_number field None = Err (Number field)
or_number field (Some xs) = Ok xs

-- a field that is a list: all shapes before its numbers
abbrev pub list_from : {A : Type 0} → Field → (Data → Bool) → (Data → Option A) → Option Data → Result (List A) FormFault
list_from field test read None = Err (Shape field)
list_from field test read (Some d) = if is_list test d then or_number field (list_in read d) else Err (Shape field)

-- the elements of a field that these values are: all shapes before the numbers
abbrev pub read_from : {A : Type 0} → Field → (Data → Bool) → (Data → Option A) → Items → Result (List A) FormFault
read_from field test read ds = if all_items test ds then or_number field (items_in read ds) else Err (Shape field)

-- a list, if its entries are whole numbers
abbrev pub if_row : Entries → Option Entries
if_row e = if are_whole e then Some e else None

-- the row of the template that a value is
abbrev pub row_in : Bool → Data → Option Entries
row_in sparse d = option_and_then if_row (entries_in sparse d)

-- the rows
abbrev pub rows_in : Bool → Data → Result (List Entries) FormFault
rows_in sparse d = list_from Rows (are_entries sparse) (row_in sparse) (get (codes "rows") d)

-- the bounds, a list for each point
abbrev pub bounds_in : ℕ → Data → Result (List (List Ext)) FormFault
bounds_in rows d = list_from Bounds (is_line rows) line_in (get (codes "bounds") d)

-- the traces, if they stand in a list of their own
abbrev pub traces_in : Bool → Data → Result (Option (List Trace)) FormFault
traces_in sparse d =
    if has_traces d then and_then (list_from Traces (is_trace sparse) (trace_in sparse) (get (codes "traces") d)) (λ traces. Ok (Some
    traces))
    else Ok None

-- the steps
abbrev pub steps_in : Setting → Data → Result (List Step) FormFault
steps_in s d = list_from Steps (is_step s) (step_in s) (get (codes "steps") d)

-- the evidence
abbrev pub uppers_in : Bool → Data → Result (List Upper) FormFault
uppers_in sparse d = list_from Uppers (is_upper sparse) (upper_in sparse) (get (codes "uppers") d)

-- this number of values is refused where traces are named: all that they hold, counted once for each naming
abbrev pub is_over : Option (List Trace) → ℕ → Bool
is_over None values = false
is_over (Some traces) values = nat_lt MOST_VALUES values

-- the steps and the evidence; last, that the traces named hold few enough values
abbrev pub rest_in : Bool → Setting → Data → Result (List Step × List Upper) FormFault
rest_in sparse s d = and_then (steps_in s d) (λ steps. and_then (uppers_in sparse d) (λ uppers.
    if is_over s.traces (values_of (named_traces steps)) then Err Expanded else Ok (steps, uppers)))

-- the setting of steps of a certificate of n rows with these traces; a trace that stands in its place has its zeros
abbrev pub step_setting : ℕ → Option (List Trace) → Setting
step_setting n traces = record { rows = n; traces = traces; sparse = is_some traces }

-- the fields of a value one after another, where lists are without zeros or aren't
abbrev pub fields_in : Bool → Data → Result Cert FormFault
fields_in sparse d =
    and_then (rows_in sparse d) (λ rows. and_then (bounds_in (length rows) d) (λ lines.
    and_then (traces_in sparse d) (λ traces. and_then (rest_in sparse (step_setting (length rows) traces) d) (λ rest.
    Ok (record { rows = rows; bounds = map extended (joined lines); steps = rest.0; uppers = rest.1 })))))

-- the certificate that a value is, or why it is none
abbrev pub cert_in : Data → Result Cert FormFault
cert_in d = and_then (top_in d) (λ _. and_then (format_in d) (λ _. fields_in (is_sparse_form d) d))

-- ---- writing

-- the value with these fields
abbrev pub cert_object : (bounds rows steps traces uppers : Data) → Data
cert_object bounds rows steps traces uppers =
    object (member (codes "bounds") bounds (member (codes "format") (index_data 3) (member (codes "rows") rows (member (codes "steps") steps
    (member (codes "traces") traces (member (codes "uppers") uppers no_members))))))

-- steps, the traces that they name and evidence as the last fields of a certificate of n rows
abbrev pub last_data : ℕ → List Trace → List Step → List Trace → List Upper → Members
last_data n names steps traces uppers =
    member (codes "steps") (list_data (step_data n names) steps) (member (codes "traces") (list_data trace_data traces)
    (member (codes "uppers") (list_data upper_data uppers) no_members))

-- the traces that are written: those that the items name, each once, in the order in which they are named first
abbrev pub listed_traces : Cert → List Trace
listed_traces c = with_traces [] (named_traces c.steps)

-- the value of a certificate
abbrev pub cert_data : Cert → Data
cert_data c =
    cert_object (bounds_data (length c.rows) c.bounds) (list_data entries_data c.rows)
    (list_data (step_data (length c.rows) (listed_traces c)) c.steps)
    (list_data trace_data (listed_traces c)) (list_data upper_data c.uppers)

-- a certificate of nothing but evidence
pub record IsEmpty (c : Cert) : Type 0 where
  pub rows : c.rows ≡ []
  pub bounds : c.bounds ≡ []
  pub steps : c.steps ≡ []

-- the certificates that can be written
abbrev pub IsWritable : Cert → Type 0
IsWritable c = IsShaped c ⊎ IsEmpty c

-- how many values the traces hold that its steps name, without zeros
abbrev pub written_values : Cert → ℕ
written_values c = values_of (named_traces (map bare_step c.steps))

-- the traces named hold few enough values for the certificate to be read again
abbrev pub IsWithin : Cert → Type 0
IsWithin c = written_values c ≤ MOST_VALUES

-- and they hold too many
abbrev pub IsBeyond : Cert → Type 0
IsBeyond c = MOST_VALUES < written_values c

-- what the value of a certificate is read as: it without the zeros of its lists
abbrev pub read_again : Cert → Result Cert FormFault
read_again c = if nat_lt MOST_VALUES (written_values c) then Err Expanded else Ok (bare_cert c)

-- ---- bytes

-- the bytes are JSON, and this is its value
pub record Spells (bytes : List ℕ) (d : Data) : Type 0 where
  pub utf8 : IsUtf8 bytes
  pub value : read bytes ≡ Some d

-- the bytes are a certificate but that its traces expand too far
abbrev pub SpellsTooMany : List ℕ → Type 0
SpellsTooMany bytes = (d : Data) × Spells bytes d × (cert_in d ≡ Err Expanded)

-- the bytes are this certificate
pub record SpellsCert (bytes : List ℕ) (c : Cert) : Type 0 where
  pub data_is : Data
  pub spells : Spells bytes data_is
  pub reads : cert_in data_is ≡ Ok c
