-- Traces.
use Rattle.std.specs.Prelude.{◌&&◌, ◌==◌, Bool, true, List, ℕ, Option, Some, None, is_some, map, option_and_then, option_map}
use Rattle.std.specs.Prelude.{slice_get, codes}
use Rattle.serde_json.specs.Data.{Data, member, no_members, object}
use Rattle.serde_json.specs.Find.{as_number, as_u64, get}
use Rattle.cert_written.specs.Bare.{bare_trace}
use Rattle.cert_written.specs.declared.trace.Trace.{Trace}
use Rattle.cert_text.specs.declared.setting.Setting.{Setting}
use Rattle.cert_text.specs.Keys.{member_count, passes_at}
use Rattle.cert_text.specs.Pairs.{are_entries, entries_at, entries_data}

-- exactly the keys `free` and `start`, with lists of fractions
abbrev pub is_trace : Bool → Data → Bool
is_trace sparse d =
    (member_count d == 2) && passes_at (are_entries sparse) (codes "free") d && passes_at (are_entries sparse) (codes "start") d

-- the trace that a value is
abbrev pub trace_in : Bool → Data → Option Trace
trace_in sparse d =
    option_and_then (λ free. option_map (λ start. record { start = start; free = free }) (entries_at sparse (codes "start") d))
    (entries_at sparse (codes "free") d)

-- the value of a trace
abbrev pub trace_data : Trace → Data
trace_data t = object (member (codes "free") (entries_data t.free) (member (codes "start") (entries_data t.start) no_members))

-- ---- traces where they stand, or by their numbers

-- the setting of items that name traces of a list by their numbers
abbrev pub listing : ℕ → List Trace → Setting
listing rows traces = record { rows = rows; traces = Some traces; sparse = true }

-- the setting under which what is written is read: these traces are read without their zeros
abbrev pub relisting : ℕ → List Trace → Setting
relisting rows traces = listing rows (map bare_trace traces)

-- the trace of this number, counted from 0
abbrev pub numbered_trace : List Trace → Data → Option Trace
numbered_trace traces d = option_and_then (slice_get traces) (option_and_then as_u64 (as_number d))

-- the trace that a value is; or the one that it names, where traces are listed
abbrev pub trace_by : Bool → Option (List Trace) → Data → Option Trace
trace_by sparse None d = trace_in sparse d
trace_by sparse (Some traces) d = numbered_trace traces d

-- it has the shape of a trace; or it names one, where traces are listed
abbrev pub is_trace_by : Bool → Option (List Trace) → Data → Bool
is_trace_by sparse None d = is_trace sparse d
is_trace_by sparse (Some traces) d = is_some (numbered_trace traces d)

-- the trace that the member of this key is or names
abbrev pub trace_at : Bool → Option (List Trace) → List ℕ → Data → Option Trace
trace_at sparse listed key d = option_and_then (trace_by sparse listed) (get key d)
