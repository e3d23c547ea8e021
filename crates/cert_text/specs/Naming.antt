-- The traces that the items of steps name, how many values they hold, and their numbers.
use Rattle.std.specs.Prelude.{◌≡◌, ◌+◌, ℕ, Bool, true, List, [], ◌∷◌, ◌++◌, Option, Some, fold, length, map, min}
use Rattle.std.specs.Prelude.{option_and_then, if◌then◌else◌}
use Rattle.std.specs.List.{flat_map, list_any, position_or_len}
use Rattle.std.specs.Str.{bytes_eq}
use Rattle.std.specs.declared.alloc.Global.{Global}
use Rattle.std.specs.declared.vec.Vec.{Vec}
use Rattle.serde_json.specs.Data.{Data}
use Rattle.serde_json.specs.Read.{read}
use Rattle.serde_json.specs.Written.{compact_text}
use Rattle.cert_written.specs.declared.trace.Trace.{Trace}
use Rattle.cert_written.specs.declared.step.Item.{Item}
use Rattle.cert_written.specs.declared.step.JumpItem.{JumpItem}
use Rattle.cert_written.specs.declared.step.RayItem.{RayItem}
use Rattle.cert_written.specs.declared.step.Step.{Step}
use Rattle.cert_written.specs.declared.step.Step.TheVariants.{Plain, Jump, Ray}
use Rattle.cert_text.specs.declared.limits.TheConstants.{MOST_VALUES}
use Rattle.cert_text.specs.Keys.{index_data}
use Rattle.cert_written.specs.Bare.{bare_trace}
use Rattle.cert_written.specs.declared.entries.Entries.{Entries}
use Rattle.cert_written.specs.declared.entries.Entries.TheVariants.{Dense, Sparse}
use Rattle.cert_text.specs.Traces.{trace_data, trace_in}

-- ---- which traces are named, in order

-- that of an item of a plain step
abbrev pub plain_traces : Item → List Trace
plain_traces i = i.low ∷ []

-- those of an item of a jump
abbrev pub jump_traces : JumpItem → List Trace
jump_traces i = i.low ∷ i.high ∷ []

-- those of an item of a ray
abbrev pub ray_traces : RayItem → List Trace
ray_traces i = i.low ∷ i.direction ∷ []

-- those of the items of a step
abbrev pub step_traces : Step → List Trace
step_traces (Plain items) = flat_map plain_traces items
step_traces (Jump items) = flat_map jump_traces items
step_traces (Ray items) = flat_map ray_traces items

-- those of all steps
abbrev pub named_traces : List Step → List Trace
named_traces steps = flat_map step_traces steps

-- ---- how many values they hold

-- how many values a list has: all of them, or those that it has without zeros
abbrev pub entry_count : Entries → ℕ
entry_count (Dense qs) = length qs
entry_count (Sparse ps) = length ps

-- the start values and the free values of all of them
abbrev pub values_of : List Trace → ℕ
values_of [] = 0
values_of (t ∷ ts) = (entry_count t.start + entry_count t.free) + values_of ts

-- as far as values are counted
abbrev pub capped : ℕ → ℕ
capped n = min n (MOST_VALUES + 1)

-- ---- their numbers

-- the text of a trace, which is that without the zeros of its lists
unfoldable pub trace_text : Trace → List ℕ
trace_text t = compact_text (trace_data t)

-- the trace that a text spells, without the zeros of its lists
unfoldable pub spelt_trace : List ℕ → Option Trace
spelt_trace text = option_and_then (trace_in true) (read text)

-- the text of each trace spells it without the zeros of its lists
abbrev pub AreSpelt : List Trace → Type 0
AreSpelt [] = Unit {0}
AreSpelt (t ∷ ts) = (spelt_trace (trace_text t) ≡ Some (bare_trace t)) × AreSpelt ts

-- the texts that a set holds, in order
abbrev pub texts_of : List (Vec ℕ Global) → List (List ℕ)
texts_of keys = map (λ k. k.items) keys

-- two traces have one text
abbrev pub same_text : Trace → Trace → Bool
same_text t u = bytes_eq (trace_text t) (trace_text u)

-- a trace is in the list
abbrev pub is_listed : List Trace → Trace → Bool
is_listed ts t = list_any (same_text t) ts

-- the number of the first trace in the list that is this one
abbrev pub number_in : List Trace → Trace → ℕ
number_in ts t = position_or_len (same_text t) ts

-- the list with this trace at its end, unless it is there
abbrev pub with_trace : List Trace → Trace → List Trace
with_trace ts t = if is_listed ts t then ts else ts ++ t ∷ []

-- the list with these traces, each once, in the order in which they come first
abbrev pub with_traces : List Trace → List Trace → List Trace
with_traces ts named = fold with_trace ts named

-- the value by which an item names a trace
abbrev pub name_data : List Trace → Trace → Data
name_data ts t = index_data (number_in ts t)
