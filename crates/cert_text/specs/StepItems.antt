-- The items of steps.
use Rattle.std.specs.Prelude.{◌/◌, ◌%◌, ◌&&◌, ◌==◌, ℕ, Bool, List, Option, option_and_then, option_map, codes}
use Rattle.serde_json.specs.Data.{Data, array, item, member, no_items, no_members, object}
use Rattle.serde_json.specs.Find.{get}
use Rattle.cert_written.specs.declared.step.Item.{Item}
use Rattle.cert_written.specs.declared.step.JumpItem.{JumpItem}
use Rattle.cert_written.specs.declared.step.RayItem.{RayItem}
use Rattle.cert_written.specs.declared.trace.Trace.{Trace}
use Rattle.cert_text.specs.declared.items.TwoTraces.{TwoTraces}
use Rattle.cert_text.specs.declared.setting.Setting.{Setting}
use Rattle.cert_text.specs.Numbers.{frac_data, frac_in, is_text}
use Rattle.cert_text.specs.Keys.{index_at, index_data, is_index, is_unknown, member_count, passes_at, unknown_at}
use Rattle.cert_text.specs.Traces.{is_trace_by, trace_at}
use Rattle.cert_text.specs.Naming.{name_data}

-- the unknown as its point and its row
abbrev pub unknown_data : ℕ → ℕ → Data
unknown_data rows u = array (item (index_data (u / rows)) (item (index_data (u % rows)) no_items))

-- ---- shapes; the keys are exactly those named

-- `edge`, `low` and `unknown`, which each kind of item has
abbrev pub has_start : Setting → Data → Bool
has_start s d = passes_at is_index (codes "edge") d && passes_at (is_trace_by s.sparse s.traces) (codes "low") d
    && passes_at (is_unknown s.rows) (codes "unknown") d

-- `edge`, `low`, `to` and `unknown`
abbrev pub is_plain_item : Setting → Data → Bool
is_plain_item s d = (member_count d == 4) && has_start s d && passes_at is_text (codes "to") d

-- `edge`, `low`, `unknown`, and a second trace and a number at these keys
abbrev pub has_two_traces : List ℕ → List ℕ → Setting → Data → Bool
has_two_traces second number s d = (member_count d == 5) && has_start s d && passes_at (is_trace_by s.sparse s.traces) second d
    && passes_at is_text number d

-- `edge`, `high`, `low`, `to` and `unknown`
abbrev pub is_jump_item : Setting → Data → Bool
is_jump_item s d = has_two_traces (codes "high") (codes "to") s d

-- `direction`, `edge`, `low`, `rate` and `unknown`
abbrev pub is_ray_item : Setting → Data → Bool
is_ray_item s d = has_two_traces (codes "direction") (codes "rate") s d

-- ---- reading

-- the item of a plain step that a value is
abbrev pub plain_item_in : Setting → Data → Option Item
plain_item_in s d =
    option_and_then (λ edge. option_and_then (λ low. option_and_then (λ to. option_map (λ unknown. record {
      unknown = unknown;
      edge = edge;
      low = low;
      to =
          to;
    })
    (unknown_at s.rows (codes "unknown") d)) (option_and_then frac_in (get (codes "to") d))) (trace_at s.sparse s.traces (codes "low") d))
    (index_at (codes "edge") d)

-- the parts of an item with a second trace and a number at these keys
abbrev pub two_traces_in : List ℕ → List ℕ → Setting → Data → Option TwoTraces
two_traces_in second number s d =
    option_and_then (λ edge. option_and_then (λ low. option_and_then (λ other. option_and_then (λ amount. option_map (λ unknown. record {
      unknown = unknown;
      edge = edge;
      low = low;
      second = other;
      number = amount;
    })
    (unknown_at s.rows (codes "unknown") d)) (option_and_then frac_in (get number d))) (trace_at s.sparse s.traces second d))
    (trace_at s.sparse s.traces (codes "low") d))
    (index_at (codes "edge") d)

-- the item of a jump that a value is
abbrev pub jump_item_in : Setting → Data → Option JumpItem
jump_item_in s d =
    option_map (λ parts. record {
      unknown = parts.unknown;
      edge = parts.edge;
      low = parts.low;
      high = parts.second;
      to = parts.number;
    })
    (two_traces_in (codes "high") (codes "to") s d)

-- the item of a ray that a value is
abbrev pub ray_item_in : Setting → Data → Option RayItem
ray_item_in s d =
    option_map (λ parts. record {
      unknown = parts.unknown;
      edge = parts.edge;
      low = parts.low;
      direction = parts.second;
      rate = parts.number;
    })
    (two_traces_in (codes "direction") (codes "rate") s d)

-- ---- writing; traces go by their numbers in the list

-- the value of an item of a plain step
abbrev pub plain_item_data : ℕ → List Trace → Item → Data
plain_item_data rows traces i = object (member (codes "edge") (index_data i.edge)
    (member (codes "low") (name_data traces i.low) (member (codes "to")
    (frac_data i.to) (member (codes "unknown") (unknown_data rows i.unknown) no_members))))

-- the value of an item of a jump
abbrev pub jump_item_data : ℕ → List Trace → JumpItem → Data
jump_item_data rows traces i = object (member (codes "edge") (index_data i.edge)
    (member (codes "high") (name_data traces i.high) (member (codes "low")
    (name_data traces i.low) (member (codes "to") (frac_data i.to) (member (codes "unknown") (unknown_data rows i.unknown) no_members)))))

-- the value of an item of a ray
abbrev pub ray_item_data : ℕ → List Trace → RayItem → Data
ray_item_data rows traces i = object (member (codes "direction") (name_data traces i.direction) (member (codes "edge") (index_data i.edge)
    (member (codes "low") (name_data traces i.low) (member (codes "rate") (frac_data i.rate)
    (member (codes "unknown") (unknown_data rows i.unknown)
    no_members)))))
