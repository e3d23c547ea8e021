-- Steps.
use Rattle.std.specs.Prelude.{◌&&◌, ◌||◌, ◌==◌, ℕ, Bool, List, Option, None, nat_lt, if◌then◌else◌, option_and_then, option_map, codes}
use Rattle.serde_json.specs.Data.{Data, member, no_members, object, string}
use Rattle.serde_json.specs.Find.{get}
use Rattle.cert_written.specs.declared.trace.Trace.{Trace}
use Rattle.cert_written.specs.declared.step.Step.{Step}
use Rattle.cert_written.specs.declared.step.Step.TheVariants.{Plain, Jump, Ray}
use Rattle.cert_text.specs.declared.setting.Setting.{Setting}
use Rattle.cert_text.specs.Lists.{is_list, list_data, list_in}
use Rattle.cert_text.specs.Keys.{is_kind, item_count, member_count, passes_at}
use Rattle.cert_text.specs.StepItems.{is_jump_item, is_plain_item, is_ray_item, jump_item_data}
use Rattle.cert_text.specs.StepItems.{jump_item_in, plain_item_data, plain_item_in, ray_item_data, ray_item_in}

-- a list of one value or more, which all pass
abbrev pub is_filled : (Data → Bool) → Data → Bool
is_filled test d = nat_lt 0 (item_count d) && is_list test d

-- the kind is this one, and `items` is a list of one item or more of this shape
abbrev pub has_items : List ℕ → (Data → Bool) → Data → Bool
has_items kind test d = is_kind kind d && passes_at (is_filled test) (codes "items") d

-- exactly the keys `items` and `kind`
abbrev pub is_step : Setting → Data → Bool
is_step s d = (member_count d == 2)
    && (has_items (codes "plain") (is_plain_item s) d || has_items (codes "jump") (is_jump_item s) d
    || has_items (codes "ray") (is_ray_item s) d)

-- the items that the member `items` is read as
abbrev pub items_at : {A : Type 0} → (Data → Option A) → Data → Option (List A)
items_at read d = option_and_then (list_in read) (get (codes "items") d)

-- the step that a value is
abbrev pub step_in : Setting → Data → Option Step
step_in s d = if is_kind (codes "plain") d then option_map (λ items. Plain items) (items_at (plain_item_in s) d)
    else (if is_kind (codes "jump") d then option_map (λ items. Jump items) (items_at (jump_item_in s) d)
    else (if is_kind (codes "ray") d then option_map (λ items. Ray items) (items_at (ray_item_in s) d) else None))

-- the value with these items and this kind
abbrev pub step_object : Data → List ℕ → Data
step_object items kind = object (member (codes "items") items (member (codes "kind") (string kind) no_members))

-- the value of a step
abbrev pub step_data : ℕ → List Trace → Step → Data
step_data rows traces (Plain items) = step_object (list_data (plain_item_data rows traces) items) (codes "plain")
step_data rows traces (Jump items) = step_object (list_data (jump_item_data rows traces) items) (codes "jump")
step_data rows traces (Ray items) = step_object (list_data (ray_item_data rows traces) items) (codes "ray")
