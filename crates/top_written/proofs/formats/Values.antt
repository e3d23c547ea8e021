-- Values that agree are written alike.
use Rattle.std.proofs.Common.{◌≡◌, ◌++◌, ◌+◌, ◌<◌, ◌≤◌, ℕ, suc, List, [], ◌∷◌, length, refl, ap₂, arith, codes}
use Rattle.base_numbers.specs.Extended.{Ext}
use Rattle.flow_systems.specs.Report.{footer_line}
use Rattle.flow_systems.specs.declared.footer.Footer.TheVariants.{Improvements}
use Rattle.serde_json.specs.Data.{Items, array, item, member, no_members, object}
use Rattle.out_report.specs.Values.{value_line, value_lines}
use Rattle.out_json.specs.Pieces.{footer_member}
use Rattle.out_json.specs.Pieces as json
use Rattle.out_json.specs.Values.{named_value, named_values, values_value}
use Rattle.ask_words.specs.declared.format.Format.{Format}
use Rattle.ask_words.specs.declared.format.Format.TheVariants.{Text, Json, Sarif}
use Rattle.top_written.specs.Formats.{values_in}

lines_agree : (k : ℕ) (names : List (List ℕ)) (v w : ℕ → Ext) → ((j : ℕ) → k ≤ j → j < k + length names → v j ≡ w j)
    → value_lines k names v ≡ value_lines k names w
lines_agree k [] v w h = refl
lines_agree k (name ∷ names) v w h =
    let here : v k ≡ w k = h k (omega arith) (omega arith) in
    let rest : (j : ℕ) → suc k ≤ j → j < suc k + length names → v j ≡ w j = λ j a b. h j (omega arith) (omega arith) in
    ap₂ (λ x lines. value_line name x ++ lines) here (lines_agree (suc k) names v w rest)

items_agree : (k : ℕ) (names : List (List ℕ)) (v w : ℕ → Ext) → ((j : ℕ) → k ≤ j → j < k + length names → v j ≡ w j)
    → named_values k names v ≡ named_values k names w
items_agree k [] v w h = refl
items_agree k (name ∷ names) v w h =
    let here : v k ≡ w k = h k (omega arith) (omega arith) in
    let rest : (j : ℕ) → suc k ≤ j → j < suc k + length names → v j ≡ w j = λ j a b. h j (omega arith) (omega arith) in
    ap₂ (λ x items. item (named_value name x) items) here (items_agree (suc k) names v w rest)

line_agrees : (names : List (List ℕ)) (v w : ℕ → Ext) (n m : ℕ) → ((j : ℕ) → j < length names → v j ≡ w j) → n ≡ m
    → json.value_line (values_value names v (Improvements n)) ≡ json.value_line (values_value names w (Improvements m))
line_agrees names v w n m h e =
    ap₂ (λ (items : Items) k. json.value_line (object (footer_member (Improvements k) (member (codes "values") (array items) no_members))))
    (items_agree 0 names v w (λ j a b. h j (omega arith))) e

-- values that are the same for each name are written alike
pub values_agree : (format : Format) (names : List (List ℕ)) (v w : ℕ → Ext) (n m : ℕ) → ((j : ℕ) → j < length names → v j ≡ w j) → n ≡ m
    → values_in format names v (Improvements n) ≡ values_in format names w (Improvements m)
values_agree Text names v w n m h e =
    ap₂ (λ lines k. lines ++ footer_line (Improvements k)) (lines_agree 0 names v w (λ j a b. h j (omega arith))) e
values_agree Json names v w n m h e = line_agrees names v w n m h e
values_agree Sarif names v w n m h e = line_agrees names v w n m h e
