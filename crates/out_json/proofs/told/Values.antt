-- The lines of values are those that their value tells.
use Rattle.std.proofs.Common.{◌≡◌, ◌++◌, ◌∷◌, [], ℕ, suc, List, refl, ap}
use Rattle.base_numbers.specs.Extended.{Ext}
use Rattle.flow_systems.specs.declared.footer.Footer.{Footer}
use Rattle.flow_systems.specs.declared.footer.Footer.TheVariants.{Improvements, Accepted}
use Rattle.flow_systems.specs.Report.{footer_line}
use Rattle.out_report.specs.Values.{value_line, value_lines, values_text}
use Rattle.out_json.specs.Values.{named_values, values_value}
use Rattle.out_json.specs.Told.{each_value_told, values_told}

each_is : (k : ℕ) (names : List (List ℕ)) (values : ℕ → Ext)
    → each_value_told (named_values k names values) ≡ value_lines k names values
each_is k [] values = refl
each_is k (name ∷ names) values = ap (λ t. value_line name (values k) ++ t) (each_is (suc k) names values)

-- whatever the values and the end
pub values_are_told : (names : List (List ℕ)) (values : ℕ → Ext) (footer : Footer)
    → values_told (values_value names values footer) ≡ values_text names values footer
values_are_told names values (Improvements k) = ap (λ t. t ++ footer_line (Improvements k)) (each_is 0 names values)
values_are_told names values Accepted = ap (λ t. t ++ footer_line Accepted) (each_is 0 names values)
