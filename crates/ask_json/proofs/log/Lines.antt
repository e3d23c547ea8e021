-- The line of a log is its head, its results and its tail.
use Rattle.std.proofs.Common.{◌≡◌, ◌∙◌, ◌++◌, ◌∷◌, [], ℕ, false, true, List, sym, ap, append_assoc}
use Rattle.std.specs.Prelude.{codes}
use Rattle.json.specs.Print.{escape_byte}
use Rattle.serde_json.specs.Data.{Items, member, no_members, string}
use Rattle.serde_json.specs.Written.{items_text, members_text}
use Rattle.out_json.specs.Pieces.{value_line}
use Rattle.ask_json.specs.Sarif.{head_text, log_value, tail_text, tool}

-- results, the tool behind them, the bracket that closes the list of runs, the version, and a line feed
tail_is : (r t v n : List ℕ) → r ++ (t ++ (93 ∷ (v ++ n))) ≡ r ++ t ++ 93 ∷ [] ++ v ++ n
tail_is r t v n =
    sym (append_assoc r t (93 ∷ (v ++ n))) ∙ sym (append_assoc (r ++ t) (93 ∷ []) (v ++ n)) ∙ sym (append_assoc (r ++ t ++ 93 ∷ []) v n)

line_is : (found : Items) → head_text ++ (items_text false found ++ tail_text) ≡ value_line (log_value found)
unfolding escape_byte
line_is found =
    ap (λ x. head_text ++ x) (tail_is (items_text false found) (members_text true (member (codes "tool") tool no_members))
    (members_text true (member (codes "version") (string (codes "2.1.0")) no_members)) (10 ∷ []))

-- behind other bytes
pub log_line : (old : List ℕ) (found : Items)
    → old ++ head_text ++ items_text false found ++ tail_text ≡ old ++ value_line (log_value found)
log_line old found =
    append_assoc (old ++ head_text) (items_text false found) tail_text ∙ append_assoc old head_text (items_text false found ++ tail_text)
    ∙ ap (λ x. old ++ x) (line_is found)
