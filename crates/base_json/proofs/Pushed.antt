-- What is appended piece by piece is the text of the whole.
use Rattle.std.proofs.Common.{◌≡◌, ◌∙◌, ◌++◌, ◌∷◌, [], ℕ, Bool, true, false, List, ap, append_assoc}
use Rattle.json.specs.Print.{quoted}
use Rattle.serde_json.specs.Data.{Data, array, object, Items, item, Members, member}
use Rattle.serde_json.specs.Written.{comma_if, compact_text, items_text, members_text}

inner : (o c q t m : List ℕ) → o ++ (c ++ (q ++ 58 ∷ t)) ++ m ≡ o ++ (c ++ (q ++ 58 ∷ (t ++ m)))
inner o c q t m =
    append_assoc o (c ++ (q ++ 58 ∷ t)) m
    ∙ ap (λ x. o ++ x) (append_assoc c (q ++ 58 ∷ t) m ∙ ap (λ x. c ++ x) (append_assoc q (58 ∷ t) m))

-- an item behind its comma, and the items behind it
pub item_pushed : (old mid new : List ℕ) (later : Bool) (d : Data) (ds : Items) → mid ≡ old ++ comma_if later
    → new ≡ mid ++ compact_text d → new ++ items_text true ds ≡ old ++ items_text later (item d ds)
item_pushed old mid new later d ds e f =
    ap (λ x. x ++ items_text true ds) (f ∙ ap (λ x. x ++ compact_text d) e)
    ∙ append_assoc (old ++ comma_if later) (compact_text d) (items_text true ds)
    ∙ append_assoc old (comma_if later) (compact_text d ++ items_text true ds)

-- a member, and the members behind it
pub member_pushed : (old mid new : List ℕ) (later : Bool) (k : List ℕ) (d : Data) (ms : Members)
    → mid ≡ old ++ (comma_if later ++ (quoted k ++ 58 ∷ compact_text d)) → new ≡ mid ++ members_text true ms
    → new ≡ old ++ members_text later (member k d ms)
member_pushed old mid new later k d ms e f =
    f ∙ ap (λ x. x ++ members_text true ms) e ∙ inner old (comma_if later) (quoted k) (compact_text d) (members_text true ms)

-- a member whose value is a list, and the members behind it
pub list_pushed : (old mid most new : List ℕ) (later : Bool) (k : List ℕ) (ds : Items) (ms : Members)
    → mid ≡ old ++ (comma_if later ++ (quoted k ++ 58 ∷ 91 ∷ [])) → most ≡ mid ++ items_text false ds → new ≡ most ++ members_text true ms
    → new ≡ old ++ members_text later (member k (array ds) ms)
list_pushed old mid most new later k ds ms e f g =
    g ∙ ap (λ x. x ++ members_text true ms) (f ∙ ap (λ x. x ++ items_text false ds) e)
    ∙ append_assoc (old ++ (comma_if later ++ (quoted k ++ 58 ∷ 91 ∷ []))) (items_text false ds) (members_text true ms)
    ∙ inner old (comma_if later) (quoted k) (91 ∷ []) (items_text false ds ++ members_text true ms)

-- an object's bracket, its first member, its other members, and a line feed
pub line_pushed : (old mid most new : List ℕ) (k : List ℕ) (d : Data) (ms : Members)
    → mid ≡ old ++ 123 ∷ (quoted k ++ 58 ∷ compact_text d) → most ≡ mid ++ members_text true ms → new ≡ most ++ 10 ∷ []
    → new ≡ old ++ (compact_text (object (member k d ms)) ++ 10 ∷ [])
line_pushed old mid most new k d ms e f g =
    g ∙ ap (λ x. x ++ 10 ∷ [])
    (f ∙ ap (λ x. x ++ members_text true ms) e ∙ append_assoc old (123 ∷ (quoted k ++ 58 ∷ compact_text d)) (members_text true ms)
    ∙ ap (λ x. old ++ 123 ∷ x) (append_assoc (quoted k) (58 ∷ compact_text d) (members_text true ms)))
    ∙ append_assoc old (compact_text (object (member k d ms))) (10 ∷ [])
