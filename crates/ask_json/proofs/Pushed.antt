-- What is appended piece by piece is the text of the whole: objects, and lines of objects that begin with a list.
use Rattle.std.proofs.Common.{◌≡◌, ◌∙◌, ◌++◌, ◌∷◌, [], ℕ, Bool, false, true, List, sym, ap, append_assoc}
use Rattle.json.specs.Print.{quoted}
use Rattle.serde_json.specs.Data.{Data, array, object, Items, Members, member}
use Rattle.serde_json.specs.Written.{comma_if, compact_text, items_text, members_text}
use Rattle.ask_json.specs.Sarif.{only}

-- an object's bracket, and its members
pub object_pushed : (old mid new : List ℕ) (ms : Members) → mid ≡ old ++ 123 ∷ [] → new ≡ mid ++ members_text false ms
    → new ≡ old ++ compact_text (object ms)
object_pushed old mid new ms e f =
    f ∙ ap (λ x. x ++ members_text false ms) e ∙ append_assoc old (123 ∷ []) (members_text false ms)

-- an object's bracket, its one member, and the bracket that closes it
pub only_pushed : (old a b c new : List ℕ) (k : List ℕ) (d : Data) → a ≡ old ++ 123 ∷ []
    → b ≡ a ++ (comma_if false ++ (quoted k ++ 58 ∷ [])) → c ≡ b ++ compact_text d → new ≡ c ++ 125 ∷ []
    → new ≡ old ++ compact_text (only k d)
only_pushed old a b c new k d e f g h =
    let q = quoted k in
    let t = compact_text d in
    h ∙ ap (λ x. x ++ 125 ∷ []) (g ∙ ap (λ x. x ++ t) (f ∙ ap (λ x. x ++ (q ++ 58 ∷ [])) e))
    ∙ append_assoc (old ++ 123 ∷ [] ++ (q ++ 58 ∷ [])) t (125 ∷ [])
    ∙ append_assoc (old ++ 123 ∷ []) (q ++ 58 ∷ []) (t ++ 125 ∷ [])
    ∙ append_assoc old (123 ∷ []) (q ++ 58 ∷ [] ++ (t ++ 125 ∷ []))
    ∙ ap (λ x. old ++ 123 ∷ x) (append_assoc q (58 ∷ []) (t ++ 125 ∷ []))

-- an object's bracket, its first member, which is a list, and its other members with a line feed
pub line_pushed : (old a b c new : List ℕ) (k : List ℕ) (ds : Items) (ms : Members) → a ≡ old ++ 123 ∷ []
    → b ≡ a ++ (comma_if false ++ (quoted k ++ 58 ∷ 91 ∷ [])) → c ≡ b ++ items_text false ds → new ≡ c ++ (members_text true ms ++ 10 ∷ [])
    → new ≡ old ++ (compact_text (object (member k (array ds) ms)) ++ 10 ∷ [])
line_pushed old a b c new k ds ms e f g h =
    let q = quoted k in
    let i = items_text false ds in
    let m = members_text true ms in
    let end = m ++ 10 ∷ [] in
    h ∙ ap (λ x. x ++ end) (g ∙ ap (λ x. x ++ i) (f ∙ ap (λ x. x ++ (q ++ 58 ∷ 91 ∷ [])) e))
    ∙ append_assoc (old ++ 123 ∷ [] ++ (q ++ 58 ∷ 91 ∷ [])) i end
    ∙ append_assoc (old ++ 123 ∷ []) (q ++ 58 ∷ 91 ∷ []) (i ++ end)
    ∙ append_assoc old (123 ∷ []) (q ++ 58 ∷ 91 ∷ [] ++ (i ++ end))
    ∙ ap (λ x. old ++ 123 ∷ x) (append_assoc q (58 ∷ 91 ∷ []) (i ++ end) ∙ ap (λ x. q ++ 58 ∷ 91 ∷ x) (sym (append_assoc i m (10 ∷ [])))
    ∙ sym (append_assoc q (58 ∷ 91 ∷ (i ++ m)) (10 ∷ [])))

-- a key, and the value behind it
pub keyed_pushed : (old mid new : List ℕ) (later : Bool) (k t : List ℕ) → mid ≡ old ++ (comma_if later ++ (quoted k ++ 58 ∷ []))
    → new ≡ mid ++ t → new ≡ old ++ (comma_if later ++ (quoted k ++ 58 ∷ t))
keyed_pushed old mid new later k t e f =
    f ∙ ap (λ x. x ++ t) e ∙ append_assoc old (comma_if later ++ (quoted k ++ 58 ∷ [])) t
    ∙ ap (λ x. old ++ x) (append_assoc (comma_if later) (quoted k ++ 58 ∷ []) t
    ∙ ap (λ x. comma_if later ++ x) (append_assoc (quoted k) (58 ∷ []) t))
