-- The tokens of a file's functions.
use Rattle.std.proofs.Common.{◌≡◌, ◌∙◌, ◌≤◌, ◌-◌, ℕ, ℤ, Bool, true, false, List, [], ◌∷◌, Option, Some, None, length}
use Rattle.std.proofs.Common.{map, take, drop, refl, sym, ap, ap₂, subst, codes, cond}
use Rattle.std.specs.Prelude.{slice_range}
use Rattle.std.specs.List.{All, slice_get}
use Rattle.std.specs.Str.{bytes_eq}
use Rattle.std.proofs.lemmas.List.{take-map, drop-map, length-map}
use Rattle.lang_tokens.specs.declared.word.Word.{Word}
use Rattle.lang_tokens.specs.declared.word.Word.TheVariants.{Main}
use Rattle.lang_tokens.specs.declared.sign.Sign.{Sign}
use Rattle.lang_tokens.specs.declared.sign.Sign.TheVariants.{LeftParen}
use Rattle.lang_tokens.specs.declared.token.Kind as lex_kind
use Rattle.lang_tokens.specs.declared.token.Token as lex_token
use Rattle.source_items.specs.declared.mark.Mark.{Mark}
use Rattle.source_items.specs.declared.item.Item.{Item}
use Rattle.source_items.specs.Divisions.{IsDivided}
use Rattle.source_grammar.specs.Faults.{Finds, short}
use Rattle.source_tokens.specs.declared.definition.Definition.{Definition}
use Rattle.source_tokens.specs.Constants.{constant_at}
use Rattle.source_tokens.specs.View.{sign_kind, word_kind, kind_of, tokens_of, sign_mark, word_mark, mark_of, marks_of, bytes_of}
use Rattle.source_constants.specs.Items.{IsItemOf}
use Rattle.source_file.specs.declared.functions.Defined.{Defined}
use Rattle.source_file.specs.Functions.{function_at, if_main, named_by, defined_by, functions_of}
use Rattle.source_file.specs.Choice.{named, only, or_else, chosen}
use Rattle.source_file.specs.Meaning.{item_of}
use Rattle.source_file.proofs.wholes.Turns.{Turn, kind_turn, mark_turn, turns, twice}
use Rattle.source_file.proofs.wholes.Spelled.{never_short}
use Rattle.source_file.proofs.wholes.Parts.{IsBody, AllBodies, divided_among, divided_bodies}

-- ---- tokens and marks open and close the same

sign_turn : (s : Sign) → kind_turn (sign_kind s) ≡ mark_turn (sign_mark s)
sign_turn LeftParen = refl
sign_turn s = refl

word_turn : (w : Word) → kind_turn (word_kind w) ≡ mark_turn (word_mark w)
word_turn Main = refl
word_turn w = refl

token_turn : (bytes : List ℕ) (v : Option ℤ) (k : lex_kind.Kind) (at len : ℕ)
    → kind_turn (kind_of bytes v k) ≡ mark_turn (mark_of (record { kind = k; at = at; len = len }))
token_turn bytes v (lex_kind.TheVariants.Word w) at len = word_turn w
token_turn bytes v lex_kind.TheVariants.Name at len = refl
token_turn bytes v (lex_kind.TheVariants.Number n) at len = refl
token_turn bytes v (lex_kind.TheVariants.Sign s) at len = sign_turn s
token_turn bytes v (lex_kind.TheVariants.Foreign sort) at len = refl
token_turn bytes v (lex_kind.TheVariants.Aside aside) at len = refl
token_turn bytes v lex_kind.TheVariants.End at len = refl

turns_are : (definitions : List Definition) (text : List ℕ) (ts : List lex_token.Token)
    → turns (tokens_of definitions text ts) ≡ map mark_turn (marks_of ts)
turns_are definitions text [] = refl
turns_are definitions text (t ∷ ts) =
    ap₂ (λ (x : Turn) (y : List Turn). x ∷ y)
    (token_turn (bytes_of text t) (constant_at definitions (bytes_of text t) t.at) t.kind t.at t.len) (turns_are definitions text ts)

range_marks : (ts : List lex_token.Token) (a b : ℕ) → slice_range (marks_of ts) a b ≡ marks_of (slice_range ts a b)
range_marks ts a b =
    ap (λ (x : List Mark). take (b - a) x) (drop-map mark_of a ts) ∙ take-map mark_of (b - a) (drop a ts)

-- ---- each function of a file

-- the tokens of a function are there, and its brackets end with it
abbrev pub IsWhole : List lex_token.Token → Defined → Type 0
IsWhole ts d = IsBody (marks_of ts) d.first d.end

abbrev pub AllWhole : List lex_token.Token → List Defined → Type 0
AllWhole ts [] = Unit {0}
AllWhole ts (d ∷ ds) = IsWhole ts d × AllWhole ts ds

-- a function that was found stands where its item does
record IsFrom (item : Item) (d : Defined) : Type 0 where
  index : ℕ
  name : item.name ≡ Some index
  first : d.first ≡ item.first
  end : d.end ≡ item.end

no_function : {A : Type 0} (d : Defined) → (let o : Option Defined = None in o ≡ Some d) → A
no_function d e = cc

some_function : (c d : Defined) → (let o : Option Defined = Some c in o ≡ Some d) → c ≡ d
some_function c d e = cc

from_this : (text : List ℕ) (item : Item) (t : lex_token.Token) (index : ℕ) (d : Defined) → item.name ≡ Some index
    → (let o : Option Defined = Some (function_at text item t) in o ≡ Some d) → IsFrom item d
from_this text item t index d n e =
    subst (IsFrom item) (some_function (function_at text item t) d e) record { index = index; name = n; first = refl; end = refl }

from_word : (text : List ℕ) (item : Item) (t : lex_token.Token) (index : ℕ) (d : Defined) (w : Word) → item.name ≡ Some index
    → if_main w (function_at text item t) ≡ Some d → IsFrom item d
from_word text item t index d Main n e = from_this text item t index d n e
from_word text item t index d w n e = no_function d e

from_kind : (text : List ℕ) (item : Item) (k : lex_kind.Kind) (at len index : ℕ) (d : Defined) → item.name ≡ Some index
    → named_by text item (record { kind = k; at = at; len = len }) ≡ Some d → IsFrom item d
from_kind text item lex_kind.TheVariants.Name at len index d n e =
    from_this text item (record { kind = lex_kind.TheVariants.Name; at = at; len = len }) index d n e
from_kind text item (lex_kind.TheVariants.Word w) at len index d n e =
    from_word text item (record { kind = lex_kind.TheVariants.Word w; at = at; len = len }) index d w n e
from_kind text item (lex_kind.TheVariants.Number m) at len index d n e = no_function d e
from_kind text item (lex_kind.TheVariants.Sign s) at len index d n e = no_function d e
from_kind text item (lex_kind.TheVariants.Foreign sort) at len index d n e = no_function d e
from_kind text item (lex_kind.TheVariants.Aside aside) at len index d n e = no_function d e
from_kind text item lex_kind.TheVariants.End at len index d n e = no_function d e

from_token : (text : List ℕ) (item : Item) (o : Option lex_token.Token) (index : ℕ) (d : Defined) → item.name ≡ Some index
    → elim o as (λ x. Option Defined) [ None ↦ None | Some t ↦ named_by text item t ] ≡ Some d → IsFrom item d
from_token text item None index d n e = no_function d e
from_token text item (Some t) index d n e = from_kind text item t.kind t.at t.len index d n e

from_name : (text : List ℕ) (ts : List lex_token.Token) (item : Item) (o : Option ℕ) (d : Defined) → item.name ≡ o
    → elim o as (λ x. Option Defined)
    [ None ↦ None | Some index ↦ elim (slice_get ts index) [ None ↦ None | Some t ↦ named_by text item t ] ] ≡ Some d
    → IsFrom item d
from_name text ts item None d n e = no_function d e
from_name text ts item (Some index) d n e = from_token text item (slice_get ts index) index d n e

whole_by : (marks : List Mark) (item : Item) (d : Defined) → IsFrom item d
    → ((n : ℕ) → item.name ≡ Some n → IsBody marks item.first item.end) → IsBody marks d.first d.end
whole_by marks item d f h =
    subst (λ n. IsBody marks n d.end) (sym f.first) (subst (IsBody marks item.first) (sym f.end) (h f.index f.name))

functions_whole : (text : List ℕ) (ts : List lex_token.Token) (items : List Item) → AllBodies (marks_of ts) items
    → AllWhole ts (functions_of text ts items)
functions_whole text ts [] h = tt
functions_whole text ts (item ∷ items) h = on (defined_by text ts item) refl (functions_whole text ts items h.1) where
  on : (o : Option Defined) → defined_by text ts item ≡ o → AllWhole ts (functions_of text ts items)
      → AllWhole ts (elim o [ None ↦ functions_of text ts items | Some d ↦ d ∷ functions_of text ts items ])
  on None e rest = rest
  on (Some d) e rest = (whole_by (marks_of ts) item d (from_name text ts item item.name d refl e) h.0, rest)

-- the functions of a file
pub all_whole : (text : List ℕ) (ts : List lex_token.Token) (items : List Item) → IsDivided (marks_of ts) items
    → AllWhole ts (functions_of text ts items)
all_whole text ts items d = functions_whole text ts items (divided_bodies (marks_of ts) items d)

found_whole : (ts : List lex_token.Token) (x : List ℕ) (ds : List Defined) (d : Defined) → AllWhole ts ds
    → named x ds ≡ Some d → IsWhole ts d
found_whole ts x [] d h e = no_function d e
found_whole ts x (c ∷ ds) d h e = on (bytes_eq x c.name) (λ i. found_whole ts x ds d h.1 i) e where
  on : (b : Bool) → (named x ds ≡ Some d → IsWhole ts d) → cond b (Some c) (named x ds) ≡ Some d → IsWhole ts d
  on true f e = subst (IsWhole ts) (some_function c d e) h.0
  on false f e = f e

only_whole : (ts : List lex_token.Token) (ds : List Defined) (d : Defined) → AllWhole ts ds → only ds ≡ Some d → IsWhole ts d
only_whole ts [] d h e = no_function d e
only_whole ts (c ∷ []) d h e = subst (IsWhole ts) (some_function c d e) h.0
only_whole ts (b ∷ c ∷ ds) d h e = no_function d e

-- the function that is meant
pub chosen_whole : (ts : List lex_token.Token) (asked : Option (List ℕ)) (ds : List Defined) (d : Defined) → AllWhole ts ds
    → chosen asked ds ≡ Some d → IsWhole ts d
chosen_whole ts (Some x) ds d h e = found_whole ts x ds d h e
chosen_whole ts None ds d h e = on (named (codes "main") ds) refl e where
  on : (o : Option Defined) → named (codes "main") ds ≡ o → or_else o (only ds) ≡ Some d → IsWhole ts d
  on None i e = only_whole ts ds d h e
  on (Some c) i e = subst (IsWhole ts) (some_function c d e) (found_whole ts (codes "main") ds c h i)

-- a whole function never ends too early
pub whole_never_short : (definitions : List Definition) (text : List ℕ) (ts : List lex_token.Token) (d : Defined) → IsWhole ts d
    → Finds short (tokens_of definitions text (item_of ts d)) → ⊥
whole_never_short definitions text ts d h f =
    never_short (tokens_of definitions text (item_of ts d))
    (ap twice (turns_are definitions text (item_of ts d) ∙ ap (λ (x : List Mark). map mark_turn x) (sym (range_marks ts d.first d.end)))
    ∙ h.closed) f

-- its tokens are there
pub whole_within : (ts : List lex_token.Token) (d : Defined) → IsWhole ts d → d.end ≤ length ts
whole_within ts d h = subst (λ n. d.end ≤ n) (length-map ts mark_of) h.within

-- the items of a file are among its tokens
pub items_among : (ts : List lex_token.Token) (items : List Item) → IsDivided (marks_of ts) items → All (IsItemOf ts) items
items_among ts items d =
    divided_among (marks_of ts) items (IsItemOf ts)
    (λ item order within. record { order = order; within = subst (λ n. item.end ≤ n) (length-map ts mark_of) within }) d
