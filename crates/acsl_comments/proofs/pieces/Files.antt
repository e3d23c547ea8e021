-- The functions of a file whose tokens stand at other places.
use Rattle.std.proofs.Common.{◌≡◌, ◌∙◌, ◌∷◌, ◌++◌, Bool, true, false, cond, ℕ, zero, suc, List, [], Option, Some, None, map, codes, refl}
use Rattle.std.proofs.Common.{ap}
use Rattle.std.specs.List.{list_any, slice_get}
use Rattle.std.specs.Str.{bytes_eq}
use Rattle.lang_tokens.specs.declared.token.Token.{Token}
use Rattle.lang_tokens.specs.declared.token.Kind as lex_kind
use Rattle.lang_tokens.specs.declared.token.Kind.TheVariants as kind
use Rattle.lang_tokens.specs.declared.word.Word.TheVariants.{Main}
use Rattle.source_items.specs.declared.mark.Mark.{Mark}
use Rattle.source_items.specs.declared.item.Item.{Item}
use Rattle.source_tokens.specs.View.{bytes_of, mark_of, marks_of}
use Rattle.source_file.specs.Choice.{repeated, named, only, or_else, chosen}
use Rattle.source_file.specs.Functions.{named_by, defined_by, functions_of}
use Rattle.source_file.specs.declared.functions.Defined.{Defined}
use Rattle.acsl_comments.specs.Law.{token_moved_by}
use Rattle.acsl_comments.specs.Texts.{moved_by}
use Rattle.acsl_comments.specs.declared.comment.Comment.{Comment}

module _ (comments : List Comment) where
  -- a function whose name stands at another place
  abbrev pub move_defined : Defined → Defined
  move_defined d = record d { at = moved_by comments d.at }

  -- an option of it
  abbrev pub move_option : Option Defined → Option Defined
  move_option None = None
  move_option (Some d) = Some (move_defined d)

  -- Tokens are the same to the division of a file.
  pub same_marks : (ts : List Token) → marks_of (map (token_moved_by comments) ts) ≡ marks_of ts
  same_marks [] = refl
  same_marks (t ∷ ts) = ap (λ (ms : List Mark). mark_of t ∷ ms) (same_marks ts)

  module _ (text written : List ℕ) where
    -- the same bytes in the text with the comments
    abbrev pub SameBytes : List Token → Type 0
    SameBytes [] = Unit {0}
    SameBytes (t ∷ ts) = (bytes_of written (token_moved_by comments t) ≡ bytes_of text t) × SameBytes ts

    -- what a token names
    named_moved : (item : Item) (t : Token) → bytes_of written (token_moved_by comments t) ≡ bytes_of text t
        → named_by written item (token_moved_by comments t) ≡ move_option (named_by text item t)
    named_moved item t e = by_kind t.kind where
      one : (let d : Defined = record {
        name = bytes_of written (token_moved_by comments t);
        at = moved_by comments t.at;
        first = item.first;
        end = item.end;
      } in Some d)
          ≡ (let d : Defined = record { name = bytes_of text t; at = moved_by comments t.at; first = item.first; end = item.end } in Some d)
      one = ap
          (λ (x : List ℕ). let d : Defined = record { name = x; at = moved_by comments t.at; first = item.first; end = item.end } in Some d)
          e

      by_kind : (k : lex_kind.Kind) → named_by written item (record { kind = k; at = moved_by comments t.at; len = t.len })
          ≡ move_option (named_by text item (record { kind = k; at = t.at; len = t.len }))
      by_kind kind.Name = one
      by_kind (kind.Word Main) = one
      by_kind (kind.Word w) = refl
      by_kind (kind.Number n) = refl
      by_kind (kind.Sign s) = refl
      by_kind (kind.Foreign f) = refl
      by_kind (kind.Aside a) = refl
      by_kind kind.End = refl

    -- what the token of a number names
    at_moved : (item : Item) (ts : List Token) → SameBytes ts → (i : ℕ)
        → elim (slice_get (map (token_moved_by comments) ts) i) as (λ z. Option Defined) [ None ↦ None | Some t ↦ named_by written item t ]
        ≡ move_option (elim (slice_get ts i) as (λ z. Option Defined) [ None ↦ None | Some t ↦ named_by text item t ])
    at_moved item [] h i = refl
    at_moved item (t ∷ ts) h zero = named_moved item t h.0
    at_moved item (t ∷ ts) h (suc i) = at_moved item ts h.1 i

    module _ (ts : List Token) (same : SameBytes ts) where
      -- the function that an item is
      defined_moved : (item : Item)
          → defined_by written (map (token_moved_by comments) ts) item ≡ move_option (defined_by text ts item)
      defined_moved item = by_name item.name where
        by_name : (o : Option ℕ) → elim o as (λ z. Option Defined) [
          | None ↦ None
          | Some i ↦ elim (slice_get (map (token_moved_by comments) ts) i) as (λ z. Option Defined)
              [ None ↦ None | Some t ↦ named_by written item t ]
        ] ≡ move_option (elim o as (λ z. Option Defined) [
          | None ↦ None
          | Some i ↦ elim (slice_get ts i) as (λ z. Option Defined) [ None ↦ None | Some t ↦ named_by text item t ]
        ])
        by_name None = refl
        by_name (Some i) = at_moved item ts same i

      -- the functions of items
      pub functions_moved : (items : List Item)
          → functions_of written (map (token_moved_by comments) ts) items ≡ map move_defined (functions_of text ts items)
      functions_moved [] = refl
      functions_moved (item ∷ items) =
          ap (λ (o : Option Defined). put_before o (functions_of written (map (token_moved_by comments) ts) items)) (defined_moved item)
          ∙ by_defined (defined_by text ts item) (functions_moved items) where
            put_before : Option Defined → List Defined → List Defined
            put_before o rest = elim o as (λ z. List Defined) [ None ↦ rest | Some d ↦ d ∷ rest ]

            by_defined : (o : Option Defined) → functions_of written (map (token_moved_by comments) ts) items
                ≡ map move_defined (functions_of text ts items)
                → put_before (move_option o) (functions_of written (map (token_moved_by comments) ts) items)
                ≡ map move_defined (put_before o (functions_of text ts items))
            by_defined None e = e
            by_defined (Some d) e = ap (λ (rest : List Defined). move_defined d ∷ rest) e

  -- Names that don't stand twice don't at other places.
  pub none_repeated : (before : List (List ℕ)) (ds : List Defined) → repeated before ds ≡ None
      → repeated before (map move_defined ds) ≡ None
  none_repeated before [] e = refl
  none_repeated before (d ∷ ds) e =
      by_test (list_any (bytes_eq d.name) before) (λ h. none_repeated (before ++ d.name ∷ []) ds h) e where
        by_test : (t : Bool)
            → (repeated (before ++ d.name ∷ []) ds ≡ None → repeated (before ++ d.name ∷ []) (map move_defined ds) ≡ None)
            → cond t (Some d.at) (repeated (before ++ d.name ∷ []) ds) ≡ None
            → cond t (Some (moved_by comments d.at)) (repeated (before ++ d.name ∷ []) (map move_defined ds)) ≡ None
        by_test true rest h = cc
        by_test false rest h = rest h

  -- The function of a name is the same one.
  named_option : (x : List ℕ) (ds : List Defined) → named x (map move_defined ds) ≡ move_option (named x ds)
  named_option x [] = refl
  named_option x (d ∷ ds) = by_test (bytes_eq x d.name) (named_option x ds) where
    by_test : (t : Bool) → named x (map move_defined ds) ≡ move_option (named x ds)
        → cond t (Some (move_defined d)) (named x (map move_defined ds)) ≡ move_option (cond t (Some d) (named x ds))
    by_test true rest = refl
    by_test false rest = rest

  -- So is the only one,
  only_option : (ds : List Defined) → only (map move_defined ds) ≡ move_option (only ds)
  only_option [] = refl
  only_option (d ∷ []) = refl
  only_option (d ∷ e ∷ ds) = refl

  -- and that which is asked about.
  pub chosen_option : (asked : Option (List ℕ)) (ds : List Defined) → chosen asked (map move_defined ds) ≡ move_option (chosen asked ds)
  chosen_option (Some x) ds = named_option x ds
  chosen_option None ds =
      ap (λ (o : Option Defined). or_else o (only (map move_defined ds))) (named_option (codes "main") ds)
      ∙ by_named (named (codes "main") ds) where
        by_named : (o : Option Defined) → or_else (move_option o) (only (map move_defined ds)) ≡ move_option (or_else o (only ds))
        by_named (Some d) = refl
        by_named None = only_option ds
