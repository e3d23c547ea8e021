-- What tokens define as constants, where these stand at other places.
use Rattle.std.proofs.Common.{◌≡◌, ◌∙◌, ◌∷◌, ◌+◌, ℕ, ℤ, pos, Bool, true, false, cond, List, [], map, take, drop, Option, Some, None}
use Rattle.std.proofs.Common.{if◌then◌else◌}
use Rattle.std.proofs.Common.{not, refl, ap, ap₂}
use Rattle.std.specs.Option.{option_map}
use Rattle.std.proofs.lemmas.List.{take-map, drop-map}
use Rattle.lang_tokens.specs.declared.word.Word as word
use Rattle.lang_tokens.specs.declared.sign.Sign as sign
use Rattle.lang_tokens.specs.declared.token.Aside as aside
use Rattle.lang_tokens.specs.declared.token.Kind as kind
use Rattle.source_tokens.specs.declared.definition.Definition.{Definition}
use Rattle.source_constants.specs.declared.part.Part.{Part}
use Rattle.source_constants.specs.declared.part.Part.TheVariants as part
use Rattle.source_constants.specs.Parts.{sign_part, word_part, aside_part, kind_part}
use Rattle.source_constants.specs.Directives.{number_of}
use Rattle.source_constants.specs.Enumerations.{behind_head, is_closing, is_comma, is_end, inside_len, inside_of, onto_first, parted}
use Rattle.source_constants.specs.Enumerations.{next_behind, defined_as, defining, counted, of_inside, of_body}
use Rattle.source_constants.specs.Enumerations.{of_enumeration}
use Rattle.source_constants.specs.Items.{behind_static, of_const, only_if, of_item}

-- what stands at another place
module _ (to : ℕ → ℕ) where
  -- a definition
  abbrev pub move_definition : Definition → Definition
  move_definition d = record d { at = to d.at }

  -- a part
  abbrev pub move_part : Part → Part
  move_part (part.Name x at) = part.Name x (to at)
  move_part p = p

  -- parts
  abbrev pub move_parts : List Part → List Part
  move_parts ps = map move_part ps

  -- ---- parts of tokens
  word_stays : (w : word.Word) → word_part w ≡ move_part (word_part w)
  word_stays word.TheVariants.Int = refl
  word_stays _ = refl

  sign_stays : (s : sign.Sign) → sign_part s ≡ move_part (sign_part s)
  sign_stays sign.TheVariants.Comma = refl
  sign_stays _ = refl

  aside_stays : (bytes : List ℕ) (at : ℕ) (a : aside.Aside) → aside_part bytes (to at) a ≡ move_part (aside_part bytes at a)
  aside_stays bytes at aside.TheVariants.Name = refl
  aside_stays bytes at (aside.TheVariants.Word w) = word_stays w
  aside_stays bytes at (aside.TheVariants.Number n) = refl
  aside_stays bytes at (aside.TheVariants.Sign s) = sign_stays s
  aside_stays bytes at aside.TheVariants.Hash = refl
  aside_stays bytes at aside.TheVariants.Foreign = refl

  -- a token of these bytes
  pub kind_stays : (bytes : List ℕ) (at : ℕ) (k : kind.Kind) → kind_part bytes (to at) k ≡ move_part (kind_part bytes at k)
  kind_stays bytes at kind.TheVariants.Name = refl
  kind_stays bytes at (kind.TheVariants.Word w) = word_stays w
  kind_stays bytes at (kind.TheVariants.Number n) = refl
  kind_stays bytes at (kind.TheVariants.Sign s) = sign_stays s
  kind_stays bytes at (kind.TheVariants.Aside a) = aside_stays bytes at a
  kind_stays bytes at (kind.TheVariants.Foreign f) = refl
  kind_stays bytes at kind.TheVariants.End = refl

  -- ---- numbers
  -- what `define` gives
  pub number_stays : (ps : List Part) → number_of (move_parts ps) ≡ number_of ps
  number_stays (part.Number n ∷ []) = refl
  number_stays (part.Minus ∷ part.Number n ∷ []) = refl
  number_stays (part.LeftParen ∷ part.Number n ∷ part.RightParen ∷ []) = refl
  number_stays (part.LeftParen ∷ part.Minus ∷ part.Number n ∷ part.RightParen ∷ []) = refl
  number_stays ps = refl

  -- ---- `const int`
  static_stays : (ps : List Part) → behind_static (move_parts ps) ≡ move_parts (behind_static ps)
  static_stays (part.Static ∷ ps) = refl
  static_stays ps = refl

  const_stays : (ps : List Part) → of_const (move_parts ps) ≡ option_map move_definition (of_const ps)
  const_stays (part.Const ∷ part.Int ∷ part.Name x at ∷ part.Assign ∷ part.Number n ∷ part.Semicolon ∷ []) = refl
  const_stays (part.Const ∷ part.Int ∷ part.Name x at ∷ part.Assign ∷ part.Minus ∷ part.Number n ∷ part.Semicolon ∷ []) = refl
  const_stays ps = refl

  -- ---- enumerations
  head_stays : (ps : List Part) → behind_head (move_parts ps) ≡ option_map move_parts (behind_head ps)
  head_stays (part.Enum ∷ part.LeftBrace ∷ ps) = refl
  head_stays (part.Enum ∷ part.Name x at ∷ part.LeftBrace ∷ ps) = refl
  head_stays ps = refl

  closing_stays : (p : Part) → is_closing (move_part p) ≡ is_closing p
  closing_stays part.RightBrace = refl
  closing_stays _ = refl

  comma_stays : (p : Part) → is_comma (move_part p) ≡ is_comma p
  comma_stays part.Comma = refl
  comma_stays _ = refl

  end_stays : (ps : List Part) → is_end (move_parts ps) ≡ is_end ps
  end_stays (part.RightBrace ∷ part.Semicolon ∷ []) = refl
  end_stays ps = refl

  -- how many stand before the first that passes a test
  len_stays : (ps : List Part) → inside_len (move_parts ps) ≡ inside_len ps
  len_stays [] = refl
  len_stays (p ∷ ps) = ap₂ (λ (t : Bool) (n : ℕ). cond (not t) (1 + n) 0) (closing_stays p) (len_stays ps)

  inside_stays : (ps : List Part) → inside_of (move_parts ps) ≡ option_map move_parts (inside_of ps)
  inside_stays ps =
      ap (λ (n : ℕ). if is_end (drop n (move_parts ps)) then Some (take n (move_parts ps)) else None) (len_stays ps)
      ∙ ap₂ (λ (l m : List Part). if is_end l then Some m else None) (drop-map move_part (inside_len ps) ps) (take-map move_part
      (inside_len ps) ps)
      ∙ by_end (is_end (move_parts (drop (inside_len ps) ps))) (is_end (drop (inside_len ps) ps)) (end_stays (drop (inside_len ps) ps))
    where
      by_end : (s t : Bool) → s ≡ t → (if s then Some (move_parts (take (inside_len ps) ps)) else None)
          ≡ option_map move_parts (if t then Some (take (inside_len ps) ps) else None)
      by_end true true e = refl
      by_end false false e = refl
      by_end true false e = cc
      by_end false true e = cc

  onto_stays : (p : Part) (ss : List (List Part)) → onto_first (move_part p) (map move_parts ss) ≡ map move_parts (onto_first p ss)
  onto_stays p [] = refl
  onto_stays p (s ∷ ss) = refl

  parted_stays : (ps : List Part) → parted (move_parts ps) ≡ map move_parts (parted ps)
  parted_stays [] = refl
  parted_stays (p ∷ ps) =
      ap₂ (λ (t : Bool) (ss : List (List Part)). if t then [] ∷ ss else onto_first (move_part p) ss) (comma_stays p) (parted_stays ps)
      ∙ by_comma (is_comma p) where
        by_comma : (t : Bool) → (if t then [] ∷ map move_parts (parted ps) else onto_first (move_part p) (map move_parts (parted ps)))
            ≡ map move_parts (if t then [] ∷ parted ps else onto_first p (parted ps))
        by_comma true = refl
        by_comma false = onto_stays p (parted ps)

  as_stays : (next : Option ℤ) (ps : List Part) → defined_as next (move_parts ps) ≡ option_map move_definition (defined_as next ps)
  as_stays None (part.Name x at ∷ []) = refl
  as_stays (Some v) (part.Name x at ∷ []) = refl
  as_stays next (part.Name x at ∷ part.Assign ∷ part.Number n ∷ []) = refl
  as_stays next (part.Name x at ∷ part.Assign ∷ part.Minus ∷ part.Number n ∷ []) = refl
  as_stays next ps = refl

  defining_stays : (d : Definition) (o : Option (List Definition))
      → defining (move_definition d) (option_map (map move_definition) o) ≡ option_map (map move_definition) (defining d o)
  defining_stays d None = refl
  defining_stays d (Some ds) = refl

  -- behind an enumerator
  counted_on : (o : Option Definition) (f g : Option ℤ → Option (List Definition))
      → ((next : Option ℤ) → f next ≡ option_map (map move_definition) (g next))
      → elim (option_map move_definition o) as (λ z. Option (List Definition))
      [ None ↦ None | Some d ↦ defining d (f (next_behind d.value)) ]
      ≡ option_map (map move_definition) (elim o as (λ z. Option (List Definition))
      [ None ↦ None | Some d ↦ defining d (g (next_behind d.value)) ])
  counted_on None f g h = refl
  counted_on (Some d) f g h =
      ap (λ (o : Option (List Definition)). defining (move_definition d) o) (h (next_behind d.value))
      ∙ defining_stays d (g (next_behind d.value))

  counted_stays : (next : Option ℤ) (ss : List (List Part))
      → counted next (map move_parts ss) ≡ option_map (map move_definition) (counted next ss)
  counted_stays next [] = refl
  counted_stays next ([] ∷ []) = refl
  counted_stays next ([] ∷ s ∷ ss) =
      ap (λ (o : Option Definition). elim o [ None ↦ None | Some d ↦ defining d (counted (next_behind d.value) (map move_parts (s ∷ ss))) ])
      (as_stays next [])
      ∙ counted_on (defined_as next []) _ _ (λ n. counted_stays n (s ∷ ss))
  counted_stays next ((p ∷ ps) ∷ ss) =
      ap (λ (o : Option Definition). elim o [ None ↦ None | Some d ↦ defining d (counted (next_behind d.value) (map move_parts ss)) ])
      (as_stays next (p ∷ ps))
      ∙ counted_on (defined_as next (p ∷ ps)) _ _ (λ n. counted_stays n ss)

  of_inside_stays : (o : Option (List Part)) → of_inside (option_map move_parts o) ≡ option_map (map move_definition) (of_inside o)
  of_inside_stays None = refl
  of_inside_stays (Some ps) =
      ap (λ (ss : List (List Part)). counted (Some (pos 0)) ss) (parted_stays ps) ∙ counted_stays (Some (pos 0)) (parted ps)

  of_body_stays : (o : Option (List Part)) → of_body (option_map move_parts o) ≡ option_map (map move_definition) (of_body o)
  of_body_stays None = refl
  of_body_stays (Some ps) = ap of_inside (inside_stays ps) ∙ of_inside_stays (inside_of ps)

  enumeration_stays : (ps : List Part) → of_enumeration (move_parts ps) ≡ option_map (map move_definition) (of_enumeration ps)
  enumeration_stays ps = ap of_body (head_stays ps) ∙ of_body_stays (behind_head ps)

  only_stays : (o : Option Definition) → only_if (option_map move_definition o) ≡ map move_definition (only_if o)
  only_stays None = refl
  only_stays (Some d) = refl

  -- what an item gives
  pub item_stays : (ps : List Part) → of_item (move_parts ps) ≡ map move_definition (of_item ps)
  item_stays ps =
      ap₂ (λ (o : Option (List Definition)) (l : List Definition). elim o [ None ↦ l | Some ds ↦ ds ]) (enumeration_stays ps)
      (ap (λ (l : List Part). only_if (of_const l)) (static_stays ps) ∙ ap only_if (const_stays (behind_static ps))
      ∙ only_stays (of_const (behind_static ps)))
      ∙ by_enumeration (of_enumeration ps) where
        by_enumeration : (o : Option (List Definition))
            → elim (option_map (map move_definition) o) as (λ z. List Definition)
            [ None ↦ map move_definition (only_if (of_const (behind_static ps))) | Some ds ↦ ds ]
            ≡ map move_definition (elim o as (λ z. List Definition) [ None ↦ only_if (of_const (behind_static ps)) | Some ds ↦ ds ])
        by_enumeration None = refl
        by_enumeration (Some ds) = refl
