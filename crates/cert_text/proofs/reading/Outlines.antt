-- The outline of a certificate has its keys and its format.
use Rattle.std.proofs.Common.{◌≡◌, suc, ℕ, List, Option, Some, None, Ordering, Less, Equal, Greater}
use Rattle.std.proofs.Common.{nat_cmp, refl, sym, ap, ◌∙◌, codes, Result, Ok, Err}
use Rattle.std.specs.Prelude.{⊤, is_some, option_and_then, option_map}
use Rattle.std.specs.Ordering.{match_ordering}
use Rattle.std.specs.Cmp.Lexicographic.{slice_cmp}
use Rattle.serde_json.specs.Data.{Data, Members, array, boolean, member, no_members, null, number, object, string}
use Rattle.serde_json.specs.Events.{members_len}
use Rattle.serde_json.specs.Find.{as_number, as_u64, get, get_member}
use Rattle.base_values.specs.Outline.{flat, flat_members, outline_of}
use Rattle.cert_written.specs.declared.cert.Cert.{Cert}
use Rattle.cert_text.specs.declared.fault.FormFault.{FormFault}
use Rattle.cert_text.specs.Certificates.{and_then, cert_in, fields_in, format_in, has_key, has_traces, is_sparse_form, is_this, is_top}
use Rattle.cert_text.specs.Certificates.{natural_format, top_in}
use Rattle.cert_text.specs.Keys.{member_count}

flat_member : (k : List ℕ) (ms : Members) → get_member k (flat_members ms) ≡ option_map flat (get_member k ms)
flat_member k no_members = refl
flat_member k (member l e ms) = by (slice_cmp nat_cmp k l) (flat_member k ms)
  where
    by : (o : Ordering) → get_member k (flat_members ms) ≡ option_map flat (get_member k ms)
        → match_ordering o (get_member k (flat_members ms)) (Some (flat e)) (get_member k (flat_members ms))
        ≡ option_map flat (match_ordering o (get_member k ms) (Some e) (get_member k ms))
    by Less h = h
    by Equal h = refl
    by Greater h = h

flat_get : (k : List ℕ) (d : Data) → get k (outline_of d) ≡ option_map flat (get k d)
flat_get k null = refl
flat_get k (boolean b) = refl
flat_get k (number n) = refl
flat_get k (string s) = refl
flat_get k (array ds) = refl
flat_get k (object ms) = flat_member k ms

flat_len : (ms : Members) → members_len (flat_members ms) ≡ members_len ms
flat_len no_members = refl
flat_len (member k d ms) = ap suc (flat_len ms)

same_count : (d : Data) → member_count (outline_of d) ≡ member_count d
same_count null = refl
same_count (boolean b) = refl
same_count (number n) = refl
same_count (string s) = refl
same_count (array ds) = refl
same_count (object ms) = flat_len ms

same_key : (k : List ℕ) (d : Data) → has_key k (outline_of d) ≡ has_key k d
same_key k d = ap is_some (flat_get k d) ∙ by (get k d)
  where
    by : (o : Option Data) → is_some (option_map flat o) ≡ is_some o
    by None = refl
    by (Some e) = refl

same_number : (d : Data) → as_number (flat d) ≡ as_number d
same_number null = refl
same_number (boolean b) = refl
same_number (number n) = refl
same_number (string s) = refl
same_number (array ds) = refl
same_number (object ms) = refl

number_at : (k : List ℕ) (d : Data) → option_and_then as_number (get k (outline_of d)) ≡ option_and_then as_number (get k d)
number_at k d = ap (option_and_then as_number) (flat_get k d) ∙ by (get k d)
  where
    by : (o : Option Data) → option_and_then as_number (option_map flat o) ≡ option_and_then as_number o
    by None = refl
    by (Some e) = same_number e

same_format : (d : Data) → natural_format (outline_of d) ≡ natural_format d
same_format d = ap (option_and_then as_u64) (number_at (codes "format") d)

same_traces : (d : Data) → has_traces (outline_of d) ≡ has_traces d
same_traces d = rw (same_count d, same_key (codes "traces") d)

same_top : (d : Data) → is_top (outline_of d) ≡ is_top d
same_top d = rw (
  same_count d,
  same_key (codes "traces") d,
  same_key (codes "bounds") d,
  same_key (codes "format") d,
  same_key (codes "rows") d,
  same_key (codes "steps") d,
  same_key (codes "uppers") d,
)

same_test : (d : Data) → format_in (outline_of d) ≡ format_in d
same_test d = rw (same_traces d, same_format d, number_at (codes "format") d)

module _ (o d : Data) (is : o ≡ outline_of d) where
  -- it tells whether traces are listed
  pub listed_by : has_traces o ≡ has_traces d
  listed_by = ap has_traces is ∙ same_traces d

  sparse_by : is_sparse_form o ≡ is_sparse_form d
  sparse_by = ap is_sparse_form is ∙ ap (λ (n : Option ℕ). is_this 3 n) (same_format d)

  tested_by : and_then (top_in o) (λ _. format_in o) ≡ and_then (top_in d) (λ _. format_in d)
  tested_by = ap (λ (e : Data). and_then (top_in e) (λ _. format_in e)) is
      ∙ rw (same_top d, same_test d)

  passed : (a : Result ⊤ FormFault) (b : Result ⊤ FormFault) (next : Result Cert FormFault) → Ok tt ≡ and_then a (λ _. b)
      → and_then a (λ _. and_then b (λ _. next)) ≡ next
  passed (Ok x) (Ok y) next e = refl
  passed (Ok x) (Err f) next e = absurd cc
  passed (Err f) b next e = absurd cc

  failed : (a : Result ⊤ FormFault) (b : Result ⊤ FormFault) (next : Result Cert FormFault) (fault : FormFault)
      → Err fault ≡ and_then a (λ _. b) → and_then a (λ _. and_then b (λ _. next)) ≡ Err fault
  failed (Ok x) (Ok y) next fault e = absurd cc
  failed (Ok x) (Err f) next fault e = cc
  failed (Err f) b next fault e = cc

  -- where the outline passes, the fields alone decide
  pub cert_passed : Ok tt ≡ and_then (top_in o) (λ _. format_in o) → cert_in d ≡ fields_in (is_sparse_form o) d
  cert_passed e =
      passed (top_in d) (format_in d) (fields_in (is_sparse_form d) d) (e ∙ tested_by) ∙ ap (λ b. fields_in b d) (sym sparse_by)

  -- and where it is refused, so is the certificate
  pub cert_failed : (fault : FormFault) → Err fault ≡ and_then (top_in o) (λ _. format_in o) → cert_in d ≡ Err fault
  cert_failed fault e = failed (top_in d) (format_in d) (fields_in (is_sparse_form d) d) fault (e ∙ tested_by)
