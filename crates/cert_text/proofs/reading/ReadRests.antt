-- A certificate is read field by field.
use Rattle.std.proofs.Common.{◌≡◌, ℕ, Bool, List, Option, Result, Ok, Err, ap, ◌∙◌}
use Rattle.std.specs.Prelude.{length, map}
use Rattle.serde_json.specs.Data.{Data}
use Rattle.base_numbers.specs.Extended.{Ext as Extended}
use Rattle.base_fractions.specs.Extended.{extended}
use Rattle.base_fractions.specs.declared.ext.Ext.{Ext}
use Rattle.cert_written.specs.declared.trace.Trace.{Trace}
use Rattle.cert_written.specs.declared.cert.Cert.{Cert}
use Rattle.cert_written.specs.declared.entries.Entries.{Entries}
use Rattle.cert_written.specs.declared.step.Step.{Step}
use Rattle.cert_written.specs.declared.upper.Upper.{Upper}
use Rattle.cert_text.specs.declared.fault.FormFault.{FormFault}
use Rattle.cert_text.specs.BoundLines.{joined}
use Rattle.cert_text.specs.Certificates.{and_then, bounds_in, fields_in, rest_in, rows_in, step_setting, traces_in}

-- what follows a first part that is read
pub then_ok : {A B : Type 0} (r : Result A FormFault) (x : A) (next : A → Result B FormFault) (y : Result B FormFault) → r ≡ Ok x
    → next x ≡ y → and_then r next ≡ y
then_ok r x next y e f = ap (λ r. and_then r next) e ∙ f

-- and one that is refused
then_err : {A B : Type 0} (r : Result A FormFault) (f : FormFault) (next : A → Result B FormFault) → r ≡ Err f → and_then r next ≡ Err f
then_err r f next e = ap (λ r. and_then r next) e

-- a certificate is read field by field, where the first field is read
module _ (sparse : Bool) (d : Data) (rows : List Entries) (n : ℕ) (rows_read : rows_in sparse d ≡ Ok rows) (long : length rows ≡ n) where
  from_rows : (y : Result Cert FormFault) → and_then (bounds_in (length rows) d)
      (λ (lines : List (List Ext)). and_then (traces_in sparse d) (λ (traces : Option (List Trace)).
      and_then (rest_in sparse (step_setting (length rows) traces) d) (λ (rest : List Step × List Upper).
      let c : Cert = record { rows = rows; bounds = map extended (joined lines); steps = rest.0; uppers = rest.1 } in Ok c))) ≡ y
      → fields_in sparse d ≡ y
  from_rows y e = then_ok (rows_in sparse d) rows _ y rows_read e

  -- where the bounds are refused, the certificate is refused so
  pub cert_no_lines : (f : FormFault) → bounds_in n d ≡ Err f → fields_in sparse d ≡ Err f
  cert_no_lines f e = from_rows (Err f) (then_err (bounds_in (length rows) d) f _ (ap (λ k. bounds_in k d) long ∙ e))

  module _ (lines : List (List Ext)) (lines_read : bounds_in n d ≡ Ok lines) where
    lines_here : bounds_in (length rows) d ≡ Ok lines
    lines_here = ap (λ k. bounds_in k d) long ∙ lines_read

    -- where the traces are refused, the certificate is refused so
    pub cert_no_traces : (f : FormFault) → traces_in sparse d ≡ Err f → fields_in sparse d ≡ Err f
    cert_no_traces f e =
        from_rows (Err f) (then_ok (bounds_in (length rows) d) lines _ (Err f) lines_here (then_err (traces_in sparse d) f _ e))

    module _ (traces : Option (List Trace)) (traces_read : traces_in sparse d ≡ Ok traces) where
      rest_here : (r : Result (List Step × List Upper) FormFault) → rest_in sparse (step_setting n traces) d ≡ r
          → rest_in sparse (step_setting (length rows) traces) d ≡ r
      rest_here r e = ap (λ k. rest_in sparse (step_setting k traces) d) long ∙ e

      -- where the steps or the evidence are refused, the certificate is refused so
      pub cert_no_rest : (f : FormFault) → rest_in sparse (step_setting n traces) d ≡ Err f → fields_in sparse d ≡ Err f
      cert_no_rest f e =
          from_rows (Err f) (then_ok (bounds_in (length rows) d) lines _ (Err f) lines_here
          (then_ok (traces_in sparse d) traces _ (Err f) traces_read
          (then_err (rest_in sparse (step_setting (length rows) traces) d) f _ (rest_here (Err f) e))))

      -- where all fields are read, the certificate is that of these fields
      pub cert_read : (steps : List Step) (uppers : List Upper) (r : List Entries) (b : List Extended) (s : List Step) (p : List Upper)
          → rest_in sparse (step_setting n traces) d ≡ Ok (steps, uppers)
          → r ≡ rows → b ≡ map extended (joined lines) → s ≡ steps → p ≡ uppers
          → fields_in sparse d ≡ Ok (record { rows = r; bounds = b; steps = s; uppers = p })
      cert_read steps uppers r b s p e er eb es ep =
          from_rows (Ok (record { rows = r; bounds = b; steps = s; uppers = p }))
          (then_ok (bounds_in (length rows) d) lines _ _ lines_here (then_ok (traces_in sparse d) traces _ _ traces_read
          (then_ok (rest_in sparse (step_setting (length rows) traces) d) (steps, uppers) _ _ (rest_here (Ok (steps, uppers)) e)
          made)))
        where
          made : (let c : Cert = record { rows = rows; bounds = map extended (joined lines); steps = steps; uppers = uppers } in
              let o : Result Cert FormFault = Ok c in o)
              ≡ Ok (record { rows = r; bounds = b; steps = s; uppers = p })
          made = cc
