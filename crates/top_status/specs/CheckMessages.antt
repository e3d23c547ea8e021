-- The messages of a check: a certificate that is refused, and an operation that is too wide.
use Rattle.std.specs.Prelude.{◌++◌, ◌/◌, ◌%◌, ℕ, Bool, true, false, if◌then◌else◌, List, length, codes, decimal}
use Rattle.base_fractions.specs.Texts.{frac_text}
use Rattle.base_fractions.specs.declared.wide.Op.{Op}
use Rattle.base_fractions.specs.declared.wide.Op.TheVariants.{Add, Sub, Mul, Div}
use Rattle.flow_systems.specs.declared.spot.Part.{Part}
use Rattle.flow_systems.specs.declared.spot.Part.TheVariants.{Side, Pivot, Reading}
use Rattle.flow_systems.specs.declared.spot.Site.{Site}
use Rattle.flow_systems.specs.declared.spot.Site.TheVariants as site
use Rattle.flow_systems.specs.declared.spot.Spot.{Spot}
use Rattle.cert_types.specs.declared.cert.Cert.{Cert}
use Rattle.cert_text.specs.declared.fault.Field.{Field}
use Rattle.cert_text.specs.declared.fault.Field.TheVariants as field
use Rattle.cert_text.specs.declared.fault.FormFault.{FormFault}
use Rattle.cert_text.specs.declared.fault.FormFault.TheVariants as form
use Rattle.cert_checker.specs.declared.fault.CheckFault.{CheckFault}
use Rattle.cert_checker.specs.declared.fault.CheckFault.TheVariants as check
use Rattle.top_status.specs.declared.status.CertCause.{CertCause}
use Rattle.top_status.specs.declared.status.CertCause.TheVariants.{Form, Rows, Unknowns, Check}
use Rattle.top_status.specs.declared.status.Excess.TheVariants as excess
use Rattle.top_status.specs.declared.status.Status.{Status}
use Rattle.top_status.specs.declared.status.Status.TheVariants as status

-- ---- which messages number an unknown by its point and row

abbrev pub site_has_unknown : Site → Bool
site_has_unknown (site.Compose edge) = false
site_has_unknown (site.Offer edge row part) = false
site_has_unknown (site.Growth edge row part) = false
site_has_unknown (site.Joint turn part) = false
site_has_unknown (site.Raise raise) = false
site_has_unknown (site.Step step item) = false
site_has_unknown (site.Upper unknown edge) = true
site_has_unknown (site.Claim claim case part) = false
site_has_unknown (site.Check number edge case part) = false

abbrev pub fault_has_unknown : CheckFault → Bool
fault_has_unknown check.Size = false
fault_has_unknown (check.Trace step item) = false
fault_has_unknown (check.Low step item) = false
fault_has_unknown (check.High step item) = false
fault_has_unknown (check.Ray step item) = false
fault_has_unknown (check.Upper unknown edge) = true
fault_has_unknown (check.Final unknown) = true
fault_has_unknown (check.Wide spot) = site_has_unknown spot.site

abbrev pub cause_has_unknown : CertCause → Bool
cause_has_unknown (Form fault) = false
cause_has_unknown (Rows fault) = false
cause_has_unknown (Unknowns count) = false
cause_has_unknown (Check fault) = fault_has_unknown fault

abbrev pub has_unknown : Status → Bool
has_unknown status.Done = false
has_unknown status.Open = false
has_unknown (status.Certificate cause) = cause_has_unknown cause
has_unknown status.Usage = false
has_unknown (status.Read cause) = false
has_unknown (status.Text cause) = false
has_unknown (status.Exceeded (excess.Wide spot)) = site_has_unknown spot.site
has_unknown (status.Exceeded (excess.Large cells)) = false
has_unknown (status.Spent number) = false
has_unknown status.Memory = false
has_unknown status.Write = false

-- so many rows, by which a message numbers an unknown; 0 where it names none
abbrev pub rows_of : ℕ → Status → ℕ
rows_of rows status = if has_unknown status then rows else 0

-- the rows of a certificate
abbrev pub rows_in : Cert → Status → ℕ
rows_in cert status = rows_of (length cert.rows) status

-- ---- the words

-- words and a number behind them
abbrev pub numbered : List ℕ → ℕ → List ℕ
numbered before number = before ++ decimal number

-- words, a step and an item
abbrev pub item_text : List ℕ → ℕ → ℕ → List ℕ
item_text before step item = before ++ numbered (codes ", step ") step ++ numbered (codes ", item ") item

-- the point and the row of an unknown with these words before them, where each point has so many rows
abbrev pub unknown_text : (point row : List ℕ) → ℕ → ℕ → List ℕ
unknown_text point row rows unknown = numbered point (unknown / rows) ++ numbered row (unknown % rows)

abbrev pub field_text : Field → List ℕ
field_text field.Top = codes "top"
field_text field.Format = codes "format"
field_text field.Rows = codes "rows"
field_text field.Bounds = codes "bounds"
field_text field.Traces = codes "traces"
field_text field.Steps = codes "steps"
field_text field.Uppers = codes "uppers"

abbrev pub form_text : FormFault → List ℕ
form_text form.NotJson = codes "not json"
form_text (form.Shape field) = codes "field " ++ field_text field
form_text (form.Number field) = codes "number in " ++ field_text field
form_text form.Version = codes "format"
form_text form.Expanded = codes "expanded"
form_text form.NoMemory = codes "out of memory"

abbrev pub op_text : Op → List ℕ
op_text Add = codes "add "
op_text Sub = codes "sub "
op_text Mul = codes "mul "
op_text Div = codes "div "

abbrev pub part_text : Part → List ℕ
part_text Side = codes " side"
part_text (Pivot number) = numbered (codes " pivot ") number
part_text Reading = codes " reading"

-- a check on an edge, one of its cases, and a part of solving the problem of this case
abbrev pub place_text : (number edge case : ℕ) → Part → List ℕ
place_text number edge case part =
    numbered (codes "check ") number ++ numbered (codes " edge ") edge ++ numbered (codes " case ") case ++ part_text part

abbrev pub site_text : (rows round : ℕ) → Site → List ℕ
site_text rows round (site.Compose edge) = numbered (codes "compose edge ") edge
site_text rows round (site.Offer edge row part) =
    numbered (codes "offer edge ") edge ++ numbered (codes " row ") row ++ part_text part ++ numbered (codes " in round ") round
site_text rows round (site.Growth edge row part) =
    numbered (codes "growth edge ") edge ++ numbered (codes " row ") row ++ part_text part ++ numbered (codes " in round ") round
site_text rows round (site.Joint turn part) = numbered (codes "joint ") turn ++ part_text part ++ numbered (codes " in round ") round
site_text rows round (site.Raise raise) = numbered (codes "raise ") raise ++ numbered (codes " in round ") round
site_text rows round (site.Step step item) = numbered (codes "step ") step ++ numbered (codes " item ") item
site_text rows round (site.Upper unknown edge) = unknown_text (codes "upper point ") (codes " row ") rows unknown
    ++ numbered (codes " edge ") edge
site_text rows round (site.Claim claim case part) = numbered (codes "claim ") claim ++ numbered (codes " case ") case ++ part_text part
site_text rows round (site.Check number edge case part) = place_text number edge case part

-- an operation, its two operands, and the site
abbrev pub spot_text : ℕ → Spot → List ℕ
spot_text rows spot =
    op_text spot.wide.op ++ frac_text spot.wide.left ++ codes " " ++ frac_text spot.wide.right ++ codes " at "
    ++ site_text rows spot.round spot.site

abbrev pub check_text : ℕ → CheckFault → List ℕ
check_text rows check.Size = codes "size"
check_text rows (check.Trace step item) = item_text (codes "trace") step item
check_text rows (check.Low step item) = item_text (codes "low") step item
check_text rows (check.High step item) = item_text (codes "high") step item
check_text rows (check.Ray step item) = item_text (codes "ray") step item
check_text rows (check.Upper unknown edge) = unknown_text (codes "upper, point ") (codes ", row ") rows unknown
    ++ numbered (codes ", edge ") edge
check_text rows (check.Final unknown) = unknown_text (codes "final, point ") (codes ", row ") rows unknown
check_text rows (check.Wide spot) = spot_text rows spot

abbrev pub cause_text : ℕ → CertCause → List ℕ
cause_text rows (Form fault) = form_text fault
cause_text rows (Rows fault) = codes "rows"
cause_text rows (Unknowns count) = decimal count ++ codes " unknowns"
cause_text rows (Check fault) = check_text rows fault

-- ---- whole lines

-- the message where a certificate is refused
abbrev pub certificate_message : ℕ → CertCause → List ℕ
certificate_message rows cause = codes "certificate refused: " ++ cause_text rows cause ++ codes "\n"

-- the message where an operation is too wide
abbrev pub wide_message : ℕ → Spot → List ℕ
wide_message rows spot = codes "wide: " ++ spot_text rows spot ++ codes "\n"
