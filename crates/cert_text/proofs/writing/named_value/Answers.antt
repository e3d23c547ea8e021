use Rattle.std.proofs.Common.{◌≡◌, ◌∙◌, ◌*◌, ◌/◌, List, Some, length, map, true, ap, ap₂, sym, subst, subst₂}
use Rattle.std.proofs.lemmas.Result.{IfOk-weaker}
use Rattle.serde_json.specs.View.{members_view, view}
use Rattle.cert_written.specs.declared.step.Step.{Step}
use Rattle.cert_written.specs.declared.upper.Upper.{Upper}
use Rattle.cert_written.specs.declared.trace.Trace.{Trace}
use Rattle.cert_text.specs.Lists.{is_list, list_data, list_in}
use Rattle.cert_written.specs.Bare.{bare_entries, bare_step, bare_trace, bare_upper}
use Rattle.cert_written.specs.declared.entries.Entries.{Entries}
use Rattle.cert_text.specs.Pairs.{are_entries, entries_data}
use Rattle.cert_text.specs.Traces.{is_trace, relisting, trace_data, trace_in}
use Rattle.cert_text.specs.StepForms.{is_step, step_data, step_in}
use Rattle.cert_text.specs.Evidence.{is_upper, upper_data, upper_in}
use Rattle.cert_text.specs.BoundLines.{bounds_data, is_line, line_in}
use Rattle.cert_text.specs.Certificates.{last_data, listed_traces, row_in}
use Rattle.cert_text.proofs.writing.WrittenCertificates.{cert_back, cert_data_is, writable_rows, writable_whole, written_steps}
use Rattle.cert_text.proofs.writing.named_value.Goals as goal

subst₃ : {A B C : Type 0} (P : A → B → C → Type 0) (a x : A) (b y : B) (c z : C) → a ≡ x → b ≡ y → c ≡ z → P a b c → P x y z
subst₃ P a x b y c z e f g p = subst (λ w. P x y w) g (subst₂ (λ u v. P u v c) e f p)

pub bounds_value-requires : goal.bounds_value-requires
bounds_value-requires c = subst (λ (xs : List Entries). length c.args.cert.now.bounds / length xs * length xs
    ≡ length c.args.cert.now.bounds) (sym c.as_slice-count.ensures) (writable_whole c.args.cert.now c.requires.writable)

pub write_list-requires : goal.write_list-requires
write_list-requires c = writable_rows c.args.cert.now c.as_slice.result.now c.requires.writable c.as_slice.ensures

pub last_members-requires : goal.last_members-requires
last_members-requires c =
    written_steps c.args.cert.now c.as_slice-count.result.now c.args.names.now c.as_slice-2.result.now c.requires.writable
    c.as_slice-count.ensures
    c.requires.names c.as_slice-2.ensures

pub returns-clause-value : goal.returns-clause-value
returns-clause-value c =
    let n = ap (λ (xs : List Entries). length xs) c.as_slice-count.ensures in
    let names = c.requires.names in
    IfOk-weaker c.cert_object.result _ _ (λ _ h. h ∙ cert_data_is c.args.cert.now (view c.in_ok-bounds.bounds) (view c.in_ok-rows.rows)
    (members_view c.in_ok-last.last.entries)
    (c.in_ok-bounds.ensures.value ∙ ap (λ k. bounds_data k c.args.cert.now.bounds) n)
    (c.in_ok-rows.ensures.value ∙ ap (λ (xs : List Entries). list_data entries_data xs) c.as_slice.ensures)
    (c.in_ok-last.ensures.members
    ∙ ap₂ (λ k (ts : List Trace). last_data k ts c.as_slice-2.result.now c.as_slice-3.result.now c.as_slice-4.result.now) n names
    ∙ ap₂ (λ (ss : List Step) (us : List Upper). last_data (length c.args.cert.now.rows) (listed_traces c.args.cert.now) ss
    c.as_slice-3.result.now us) c.as_slice-2.ensures c.as_slice-4.ensures
    ∙ ap (λ (ts : List Trace). last_data (length c.args.cert.now.rows) (listed_traces c.args.cert.now) c.args.cert.now.steps ts
    c.args.cert.now.uppers) (c.as_slice-3.ensures ∙ names))) c.cert_object.ensures

pub returns-clause-back : goal.returns-clause-back
returns-clause-back c =
    let n = ap (λ (xs : List Entries). length xs) c.as_slice-count.ensures in
    let names = c.requires.names in
    let traces = c.as_slice-3.ensures ∙ names in
    let bounds = c.args.cert.now.bounds in
    let back = c.in_ok-bounds.ensures.back in
    IfOk-weaker c.cert_object.result _ _ (λ _ _. cert_back c.args.cert.now
    (subst (λ k. is_list (is_line k) (bounds_data k bounds) ≡ true) n c.in_ok-bounds.ensures.shape)
    back.0
    (subst (λ k. list_in line_in (bounds_data k bounds) ≡ Some back.0) n back.1)
    back.2
    (subst (λ (xs : List Entries). is_list (are_entries true) (list_data entries_data xs)
    ≡ true) c.as_slice.ensures c.in_ok-rows.ensures.shape)
    (subst (λ (xs : List Entries). list_in (row_in true) (list_data entries_data xs) ≡ Some (map bare_entries xs)) c.as_slice.ensures
    c.in_ok-rows.ensures.back)
    (subst₃ (λ k (ts : List Trace) (xs : List Step). is_list (is_step (relisting k ts)) (list_data (step_data k ts) xs)
    ≡ true) _ _ _ _ _ _ n
    names c.as_slice-2.ensures c.in_ok-last.ensures.steps_shape)
    (subst₃ (λ k (ts : List Trace) (xs : List Step). list_in (step_in (relisting k ts)) (list_data (step_data k ts) xs)
    ≡ Some (map bare_step xs)) _ _ _ _ _ _
    n names c.as_slice-2.ensures c.in_ok-last.ensures.steps_back)
    (subst (λ (xs : List Trace). is_list (is_trace true) (list_data trace_data xs) ≡ true) traces c.in_ok-last.ensures.traces_shape)
    (subst (λ (xs : List Trace). list_in (trace_in true) (list_data trace_data xs)
    ≡ Some (map bare_trace xs)) traces c.in_ok-last.ensures.traces_back)
    (subst (λ (xs : List Upper). is_list (is_upper true) (list_data upper_data xs)
    ≡ true) c.as_slice-4.ensures c.in_ok-last.ensures.uppers_shape)
    (subst (λ (xs : List Upper). list_in (upper_in true) (list_data upper_data xs) ≡ Some (map bare_upper xs)) c.as_slice-4.ensures
    c.in_ok-last.ensures.uppers_back))
    c.cert_object.ensures
