use Rattle.std.proofs.Common.{List, ap, sym, ◌∙◌}
use Rattle.std.specs.List.{flat_map, list_all}
use Rattle.cert_written.specs.declared.step.Item.{Item}
use Rattle.cert_written.specs.declared.step.JumpItem.{JumpItem}
use Rattle.cert_written.specs.declared.step.RayItem.{RayItem}
use Rattle.cert_written.specs.declared.step.Step.{Step}
use Rattle.cert_text.specs.Naming.{is_listed, jump_traces, plain_traces, ray_traces, step_traces}
use Rattle.cert_text.proofs.naming.Listed.{each_listed}
use Rattle.cert_text.proofs.step.step_value.Goals as goal

pub write_list-requires : goal.write_list-requires
write_list-requires c =
    each_listed c.args.rows c.args.names.now plain_traces c.as_slice.result.now c.requires.some
    (ap (λ (xs : List Item). list_all (is_listed c.args.names.now) (flat_map plain_traces xs)) c.as_slice.ensures
    ∙ ap (λ (s : Step). list_all (is_listed c.args.names.now) (step_traces s)) (sym c.in-Plain.is) ∙ c.requires.listed)

pub write_list-requires-in-Jump : goal.write_list-requires-in-Jump
write_list-requires-in-Jump c =
    each_listed c.args.rows c.args.names.now jump_traces c.as_slice-in-Jump.result.now c.requires.some
    (ap (λ (xs : List JumpItem). list_all (is_listed c.args.names.now) (flat_map jump_traces xs)) c.as_slice-in-Jump.ensures
    ∙ ap (λ (s : Step). list_all (is_listed c.args.names.now) (step_traces s)) (sym c.in-Jump.is) ∙ c.requires.listed)

pub write_list-requires-in-Ray : goal.write_list-requires-in-Ray
write_list-requires-in-Ray c =
    each_listed c.args.rows c.args.names.now ray_traces c.as_slice-in-Ray.result.now c.requires.some
    (ap (λ (xs : List RayItem). list_all (is_listed c.args.names.now) (flat_map ray_traces xs)) c.as_slice-in-Ray.ensures
    ∙ ap (λ (s : Step). list_all (is_listed c.args.names.now) (step_traces s)) (sym c.in-Ray.is) ∙ c.requires.listed)
