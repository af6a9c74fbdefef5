use Rattle.std.proofs.Common.{◌≡◌, ◌∙◌, [], ap}
use Rattle.lw_base.specs.declared.addresses.Net.{Net}
use Rattle.lw_base.specs.declared.limits.Limits.{Limits}
use Rattle.lw_input.specs.State.{State, opening}
use Rattle.lw_script.specs.Parts.{limits_of}
use Rattle.lw_rules.specs.Schedule.{Configuration, beginning}
use Rattle.lwip_run.proofs.OneThread.{run_is_serial}
use Rattle.lwip_run.proofs.PlainCore.{frames_bodies}
use Rattle.lwip_run.proofs.one_thread.serial.Goals as goal

pub returns : goal.returns
returns g c =
    let core : c.in_ok-core.core.state ≡ opening c.args.script.now.net (limits_of c.args.script.now.profile) =
    c.in_ok-core.ensures.state
    ∙ ap (λ (net : Net). opening net c.limits-limits.result) c.netif.ensures
    ∙ ap (λ (limits : Limits). opening c.args.script.now.net limits) c.limits-limits.ensures in
    let begins : c.new-api.result ≡ beginning c.args.script.now c.args.frames =
    c.new-api.ensures
    ∙ ap (λ (s : State). let begun : Configuration = record { state = s; left = c.args.frames; entries = [] } in begun) core in
    run_is_serial c.args.script.now c.args.frames c.new-api.result c.run_serial.new.api c.in_ok-progress.progress.items
    c.remove.result c.into_history.result c.deref.result.now c.into_vec-done.result.items c.in_ok-body.body
    begins c.in_ok-progress.ensures c.remove.ensures.value c.into_vec-done.ensures c.into_history.ensures
    (c.deref.ensures.value ∙ c.in_ok-calls.ensures) c.in_ok-body.ensures

pub new-api-requires-clause-short : goal.new-api-requires-clause-short
new-api-requires-clause-short g c = frames_bodies c.args.frames c.requires.short
