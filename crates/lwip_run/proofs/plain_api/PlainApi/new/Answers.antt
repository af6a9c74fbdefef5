use Rattle.std.proofs.Common.{All, List, subst, sym, ◌∙◌, ℕ}
use Rattle.std.specs.Vec.Iter.{into_iter_items}
use Rattle.lw_core.specs.Held.{held_by}
use Rattle.lwip_run.specs.Plain.{IsBody}
use Rattle.lwip_run.proofs.AtHome.{begins_home}
use Rattle.lwip_run.proofs.plain_api.PlainApi.new.Goals as goal

pub invariant_of-result : goal.invariant_of-result
invariant_of-result g c =
    let payload = g.P.Payload in (
      begins_home payload.seen payload.home_seen payload.may_refuse c.args.home (held_by c.args.core) (into_iter_items c.into_iter.result)
          c.requires.never c.requires.held (subst (λ (frames : List (List ℕ)). All IsBody frames) (sym (c.into_iter.ensures.rest ∙ c.into_vec.ensures)) c.requires.short),
      c.requires.boxes,
      c.requires.none,
    )
