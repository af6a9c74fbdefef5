use Rattle.std.proofs.Common.{◌∙◌, ◌∷◌, [], List, ℕ, ap}
use Rattle.lw_events.specs.declared.event.Event.TheVariants.{Frame}
use Rattle.lw_rules.specs.Schedule.{made}
use Rattle.lwip_run.proofs.Feeding.{feeds_one}
use Rattle.lwip_run.proofs.plain_api.PlainApi.feed_all.Goals as goal

pub loop-octets-preserved : goal.loop-octets-preserved
loop-octets-preserved g c =
    record {
      fed = feeds_one c.args.actor c.args.self.now c.loop-octets.self c.next_frame.new.self c.feed.new.self
          c.args.seen.now.items c.loop-octets.seen.items c.push.new.self.items c.in-Some.octets c.in_ok-number.number
          c.loop-octets.invariant.fed c.in-Some.ensures.taken
          (c.in_ok-number.ensures.0 ∙ ap (λ (octets : List ℕ). made c.next_frame.new.self c.args.actor (Frame octets ∷ [])) c.as_slice.ensures)
          c.in_ok-number.ensures.1 c.in_ok-push.ensures.items;
      counted = c.loop-octets.invariant.counted;
    }
