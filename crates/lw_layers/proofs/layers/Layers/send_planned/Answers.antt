use Rattle.std.proofs.Common.{◌≡◌, ◌∙◌, true, false, IfSome, Option, ap, subst, sym}
use Rattle.lw_layers.specs.declared.receive.Received.{Received}
use Rattle.lw_layers.specs.Layers.{held_in, state_of}
use Rattle.lw_layers.proofs.BothLaws.{both_owned, both_then, none_then}
use Rattle.lw_layers.proofs.ClaimLaws.{in_none, in_some}
use Rattle.lw_layers.proofs.SendLaws.{sent_told, short_told}
use Rattle.lw_layers.proofs.layers.Layers.send_planned.Goals as goal

pub apply_send-frames-requires-clause-owned : goal.apply_send-frames-requires-clause-owned
apply_send-frames-requires-clause-owned g c =
    both_owned g.P.Payload.seen c.args.kind (g.P.Payload.home_seen c.args.home.now) (g.P.Payload.home_seen c.claim_both.new.home) c.in-Some.claimed.rom c.in-Some.claimed.ram (held_in c.args.self.now)
    (in_some _ _ c.in_ok-claimed.field-0 c.in-Some.claimed c.in-Some.is c.in_ok-claimed.ensures.claimed) c.requires.owned

pub apply_send-frames-requires-clause-ram : goal.apply_send-frames-requires-clause-ram
apply_send-frames-requires-clause-ram g c =
    subst (λ (o : Option _). IfSome o (λ x. IfSome c.in_ok-link.link.waits (λ w. (g.P.Payload.seen x.ram).octets ≡ w.1))) c.in-Some.is c.in_ok-claimed.ensures.octets

pub returns : goal.returns
returns g c =
    let s = state_of g.P.Payload.seen c.args.self.now in
    let t = state_of g.P.Payload.seen c.apply_send-frames.new.self in
    let told = sent_told s t c.args.octets.now c.args.plan.now c.sent.result c.apply_send-frames.result c.sent.ensures c.apply_send-frames.ensures.state c.apply_send-frames.ensures.frames in
    let claimed = in_some _ _ c.in_ok-claimed.field-0 c.in-Some.claimed c.in-Some.is c.in_ok-claimed.ensures.claimed in
    record {
      state = told.state;
      told = told.told;
      reply = told.reply;
      moves = both_then g.P.Payload.seen c.args.kind (g.P.Payload.home_seen c.args.home.now) (g.P.Payload.home_seen c.claim_both.new.home) (g.P.Payload.home_seen c.apply_send-frames.new.home) c.in-Some.claimed.rom c.in-Some.claimed.ram
          (held_in c.args.self.now) (held_in c.apply_send-frames.new.self) claimed c.apply_send-frames.ensures.moves;
      short = λ is. absurd (let clash : false ≡ true = sym (ap (λ (m : Received). m.short) c.sent.ensures) ∙ is in cc);
      enough = λ _. (claimed.free, claimed.free_ram);
      err = tt;
    }
