use Rattle.std.proofs.Common.{◌^◌, ◌<◌, ◌∙◌, Option, Some, IfSome, length, sym, ap, subst}
use Rattle.std.specs.Option.{option_map}
use Rattle.lw_arp.proofs.MapLaws.{waiting-map_entries}
use Rattle.lw_layers.proofs.SoundLaws.{waiting_short}
use Rattle.lw_layers.proofs.layers.Layers.waiting.Goals as goal

pub octets_of-requires : goal.octets_of-requires
octets_of-requires g c =
    subst (λ (o : Option g.row.P.Denot). IfSome o (λ p. length (g.P.Payload.seen p).octets < 2 ^ 32)) (sym c.in-Some.ensures)
    (waiting_short (λ p. (g.P.Payload.seen p).octets) c.args.self.now.neighbours c.args.learn.now.ip c.requires.sound.others)

pub returns-in_ok-octets_of-in-Some : goal.returns-in_ok-octets_of-in-Some
returns-in_ok-octets_of-in-Some g c =
    ap Some c.in_ok-octets_of-in-Some.ensures
    ∙ ap (option_map (λ p. (g.P.Payload.seen p).octets)) c.in-Some.ensures
    ∙ sym (waiting-map_entries (λ p. (g.P.Payload.seen p).octets) c.args.self.now.neighbours c.args.learn.now.ip)

pub returns-in-None : goal.returns-in-None
returns-in-None g c =
    ap (option_map (λ p. (g.P.Payload.seen p).octets)) c.in-None.ensures
    ∙ sym (waiting-map_entries (λ p. (g.P.Payload.seen p).octets) c.args.self.now.neighbours c.args.learn.now.ip)
