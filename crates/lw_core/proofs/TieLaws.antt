-- The payloads of a stack are those of its state.
use Rattle.std.proofs.Common.{◌≡◌, List, ℕ, subst}
use Rattle.std.specs.List.{AllZip}
use Rattle.lw_arp.specs.Neighbours.{packets}
use Rattle.lw_arp.proofs.MapLaws.{packets-map_entries}
use Rattle.lw_link.specs.Sound.{IsSoundWay}
use Rattle.lw_payload.specs.Views.{View}
use Rattle.lw_runs.specs.Kept.{Stand}
use Rattle.lw_input.specs.Input.{begun}
use Rattle.lw_layers.specs.declared.layers.Layers.{Layers}
use Rattle.lw_layers.specs.Layers.{state_of}
use Rattle.lw_layers.proofs.SoundLaws.{waiting_some}
use Rattle.lw_core.specs.Held.{CoreSeen, IsTied}

-- the payloads of a stack are those of its state
pub tied : {P H : Type 0} (seen : P → View) (l : Layers P H) (c : CoreSeen P)
    → record { state = state_of seen l; waiting = packets l.neighbours; kept = l.fragments.kept } ≡ c
    → IsSoundWay (begun (state_of seen l)) → AllZip (λ d ps. Stand seen d.octets ps) l.fragments.datagrams l.fragments.kept → IsTied seen c
tied {P} seen l c is sound kept =
    subst (λ (x : CoreSeen P). IsTied seen x) is (record {
      waiting = packets-map_entries (λ p. (seen p).octets) l.neighbours;
      some = waiting_some (λ p. (seen p).octets) l.neighbours sound.others;
      kept = kept;
    })
