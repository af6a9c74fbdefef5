-- Where no port has an end, no event posts anything.
use Rattle.std.proofs.Common.{◌≡◌, ℕ, ◌==◌, ◌∙◌, Bool, true, false, List, [], Option, Some, None, Result, Ok, Err, refl, sym, ap, subst, if◌then◌else◌}
use Rattle.lw_base.specs.declared.addresses.Net.{Net}
use Rattle.lw_base.specs.declared.heads.IpHead.{IpHead}
use Rattle.lw_base.specs.declared.heads.UdpHead.{UdpHead}
use Rattle.lw_events.specs.declared.event.Event.{Event}
use Rattle.lw_events.specs.declared.event.Event.TheVariants.{Frame}
use Rattle.lw_events.specs.Events.{Grants}
use Rattle.lw_link.specs.Way.{Way}
use Rattle.lw_udp.specs.declared.ends.UdpEnd.{UdpEnd}
use Rattle.lw_reass.specs.Datagrams.{added, whole_in}
use Rattle.lw_wire.specs.declared.fault.WireFault.{WireFault}
use Rattle.lw_wire.specs.Udp.{udp_of}
use Rattle.lw_input.specs.declared.arrival.Arrival.{Arrival}
use Rattle.lw_input.specs.declared.arrival.Arrival.TheVariants.{Arp, Datagram, Nothing}
use Rattle.lw_input.specs.Arrivals.{arrival_of, data_in, header_in}
use Rattle.lw_input.specs.Datagrams.{is_fragment}
use Rattle.lw_input.specs.Input.{Brought, Delivery, begun, brought, by_added, by_udp, ip_input, moved, moved_by, reply_to, udp_input, whole_header, whole_input}
use Rattle.lw_layers.specs.Posts.{posts_of}
use Rattle.lw_input.specs.State.{State}
use Rattle.lw_layers.specs.Step.{Served, Fed, Ticked, Sends, Answered, Ended, Unserved, frame_granted, served, served_step, step}
use Rattle.lw_layers.proofs.SendLaws.{send_posts}

-- what UDP reads goes nowhere
nowhere : (net : Net) (h : IpHead) (header body : List ℕ) (r : Result (UdpHead × ℕ) WireFault) → (by_udp net [] h header body r).delivery ≡ None
nowhere net h header body (Ok r) = refl
nowhere net h header body (Err fault) = refl

brought_nowhere : (net : Net) (h : IpHead) (header body : List ℕ) → (brought net [] h header body).delivery ≡ None
brought_nowhere net h header body =
    elim (h.proto == 17) as (λ b. (if b then udp_input net [] h header body else (let x : Brought = record { message = reply_to net h header body; delivery = None } in x)).delivery ≡ None) [
      | true ↦ nowhere net h header body (udp_of body h.src h.dst)
      | false ↦ refl
    ]

whole_nowhere : (net : Net) (w : Way) (o : Option (IpHead × List ℕ)) → (whole_input net [] w o).1 ≡ None
whole_nowhere net w (Some d) = brought_nowhere net d.0 (whole_header d.0) d.1
whole_nowhere net w None = refl

-- what an arrival brings goes nowhere
pub moved_nowhere : (s : State) (frame : List ℕ) (a : Arrival) → s.endpoints.udp.ends ≡ [] → (moved s frame a).delivery ≡ None
moved_nowhere s frame (Arp p) none = refl
moved_nowhere s frame (Datagram h) none =
    let net = s.link.net in
    let ends = s.endpoints.udp.ends in
    elim (is_fragment h) as (λ b. (if b then by_added net ends (begun s) (added s.fragments h (data_in frame h)) else moved_by (ip_input net ends (begun s) h (header_in frame h) (data_in frame h)) s.fragments).delivery ≡ None) [
      | true ↦ subst (λ (es : List UdpEnd). (by_added net es (begun s) (added s.fragments h (data_in frame h))).delivery ≡ None) (sym none) (whole_nowhere net (begun s) (whole_in (added s.fragments h (data_in frame h)).outcome))
      | false ↦ subst (λ (es : List UdpEnd). (ip_input net es (begun s) h (header_in frame h) (data_in frame h)).1 ≡ None) (sym none) (brought_nowhere net h (header_in frame h) (data_in frame h))
    ]
moved_nowhere s frame Nothing none = refl

granted_nowhere : (s : State) (octets : List ℕ) (short : Bool) (places : List Bool) → s.endpoints.udp.ends ≡ [] → (frame_granted s octets short places).posts ≡ []
granted_nowhere s octets true places none = refl
granted_nowhere s octets false places none = ap (λ (d : Option Delivery). posts_of s.endpoints.conns d places) (moved_nowhere s octets (arrival_of s.link.net octets) none)

served_nowhere : (s : State) (x : Served) (g : Grants) → s.endpoints.udp.ends ≡ [] → (served_step s x g).posts ≡ []
served_nowhere s (Fed octets) g none = granted_nowhere s octets g.short g.places none
served_nowhere s Ticked g none = refl
served_nowhere s (Sends conn ip port given) g none = send_posts s conn ip port given g.short
served_nowhere s (Answered a) g none = refl
served_nowhere s Ended g none = refl
served_nowhere s Unserved g none = refl

-- so nothing is posted
pub nothing_posted_by : (s : State) (event : Event (List ℕ)) (g : Grants) → s.endpoints.udp.ends ≡ [] → (step s event g).posts ≡ []
nothing_posted_by s event g none = served_nowhere s (served s event) g none

-- What stays so

granted_ends : (s : State) (octets : List ℕ) (short : Bool) (places : List Bool) → (frame_granted s octets short places).state.endpoints.udp.ends ≡ s.endpoints.udp.ends
granted_ends s octets true places = refl
granted_ends s octets false places = refl

-- no end is made by a frame
pub fed_ends : (s : State) (octets : List ℕ) (g : Grants) → (step s (Frame octets) g).state.endpoints.udp.ends ≡ s.endpoints.udp.ends
fed_ends s octets g = granted_ends s octets g.short g.places
