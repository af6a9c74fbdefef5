-- What applying a plan of a frame makes of a stack.
use Rattle.std.proofs.Common.{◌≡◌, ℕ, ◌-◌, ◌++◌, ◌∙◌, Bool, true, false, List, [], ◌∷◌, Option, Some, None, IfSome, refl, sym, ap, map, subst, take, if◌then◌else◌}
use Rattle.std.specs.Option.{option_map}
use Rattle.lw_base.specs.declared.addresses.Ip.{Ip}
use Rattle.lw_base.specs.declared.addresses.Net.{Net}
use Rattle.lw_base.specs.declared.heads.ArpPacket.{ArpPacket}
use Rattle.lw_base.specs.declared.heads.IpHead.{IpHead}
use Rattle.lw_netif.specs.Frames.{frames_left}
use Rattle.lw_payload.specs.Views.{View, HomeView, Pools}
use Rattle.lw_payload.specs.Totals.{total, Moves}
use Rattle.lw_payload.proofs.TotalLaws.{Moves-then}
use Rattle.lw_arp.specs.declared.entries.ArpEntry.{ArpEntry}
use Rattle.lw_arp.specs.declared.entries.LearnPlan.{LearnPlan}
use Rattle.lw_arp.specs.declared.entries.Lesson.TheVariants.{Make}
use Rattle.lw_arp.specs.Neighbours.{entry_of, learn_plan, map_entries, map_entry}
use Rattle.lw_arp.proofs.MapLaws.{entry_of-map_entries}
use Rattle.lw_arp.proofs.EntryLaws.{unknown_when_made}
use Rattle.lw_link.specs.Way.{Link, Way, asked_for, waiting_in}
use Rattle.lw_link.proofs.PlanLaws.{carried}
use Rattle.lw_reass.specs.declared.outcome.FragmentPlan.{FragmentPlan}
use Rattle.lw_reass.specs.Datagrams.{Datagram as OpenDatagram, added, plan_of}
use Rattle.lw_input.specs.declared.arrival.Arrival.{Arrival}
use Rattle.lw_input.specs.declared.arrival.Arrival.TheVariants.{Arp, Datagram, Nothing}
use Rattle.lw_layers.specs.declared.layers.Layers.{Layers}
use Rattle.lw_layers.specs.declared.plan.Change.{Change}
use Rattle.lw_layers.specs.declared.plan.Change.TheVariants.{Learn, Keep, Nothing as NoChange}
use Rattle.lw_layers.specs.declared.plan.FramePlan.{FramePlan}
use Rattle.lw_input.specs.Arrivals.{arrival_of, data_in, header_in}
use Rattle.lw_input.specs.Datagrams.{is_fragment}
use Rattle.lw_input.specs.Input.{Delivery, Moved, begun, by_added, ip_input, moved, moved_by}
use Rattle.lw_layers.specs.Layers.{change_of, fragments_with, link_with, posted_by, rest_of, IsMail, IsOffer, IsOfferOf, IsPlanned}
use Rattle.lw_layers.specs.Posts.{posted, posts_of}
use Rattle.lw_input.specs.declared.input.PostPlan.{PostPlan}
use Rattle.lw_layers.specs.declared.mail.Mail.{Mail}
use Rattle.lw_layers.specs.declared.mail.Offer.{Offer}
use Rattle.lw_conn.specs.Connections.{Connections}
use Rattle.lw_events.specs.declared.entry.Post.{Post}
use Rattle.lw_events.specs.Events.{had_place}
use Rattle.lw_input.specs.State.{State}
use Rattle.lw_layers.specs.Outcomes.{counted}
use Rattle.lw_layers.specs.Step.{frame_step, with_frame}
use Rattle.lw_layers.proofs.MoveLaws.{Moves-around, Moves-by, Moves-front, Moves-turned}
use Rattle.lw_layers.proofs.PostLaws.{offer_posted}

-- What is planned

-- the plan of an ARP packet that makes an entry is for an address of which the table has none
made_for : (own : Ip) (table : List (ArpEntry (List ℕ))) (p : ArpPacket) (plan : LearnPlan) → learn_plan own table p ≡ plan → plan.lesson ≡ Make → entry_of table plan.ip ≡ None
made_for own table p plan is make =
    subst (λ (x : LearnPlan). x.lesson ≡ Make → entry_of table x.ip ≡ None) is (λ h. unknown_when_made own table p h) make

fragment_change : (b : Bool) (h : IpHead) (k : FragmentPlan) (g : IpHead) (plan : FragmentPlan) → (if b then Keep h k else NoChange) ≡ Keep g plan → (h ≡ g) × (k ≡ plan)
fragment_change true h k g plan is = (cc, cc)
fragment_change false h k g plan is = absurd (cc)

no_lesson : {A : Type 0} (b : Bool) (h : IpHead) (k : FragmentPlan) (plan : LearnPlan) → (if b then Keep h k else NoChange) ≡ Learn plan → A
no_lesson true h k plan is = absurd (cc)
no_lesson false h k plan is = absurd (cc)

made_by : (s : State) (a : Arrival) (plan : LearnPlan) → change_of s a ≡ Learn plan → plan.lesson ≡ Make → entry_of s.link.neighbours plan.ip ≡ None
made_by s (Arp p) plan is make = made_for s.link.net.ip s.link.neighbours p plan (cc) make
made_by s (Datagram h) plan is make = no_lesson (is_fragment h) h (plan_of s.fragments h (h.total - h.head_len)) plan is
made_by s Nothing plan is make = absurd (cc)

-- nothing stands for nothing alone
none_of : {P Q : Type 0} (f : P → Q) (o : Option P) → option_map f o ≡ None → o ≡ None
none_of f None is = refl
none_of f (Some p) is = absurd (cc)

-- in a table of payloads too
pub fresh_by : {P : Type 0} (f : P → List ℕ) (table : List (ArpEntry P)) (s : State) (a : Arrival) (change : Change) → s.link.neighbours ≡ map_entries f table → change ≡ change_of s a
    → (plan : LearnPlan) → change ≡ Learn plan → plan.lesson ≡ Make → entry_of table plan.ip ≡ None
fresh_by f table s a change same is plan learn make =
    none_of (map_entry f) (entry_of table plan.ip)
    (sym (entry_of-map_entries f table plan.ip)
    ∙ ap (λ (t : List (ArpEntry (List ℕ))). entry_of t plan.ip) (sym same)
    ∙ made_by s a plan (sym is ∙ learn) make)

-- the plan of a fragment is reassembly's
kept_by : (s : State) (a : Arrival) (h : IpHead) (plan : FragmentPlan) → change_of s a ≡ Keep h plan → plan ≡ plan_of s.fragments h (h.total - h.head_len)
kept_by s (Arp p) h plan is = absurd (cc)
kept_by s (Datagram g) h plan is =
    let same = fragment_change (is_fragment g) g (plan_of s.fragments g (g.total - g.head_len)) h plan is in
    sym same.1 ∙ ap (λ (x : IpHead). plan_of s.fragments x (x.total - x.head_len)) same.0
kept_by s Nothing h plan is = absurd (cc)

pub fragment_by : (s : State) (a : Arrival) (change : Change) → change ≡ change_of s a → (h : IpHead) (plan : FragmentPlan) → change ≡ Keep h plan → plan ≡ plan_of s.fragments h (h.total - h.head_len)
fragment_by s a change is h plan keep = kept_by s a h plan (sym is ∙ keep)

-- What waits

-- a payload waits where the plan lets a packet wait
pub waits_at : {P : Type 0} (Q : Ip → Type 0) (waits : Option (Ip × List ℕ)) (hop : Option Ip) (r : Option (Ip × P)) (ram : P) → hop ≡ option_map (λ w. w.0) waits → r ≡ option_map (λ ip. (ip, ram)) hop
    → IfSome waits (λ w. Q w.0) → IfSome r (λ w. Q w.0)
waits_at {P} Q (Some w) hop r ram at is there =
    subst (λ (o : Option (Ip × P)). IfSome o (λ x. Q x.0)) (sym (is ∙ ap (option_map (λ ip. (ip, ram))) at)) there
waits_at {P} Q None hop r ram at is there =
    subst (λ (o : Option (Ip × P)). IfSome o (λ x. Q x.0)) (sym (is ∙ ap (option_map (λ ip. (ip, ram))) at)) tt

-- its octets are the packet's
waits_as : {P : Type 0} (f : P → List ℕ) (waits : Option (Ip × List ℕ)) (ram : P) → IfSome waits (λ w. f ram ≡ w.1)
    → option_map (λ (w : Ip × P). (w.0, f w.1)) (option_map (λ ip. (ip, ram)) (option_map (λ (w : Ip × List ℕ). w.0) waits)) ≡ waits
waits_as f (Some w) ram same = ap (λ (xs : List ℕ). Some (w.0, xs)) same
waits_as f None ram same = refl

-- the octets of a table over which the plan was carried out
pub table_of : {P : Type 0} (f : P → List ℕ) (table now : List (ArpEntry P)) (asked ips : List Ip) (waits : Option (Ip × List ℕ)) (hop : Option Ip) (r : Option (Ip × P)) (ram : P)
    → hop ≡ option_map (λ w. w.0) waits → r ≡ option_map (λ ip. (ip, ram)) hop → IfSome waits (λ w. f ram ≡ w.1) → ips ≡ asked
    → now ≡ waiting_in (asked_for table ips) r
    → map_entries f now ≡ waiting_in (asked_for (map_entries f table) asked) waits
table_of {P} f table now asked ips waits hop r ram at is same ask now_is =
    ap (map_entries f) now_is ∙ carried f table ips r
    ∙ ap (λ (xs : List Ip). waiting_in (asked_for (map_entries f table) xs) (option_map (λ (w : Ip × P). (w.0, f w.1)) r)) ask
    ∙ ap (λ (o : Option (Ip × List ℕ)). waiting_in (asked_for (map_entries f table) asked) o)
    (ap (option_map (λ (w : Ip × P). (w.0, f w.1))) (is ∙ ap (option_map (λ ip. (ip, ram))) at) ∙ waits_as f waits ram same)

-- What is left

-- the layers after a change, after a post is counted, after what goes out was carried out, and once the frame was counted
pub layers_left : {P H : Type 0} (s changed posted carried after : Layers P H) (table : List (ArpEntry P)) (post : Option PostPlan) (id : ℕ) (out frames : List (List ℕ))
    → changed ≡ record s { neighbours = changed.neighbours; fragments = changed.fragments }
    → posted ≡ record changed { endpoints = record changed.endpoints { conns = posted_by changed.endpoints.conns post } }
    → carried ≡ record posted { neighbours = table; next_id = id; sent = posted.sent ++ out }
    → out ≡ take (frames_left posted.sent) frames
    → after ≡ record carried { words = record carried.words { frames = counted carried.words.frames } }
    → after ≡ record s {
      neighbours = table;
      next_id = id;
      fragments = changed.fragments;
      sent = s.sent ++ take (frames_left s.sent) frames;
      endpoints = record s.endpoints { conns = posted_by s.endpoints.conns post };
      words = record s.words { frames = counted s.words.frames };
    }
layers_left {P} {H} s changed posted carried after table post id out frames same posts carries out_is counts =
    counts
    ∙ ap (λ (x : Layers P H). record x { words = record x.words { frames = counted x.words.frames } }) carries
    ∙ ap (λ (xs : List (List ℕ)). record posted { neighbours = table; next_id = id; sent = posted.sent ++ xs; words = record posted.words { frames = counted posted.words.frames } }) out_is
    ∙ ap (λ (x : Layers P H). record x { neighbours = table; next_id = id; sent = x.sent ++ take (frames_left x.sent) frames; words = record x.words { frames = counted x.words.frames } }) posts
    ∙ ap (λ (x : Layers P H). record x { neighbours = table; next_id = id; sent = x.sent ++ take (frames_left x.sent) frames; endpoints = record x.endpoints { conns = posted_by x.endpoints.conns post }; words = record x.words { frames = counted x.words.frames } }) same

-- a change leaves the own address
pub link_net : (l : Link) (change : Change) → (link_with l change).net ≡ l.net
link_net l (Learn plan) = refl
link_net l (Keep h plan) = refl
link_net l NoChange = refl

fragments_moved : (s : State) (frame : List ℕ) (a : Arrival) → fragments_with s.fragments frame (change_of s a) ≡ (moved s frame a).fragments
fragments_moved s frame (Arp p) = refl
fragments_moved s frame (Datagram h) =
    let ends = s.endpoints.udp.ends in
    elim (is_fragment h) as (λ b. fragments_with s.fragments frame (if b then Keep h (plan_of s.fragments h (h.total - h.head_len)) else NoChange)
    ≡ (if b then by_added s.link.net ends (begun s) (added s.fragments h (data_in frame h)) else moved_by (ip_input s.link.net ends (begun s) h (header_in frame h) (data_in frame h)) s.fragments).fragments) [
      | true ↦ refl
      | false ↦ refl
    ]
fragments_moved s frame Nothing = refl

-- the state after a plan of a frame
pub state_applied : (s : State) (octets : List ℕ) (plan : FramePlan) (o : Offer) (table : List (ArpEntry (List ℕ))) (ds : List OpenDatagram) → IsPlanned s octets (arrival_of s.link.net octets) plan
    → IsOffer s.endpoints.conns plan.mail o
    → table ≡ waiting_in (asked_for (link_with s.link plan.change).neighbours plan.link.asked.items) plan.link.waits
    → ds ≡ fragments_with s.fragments octets plan.change
    → record s {
      link = record { net = s.link.net; neighbours = table; next_id = plan.link.next_id };
      fragments = ds;
      sent = s.sent ++ take (frames_left s.sent) plan.link.frames.items;
      endpoints = record s.endpoints { conns = posted_by s.endpoints.conns o.post };
      words = with_frame s.words;
    } ≡ (frame_step s octets (map had_place o.posts)).state
state_applied s octets plan o table ds planned offer table_is ds_is =
    let m : Moved = moved s octets (arrival_of s.link.net octets) in
    let way : Way = m.way in
    let link_is : record { net = s.link.net; neighbours = table; next_id = plan.link.next_id } ≡ way.link =
    ap (λ (t : List (ArpEntry (List ℕ))). record { net = s.link.net; neighbours = t; next_id = plan.link.next_id }) table_is
    ∙ ap (λ (n : Net). record { net = n; neighbours = waiting_in (asked_for (link_with s.link plan.change).neighbours plan.link.asked.items) plan.link.waits; next_id = plan.link.next_id }) (sym (link_net s.link plan.change))
    ∙ ap (λ (w : Way). w.link) planned.sends.made in
    let fragments_is : ds ≡ m.fragments = ds_is ∙ ap (fragments_with s.fragments octets) planned.change ∙ fragments_moved s octets (arrival_of s.link.net octets) in
    let out_is : plan.link.frames.items ≡ way.out = ap (λ (w : Way). w.out) planned.sends.made in
    let conns_is : posted_by s.endpoints.conns o.post ≡ posted s.endpoints.conns m.delivery (map had_place o.posts) =
    offer_posted s.endpoints.conns plan.mail o offer ∙ ap (λ (d : Option Delivery). posted s.endpoints.conns d (map had_place o.posts)) planned.delivery in
    let with = λ (l : Link) (gs : List OpenDatagram) (out : List (List ℕ)) (cs : Connections).
    let x : State = record s { link = l; fragments = gs; sent = s.sent ++ take (frames_left s.sent) out; endpoints = record s.endpoints { conns = cs }; words = with_frame s.words } in x in
    ap (λ (l : Link). with l ds plan.link.frames.items (posted_by s.endpoints.conns o.post)) link_is
    ∙ ap (λ (gs : List OpenDatagram). with way.link gs plan.link.frames.items (posted_by s.endpoints.conns o.post)) fragments_is
    ∙ ap (λ (out : List (List ℕ)). with way.link m.fragments out (posted_by s.endpoints.conns o.post)) out_is
    ∙ ap (λ (cs : Connections). with way.link m.fragments way.out cs) conns_is

-- the posts that it tells
pub posts_applied : (s : State) (octets : List ℕ) (plan : FramePlan) (o : Offer) (posts : List Post) → IsPlanned s octets (arrival_of s.link.net octets) plan → IsOffer s.endpoints.conns plan.mail o → posts ≡ o.posts
    → posts ≡ (frame_step s octets (map had_place posts)).posts
posts_applied s octets plan o posts planned offer is =
    subst (λ (ps : List Post). ps ≡ (frame_step s octets (map had_place ps)).posts) (sym is)
    (offer.posts ∙ ap (λ (d : Option Delivery). posts_of s.endpoints.conns d (map had_place o.posts)) planned.delivery)

-- and the frames
pub frames_applied : (s : State) (octets : List ℕ) (plan : FramePlan) (places : List Bool) → IsPlanned s octets (arrival_of s.link.net octets) plan
    → take (frames_left s.sent) plan.link.frames.items ≡ (frame_step s octets places).frames
frames_applied s octets plan places planned = ap (λ (w : Way). take (frames_left s.sent) w.out) planned.sends.made

-- the payload that is left of the frame is that of the plan
pub offer_of : (cs : Connections) (ds : List OpenDatagram) (octets : List ℕ) (change : Change) (rest : Option (List ℕ)) (mail : Option Mail) (o : Offer)
    → rest ≡ rest_of ds octets change → IfSome mail (IsMail cs (rest_of ds octets change)) → IsOffer cs mail o → IsOfferOf cs rest o
offer_of cs ds octets change rest mail o is stands offer = record {
  mail = mail;
  offer = offer;
  stands = subst (λ (x : Option (List ℕ)). IfSome mail (IsMail cs x)) (sym is) stands;
}

-- What is held

-- a payload came, of which what waits is left, and the table took that
pub carried_moves : {P : Type 0} (seen : P → View) (h j k : HomeView) (ram : P) (table kept waits now after : List P)
    → Moves h j (total seen h.pools.family (ram ∷ [])) (total seen h.pools.family waits)
    → Moves j k (total seen j.pools.family (table ++ waits)) (total seen j.pools.family now)
    → after ≡ now ++ kept
    → Moves h k (total seen h.pools.family (ram ∷ (table ++ kept))) (total seen h.pools.family after)
carried_moves {P} seen h j k ram table kept waits now after waited carried_out is =
    let f : List ℕ = h.pools.family in
    subst (λ (ps : List P). Moves h k (total seen f (ram ∷ (table ++ kept))) (total seen f ps)) (sym is)
    (Moves-then h j k (total seen f (ram ∷ (table ++ kept))) (total seen f (waits ++ (table ++ kept))) (total seen f (now ++ kept))
    (Moves-front seen f h j (ram ∷ []) waits (table ++ kept) waited)
    (Moves-turned seen f j k waits table kept now (Moves-by seen f j.pools.family j k (table ++ waits) now (ap (λ (p : Pools). p.family) waited.pools) carried_out)))

-- what the stack holds after a frame
pub applied_moves : {P : Type 0} (seen : P → View) (h i k : HomeView) (frame ram : P) (held changed carried after : List P)
    → Moves h i (total seen h.pools.family (frame ∷ held)) (total seen h.pools.family changed)
    → Moves i k (total seen i.pools.family (ram ∷ changed)) (total seen i.pools.family carried)
    → after ≡ carried
    → Moves h k (total seen h.pools.family (frame ∷ ram ∷ held)) (total seen h.pools.family after)
applied_moves {P} seen h i k frame ram held changed carried after changes carries is =
    let f : List ℕ = h.pools.family in
    subst (λ (ps : List P). Moves h k (total seen f (frame ∷ ram ∷ held)) (total seen f ps)) (sym is)
    (Moves-then h i k (total seen f (frame ∷ ram ∷ held)) (total seen f (ram ∷ changed)) (total seen f carried)
    (Moves-around seen f h i (frame ∷ []) (ram ∷ []) held changed changes)
    (Moves-by seen f i.pools.family i k (ram ∷ changed) carried (ap (λ (p : Pools). p.family) changes.pools) carries))
