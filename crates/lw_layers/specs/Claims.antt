-- The payloads that an event takes out of the Home.
use Rattle.std.specs.Prelude.{◌≡◌, ℕ, ◌+◌, ◌^◌, ◌<◌, ◌⊎◌, [], ◌∷◌, length, IsSome, IsTrue}
use Rattle.lw_payload.specs.declared.kinds.Kind.{Kind}
use Rattle.lw_payload.specs.declared.kinds.Kind.TheVariants.{Ram, Rom, Ref}
use Rattle.lw_payload.specs.Views.{Slot, View, HomeView, IsShort, IsTooLong}
use Rattle.lw_payload.specs.Totals.{total, Moves}
use Rattle.lw_events.specs.declared.event.Event.{Event}
use Rattle.lw_events.specs.declared.event.Event.TheVariants.{Frame, SendTo}
use Rattle.lw_events.specs.declared.event.Reply.{Reply}
use Rattle.lw_events.specs.declared.event.Reply.TheVariants.{Done}
use Rattle.lw_layers.specs.Sends.{kind_of}

-- a Home makes payloads of a kind, of n octets
pub record Makes (h : HomeView) (kind : Kind) (n : ℕ) : Type 0 where
  pub makes : IsTrue (h.pools.makes kind)
  pub fits : ¬ (IsTooLong h kind n)

-- what a stack asks its Home for: payloads of RAM, of as many octets as a packet has at most, and of ROM and REF, of one octet
pub record MakesPayloads (h : HomeView) : Type 0 where
  pub ram : Makes h Ram 1500
  pub rom : Makes h Rom 1
  pub ref : Makes h Ref 1

-- a payload p of a kind came out of a Home h, which is k then, and which had a pbuf of the kind free; it has rows of that kind alone
pub record IsClaimed (kind : Kind) (h k : HomeView) (p : View) : Type 0 where
  pub rows : (s : Slot) → k.rows s ≡ h.rows s + p.rows s
  pub alone : (s : Slot) → 0 < p.rows s → s.kind ≡ kind
  pub weight : k.weight + p.weight ≡ h.weight
  pub pools : k.pools ≡ h.pools
  pub counts : k.counts ≡ h.counts
  pub family : p.family ≡ h.pools.family
  pub short : length p.octets < 2 ^ 32
  pub free : ¬ (IsShort h kind 1)

-- a kind is short in a Home: the Home may refuse a payload of it, and where it is a kept kind, none of its pbufs is free
pub record KindIsShort {H : Type 0} (may_refuse : H → H → Kind → ℕ → Type 0) (home : H) (h : HomeView) (kind : Kind) : Type 0 where
  pub after : H
  pub octets : ℕ
  pub refused : may_refuse home after kind octets
  pub kept : IsSome (h.pools.size kind) → IsShort h kind 1

-- so a Home refused a payload of a kind, and nothing else changed in it
pub record IsRefusedKind {H : Type 0} (may_refuse : H → H → Kind → ℕ → Type 0) (home : H) (h k : HomeView) (kind : Kind) : Type 0 where
  pub short : KindIsShort may_refuse home h kind
  pub rows : (s : Slot) → k.rows s ≡ h.rows s
  pub weight : k.weight ≡ h.weight
  pub pools : k.pools ≡ h.pools
  pub counts : k.counts ≡ h.counts

-- a kind is short for an event that may have taken a payload of another kind before: the Home may refuse a payload of it then, and
-- where it is a kept kind, none of its pbufs is free
pub record IsShortOf {H : Type 0} (may_refuse : H → H → Kind → ℕ → Type 0) (h : HomeView) (kind : Kind) : Type 0 where
  pub before : H
  pub after : H
  pub octets : ℕ
  pub refused : may_refuse before after kind octets
  pub kept : IsSome (h.pools.size kind) → IsShort h kind 1

-- what a datagram that is sent claimed: payloads of a kind and of RAM came out of a Home h, which is k then, and which had pbufs
-- of both kinds free
pub record AreClaimed {P : Type 0} (seen : P → View) (kind : Kind) (h k : HomeView) (rom ram : P) : Type 0 where
  pub moves : Moves h k (total seen h.pools.family []) (total seen h.pools.family (rom ∷ ram ∷ []))
  pub free : ¬ (IsShort h kind 1)
  pub free_ram : ¬ (IsShort h Ram 1)

-- a Home refused one of them, and nothing went out of it
pub record AreRefused {P H : Type 0} (seen : P → View) (may_refuse : H → H → Kind → ℕ → Type 0) (kind : Kind) (h k : HomeView) : Type 0 where
  pub moves : Moves h k (total seen h.pools.family []) (total seen h.pools.family [])
  pub short : IsShortOf may_refuse h kind ⊎ IsShortOf may_refuse h Ram

-- a kind is short for an event: RAM for a frame; the kind that describes its octets, or RAM, for a datagram that is sent; no other
-- event takes payloads
abbrev pub IsShortFor : {P H : Type 0} → (H → H → Kind → ℕ → Type 0) → H → HomeView → Event P → Type 0
IsShortFor may_refuse home h (Frame p) = KindIsShort may_refuse home h Ram
IsShortFor may_refuse home h (SendTo conn ip port given) = IsShortOf may_refuse h (kind_of given) ⊎ IsShortOf may_refuse h Ram
IsShortFor may_refuse home h other = ⊥

-- all kinds that an event takes were free: a datagram that isn't sent takes none
abbrev pub IsEnoughFor : {P : Type 0} → HomeView → Event P → Reply → Type 0
IsEnoughFor h (Frame p) reply = ¬ (IsShort h Ram 1)
IsEnoughFor h (SendTo conn ip port given) reply = reply ≡ Done → (¬ (IsShort h (kind_of given) 1)) × (¬ (IsShort h Ram 1))
IsEnoughFor h other reply = Unit {0}
