use Rattle.std.proofs.Common.{◌≡◌, ◌≢◌, ℕ, Bool, true, false, not, cond, eq-eqb, List, filter, Option, Some, None, is_some, Result, Ok, Err, refl, ap, sym, ◌∙◌, Contains}
use Rattle.std.specs.List.{list_any}
use Rattle.std.specs.Option.{option_map}
use Rattle.std.proofs.lemmas.Bool.{false≢true}
use Rattle.std.proofs.lemmas.List.Elements.{filter_passes}
use Rattle.lw_base.specs.declared.addresses.Ip.{Ip}
use Rattle.lw_base.specs.declared.addresses.Port.{Port}
use Rattle.lw_base.specs.declared.errors.Err.{Err as Code}
use Rattle.lw_base.specs.declared.errors.Err.TheVariants.{Val}
use Rattle.lw_udp.specs.declared.ends.UdpEnd.{UdpEnd}
use Rattle.lw_udp.specs.declared.delivery.Claim.{Claim}
use Rattle.lw_udp.specs.declared.delivery.Class.{Class}
use Rattle.lw_udp.specs.Ends.{Socket, Table, is_of, local_of, removed}
use Rattle.lw_udp.specs.Delivery.{class_of, claim_of, best}
use Rattle.lw_udp.specs.Ports.{has_port, is_used, first_free, free_port, clash, clashes, wanted, unless_taken, granted, bind_port}
use Rattle.lw_udp.specs.Laws.{LivePortLaw, RemovedLaw}
use Rattle.lw_udp.proofs.ListLaws.{one_passes, each_fails, found_passes, none_left}
use Rattle.lw_udp.proofs.ClaimLaws.{delivery}

-- Ports of live ends

-- the first port that isn't in use isn't in use
first_is_free : (ends : List UdpEnd) (given : Port) (n : ℕ) (port : Port) → first_free ends given n ≡ Some port → not (is_used ends port) ≡ true
unfolding first_free
first_is_free ends given n port next = found_passes (λ (port : Port). not (is_used ends port)) _ port next

-- the port that comes next isn't that of a live end
ephemeral : (t : Table) (e : UdpEnd) (local : Socket) → Contains t.ends e → e.local ≡ Some local → free_port t ≢ Some local.1
ephemeral t e local there bound next =
    let free = first_is_free t.ends t.given 16384 local.1 next in
    let its : has_port local.1 e ≡ true = rw bound (eq-eqb local.1.0 local.1.0 refl) in
    let used : is_used t.ends local.1 ≡ true = one_passes (has_port local.1) t.ends e there its in
    false≢true (ap not (sym used) ∙ free)

-- what is granted clashes with no end
granted_is_apart : (ends : List UdpEnd) (ip : Ip) (asked : Option Port) (port : Port) → granted ends ip asked ≡ Ok port → list_any (clashes (ip, port)) ends ≡ false
granted_is_apart ends ip None port ok = absurd (cc)
granted_is_apart ends ip (Some p) port ok =
    elim (list_any (clashes (ip, p)) ends) as (λ b. list_any (clashes (ip, p)) ends ≡ b → unless_taken b p ≡ Ok port → list_any (clashes (ip, port)) ends ≡ false) [
      | true ↦ λ _ h. absurd (cc)
      | false ↦ λ apart h. let it : p ≡ port = cc in ap (λ (q : Port). list_any (clashes (ip, q)) ends) (sym it) ∙ apart
    ] refl ok

bound_by_grant : (b c : Bool) (r : Result Port Code) (port : Port) → cond b (Err Val) (cond c (Err Val) r) ≡ Ok port → r ≡ Ok port
bound_by_grant true c r port ok = absurd (cc)
bound_by_grant false true r port ok = absurd (cc)
bound_by_grant false false r port ok = ok

-- a socket that Bind gives clashes with no end
given_is_apart : (t : Table) (conn : ℕ) (own ip : Ip) (port given : Port) → bind_port t conn own ip port ≡ Ok given → list_any (clashes (ip, given)) t.ends ≡ false
given_is_apart t conn own ip port given ok =
    granted_is_apart t.ends ip (wanted t port) given (bound_by_grant (is_some (local_of t.ends conn)) _ (granted t.ends ip (wanted t port)) given ok)

by_bind : (t : Table) (e : UdpEnd) (local : Socket) → Contains t.ends e → e.local ≡ Some local → (conn : ℕ) (own ip : Ip) (port given : Port) → bind_port t conn own ip port ≡ Ok given → clash local (ip, given) ≡ false
by_bind t e local there bound conn own ip port given ok =
    let apart : clashes (ip, given) e ≡ false = each_fails (clashes (ip, given)) t.ends e there (given_is_apart t conn own ip port given ok) in
    rw bound at apart

pub live_port : LivePortLaw
live_port t e local there bound = record { ephemeral = ephemeral t e local there bound; by_bind = by_bind t e local there bound }

-- What was removed

claim_number : (src dst : Socket) (e : UdpEnd) (c : Claim) → claim_of src dst e ≡ Some c → e.conn ≡ c.conn
claim_number src dst e c claims =
    elim (class_of src dst e) as (λ o. option_map (λ (class : Class). let it : Claim = record { class = class; conn = e.conn } in it) o ≡ Some c → e.conn ≡ c.conn) [ None ↦ λ h. absurd (cc) | Some class ↦ λ h. cc ] claims

no_datagram : (t : Table) (conn : ℕ) (src dst : Socket) → best src dst (removed t conn).ends ≢ Some conn
no_datagram t conn src dst goes =
    let left : UdpEnd → Bool = λ e. not (is_of conn e) in
    let it = delivery.somewhere src dst (filter left t.ends) conn goes in
    let e = it.claimed.0 in
    let at = it.claimed.1 in
    let same : e.conn ≡ conn = claim_number src dst e it.claim it.claimed.2 ∙ it.number in
    let passes : left e ≡ true = ap left (sym at.2) ∙ filter_passes left t.ends at.0 e at.1 in
    false≢true (ap not (sym (eq-eqb e.conn conn same)) ∙ passes)

pub gone : RemovedLaw
gone = record { no_end = λ t conn. none_left (is_of conn) t.ends; no_datagram = no_datagram }
