-- Which connections have an end, as ends are made, changed and removed.
use Rattle.std.proofs.Common.{◌≡◌, ◌≢◌, ℕ, ◌+◌, ◌-◌, ◌==◌, if◌then◌else◌, cond, not, Bool, true, false, List, [], ◌∷◌, ◌++◌, length, filter, Option, Some, None, is_some, IfSome, IsTrue, Result, Ok, Err, slice_set, refl, sym, ap, ◌∙◌}
use Rattle.std.proofs.lemmas.Bool.{eqb-true, eqb-false, eq-eqb, ne_eqb}
use Rattle.lw_base.specs.declared.addresses.Ip.{Ip}
use Rattle.lw_base.specs.declared.addresses.Port.{Port}
use Rattle.lw_base.specs.declared.errors.Err.{Err as Code}
use Rattle.lw_udp.specs.declared.ends.UdpEnd.{UdpEnd}
use Rattle.lw_udp.specs.declared.delivery.Claim.{Claim}
use Rattle.lw_udp.specs.declared.delivery.Class.{Class}
use Rattle.lw_udp.specs.Delivery.{best, claim_of, class_of}
use Rattle.lw_udp.proofs.ClaimLaws.{delivery}
use Rattle.lw_udp.proofs.ListLaws.{not_found, one_passes}
use Rattle.lw_udp.specs.Ends.{Socket, Table as UdpTable, is_of, end_of, unbound, changed, with_local, with_remote, local_of}
use Rattle.lw_udp.specs.Ports.{bind, bound_by, connect, with_ephemeral, with_port, with_peer, result_map, table_after, bind_port, free_port}
use Rattle.std.specs.Option.{option_map, option_map_or}
use Rattle.lw_conn.specs.declared.connections.Connection.{Connection}
use Rattle.lw_udp.specs.Ports.{answer_of}
use Rattle.lw_conn.specs.Connections.{connection}
use Rattle.lw_api_msg.specs.Endpoints.{Table, Answer, HaveEnds, by_udp, reply_of}
use Rattle.lw_api_msg.proofs.PlaceLaws.{at, more_elsewhere, more_here, less_elsewhere, less_here, none_next, none_is, numbered, put_elsewhere, put_here}

-- a change of an end leaves its connection
has_changed : (es : List UdpEnd) (conn n : ℕ) (f : UdpEnd → UdpEnd) → ((e : UdpEnd) → (f e).conn ≡ e.conn) → is_some (end_of (changed es conn f) n) ≡ is_some (end_of es n)
has_changed [] conn n f keeps = refl
has_changed (e ∷ es) conn n f keeps =
    let x : UdpEnd = if is_of conn e then f e else e in
    let same : x.conn ≡ e.conn = elim (is_of conn e) as (λ b. (if b then f e else e).conn ≡ e.conn) [ true ↦ keeps e | false ↦ refl ] in
    let rest = has_changed es conn n f keeps in
    ap (λ (c : ℕ). is_some (cond (c == n) (Some x) (end_of (changed es conn f) n))) same
    ∙ elim (e.conn == n) as (λ b. is_some (cond b (Some x) (end_of (changed es conn f) n)) ≡ is_some (cond b (Some e) (end_of es n))) [
      | true ↦ refl
      | false ↦ rest
    ]

-- a new end is its connection's
has_added : (es : List UdpEnd) (conn n : ℕ) → n ≢ conn → is_some (end_of (es ++ unbound conn ∷ []) n) ≡ is_some (end_of es n)
has_added [] conn n other = ap (λ (b : Bool). is_some (cond b (Some (unbound conn)) None)) (ne_eqb conn n (λ e. other (sym e)))
has_added (e ∷ es) conn n other =
    let rest = has_added es conn n other in
    elim (e.conn == n) as (λ b. is_some (cond b (Some e) (end_of (es ++ unbound conn ∷ []) n)) ≡ is_some (cond b (Some e) (end_of es n))) [
      | true ↦ refl
      | false ↦ rest
    ]

has_own : (es : List UdpEnd) (conn : ℕ) → is_some (end_of (es ++ unbound conn ∷ []) conn) ≡ true
has_own [] conn = ap (λ (b : Bool). is_some (cond b (Some (unbound conn)) None)) (eq-eqb conn conn refl)
has_own (e ∷ es) conn =
    let rest = has_own es conn in
    elim (e.conn == conn) as (λ b. is_some (cond b (Some e) (end_of (es ++ unbound conn ∷ []) conn)) ≡ true) [
      | true ↦ refl
      | false ↦ rest
    ]

-- without the end of a connection the others stay
has_removed : (es : List UdpEnd) (conn n : ℕ) → n ≢ conn → is_some (end_of (filter (λ e. not (is_of conn e)) es) n) ≡ is_some (end_of es n)
has_removed [] conn n other = refl
has_removed (e ∷ es) conn n other =
    let rest = has_removed es conn n other in
    elim (e.conn == conn) as (λ b. (e.conn == conn) ≡ b → is_some (end_of (cond (not b) (e ∷ filter (λ x. not (is_of conn x)) es) (filter (λ x. not (is_of conn x)) es)) n) ≡ is_some (cond (e.conn == n) (Some e) (end_of es n))) [
      | true ↦ λ own.
          let its = eqb-true e.conn conn own in
          rest ∙ ap (λ (b : Bool). is_some (cond b (Some e) (end_of es n))) (sym (ne_eqb e.conn n (λ same. other (sym same ∙ its))))
      | false ↦ λ _. elim (e.conn == n) as (λ b. is_some (cond b (Some e) (end_of (filter (λ x. not (is_of conn x)) es) n)) ≡ is_some (cond b (Some e) (end_of es n))) [ true ↦ refl | false ↦ rest ]
    ] refl

has_none : (es : List UdpEnd) (conn : ℕ) → is_some (end_of (filter (λ e. not (is_of conn e)) es) conn) ≡ false
has_none [] conn = refl
has_none (e ∷ es) conn =
    let rest = has_none es conn in
    elim (e.conn == conn) as (λ b. (e.conn == conn) ≡ b → is_some (end_of (cond (not b) (e ∷ filter (λ x. not (is_of conn x)) es) (filter (λ x. not (is_of conn x)) es)) conn) ≡ false) [
      | true ↦ λ _. rest
      | false ↦ λ apart. ap (λ (b : Bool). is_some (cond b (Some e) (end_of (filter (λ x. not (is_of conn x)) es) conn))) apart ∙ rest
    ] refl

-- an end that was made and removed again leaves the table as it was
pub made_and_removed : (es : List UdpEnd) (conn : ℕ) → end_of es conn ≡ None → filter (λ e. not (is_of conn e)) (es ++ unbound conn ∷ []) ≡ es
made_and_removed [] conn none = ap (λ (b : Bool). cond (not b) (unbound conn ∷ []) []) (eq-eqb conn conn refl)
made_and_removed (e ∷ es) conn none =
    elim (e.conn == conn) as (λ b. cond b (Some e) (end_of es conn) ≡ None → cond (not b) (e ∷ filter (λ x. not (is_of conn x)) (es ++ unbound conn ∷ [])) (filter (λ x. not (is_of conn x)) (es ++ unbound conn ∷ [])) ≡ e ∷ es) [
      | true ↦ λ h. absurd (cc)
      | false ↦ λ h. ap (λ (l : List UdpEnd). e ∷ l) (made_and_removed es conn h)
    ] none

-- Bind and Connect leave which connections have an end
pub bound_ends : (u : UdpTable) (conn : ℕ) (own ip : Ip) (port : Port) (n : ℕ) → is_some (end_of (table_after u (bind u conn own ip port)).ends n) ≡ is_some (end_of u.ends n)
bound_ends u conn own ip port n =
    elim (bind_port u conn own ip port) as (λ r. is_some (end_of (table_after u (result_map (λ p. with_port u conn ip port p) r)).ends n) ≡ is_some (end_of u.ends n)) [
      | Ok p ↦ has_changed u.ends conn n (with_local (ip, p)) (λ e. refl)
      | Err code ↦ refl
    ]

any_ends : (u : UdpTable) (conn : ℕ) (local : Option Socket) (port : Option Port) (to : Socket) (n : ℕ) → is_some (end_of (table_after u (result_map (with_peer conn to) (bound_by u conn local port))).ends n) ≡ is_some (end_of u.ends n)
any_ends u conn (Some local) port to n = has_changed u.ends conn n (with_remote to) (λ e. refl)
any_ends u conn None (Some port) to n =
    has_changed (with_port u conn (record { 0 = 0 }) (record { 0 = 0 }) port).ends conn n (with_remote to) (λ e. refl)
    ∙ has_changed u.ends conn n (with_local (record { 0 = 0 }, port)) (λ e. refl)
any_ends u conn None None to n = refl

pub connected_ends : (u : UdpTable) (conn : ℕ) (to : Socket) (n : ℕ) → is_some (end_of (table_after u (connect u conn to)).ends n) ≡ is_some (end_of u.ends n)
connected_ends u conn to n = any_ends u conn (local_of u.ends conn) (free_port u) to n

-- a datagram from a fresh port binds its connection
pub ephemeral_ends : (u : UdpTable) (conn : ℕ) (port : Port) (n : ℕ) → is_some (end_of (with_ephemeral u conn port).ends n) ≡ is_some (end_of u.ends n)
ephemeral_ends u conn port n = has_changed u.ends conn n (with_local (record { 0 = 0 }, port)) (λ e. refl)

-- by both the same connections are there
module _ {C : Type 0} where
  pub both_added : (es : List UdpEnd) (cs : List (Option C)) (c : C) → ((n : ℕ) → is_some (end_of es n) ≡ is_some (at cs n)) → (conn : ℕ) → conn ≡ length cs + 1
      → (n : ℕ) → is_some (end_of (es ++ unbound conn ∷ []) n) ≡ is_some (at (cs ++ Some c ∷ []) n)
  both_added es cs c both conn next n =
      elim (n == conn) as (λ b. (n == conn) ≡ b → is_some (end_of (es ++ unbound conn ∷ []) n) ≡ is_some (at (cs ++ Some c ∷ []) n)) [
        | true ↦ λ own.
            let here = eqb-true n conn own in
            ap (λ (m : ℕ). is_some (end_of (es ++ unbound conn ∷ []) m)) here ∙ has_own es conn
            ∙ sym (ap (λ (m : ℕ). is_some (at (cs ++ Some c ∷ []) m)) (here ∙ next) ∙ ap is_some (more_here cs c))
        | false ↦ λ other.
            let away = eqb-false n conn other in
            has_added es conn n away ∙ both n ∙ ap is_some (sym (more_elsewhere cs (Some c) n (λ e. away (e ∙ sym next))))
      ] refl

  pub none_yet : (es : List UdpEnd) (cs : List (Option C)) → ((n : ℕ) → is_some (end_of es n) ≡ is_some (at cs n)) → (conn : ℕ) → conn ≡ length cs + 1 → end_of es conn ≡ None
  none_yet es cs both conn next = none_is (end_of es conn) (both conn ∙ ap is_some (none_next cs conn next))

  pub both_removed : (es : List UdpEnd) (cs : List (Option C)) → ((n : ℕ) → is_some (end_of es n) ≡ is_some (at cs n)) → (conn : ℕ) → 0 ≢ conn
      → (n : ℕ) → is_some (end_of (filter (λ e. not (is_of conn e)) es) n) ≡ is_some (at (slice_set cs (conn - 1) None) n)
  both_removed es cs both conn some n =
      elim (n == conn) as (λ b. (n == conn) ≡ b → is_some (end_of (filter (λ e. not (is_of conn e)) es) n) ≡ is_some (at (slice_set cs (conn - 1) None) n)) [
        | true ↦ λ own.
            let here = eqb-true n conn own in
            ap (λ (m : ℕ). is_some (end_of (filter (λ e. not (is_of conn e)) es) m)) here ∙ has_none es conn
            ∙ sym (ap (λ (m : ℕ). is_some (at (slice_set cs (conn - 1) None) m)) here ∙ ap is_some (less_here cs conn))
        | false ↦ λ other.
            let away = eqb-false n conn other in
            has_removed es conn n away ∙ both n ∙ ap is_some (sym (less_elsewhere cs conn n some away))
      ] refl

  -- what is put in place of a connection that is there has its end
  pub both_put : (es : List UdpEnd) (cs : List (Option C)) → ((n : ℕ) → is_some (end_of es n) ≡ is_some (at cs n)) → (conn : ℕ) (c : Option C) → is_some (at cs conn) ≡ true → is_some c ≡ true
      → (n : ℕ) → is_some (end_of es n) ≡ is_some (at (slice_set cs (conn - 1) c) n)
  both_put es cs both conn c live there n =
      elim (n == conn) as (λ b. (n == conn) ≡ b → is_some (end_of es n) ≡ is_some (at (slice_set cs (conn - 1) c) n)) [
        | true ↦ λ own.
            let here = eqb-true n conn own in
            both n ∙ ap (λ (m : ℕ). is_some (at cs m)) here ∙ live ∙ sym there
            ∙ sym (ap (λ (m : ℕ). is_some (at (slice_set cs (conn - 1) c) m)) here ∙ ap is_some (put_here cs conn c live))
        | false ↦ λ other. both n ∙ ap is_some (sym (put_elsewhere cs conn n c (numbered cs conn live) (eqb-false n conn other)))
      ] refl

-- A datagram goes to a connection that has an end

claim_number : (src dst : Socket) (e : UdpEnd) (c : Claim) → claim_of src dst e ≡ Some c → e.conn ≡ c.conn
claim_number src dst e c claims =
    elim (class_of src dst e) as (λ o. option_map (λ (class : Class). let it : Claim = record { class = class; conn = e.conn } in it) o ≡ Some c → e.conn ≡ c.conn) [ None ↦ λ h. absurd (cc) | Some class ↦ λ h. cc ] claims

pub best_has_end : (src dst : Socket) (es : List UdpEnd) (conn : ℕ) → best src dst es ≡ Some conn → is_some (end_of es conn) ≡ true
best_has_end src dst es conn goes =
    let it = delivery.somewhere src dst es conn goes in
    let e = it.claimed.0 in
    let its : is_of conn e ≡ true = eq-eqb e.conn conn (claim_number src dst e it.claim it.claimed.2 ∙ it.number) in
    let passes = one_passes (is_of conn) es e it.claimed.1 its in
    elim (end_of es conn) as (λ o. end_of es conn ≡ o → is_some o ≡ true) [
      | None ↦ λ none. absurd (let clash : false ≡ true = sym (not_found (is_of conn) es none) ∙ passes in cc)
      | Some x ↦ λ _. refl
    ] refl

-- so that connection is live where just the live ones have ends
pub best_is_live : (e : Table) (src dst : Socket) (r : Option ℕ) → HaveEnds e → r ≡ best src dst e.udp.ends → IfSome r (λ conn. IsTrue (is_some (connection e.conns conn)))
best_is_live e src dst (Some conn) both is = sym (both conn) ∙ best_has_end src dst e.udp.ends conn (sym is)
best_is_live e src dst None both is = tt

-- an answer of the table of UDP ends, and the table after it
pub by_udp_is : (e : Table) (r : Result UdpTable Code) → (reply_of (answer_of r), record e { udp = table_after e.udp r }) ≡ by_udp e r
by_udp_is e (Ok t) = refl
by_udp_is e (Err code) = refl

pub live_is : (o : Option Connection) (a d : Answer) → is_some o ≡ true → option_map_or (λ c. a) o d ≡ a
live_is (Some c) a d live = refl
live_is None a d live = absurd (let h = live in cc)
