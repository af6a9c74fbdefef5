-- What the answers to calls leave as it was, and the steps of events that bring no payload.
use Rattle.std.proofs.Common.{◌≡◌, ℕ, ◌+◌, ◌==◌, ◌&&◌, ◌∙◌, nat_lt, is_some, Bool, true, false, List, [], Option, Some, None, IfSome, Result, Ok, Err, length, refl, sym, ap, subst, if◌then◌else◌}
use Rattle.std.specs.Option.{option_map_or}
use Rattle.std.proofs.lemmas.List.{length-set}
use Rattle.lw_base.specs.declared.addresses.Ip.{Ip}
use Rattle.lw_base.specs.declared.errors.Err.{Err as Code}
use Rattle.lw_base.specs.declared.errors.Err.TheVariants.{Conn as NoConn, Val}
use Rattle.lw_base.specs.declared.limits.Limits.{Limits}
use Rattle.lw_events.specs.declared.event.Event.{Event}
use Rattle.lw_events.specs.declared.event.Event.TheVariants.{Frame, Tick, New, Bind, Connect, Listen, Write, SendTo, Recved, Shutdown, Close, GetError, GetAddr, NoDelay, OpenFd, SetFd, CloseFd, SetVar, Signal, Sent, Stop}
use Rattle.lw_events.specs.declared.event.Proto.TheVariants.{Udp}
use Rattle.lw_events.specs.declared.event.Handle.{Handle}
use Rattle.lw_events.specs.declared.event.Handle.TheVariants.{Conn as OfConn, Fd as OfFd}
use Rattle.lw_events.specs.declared.event.Reply.{Reply}
use Rattle.lw_events.specs.declared.event.Reply.TheVariants.{Done, Conn as ConnReply}
use Rattle.lw_events.specs.declared.entry.Entry.{Entry}
use Rattle.lw_netif.specs.Route.{route_of}
use Rattle.lw_udp.specs.Ends.{Socket, Table as UdpTable, removed}
use Rattle.lw_udp.specs.Ports.{bind as udp_bind, bound}
use Rattle.lw_conn.specs.declared.connections.Connection.{Connection}
use Rattle.lw_conn.specs.declared.variables.Variable.{Variable}
use Rattle.lw_conn.specs.Connections.{Connections, added, closed as without, connection, live_count, next_number}
use Rattle.lw_conn.specs.declared.descriptors.Descriptor.{Descriptor}
use Rattle.lw_conn.specs.Descriptors.{descriptor, lowest_free, set as fd_set, closed as fd_closed}
use Rattle.lw_conn.specs.Variables.{put}
use Rattle.lw_api_msg.specs.Endpoints.{Answer, Table, by_udp, close, connect_by, is_peer, is_udp, made, new_udp, opened_at, refused, setvar}
use Rattle.lw_api_msg.proofs.PlaceLaws.{next_is}
use Rattle.lw_layers.specs.Calls.{call_answer, HasVariables, IsAsking}
use Rattle.lw_layers.specs.History.{granted, IsStep}
use Rattle.lw_input.specs.State.{State}
use Rattle.lw_layers.specs.Outcomes.{Outcome}
use Rattle.lw_layers.specs.Step.{Answered, Served, by_answer, served, served_step}

-- What answers keep

-- an answer leaves which connections there are, and how many variables
abbrev pub Keeps : Table → Answer → Type 0
Keeps e a = (a.1.conns ≡ e.conns) × (length a.1.vars ≡ length e.vars)

or_keeps : {A : Type 0} (e : Table) (o : Option A) (f : A → Answer) (code : Code) → ((x : A) → Keeps e (f x)) → Keeps e (option_map_or f o (refused e code))
or_keeps e None f code each = (refl, refl)
or_keeps e (Some x) f code each = each x

by_udp_keeps : (e : Table) (r : Result UdpTable Code) → Keeps e (by_udp e r)
by_udp_keeps e (Ok t) = (refl, refl)
by_udp_keeps e (Err code) = (refl, refl)

connect_keeps : (e : Table) (conn : ℕ) (to : Socket) (r : Result UdpTable Code) (route : Result Ip Code) → Keeps e (connect_by e conn to r route)
connect_keeps e conn to (Err code) route = (refl, refl)
connect_keeps e conn to (Ok t) (Err code) = (refl, refl)
connect_keeps e conn to (Ok t) (Ok hop) = (refl, refl)

if_keeps : (e : Table) (b : Bool) (x y : Answer) → Keeps e x → Keeps e y → Keeps e (if b then x else y)
if_keeps e true x y first second = first
if_keeps e false x y first second = second

opened_keeps : (e : Table) (conn : ℕ) (c : Connection) (o : Option ℕ) → Keeps e (opened_at e conn c o)
opened_keeps e conn c None = (refl, refl)
opened_keeps e conn c (Some fd) = (refl, refl)

setvar_keeps : (e : Table) (var : ℕ) (handle : Handle) → Keeps e (setvar e var handle)
setvar_keeps e var (OfConn conn) =
    let v : Connection → Variable = λ c. record { handle = OfConn conn; udp = is_udp c.proto } in
    let f : Connection → Answer = λ c. (Done, record e { vars = put e.vars var (v c) }) in
    or_keeps e (connection e.conns conn) f NoConn (λ c. (refl, length-set e.vars var (Some (v c))))
setvar_keeps e var (OfFd fd) = (refl, length-set e.vars var (Some (record { handle = OfFd fd; udp = false })))

-- an event that asks for no more
asking_keeps : (limits : Limits) (s : State) (event : Event (List ℕ)) → IsAsking limits event → IfSome (call_answer s event) (Keeps s.endpoints)
asking_keeps limits s (Frame octets) asks = tt
asking_keeps limits s Tick asks = tt
asking_keeps limits s (New proto) asks = absurd asks
asking_keeps limits s (Bind conn ip port) asks =
    or_keeps s.endpoints (connection s.endpoints.conns conn) (λ c. by_udp s.endpoints (udp_bind s.endpoints.udp conn s.link.net.ip ip port)) NoConn
    (λ c. by_udp_keeps s.endpoints (udp_bind s.endpoints.udp conn s.link.net.ip ip port))
asking_keeps limits s (Connect conn ip port) asks =
    let yes : Answer = connect_by s.endpoints conn (ip, port) (bound s.endpoints.udp conn) (route_of s.link.net ip) in
    or_keeps s.endpoints (connection s.endpoints.conns conn) (λ c. if is_peer s.link.net ip port then yes else refused s.endpoints Val) NoConn
    (λ c. if_keeps s.endpoints (is_peer s.link.net ip port) yes (refused s.endpoints Val)
    (connect_keeps s.endpoints conn (ip, port) (bound s.endpoints.udp conn) (route_of s.link.net ip)) (refl, refl))
asking_keeps limits s (Listen conn) asks = (refl, refl)
asking_keeps limits s (Write conn octets) asks = (refl, refl)
asking_keeps limits s (SendTo conn ip port octets) asks = tt
asking_keeps limits s (Recved conn n) asks = (refl, refl)
asking_keeps limits s (Shutdown conn) asks = (refl, refl)
asking_keeps limits s (Close conn) asks = absurd asks
asking_keeps limits s (GetError conn) asks = (refl, refl)
asking_keeps limits s (GetAddr conn which) asks = (refl, refl)
asking_keeps limits s (NoDelay conn on) asks = (refl, refl)
asking_keeps limits s (OpenFd conn) asks =
    or_keeps s.endpoints (connection s.endpoints.conns conn) (λ c. opened_at s.endpoints conn c (lowest_free s.endpoints.fds)) NoConn
    (λ c. opened_keeps s.endpoints conn c (lowest_free s.endpoints.fds))
asking_keeps limits s (SetFd fd option) asks =
    let f : Descriptor → Answer = λ d. (Done, record s.endpoints { fds = fd_set s.endpoints.fds fd option }) in
    or_keeps s.endpoints (descriptor s.endpoints.fds fd) f NoConn (λ d. (refl, refl))
asking_keeps limits s (CloseFd fd) asks =
    let f : Descriptor → Answer = λ d. (ConnReply d.conn, record s.endpoints { fds = fd_closed s.endpoints.fds fd }) in
    or_keeps s.endpoints (descriptor s.endpoints.fds fd) f NoConn (λ d. (refl, refl))
asking_keeps limits s (SetVar var handle) asks = setvar_keeps s.endpoints var handle
asking_keeps limits s (Signal signal) asks = (refl, refl)
asking_keeps limits s (Sent n) asks = (refl, refl)
asking_keeps limits s Stop asks = tt

pub answer_keeps : (limits : Limits) (s : State) (event : Event (List ℕ)) (a : Answer) → IsAsking limits event → call_answer s event ≡ Some a → Keeps s.endpoints a
answer_keeps limits s event a asks is = subst (λ (o : Option Answer). IfSome o (Keeps s.endpoints)) is (asking_keeps limits s event asks)

-- what New and Close keep
made_vars : (e : Table) (o : Option ℕ) → (made e o).1.vars ≡ e.vars
made_vars e None = refl
made_vars e (Some conn) = refl

pub new_vars : (limits : Limits) (e t : Table) (reply : Reply) → (reply, t) ≡ new_udp limits e → t.vars ≡ e.vars
new_vars limits e t reply is = ap (λ (a : Answer). a.1.vars) is ∙ made_vars e (next_number limits.live e.conns)

closed_vars : (e : Table) (conn : ℕ) (o : Option Connection)
    → (option_map_or (λ (c : Connection). let a : Answer = (Done, record e { udp = removed e.udp conn; conns = without e.conns conn }) in a) o (refused e NoConn)).1.vars ≡ e.vars
closed_vars e conn None = refl
closed_vars e conn (Some c) = refl

pub close_vars : (e t : Table) (conn : ℕ) (reply : Reply) → (reply, t) ≡ close e conn → t.vars ≡ e.vars
close_vars e t conn reply is = ap (λ (a : Answer). a.1.vars) is ∙ closed_vars e conn (connection e.conns conn)

-- the number of the next connection, and the connections with it
pub number_is : (limits : Limits) (cs : Connections) (conn : ℕ) → Some conn ≡ next_number limits.live cs → conn ≡ length cs + 1
number_is limits cs conn is = next_is (nat_lt (live_count cs) limits.live && nat_lt (length cs) 4096) cs conn (sym is)

pub new_conns : (limits : Limits) (e t : Table) (reply : Reply) (conn : ℕ) → Some conn ≡ next_number limits.live e.conns → (reply, t) ≡ new_udp limits e → t.conns ≡ added e.conns Udp
new_conns limits e t reply conn next is = ap (λ (a : Answer). a.1.conns) (is ∙ ap (made e) (sym next))

-- the connections without one that was live
live_answer : (o : Option Connection) (a d : Answer) → is_some o ≡ true → option_map_or (λ c. a) o d ≡ a
live_answer (Some c) a d live = refl
live_answer None a d live = absurd (let h = live in cc)

pub close_conns : (e t : Table) (conn : ℕ) (reply : Reply) → is_some (connection e.conns conn) ≡ true → (reply, t) ≡ close e conn → t.conns ≡ without e.conns conn
close_conns e t conn reply live is =
    ap (λ (a : Answer). a.1.conns)
    (is ∙ live_answer (connection e.conns conn) (Done, record e { udp = removed e.udp conn; conns = without e.conns conn }) (refused e NoConn) live)

-- The steps of events that bring no payload

-- what becomes of an event that is answered
pub answers : (s : State) (event : Event (List ℕ)) (a : Answer) → call_answer s event ≡ Some a → served s event ≡ Answered a
answers s (Frame octets) a is = absurd (let h = is in cc)
answers s Tick a is = absurd (let h = is in cc)
answers s (SendTo conn ip port given) a is = absurd (let h = is in cc)
answers s Stop a is = absurd (let h = is in cc)
answers s other a is = ap by_answer is

-- the entry and the reply of an event for which no pool was short, and that posted and sent nothing
abbrev pub quiet_entry : ℕ → Event (List ℕ) → Reply → Entry × Reply
quiet_entry actor event reply = (record { actor = actor; event = event; short = false; posts = []; frames = []; reply = reply }, reply)

abbrev quiet_outcome : State → Reply → Outcome
quiet_outcome t reply = record { state = t; reply = reply; short = false; posts = []; frames = [] }

-- the step of an event that sends nothing, by what becomes of it
pub quiet_by : (s t : State) (actor : ℕ) (event : Event (List ℕ)) (x : Served) (reply : Reply) (r : Entry × Reply)
    → served s event ≡ x → served_step s x granted ≡ quiet_outcome t reply → r ≡ quiet_entry actor event reply → IsStep s actor event r.0 r.1 t
quiet_by s t actor event x reply r is does entry =
    let stepped : served_step s (served s event) granted ≡ quiet_outcome t reply = ap (λ (y : Served). served_step s y granted) is ∙ does in
    let tells : Outcome → Entry = λ o. record { actor = actor; event = event; short = o.short; posts = o.posts; frames = o.frames; reply = o.reply } in
    subst (λ (q : Entry × Reply). IsStep s actor event q.0 q.1 t) (sym entry)
    (record {
      made = sym (ap tells stepped);
      answered = sym (ap (λ (o : Outcome). o.reply) stepped);
      moved = sym (ap (λ (o : Outcome). o.state) stepped);
    })

-- an event that is answered
pub answer_step : (s t : State) (actor : ℕ) (event : Event (List ℕ)) (a : Answer) (r : Entry × Reply)
    → call_answer s event ≡ Some a → t ≡ record s { endpoints = a.1 } → r ≡ quiet_entry actor event a.0 → IsStep s actor event r.0 r.1 t
answer_step s t actor event a r is after entry =
    let same = λ (u : State). let o : Outcome = quiet_outcome u a.0 in o in
    quiet_by s t actor event (Answered a) a.0 r (answers s event a is) (ap same (sym after)) entry
