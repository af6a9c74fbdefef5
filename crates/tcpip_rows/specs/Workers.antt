-- What holds of those who serve and of those who call, before their work and after it.
use Rattle.std.specs.Prelude.{◌≡◌, [], true, false}
use Rattle.hist_lock.specs.Callers.{Begun, IsCallerOf}
use Rattle.tcpip_mbox.specs.Tokens.{Named}
use Rattle.lw_tcpip.specs.declared.message.Service.{Service}
use Rattle.lw_tcpip.specs.Tokens.{IsLineOf, IsServerOf}
use Rattle.tcpip_rows.specs.declared.counter.Counter.{Counter}
use Rattle.tcpip_rows.specs.declared.worker.Clerk.{Clerk}
use Rattle.tcpip_rows.specs.declared.worker.Worker.{Worker}
use Rattle.tcpip_rows.specs.declared.worker.Worker.TheVariants.{Asks, Calls}

-- the server has taken nothing, and its caller is the one who is to serve
abbrev pub IsServing : Named (Service (Begun Counter)) → Clerk → Type 0
IsServing t s = IsServerOf t s.server × (s.server.taken ≡ []) × (s.server.lost ≡ false) × IsCallerOf t.key.lock.value s.who × (s.who.number ≡ t.key.server) × (s.who.mine ≡ [])

-- the server has ended
abbrev pub HasServed : Named (Service (Begun Counter)) → Clerk → Type 0
HasServed t s = IsServerOf t s.server × (s.server.ended ≡ true) × IsCallerOf t.key.lock.value s.who

-- it calls this object, and its line has not left
abbrev pub IsReady : Named (Service (Begun Counter)) → Worker → Type 0
IsReady t (Asks l c) = IsLineOf t l × (l.left ≡ false) × IsCallerOf t.key.lock.value c
IsReady t (Calls c) = IsCallerOf t.key.lock.value c

-- it called this object
abbrev pub IsDone : Named (Service (Begun Counter)) → Worker → Type 0
IsDone t (Asks l c) = IsLineOf t l × IsCallerOf t.key.lock.value c
IsDone t (Calls c) = IsCallerOf t.key.lock.value c
