use Rattle.std.specs.Prelude.{◌≡◌, ℕ, ◌==◌, ◌&&◌, ◌||◌, nat_lt, Bool, false, List, Option, Some, None, if◌then◌else◌, option_and_then, All, Contains}
use Rattle.std.specs.List.{filter_map, reduce}
use Rattle.std.specs.Option.{option_map}
use Rattle.lw_udp.specs.declared.ends.UdpEnd.{UdpEnd}
use Rattle.lw_udp.specs.declared.delivery.Claim.{Claim}
use Rattle.lw_udp.specs.declared.delivery.Class.{Class}
use Rattle.lw_udp.specs.declared.delivery.Class.TheVariants.{ConnectedExact, ConnectedAny, Exact, Any}
use Rattle.lw_udp.specs.Ends.{Socket, same_socket}

-- Which end a datagram goes to (RFC 768; RFC 1122, section 4.1.3.5).

-- an end takes datagrams to the socket that it is bound to; one that is bound to 0.0.0.0 those to any address
abbrev pub is_bound_for : Socket → Socket → Bool
is_bound_for dst local = (local.1.0 == dst.1.0) && ((local.0.0 == 0) || (local.0.0 == dst.0.0))

-- an end is exact where it is bound to the datagram's destination address itself
abbrev pub is_exact : Socket → Socket → Bool
is_exact dst local = local.0.0 == dst.0.0

-- the class of an end that is bound for the datagram: an end that is connected takes what comes from its peer alone
abbrev pub class_by : Bool → Socket → Option Socket → Option Class
class_by exact src None = Some (if exact then Exact else Any)
class_by exact src (Some peer) = if same_socket peer src then Some (if exact then ConnectedExact else ConnectedAny) else None

-- the class in which an end matches a datagram from src to dst, None where it doesn't
abbrev pub class_of : Socket → Socket → UdpEnd → Option Class
class_of src dst e =
    option_and_then (λ local. if is_bound_for dst local then class_by (is_exact dst local) src e.remote else None) e.local

-- the classes in their order, the best first
abbrev pub rank : Class → ℕ
rank ConnectedExact = 0
rank ConnectedAny = 1
rank Exact = 2
rank Any = 3

-- the claim of an end on a datagram
abbrev pub claim_of : Socket → Socket → UdpEnd → Option Claim
claim_of src dst e = option_map (λ class. record { class = class; conn = e.conn }) (class_of src dst e)

-- of two claims that of the better class goes first, on a tie that of the lesser connection number
abbrev pub goes_before : Claim → Claim → Bool
goes_before a b =
    nat_lt (rank a.class) (rank b.class) || ((rank a.class == rank b.class) && nat_lt a.conn b.conn)

-- the one of two claims that goes first
abbrev pub first_of : Claim → Claim → Claim
first_of a b = if goes_before b a then b else a

-- the same where one of them, or both, may be missing
abbrev pub first_with : Option Claim → Option Claim → Option Claim
first_with None b = b
first_with (Some a) None = Some a
first_with (Some a) (Some b) = Some (first_of a b)

-- the first of all claims on a datagram
abbrev pub first_claim : Socket → Socket → List UdpEnd → Option Claim
first_claim src dst ends = reduce first_of (filter_map (claim_of src dst) ends)

-- the connection that a datagram goes to
abbrev pub best : Socket → Socket → List UdpEnd → Option ℕ
best src dst ends = option_map (λ c. c.conn) (first_claim src dst ends)

-- The same, said of all ends.

-- a datagram goes to a connection: it has a claim on it, and no end's claim goes before that
pub record GoesTo (src dst : Socket) (ends : List UdpEnd) (conn : ℕ) : Type 0 where
  pub claim : Claim
  pub number : claim.conn ≡ conn
  pub claimed : (e : UdpEnd) × Contains ends e × (claim_of src dst e ≡ Some claim)
  pub first : All (λ e. (other : Claim) → claim_of src dst e ≡ Some other → goes_before other claim ≡ false) ends

-- a datagram goes to no connection: no end has a claim on it
abbrev pub GoesNowhere : Socket → Socket → List UdpEnd → Type 0
GoesNowhere src dst ends = All (λ e. claim_of src dst e ≡ None) ends
