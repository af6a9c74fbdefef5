-- The texts of transcripts, and which transcripts there are.
use Rattle.std.specs.Prelude.{ℕ, ◌+◌, ◌*◌, ◌^◌, ◌<◌, ◌≤◌, ◌≡◌, Bool, true, false, ◌&&◌, nat_lt, nat_le, IsTrue, IsSome, IsNone, List, [], ◌∷◌, ◌++◌, length, map, All, codes, decimal, Option, Some, None, option_to_list}
use Rattle.std.specs.List.{flat_map, list_all, join_with_byte}
use Rattle.std.specs.List.Sorted.{IsStrictlyIncreasing}
use Rattle.lw_events.specs.declared.event.Event.{Event}
use Rattle.lw_events.specs.declared.event.Event.TheVariants.{Frame, SetVar, Signal}
use Rattle.lw_events.specs.declared.entry.ItemText.{ItemText}
use Rattle.lw_events.specs.declared.entry.ItemText.TheVariants.{Segment, Datagram, Accepted}
use Rattle.lw_events.specs.declared.entry.Post.{Post}
use Rattle.lw_events.specs.declared.entry.Post.TheVariants.{Item, Full}
use Rattle.call_types.specs.declared.outcome.Outcome.{Outcome}
use Rattle.call_types.specs.declared.outcome.Outcome.TheVariants.{Ready}
use Rattle.call_types.specs.declared.sight.Sight.{Sight}
use Rattle.call_types.specs.declared.sight.Sight.TheVariants.{Take, Datagram as DatagramSight, Saw as SawWord, Count, Var}
use Rattle.lw_transcript.specs.declared.lines.Version.{Version}
use Rattle.lw_transcript.specs.declared.lines.Version.TheVariants.{One, Two}
use Rattle.lw_transcript.specs.declared.lines.Form.{Form}
use Rattle.lw_transcript.specs.declared.lines.Form.TheVariants.{Serial, Run, Pair}
use Rattle.lw_transcript.specs.declared.lines.Sizes.{Sizes}
use Rattle.lw_transcript.specs.declared.lines.CoreLine.{CoreLine}
use Rattle.lw_transcript.specs.declared.lines.Evidence.{Evidence}
use Rattle.lw_transcript.specs.declared.lines.Evidence.TheVariants.{At, Saw}
use Rattle.lw_transcript.specs.declared.lines.CallPart.{CallPart}
use Rattle.lw_transcript.specs.declared.lines.ActorPart.{ActorPart}
use Rattle.lw_transcript.specs.declared.lines.Left.{Left}
use Rattle.lw_transcript.specs.declared.lines.Share.{Share}
use Rattle.lw_transcript.specs.declared.lines.Pools.{Pools}
use Rattle.lw_transcript.specs.declared.lines.EndLine.{EndLine}
use Rattle.lw_transcript.specs.declared.lines.Body.{Body}
use Rattle.lw_transcript.specs.declared.lines.Transcript.{Transcript}
use Rattle.lw_transcript.specs.Fields.{Field, Word, Number, Share as ShareField, line}
use Rattle.lw_transcript.specs.CoreLines.{core_lines}
use Rattle.lw_transcript.specs.CallLines.{call_lines}

-- the version as the first line names it
abbrev pub version_text : Version → List ℕ
version_text One = codes "1"
version_text Two = codes "2"

-- the form as the first line names it
abbrev pub form_name : Form → List ℕ
form_name (Serial body) = codes "serial"
form_name (Run body) = codes "run"
form_name (Pair a b) = codes "pair"

-- the first line, as `lwip 1 serial`
abbrev pub head_text : Version → Form → List ℕ
head_text version form = line (Word (codes "lwip") ∷ Word (version_text version) ∷ Word (form_name form) ∷ [])

-- the fields of the sizes: `sizes ram A pool B rom C ref D box E tcpip F fds G window W`
abbrev pub sizes_fields : Sizes → List Field
sizes_fields sizes =
    Word (codes "sizes") ∷ Word (codes "ram") ∷ Number sizes.ram ∷ Word (codes "pool") ∷ Number sizes.pool
    ∷ Word (codes "rom") ∷ Number sizes.rom ∷ Word (codes "ref") ∷ Number sizes.reference
    ∷ Word (codes "box") ∷ Number sizes.mailbox ∷ Word (codes "tcpip") ∷ Number sizes.tcpip
    ∷ Word (codes "fds") ∷ Number sizes.descriptors ∷ Word (codes "window") ∷ Number sizes.window ∷ []

-- the line of them
abbrev pub sizes_text : Sizes → List ℕ
sizes_text sizes = line (sizes_fields sizes)

-- the lines of each element in turn, numbered from n
abbrev pub numbered : {A : Type 0} → (ℕ → A → List ℕ) → ℕ → List A → List ℕ
numbered lines n [] = []
numbered lines n (x ∷ xs) = lines n x ++ numbered lines (n + 1) xs

-- the line `actor A`
abbrev pub actor_text : ℕ → List ℕ
actor_text number = line (Word (codes "actor") ∷ Number number ∷ [])

-- actor A with its calls, which count from 1
abbrev pub actor_lines : ℕ → ActorPart → List ℕ
actor_lines number actor = actor_text number ++ numbered call_lines 1 actor.calls

-- the fields of what was left: `left C T FROM`
abbrev pub left_fields : Left → List Field
left_fields left = Word (codes "left") ∷ Number left.conn ∷ Number left.ticket ∷ Number left.from ∷ []

-- the line of them
abbrev pub left_text : Left → List ℕ
left_text left = line (left_fields left)

-- how many pbufs of a kind are free
abbrev pub share_field : Share → Field
share_field share = ShareField share.free share.all

-- the free pbufs: `pools ram A/B pool A/B rom A/B ref A/B`, where they are told
abbrev pub pools_fields : Option Pools → List Field
pools_fields None = []
pools_fields (Some pools) =
    Word (codes "pools") ∷ Word (codes "ram") ∷ share_field pools.ram ∷ Word (codes "pool") ∷ share_field pools.pool
    ∷ Word (codes "rom") ∷ share_field pools.rom ∷ Word (codes "ref") ∷ share_field pools.reference ∷ []

-- the fields of the end: `end core N out M`, with the pools behind them where they are told
abbrev pub end_fields : EndLine → List Field
end_fields end =
    Word (codes "end") ∷ Word (codes "core") ∷ Number end.core ∷ Word (codes "out") ∷ Number end.out ∷ pools_fields end.pools

-- the line of them
abbrev pub end_text : EndLine → List ℕ
end_text end = line (end_fields end)

-- the sizes where they are told, the core lines, the actors, which count from 0, what was left, and the end
abbrev pub body_text : Body → List ℕ
body_text body =
    flat_map sizes_text (option_to_list body.sizes) ++ flat_map core_lines body.core ++ numbered actor_lines 0 body.actors
    ++ flat_map left_text body.left ++ end_text body.end

-- the line of a side
abbrev pub side_text : List ℕ → List ℕ
side_text side = line (Word (codes "side") ∷ Word side ∷ [])

-- one body; or those of two stacks on a wire, each behind its side
abbrev pub form_text : Form → List ℕ
form_text (Serial body) = body_text body
form_text (Run body) = body_text body
form_text (Pair a b) = side_text (codes "a") ++ body_text a ++ side_text (codes "b") ++ body_text b

-- the octets of a transcript
abbrev pub transcript_spelling : Transcript → List ℕ
transcript_spelling t = head_text t.version t.form ++ form_text t.form

-- how many variables a script of the version has
abbrev pub variables : Version → ℕ
variables One = 64
variables Two = 1024

-- how many tests a `select` of the version has at most
abbrev pub most_tests : Version → ℕ
most_tests One = 32
most_tests Two = 1024

-- as many octets as a frame may have
abbrev pub IsFrame : List ℕ → Type 0
IsFrame octets = length octets ≤ 65535

-- a frame has at most 65,535 octets; variables and signals are those of the version
abbrev pub IsEvent : Version → Event (List ℕ) → Type 0
IsEvent version (Frame octets) = IsFrame octets
IsEvent version (SetVar var handle) = var < variables version
IsEvent version (Signal signal) = signal < 16
IsEvent version other = Unit {0}

-- the number of octets of an item is one that a line may have
abbrev pub IsItem : ItemText → Type 0
IsItem (Segment octets) = length octets < 2 ^ 32
IsItem (Datagram ip port octets) = length octets < 2 ^ 32
IsItem (Accepted conn) = Unit {0}

-- a post of such an item, or of none
abbrev pub IsPost : Post → Type 0
IsPost (Item conn ticket text) = IsItem text
IsPost (Full conn) = Unit {0}

-- a core line whose frames, given and sent, have at most 65,535 octets
pub record IsCore (version : Version) (line : CoreLine) : Type 0 where
  pub event : IsEvent version line.entry.event
  pub posts : All IsPost line.entry.posts
  pub frames : All IsFrame line.entry.frames

-- one or more octets of printable ASCII, without the space
abbrev pub is_word : List ℕ → Bool
is_word word = nat_lt 0 (length word) && list_all (λ octet. nat_le 33 octet && nat_le octet 126) word

-- a text of one or more words, with single spaces between
pub record IsCallText (text : List ℕ) : Type 0 where
  pub words : List (List ℕ)
  pub some : 0 < length words
  pub each : IsTrue (list_all is_word words)
  pub spelled : text ≡ join_with_byte 32 words

-- the places of octets are numbers that a line may have; flags are the seven; variables and signals are those of the version
abbrev pub IsSight : Version → Sight → Type 0
IsSight version (Take conn ticket from octets) = from + length octets < 2 ^ 32
IsSight version (DatagramSight conn ticket ip port octets) = length octets < 2 ^ 32
IsSight version (SawWord conn word) = word.flags < 128
IsSight version (Count signal n) = signal < 16
IsSight version (Var var handle) = var < variables version
IsSight version other = Unit {0}

-- evidence of such a kind
abbrev pub IsEvidence : Version → Evidence → Type 0
IsEvidence version (At number) = Unit {0}
IsEvidence version (Saw sight) = IsSight version sight

-- one or more tests hold, at most as many as a `select` of the version has, of variables that it has
abbrev pub IsOutcome : Version → Outcome → Type 0
IsOutcome version (Ready items) =
    (0 < length items) × (length items ≤ most_tests version) × All (λ item. item.var < variables version) items
IsOutcome version other = Unit {0}

-- a call with a text, evidence and a result
pub record IsCallPart (version : Version) (call : CallPart) : Type 0 where
  pub text : IsCallText call.text
  pub seen : All (IsEvidence version) call.seen
  pub result : IsOutcome version call.result

-- an actor with such calls, whose numbers are below 2^32
pub record IsActor (version : Version) (actor : ActorPart) : Type 0 where
  pub calls : All (IsCallPart version) actor.calls
  pub few : length actor.calls < 2 ^ 32

-- version 2 tells the sizes, and version 1 doesn't
abbrev pub HasSizes : Version → Option Sizes → Type 0
HasSizes One sizes = IsNone sizes
HasSizes Two sizes = IsSome sizes

-- connections and tickets in one order: by connection, then by ticket
abbrev pub left_place : Left → ℕ
left_place left = left.conn * 2 ^ 32 + left.ticket

-- a body of the grammar
pub record IsBody (version : Version) (body : Body) : Type 0 where
  pub sizes : HasSizes version body.sizes
  pub core : All (IsCore version) body.core
  pub actors : All (IsActor version) body.actors
  pub driver : 0 < length body.actors
  pub few : length body.actors ≤ 2 ^ 32
  pub left : IsStrictlyIncreasing (map left_place body.left)

-- each body is one of the grammar
abbrev pub AreBodies : Version → Form → Type 0
AreBodies version (Serial body) = IsBody version body
AreBodies version (Run body) = IsBody version body
AreBodies version (Pair a b) = IsBody version a × IsBody version b

-- a transcript of the grammar. Octets below 256 and the other numbers below 2^32 are what the types
-- of the fields hold.
pub record IsTranscript (t : Transcript) : Type 0 where
  pub bodies : AreBodies t.version t.form

-- the octets spell a transcript of the grammar
abbrev pub SpellsTranscript : List ℕ → Transcript → Type 0
SpellsTranscript octets t = IsTranscript t × (octets ≡ transcript_spelling t)
