-- Which answers an ask can have.
use Rattle.std.specs.Prelude.{ℕ, ◌==◌, ◌&&◌, ◌||◌, nat_le, not, Bool, true, false, List, length}
use Rattle.lw_base.specs.declared.event_word.Word.{Word}
use Rattle.lw_base.specs.declared.event_word.Flag.TheVariants.{Closed, Listen}
use Rattle.lw_base.specs.EventWord.{is_set}
use Rattle.call_types.specs.declared.sight.DropCause.{DropCause}
use Rattle.call_types.specs.declared.sight.DropCause.TheVariants.{Short, Full}
use Rattle.call_places.specs.declared.asks.Portion.{Portion}
use Rattle.call_places.specs.declared.asks.Portion.TheVariants.{Accepted as AcceptedPortion, Item, Octets}
use Rattle.call_places.specs.declared.asks.Ask.{Ask}
use Rattle.call_places.specs.declared.asks.Ask.TheVariants.{Core, Var, Fd, Ticks, Stop, Signal, See, Take, Empty, Feed, Sent, Over, Pause}
use Rattle.call_places.specs.declared.asks.Piece.{Piece}
use Rattle.call_places.specs.declared.asks.Piece.TheVariants.{Segment, Datagram, Accepted, Nothing}
use Rattle.call_places.specs.declared.asks.Feeding.{Feeding}
use Rattle.call_places.specs.declared.asks.Feeding.TheVariants.{Fed, Dropped, NoMore}
use Rattle.call_places.specs.declared.asks.Answer.{Answer}
use Rattle.call_places.specs.declared.asks.Answer.TheVariants.{Reply as ReplyAnswer, Var as VarAnswer, Fd as FdAnswer, Number, Whether, Word as WordAnswer, Took, Emptied, Feeding as FeedingAnswer, Turn as TurnAnswer}

-- nothing is untaken under this word
abbrev pub all_taken : Word → Bool
all_taken word = word.posted == word.claimed

-- an accept finds nothing where the connection is closed or doesn't listen, or nothing is untaken; a receive where it is
-- closed or listens, or nothing is untaken
abbrev pub is_vain : Portion → Word → Bool
is_vain AcceptedPortion word = is_set Closed word.flags || not (is_set Listen word.flags) || all_taken word
is_vain Item word = is_set Closed word.flags || is_set Listen word.flags || all_taken word
is_vain (Octets n) word = is_set Closed word.flags || is_set Listen word.flags || all_taken word

-- octets of a segment: at least one and at most as many as were asked for, or a whole item from its begin on
abbrev pub segment_fits : Portion → ℕ → List ℕ → Bool
segment_fits AcceptedPortion from octets = true
segment_fits Item from octets = (from == 0) && nat_le 1 (length octets)
segment_fits (Octets n) from octets = nat_le 1 (length octets) && nat_le (length octets) n

-- octets of a datagram: at most as many as were asked for
abbrev pub datagram_fits : Portion → List ℕ → Bool
datagram_fits AcceptedPortion octets = true
datagram_fits Item octets = true
datagram_fits (Octets n) octets = nat_le (length octets) n

-- a take finds what fits what was asked for, and nothing only where nothing can be found
abbrev pub piece_fits : Portion → Piece → Bool
piece_fits portion (Segment ticket from octets) = segment_fits portion from octets
piece_fits portion (Datagram ticket ip port octets) = datagram_fits portion octets
piece_fits portion (Accepted ticket fresh) = true
piece_fits portion (Nothing word) = is_vain portion word

-- only a burst loses frames at a full mailbox
abbrev pub drop_fits : Bool → DropCause → Bool
drop_fits burst Short = true
drop_fits burst Full = burst

-- what can become of a frame that is fed
abbrev pub feeding_fits : Bool → Feeding → Bool
feeding_fits burst Fed = true
feeding_fits burst (Dropped k cause) = drop_fits burst cause
feeding_fits burst NoMore = true

-- an answer is of the kind that was asked for, and says what such an answer can say
abbrev pub fits : Ask → Answer → Bool
fits (Core event) (ReplyAnswer reply) = true
fits (Var var) (VarAnswer named) = true
fits (Fd fd) (FdAnswer word) = true
fits Ticks (Number n) = true
fits Stop (Whether stopped) = true
fits (Signal signal) (Number n) = true
fits (See conn) (WordAnswer word) = true
fits (Take conn portion) (Took piece) = piece_fits portion piece
fits (Empty conn) (Emptied conns) = true
fits (Feed left burst) (FeedingAnswer feeding) = feeding_fits burst feeding
fits Sent (ReplyAnswer reply) = true
fits Over (Whether over) = true
fits Pause (TurnAnswer turn) = true
fits asked x = false
