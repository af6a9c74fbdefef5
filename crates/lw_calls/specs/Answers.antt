-- The answers by their kind.
use Rattle.std.specs.Prelude.{ℕ, Bool, List, Option, Some, None}
use Rattle.lw_base.specs.declared.event_word.Word.{Word}
use Rattle.call_places.specs.declared.place.Step.{Step}
use Rattle.call_places.specs.Steps.{stray}
use Rattle.lw_events.specs.declared.event.Reply.{Reply}
use Rattle.call_places.specs.declared.asks.Named.{Named}
use Rattle.call_places.specs.declared.asks.FdWord.{FdWord}
use Rattle.call_places.specs.declared.asks.Piece.{Piece}
use Rattle.call_places.specs.declared.asks.Feeding.{Feeding}
use Rattle.call_places.specs.declared.asks.Turn.{Turn}
use Rattle.call_places.specs.declared.asks.Answer.{Answer}
use Rattle.call_places.specs.declared.asks.Answer.TheVariants.{Reply as ReplyAnswer, Var as VarAnswer, Fd as FdAnswer, Number as NumberAnswer, Whether as WhetherAnswer, Word as WordAnswer, Took as TookAnswer, Emptied as EmptiedAnswer, Feeding as FeedingAnswer, Turn as TurnAnswer}

-- a reply
abbrev pub reply_of : Answer → Option Reply
reply_of (ReplyAnswer x) = Some x
reply_of x = None

-- a variable's word
abbrev pub var_of : Answer → Option (Option Named)
var_of (VarAnswer x) = Some x
var_of x = None

-- a descriptor's word
abbrev pub fd_of : Answer → Option FdWord
fd_of (FdAnswer x) = Some x
fd_of x = None

-- a number
abbrev pub number_of : Answer → Option ℕ
number_of (NumberAnswer x) = Some x
number_of x = None

-- whether something is so
abbrev pub whether_of : Answer → Option Bool
whether_of (WhetherAnswer x) = Some x
whether_of x = None

-- an event word
abbrev pub word_of : Answer → Option Word
word_of (WordAnswer x) = Some x
word_of x = None

-- what a take found
abbrev pub piece_of : Answer → Option Piece
piece_of (TookAnswer x) = Some x
piece_of x = None

-- the connections among what was emptied
abbrev pub emptied_of : Answer → Option (List ℕ)
emptied_of (EmptiedAnswer x) = Some x
emptied_of x = None

-- what became of a frame
abbrev pub feeding_of : Answer → Option Feeding
feeding_of (FeedingAnswer x) = Some x
feeding_of x = None

-- a turn
abbrev pub turn_of : Answer → Option Turn
turn_of (TurnAnswer x) = Some x
turn_of x = None

-- an answer of the kind that was asked for leads on, one of another kind doesn't
abbrev pub on : {A : Type 0} → (A → Step) → Option A → Step
on leads (Some x) = leads x
on leads None = stray
