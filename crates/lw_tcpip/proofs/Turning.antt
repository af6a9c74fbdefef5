-- What holds of the server after a turn, and what it has made of the frames.
use Rattle.std.proofs.Common.{◌≡◌, ℕ, ◌+◌, ◌<◌, ◌≤◌, All, List, [], ◌∷◌, ◌++◌, length, slice_get, slice_set, take, drop, Option, Some, Bool, true, false, not, ◌||◌, MatchBool, refl, ap, sym, ◌∙◌, subst, arith}
use Rattle.std.proofs.Math.Seq.{take-append_seam}
use Rattle.tcpip_mbox.specs.declared.view.Letter.{Letter}
use Rattle.tcpip_mbox.specs.declared.view.Returned.{Returned}
use Rattle.tcpip_mbox.specs.Letters.{sent_by}
use Rattle.tcpip_mbox.specs.Tokens.{Named, Receiver, letter}
use Rattle.lw_tcpip.specs.declared.message.Task.{Task}
use Rattle.lw_tcpip.specs.declared.message.Task.TheVariants.{Frame, Call, Leave}
use Rattle.lw_tcpip.specs.declared.message.Service.{Service}
use Rattle.lw_tcpip.specs.declared.reply.LineKey.{LineKey}
use Rattle.lw_tcpip.specs.Tasks.{frames_of, has_left}
use Rattle.lw_tcpip.specs.Replies.{IsMadeOf, AddsEntry}
use Rattle.lw_tcpip.specs.Tokens.{SeatSeen, answered, IsSeat, IsServer}
use Rattle.lw_tcpip.proofs.Lists.{get_within}
use Rattle.lw_tcpip.proofs.Served.{made_next}
use Rattle.lw_tcpip.proofs.Seats.{server_called, server_fed, server_left, taken-frame, taken-call, taken-leave}

-- the Puts that were taken back don't matter to the server
pub other_back : {C V L : Type 0} (get : Receiver (Task C V) (Service L)) (back : List (Returned (Task C V))) (seats : List (SeatSeen (LineKey (Named (Service L))))) (over : Bool) → IsServer get seats over → IsServer (record get { back = back }) seats over
other_back get back seats over h = record { many = h.many; each = h.each; ended = h.ended }

module _ {C V L : Type 0} (get now : Receiver (Task C V) (Service L)) (seats : List (SeatSeen (LineKey (Named (Service L))))) (ended : Bool) (h : IsServer get seats ended) (n : ℕ) (low : n ≤ get.others)
    (m : Task C V) (same : (now.table ≡ get.table) × (now.key ≡ get.key) × (now.others ≡ get.others)) (given : now.given ≡ get.given ++ letter n m ∷ []) where
  pub given_one : now ≡ record get { given = get.given ++ letter n m ∷ []; back = now.back }
  given_one i = record { table = same.0 i; key = same.1 i; others = same.2 i; given = given i; back = now.back }

  -- the seat of the message's line
  pub seat_at : (s : SeatSeen (LineKey (Named (Service L)))) × (slice_get seats n ≡ Some s)
  seat_at = let many = h.many in get_within seats n (omega arith)

module _ {C V L : Type 0} (get now : Receiver (Task C V) (Service L)) (seats after : List (SeatSeen (LineKey (Named (Service L))))) (ended : Bool) (h : IsServer get seats ended) (n : ℕ) (low : n ≤ get.others)
    (same : (now.table ≡ get.table) × (now.key ≡ get.key) × (now.others ≡ get.others)) where
  pub called_server : (line : ℕ) (c : C) (v : V) → now.given ≡ get.given ++ letter n (Call line c v) ∷ [] → line ≡ n → ((s : SeatSeen (LineKey (Named (Service L)))) → slice_get seats line ≡ Some s → after ≡ slice_set seats line (answered s)) → IsServer now after ended
  called_server line c v given own write = let s = seat_at get now seats ended h n low (Call line c v) same given in let e = given_one get now seats ended h n low (Call line c v) same given in
      let wrote : after ≡ slice_set seats n (answered s.0) = write s.0 (ap (λ (k : ℕ). slice_get seats k) own ∙ s.1) ∙ ap (λ (k : ℕ). slice_set seats k (answered s.0)) own in
      subst (λ (g : Receiver (Task C V) (Service L)). IsServer g after ended) (sym e) (other_back (record get { given = get.given ++ letter n (Call line c v) ∷ [] }) now.back after ended (subst (λ (ss : List (SeatSeen (LineKey (Named (Service L))))). IsServer (record get { given = get.given ++ letter n (Call line c v) ∷ [] }) ss ended) (sym wrote) (server_called get seats ended h n low line c v s.0 s.1)))

  pub fed_server : (v : V) → now.given ≡ get.given ++ letter n (Frame v) ∷ [] → IsServer now seats ended
  fed_server v given = subst (λ (g : Receiver (Task C V) (Service L)). IsServer g seats ended) (sym (given_one get now seats ended h n low (Frame v) same given)) (other_back (record get { given = get.given ++ letter n (Frame v) ∷ [] }) now.back seats ended (server_fed get seats ended h n low v))

  pub left_server : (line : ℕ) (all : Bool) → now.given ≡ get.given ++ letter n (Leave line) ∷ [] → line ≡ n → ((s : SeatSeen (LineKey (Named (Service L)))) → slice_get seats line ≡ Some s → after ≡ slice_set seats line (record s { left = true }))
      → (all ≡ true → All (λ (s : SeatSeen (LineKey (Named (Service L)))). s.left ≡ true) after) → IsServer now after all
  left_server line all given own write whole = let s = seat_at get now seats ended h n low (Leave line) same given in let e = given_one get now seats ended h n low (Leave line) same given in
      let wrote : after ≡ slice_set seats n (record s.0 { left = true }) = write s.0 (ap (λ (k : ℕ). slice_get seats k) own ∙ s.1) ∙ ap (λ (k : ℕ). let ss : List (SeatSeen (LineKey (Named (Service L)))) = slice_set seats k (record s.0 { left = true }) in ss) own in
      let all_of : all ≡ true → All (λ (t : SeatSeen (LineKey (Named (Service L)))). t.left ≡ true) (slice_set seats n (record s.0 { left = true })) = λ e. subst (λ (ss : List (SeatSeen (LineKey (Named (Service L))))). All (λ (t : SeatSeen (LineKey (Named (Service L)))). t.left ≡ true) ss) wrote (whole e) in
      subst (λ (g : Receiver (Task C V) (Service L)). IsServer g after all) (sym e) (other_back (record get { given = get.given ++ letter n (Leave line) ∷ [] }) now.back after all (subst (λ (ss : List (SeatSeen (LineKey (Named (Service L))))). IsServer (record get { given = get.given ++ letter n (Leave line) ∷ [] }) ss all) (sym wrote) (server_left get seats ended h n low line s.0 all s.1 all_of)))

module _ {C V E R : Type 0} (tells : E → V → R → Type 0) (before given : List (Letter (Task C V))) (n : ℕ) (mine : List E) (lost : Bool) (made : IsMadeOf tells mine (frames_of (sent_by 0 before)) lost) where
  pub made-frame : (after : List E) (did : Bool) (v : V) → n ≡ 0 → given ≡ before ++ letter n (Frame v) ∷ [] → MatchBool did (AddsEntry tells mine v after) (after ≡ mine) → IsMadeOf tells after (frames_of (sent_by 0 given)) (lost || not did)
  made-frame after did v first is adds = subst (λ (l : List V). IsMadeOf tells after l (lost || not did)) (sym (ap (λ (g : List (Letter (Task C V))). frames_of (sent_by 0 g)) is ∙ taken-frame before n v first))
      (made_next tells mine after (frames_of (sent_by 0 before)) v lost did made adds)

  pub made-call : (after : List E) (line : ℕ) (c : C) (v : V) → given ≡ before ++ letter n (Call line c v) ∷ [] → after ≡ mine → IsMadeOf tells after (frames_of (sent_by 0 given)) lost
  made-call after line c v is kept = subst (λ (l : List V). IsMadeOf tells after l lost) (sym (ap (λ (g : List (Letter (Task C V))). frames_of (sent_by 0 g)) is ∙ taken-call before n line c v))
      (subst (λ (es : List E). IsMadeOf tells es (frames_of (sent_by 0 before)) lost) (sym kept) made)

  pub made-leave : (line : ℕ) → given ≡ before ++ letter n (Leave line) ∷ [] → IsMadeOf tells mine (frames_of (sent_by 0 given)) lost
  made-leave line is = subst (λ (l : List V). IsMadeOf tells mine l lost) (sym (ap (λ (g : List (Letter (Task C V))). frames_of (sent_by 0 g)) is ∙ taken-leave before n line)) made

-- what is written back into a list of the same length is the whole
pub written_back : {X : Type 0} (xs ys : List X) (n : ℕ) → n ≡ length ys → take n (ys ++ drop (length ys) xs) ≡ ys
written_back xs ys n e = ap (λ (k : ℕ). take k (ys ++ drop (length ys) xs)) e ∙ take-append_seam ys (drop (length ys) xs)
