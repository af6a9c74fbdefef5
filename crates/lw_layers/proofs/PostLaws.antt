-- What an event posts, and what is left of a frame for it.
use Rattle.std.proofs.Common.{◌≡◌, ℕ, ◌+◌, ◌-◌, ◌^◌, ◌≤◌, ◌<◌, ◌++◌, ◌∙◌, Bool, true, false, All, List, [], ◌∷◌, Option, Some, None, IfSome, IsSomeAnd, IsTrue, is_some, length, map, option_map, option_to_list, slice_range, refl, sym, ap, subst, arith, append-nil}
use Rattle.std.specs.Option.{option_map_or}
use Rattle.std.proofs.lemmas.List.Elements.{All-nil, All-cons}
use Rattle.lw_payload.specs.Views.{View, HomeView, Pools, IsOf}
use Rattle.lw_payload.specs.Calls.{IsCut}
use Rattle.lw_payload.specs.Totals.{total, IsOwned, IsSum, Moves}
use Rattle.lw_payload.proofs.TotalLaws.{IsOwned-left, IsOwned-moved, IsSum-append, IsSum-cons, Moves-beside, Moves-then}
use Rattle.lw_events.specs.declared.entry.ItemText.TheVariants.{Datagram as DatagramText}
use Rattle.lw_events.specs.declared.entry.Post.{Post}
use Rattle.lw_events.specs.declared.entry.Post.TheVariants.{Item as Posted, Full}
use Rattle.lw_events.specs.Events.{had_place}
use Rattle.lw_conn.specs.declared.connections.Connection.{Connection}
use Rattle.lw_conn.specs.Connections.{Connections, connection}
use Rattle.lw_boxes.specs.declared.item.Item.{Item}
use Rattle.lw_boxes.specs.declared.item.Item.TheVariants.{Datagram as DatagramItem}
use Rattle.lw_boxes.specs.Shelf.{IsAsked, IsPosted, Mailbox, Shelf}
use Rattle.lw_input.specs.declared.input.PostPlan.{PostPlan}
use Rattle.lw_layers.specs.declared.mail.Mail.{Mail}
use Rattle.lw_layers.specs.declared.mail.Offer.{Offer}
use Rattle.lw_layers.specs.Boxes.{AreAsked, AreBoxesOf, AreSameBoxes, Shows}
use Rattle.lw_layers.specs.Layers.{delivery_by, post_if, posted_by, HasPlace, IsHanded, IsMail, IsOffer, IsOfferOf, StandsIn}
use Rattle.lw_layers.specs.Posts.{first_place, item_payloads, post_of, posted, posted_to, posts_of, tried_at, IsOffered, IsPosting, IsPut, Posting}
use Rattle.lw_layers.proofs.BoxLaws.{keep_self, live_made}
use Rattle.lw_layers.proofs.KeepLaws.{first_of}
use Rattle.lw_layers.proofs.MoveLaws.{IsOwned-around, IsOwned-by, IsOwned-front, Moves-around, Moves-back, Moves-by, Moves-front}

-- What is offered

pub none_offered : (cs : Connections) (mail : Option Mail) (o : Offer) → mail ≡ None → o ≡ record { posts = []; post = None } → IsOffer cs mail o
none_offered cs mail o none is =
    subst (λ (m : Option Mail). IsOffer cs m o) (sym none) (subst (λ (x : Offer). IsOffer cs None x) (sym is) (record { posts = refl; post = refl }))

pub taken_offered : (cs : Connections) (mail : Option Mail) (m : Mail) (o : Offer) → mail ≡ Some m → o ≡ record { posts = post_of cs (delivery_by m) true ∷ []; post = Some m.post } → IsOffer cs mail o
taken_offered cs mail m o some is =
    subst (λ (x : Option Mail). IsOffer cs x o) (sym some) (subst (λ (x : Offer). IsOffer cs (Some m) x) (sym is) (record { posts = refl; post = refl }))

pub full_offered : (cs : Connections) (mail : Option Mail) (m : Mail) (o : Offer) → mail ≡ Some m → o ≡ record { posts = Full m.post.conn ∷ []; post = None } → IsOffer cs mail o
full_offered cs mail m o some is =
    subst (λ (x : Option Mail). IsOffer cs x o) (sym some) (subst (λ (x : Offer). IsOffer cs (Some m) x) (sym is) (record { posts = refl; post = refl }))

-- the place that was found is that of the next post
pub found_place : {P : Type 0} (before after : Shelf P) (o : Offer) (post : PostPlan) (answer : Bool) → answer ≡ true → IsAsked before post.conn 0 answer after → o.post ≡ Some post → HasPlace after o.post
found_place {P} before after o post answer told asked is =
    let same = asked.same post.conn in
    let few = asked.few told in
    let at : (before.box post.conn).posted + 0 ≡ (after.box post.conn).posted = omega arith ∙ ap (λ (b : Mailbox P). b.posted) (sym same) in
    let posted : (before.box post.conn).posted ≡ (after.box post.conn).posted = ap (λ (b : Mailbox P). b.posted) (sym same) in
    subst (λ (x : Option PostPlan). HasPlace after x) (sym is)
    (ap (after.found post.conn) (sym at) ∙ (asked.found told).0, omega (arith, posted, few))

pub no_place : {P : Type 0} (shelf : Shelf P) (o : Offer) → o.post ≡ None → HasPlace shelf o.post
no_place shelf o none = subst (λ (x : Option PostPlan). HasPlace shelf x) (sym none) tt

-- the one post was tried as the mailbox answered
pub one_offered : {B : Type 0} (offers : B → ℕ → ℕ → Bool → B → Type 0) (before after : B) (posts : List Post) (post : Post) (conn : ℕ) (answer : Bool) → posts ≡ post ∷ [] → tried_at post ≡ conn → had_place post ≡ answer
    → offers before conn 0 answer after → All (IsOffered offers before) posts
one_offered offers before after posts post conn answer is at had answered =
    subst (All (IsOffered offers before)) (sym is)
    (All-cons (IsOffered offers before) post []
    (record { after = after; answer = subst (λ (n : ℕ). offers before n 0 (had_place post) after) (sym at) (subst (λ (b : Bool). offers before conn 0 b after) (sym had) answered) })
    (All-nil (IsOffered offers before)))

pub none_tried : {B : Type 0} (offers : B → ℕ → ℕ → Bool → B → Type 0) (before : B) (posts : List Post) → posts ≡ [] → All (IsOffered offers before) posts
none_tried offers before posts is = subst (All (IsOffered offers before)) (sym is) (All-nil (IsOffered offers before))

pub asked_one : {P : Type 0} (before after : Shelf P) (conn ahead : ℕ) (answer : Bool) → IsAsked before conn ahead answer after → AreAsked before after
asked_one before after conn ahead answer asked = record { made = asked.made; same = asked.same }

pub asked_self : {P : Type 0} (s : Shelf P) → AreAsked s s
asked_self s = record { made = refl; same = λ conn. refl }

pub asked_same : {P : Type 0} (before after : Shelf P) → AreAsked before after → AreSameBoxes before after
asked_same before after asked =
    let made = asked.made in
    record { made = omega arith; old = λ n within. asked.same n; new = λ n past within. absurd (omega arith) }

-- the connections that the offer makes are those of the step
by_place : (cs : Connections) (mail : Option Mail) (b : Bool) (posts : List Bool) → first_place posts ≡ b → posted_by cs (post_if b mail) ≡ posted cs (option_map delivery_by mail) posts
by_place cs None true posts is = refl
by_place cs None false posts is = refl
by_place cs (Some m) true posts is = rw is refl
by_place cs (Some m) false posts is = rw is refl

pub offer_posted : (cs : Connections) (mail : Option Mail) (o : Offer) → IsOffer cs mail o → posted_by cs o.post ≡ posted cs (option_map delivery_by mail) (map had_place o.posts)
offer_posted cs mail o offer = ap (posted_by cs) offer.post ∙ by_place cs mail (first_place (map had_place o.posts)) (map had_place o.posts) refl

-- What mailboxes have of it

module _ {P : Type 0} (seen : P → View) where
  -- a payload was cut and posted
  pub handed_by : (h k : HomeView) (payload item : P) (p : PostPlan) (before after : Shelf P) → IsCut h k (seen payload) (seen item) (slice_range (seen payload).octets p.place (p.place + p.count))
      → Moves h k (total seen h.pools.family (payload ∷ [])) (total seen h.pools.family (item ∷ [])) → IsPosted before p.conn (DatagramItem p.ip p.port item) after
      → IsHanded seen h k payload p before after
  handed_by h k payload item p before after cut moves posted = record { item = item; octets = cut.octets; posted = posted; moves = moves }

  -- nothing was posted where the offer has no post
  no_item : (cs : Connections) (mail : Option Mail) (b : Bool) (posts : List Post) (s : Shelf P) → posts ≡ posts_of cs (option_map delivery_by mail) (b ∷ []) → post_if b mail ≡ None → Posting seen posts [] s s
  no_item cs None b posts s is none = subst (λ (x : List Post). Posting seen x [] s s) (sym is) (keep_self s)
  no_item cs (Some m) true posts s is none = absurd (let h = none in cc)
  no_item cs (Some m) false posts s is none = subst (λ (x : List Post). Posting seen x [] s s) (sym is) (keep_self s)

  by_first : (cs : Connections) (mail : Option Mail) (places : List Bool) → posts_of cs (option_map delivery_by mail) places ≡ posts_of cs (option_map delivery_by mail) (first_place places ∷ [])
  by_first cs None places = refl
  by_first cs (Some m) places = refl

  pub none_posted : (cs : Connections) (rest : Option (List ℕ)) (o : Offer) (s : Shelf P) → IsOfferOf cs rest o → o.post ≡ None → Posting seen o.posts [] s s
  none_posted cs rest o s of none =
      let places = map had_place o.posts in
      no_item cs of.mail (first_place places) o.posts s (of.offer.posts ∙ by_first cs of.mail places) (sym of.offer.post ∙ none)

  -- its ticket is how many items were posted
  ticket_of : (o : Option Connection) (b : Mailbox P) → is_some o ≡ true → IfSome o (λ c. Shows b c) → b.posted ≡ option_map_or (λ c. c.posted) o 0
  ticket_of (Some c) b live shows = shows.posted
  ticket_of None b live shows = absurd (let h = live in cc)

  put_by : (cs : Connections) (before after : Shelf P) (conn : ℕ) (item : Item P) → is_some (connection cs conn) ≡ true → AreBoxesOf cs before → IsPosted before conn item after → IsPut before conn (posted_to cs conn) item after
  put_by cs before after conn item live are posted =
      let ticket = ticket_of (connection cs conn) (before.box conn) live (are.live conn) in
      record {
        made = posted.made;
        there = live_made cs before conn live are;
        next = ticket;
        counted = ap (λ (b : Mailbox P). b.posted) posted.posted ∙ ap (λ (n : ℕ). n + 1) ticket;
        kept = ap (λ (b : Mailbox P). b.kept) posted.posted;
        others = posted.others.others;
      }

  -- the one item of the offer
  one_item : (cs : Connections) (mail : Option Mail) (b : Bool) (posts : List Post) (payload item : P) (p : PostPlan) (before after : Shelf P) → posts ≡ posts_of cs (option_map delivery_by mail) (b ∷ []) → Some p ≡ post_if b mail
      → IfSome mail (λ m. StandsIn cs m (seen payload).octets) → (seen item).octets ≡ slice_range (seen payload).octets p.place (p.place + p.count) → IsPosted before p.conn (DatagramItem p.ip p.port item) after
      → AreBoxesOf cs before → Posting seen posts (DatagramItem p.ip p.port item ∷ []) before after
  one_item cs None true posts payload item p before after is post stands octets posted are = absurd (let h = post in cc)
  one_item cs None false posts payload item p before after is post stands octets posted are = absurd (let h = post in cc)
  one_item cs (Some m) false posts payload item p before after is post stands octets posted are = absurd (let h = post in cc)
  one_item cs (Some m) true posts payload item p before after is post stands octets posted are =
      let own : m.post ≡ p = let h = post in cc in
      let live : is_some (connection cs p.conn) ≡ true = subst (λ (x : PostPlan). is_some (connection cs x.conn) ≡ true) own stands.going.live in
      let text : m.octets ≡ (seen item).octets =
      stands.stands ∙ ap (λ (x : PostPlan). slice_range (seen payload).octets x.place (x.place + x.count)) own ∙ sym octets in
      let told : posts ≡ Posted p.conn (posted_to cs p.conn) (DatagramText p.ip p.port m.octets) ∷ [] =
      is ∙ ap (λ (x : PostPlan). Posted x.conn (posted_to cs x.conn) (DatagramText x.ip x.port m.octets) ∷ []) own in
      subst (λ (x : List Post). Posting seen x (DatagramItem p.ip p.port item ∷ []) before after) (sym told)
      (ap (DatagramText p.ip p.port) text, (after, put_by cs before after p.conn (DatagramItem p.ip p.port item) live are posted, keep_self after))

  in_rest : (cs : Connections) (mail : Option Mail) (rest : Option P) (payload : P) → rest ≡ Some payload → IfSome mail (IsMail cs (option_map (λ p. (seen p).octets) rest)) → IfSome mail (λ m. StandsIn cs m (seen payload).octets)
  in_rest cs mail rest payload is stands = subst (λ (o : Option P). IfSome mail (IsMail cs (option_map (λ p. (seen p).octets) o))) is stands

  pub one_posted : (h k : HomeView) (cs : Connections) (rest : Option P) (payload : P) (o : Offer) (p : PostPlan) (before after : Shelf P) → rest ≡ Some payload → o.post ≡ Some p
      → IsOfferOf cs (option_map (λ q. (seen q).octets) rest) o → AreBoxesOf cs before → IsHanded seen h k payload p before after
      → IsPosting seen h k o.posts before after (option_to_list rest) []
  one_posted h k cs rest payload o p before after is post of are handed =
      let places = map had_place o.posts in
      subst (λ (x : Option P). IsPosting seen h k o.posts before after (option_to_list x) []) (sym is)
      (record {
        items = DatagramItem p.ip p.port handed.item ∷ [];
        boxes = one_item cs of.mail (first_place places) o.posts payload handed.item p before after (of.offer.posts ∙ by_first cs of.mail places) (sym post ∙ of.offer.post) (in_rest cs of.mail rest payload is of.stands)
            handed.octets handed.posted are;
        moves = handed.moves;
      })

  -- there is what is posted
  goes_on : (cs : Connections) (mail : Option Mail) (b : Bool) (rest : Option (List ℕ)) (p : PostPlan) → IfSome mail (IsMail cs rest) → post_if b mail ≡ Some p
      → IsSomeAnd rest (λ octets. p.place + p.count ≤ length octets) × IsTrue (is_some (connection cs p.conn))
  goes_on cs None true rest p stands is = absurd (let h = is in cc)
  goes_on cs None false rest p stands is = absurd (let h = is in cc)
  goes_on cs (Some m) false rest p stands is = absurd (let h = is in cc)
  goes_on cs (Some m) true (Some octets) p stands is =
      let own : m.post ≡ p = let h = is in cc in
      subst (λ (x : PostPlan). (x.place + x.count ≤ length octets) × IsTrue (is_some (connection cs x.conn))) own (stands.going.within, stands.going.live)
  goes_on cs (Some m) true None p stands is = absurd stands

  pub offer_goes : (cs : Connections) (rest : Option (List ℕ)) (o : Offer) (p : PostPlan) → IsOfferOf cs rest o → o.post ≡ Some p
      → IsSomeAnd rest (λ octets. p.place + p.count ≤ length octets) × IsTrue (is_some (connection cs p.conn))
  offer_goes cs rest o p of is = goes_on cs of.mail (first_place (map had_place o.posts)) rest p of.stands (sym of.offer.post ∙ is)

  -- what is posted is there
  pub rest_there : {A : Type 0} (cs : Connections) (rest : Option P) (o : Offer) (p : PostPlan) → IsOfferOf cs (option_map (λ q. (seen q).octets) rest) o → o.post ≡ Some p → rest ≡ None → A
  rest_there cs rest o p of post none =
      absurd (subst (λ (x : Option P). IsSomeAnd (option_map (λ q. (seen q).octets) x) (λ octets. p.place + p.count ≤ length octets)) none (offer_goes cs (option_map (λ q. (seen q).octets) rest) o p of post).0)

  -- with its data within it, and its connection is live
  pub rest_within : (cs : Connections) (rest : Option P) (payload : P) (o : Offer) (p : PostPlan) → IsOfferOf cs (option_map (λ q. (seen q).octets) rest) o → o.post ≡ Some p → rest ≡ Some payload
      → p.place + p.count ≤ length (seen payload).octets
  rest_within cs rest payload o p of post is =
      subst (λ (x : Option P). IsSomeAnd (option_map (λ q. (seen q).octets) x) (λ octets. p.place + p.count ≤ length octets)) is (offer_goes cs (option_map (λ q. (seen q).octets) rest) o p of post).0

  pub rest_live : (cs : Connections) (rest : Option P) (o : Offer) (p : PostPlan) → IsOfferOf cs (option_map (λ q. (seen q).octets) rest) o → o.post ≡ Some p → is_some (connection cs p.conn) ≡ true
  rest_live cs rest o p of post = (offer_goes cs (option_map (λ q. (seen q).octets) rest) o p of post).1

  -- its mailbox has the place
  pub post_place : (shelf : Shelf P) (o : Offer) (p : PostPlan) → HasPlace shelf o.post → o.post ≡ Some p → (shelf.found p.conn (shelf.box p.conn).posted ≡ true) × ((shelf.box p.conn).posted < 2 ^ 28 - 1)
  post_place shelf o p place post = subst (λ (x : Option PostPlan). HasPlace shelf x) post place

  -- and it may be given
  pub rest_own : (h : HomeView) (rest : Option P) (payload : P) → rest ≡ Some payload → IsOwned h (total seen h.pools.family (option_to_list rest)) → IsOf h (seen payload)
  rest_own h rest payload is owned =
      first_of seen h payload [] (subst (λ (x : Option P). IsOwned h (total seen h.pools.family (option_to_list x))) is owned)

  -- Posts after places were asked for

  pub posting_asked : (posts : List Post) (items : List (Item P)) (before asked after : Shelf P) → AreAsked before asked → Posting seen posts items asked after → Posting seen posts items before after
  posting_asked [] [] before asked after ask keep =
      let made = ask.made in let more = keep.made in
      record {
        made = omega arith;
        old = λ n within. keep.old n (omega arith) ∙ ap (λ (b : Mailbox P). b.kept) (ask.same n);
        empty = λ n past within. keep.empty n (omega arith) within;
      }
  posting_asked [] (item ∷ items) before asked after ask posting = absurd posting
  posting_asked (Full conn ∷ posts) items before asked after ask posting = posting_asked posts items before asked after ask posting
  posting_asked (Posted conn ticket text ∷ posts) [] before asked after ask posting = absurd posting
  posting_asked (Posted conn ticket text ∷ posts) (item ∷ items) before asked after ask posting =
      let put = posting.1.1 in (
        posting.0,
        (
          posting.1.0,
          record {
            made = put.made ∙ ask.made;
            there = (put.there.0, let most = put.there.1 in let made = ask.made in omega arith);
            next = ap (λ (b : Mailbox P). b.posted) (sym (ask.same conn)) ∙ put.next;
            counted = put.counted;
            kept = put.kept ∙ ap (λ (b : Mailbox P). b.kept ++ item ∷ []) (ask.same conn);
            others = λ n away. put.others n away ∙ ask.same n;
          },
          posting.1.2,
        ),
      )

  -- What is held

  -- nothing was posted, and this moved
  pub nothing_posted : (h k : HomeView) (posts : List Post) (before after : Shelf P) (came held : List P) → Posting seen posts [] before after
      → Moves h k (total seen h.pools.family came) (total seen h.pools.family held) → IsPosting seen h k posts before after came held
  nothing_posted h k posts before after came held posting moves = record {
    items = [];
    boxes = posting;
    moves = subst (λ (ps : List P). Moves h k (total seen h.pools.family came) (total seen h.pools.family ps)) (sym (append-nil held)) moves;
  }

  -- where nothing was posted, this moved
  no_items : (posts : List Post) (items : List (Item P)) (before after : Shelf P) → posts ≡ [] → Posting seen posts items before after → items ≡ []
  no_items posts [] before after none posting = refl
  no_items posts (item ∷ items) before after none posting = absurd (subst (λ (ps : List Post). Posting seen ps (item ∷ items) before after) none posting)

  pub unposted_moves : (h k : HomeView) (posts : List Post) (before after : Shelf P) (came held : List P) → posts ≡ [] → IsPosting seen h k posts before after came held
      → Moves h k (total seen h.pools.family came) (total seen h.pools.family held)
  unposted_moves h k posts before after came held none posting =
      let all : held ++ item_payloads posting.items ≡ held = ap (λ (items : List (Item P)). held ++ item_payloads items) (no_items posts posting.items before after none posting.boxes) ∙ append-nil held in
      subst (λ (ps : List P). Moves h k (total seen h.pools.family came) (total seen h.pools.family ps)) all posting.moves

  -- what is held after an event may be given
  pub posted_owned : (h k : HomeView) (posts : List Post) (before after : Shelf P) (came held : List P) → IsOwned h (total seen h.pools.family came) → IsPosting seen h k posts before after came held
      → IsOwned k (total seen k.pools.family held)
  posted_owned h k posts before after came held owned posting =
      let f : List ℕ = h.pools.family in
      IsOwned-by seen k.pools.family f k held (sym (ap (λ (p : Pools). p.family) posting.moves.pools))
      (IsOwned-front seen f k held (item_payloads posting.items) (IsOwned-moved h k (total seen f came) (total seen f (held ++ item_payloads posting.items)) owned posting.moves))

  -- what is left of a frame may be given
  pub rest_owned : (h i : HomeView) (frame ram : P) (held rest mid : List P) → IsOwned h (total seen h.pools.family (frame ∷ ram ∷ held))
      → Moves h i (total seen h.pools.family (frame ∷ held)) (total seen h.pools.family (rest ++ mid)) → IsOwned i (total seen i.pools.family rest)
  rest_owned h i frame ram held rest mid owned moved =
      let f : List ℕ = h.pools.family in
      IsOwned-by seen i.pools.family f i rest (sym (ap (λ (p : Pools). p.family) moved.pools))
      (IsOwned-front seen f i rest mid
      (IsOwned-moved h i (total seen f (frame ∷ held)) (total seen f (rest ++ mid)) (IsOwned-around seen f h (frame ∷ []) (ram ∷ []) held owned) moved))

  -- what moved until it was posted
  posted_moves : (h i j : HomeView) (frame ram : P) (held rest mid pay : List P)
      → Moves h i (total seen h.pools.family (frame ∷ held)) (total seen h.pools.family (rest ++ mid))
      → Moves i j (total seen i.pools.family rest) (total seen i.pools.family pay)
      → Moves h j (total seen h.pools.family (frame ∷ ram ∷ held)) (total seen h.pools.family (ram ∷ (pay ++ mid)))
  posted_moves h i j frame ram held rest mid pay moved posted =
      let f : List ℕ = h.pools.family in
      Moves-then h i j (total seen f (frame ∷ ram ∷ held)) (total seen f (ram ∷ (rest ++ mid))) (total seen f (ram ∷ (pay ++ mid)))
      (Moves-around seen f h i (frame ∷ []) (ram ∷ []) held (rest ++ mid) moved)
      (Moves-back seen f i j (rest ++ mid) (pay ++ mid) (ram ∷ [])
      (Moves-front seen f i j rest pay mid (Moves-by seen f i.pools.family i j rest pay (ap (λ (p : Pools). p.family) moved.pools) posted)))

  -- the payload of RAM stands before what was posted
  before_posted : (f : List ℕ) (ram : P) (pay mid : List P) → IsSum (total seen f (ram ∷ (pay ++ mid))) (total seen f (ram ∷ mid)) (total seen f pay)
  before_posted f ram pay mid =
      let a = IsSum-cons seen f ram (pay ++ mid) in
      let b = IsSum-append seen f pay mid in
      let c = IsSum-cons seen f ram mid in
      record {
        rows = λ s. let a1 = a.rows s in let b1 = b.rows s in let c1 = c.rows s in omega arith;
        weight = let a1 = a.weight in let b1 = b.weight in let c1 = c.weight in omega arith;
        strangers = let a1 = a.strangers in let b1 = b.strangers in let c1 = c.strangers in omega arith;
      }

  -- what is held then, and the payload of RAM, may be given
  pub carry_owned : (h i j : HomeView) (posts : List Post) (before after : Shelf P) (frame ram : P) (held rest mid now : List P) → IsOwned h (total seen h.pools.family (frame ∷ ram ∷ held))
      → Moves h i (total seen h.pools.family (frame ∷ held)) (total seen h.pools.family (rest ++ mid)) → IsPosting seen i j posts before after rest [] → now ≡ mid
      → IsOwned j (total seen j.pools.family (ram ∷ now))
  carry_owned h i j posts before after frame ram held rest mid now owned moved posting is =
      let f : List ℕ = h.pools.family in
      let pay : List P = item_payloads posting.items in
      let same : j.pools.family ≡ f = ap (λ (p : Pools). p.family) posting.moves.pools ∙ ap (λ (p : Pools). p.family) moved.pools in
      subst (λ (ps : List P). IsOwned j (total seen j.pools.family (ram ∷ ps))) (sym is)
      (IsOwned-by seen j.pools.family f j (ram ∷ mid) (sym same)
      (IsOwned-left j (total seen f (ram ∷ (pay ++ mid))) (total seen f (ram ∷ mid)) (total seen f pay) (before_posted f ram pay mid)
      (IsOwned-moved h j (total seen f (frame ∷ ram ∷ held)) (total seen f (ram ∷ (pay ++ mid))) owned (posted_moves h i j frame ram held rest mid pay moved posting.moves))))

  -- what is left of a frame was posted, and then what goes out was carried out
  pub applied_posting : (h i j k : HomeView) (posts : List Post) (before after : Shelf P) (frame ram : P) (held rest mid now carried left : List P)
      → Moves h i (total seen h.pools.family (frame ∷ held)) (total seen h.pools.family (rest ++ mid))
      → IsPosting seen i j posts before after rest [] → now ≡ mid
      → Moves j k (total seen j.pools.family (ram ∷ now)) (total seen j.pools.family carried)
      → left ≡ carried
      → IsPosting seen h k posts before after (frame ∷ ram ∷ held) left
  applied_posting h i j k posts before after frame ram held rest mid now carried left moved posting same carries is =
      let f : List ℕ = h.pools.family in
      let pay : List P = item_payloads posting.items in
      let fj : j.pools.family ≡ f = ap (λ (p : Pools). p.family) posting.moves.pools ∙ ap (λ (p : Pools). p.family) moved.pools in
      let out : Moves j k (total seen f (ram ∷ mid)) (total seen f carried) = subst (λ (ps : List P). Moves j k (total seen f (ram ∷ ps)) (total seen f carried)) same (Moves-by seen f j.pools.family j k (ram ∷ now) carried fj carries) in
      record {
        items = posting.items;
        boxes = posting.boxes;
        moves = subst (λ (ps : List P). Moves h k (total seen f (frame ∷ ram ∷ held)) (total seen f (ps ++ pay))) (sym is)
            (Moves-then h j k (total seen f (frame ∷ ram ∷ held)) (total seen f (ram ∷ (pay ++ mid))) (total seen f (carried ++ pay))
            (posted_moves h i j frame ram held rest mid pay moved posting.moves)
            (Moves-beside j k (total seen f (ram ∷ mid)) (total seen f carried) (total seen f pay) (total seen f (ram ∷ (pay ++ mid))) (total seen f (carried ++ pay))
            out (before_posted f ram pay mid) (IsSum-append seen f carried pay)));
      }

  -- places were asked for, and payloads moved, before it
  pub posting_then : (h k l : HomeView) (posts : List Post) (before asked after : Shelf P) (came mid held : List P) → AreAsked before asked
      → Moves h k (total seen h.pools.family came) (total seen h.pools.family mid) → IsPosting seen k l posts asked after mid held
      → IsPosting seen h l posts before after came held
  posting_then h k l posts before asked after came mid held ask moved posting =
      let f = h.pools.family in
      record {
        items = posting.items;
        boxes = posting_asked posts posting.items before asked after ask posting.boxes;
        moves = Moves-then h k l (total seen f came) (total seen f mid) (total seen f (held ++ item_payloads posting.items)) moved
            (Moves-by seen f k.pools.family k l mid (held ++ item_payloads posting.items) (ap (λ (p : Pools). p.family) moved.pools) posting.moves);
      }
