-- Mailboxes that are asked and made, and those that an item is posted to.
use Rattle.std.proofs.Common.{◌≡◌, ◌≢◌, ℕ, ◌+◌, ◌-◌, ◌^◌, ◌≤◌, ◌<◌, ◌∙◌, Bool, true, false, [], ◌∷◌, ◌++◌, length, Option, Some, None, is_some, IfSome, option_map, refl, sym, ap, subst, ⊎_elim, arith}
use Rattle.std.proofs.lemmas.Bool.{cases_eq, cases_lt}
use Rattle.std.proofs.lemmas.List.{length-set}
use Rattle.lw_base.specs.declared.event_word.Flag.TheVariants.{Closed}
use Rattle.lw_base.specs.EventWord.{is_set}
use Rattle.lw_conn.specs.declared.connections.Connection.{Connection}
use Rattle.lw_conn.specs.Connections.{Connections, changed, connection, with_post}
use Rattle.lw_api_msg.proofs.PlaceLaws.{given, none_past, numbered, put_elsewhere, put_here}
use Rattle.lw_boxes.specs.declared.item.Item.{Item}
use Rattle.lw_boxes.specs.Shelf.{IsAsked, IsMade, IsPosted, Mailbox, Shelf}
use Rattle.lw_layers.specs.Boxes.{AreBoxesOf, AreSameBoxes, KeepItems, Shows}

-- a connection stays live where a post is counted
still_some : (o : Option Connection) → is_some o ≡ true → is_some (option_map with_post o) ≡ true
still_some (Some c) live = refl
still_some None live = absurd (let h = live in cc)

some_not : {A : Type 0} (o : Option Connection) → is_some o ≡ true → o ≡ None → A
some_not o live none = absurd (let clash : false ≡ true = sym (ap is_some none) ∙ live in cc)

module _ {P : Type 0} where
  -- Mailboxes that are as they were

  pub same_self : (s : Shelf P) → AreSameBoxes s s
  same_self s = record { made = omega arith; old = λ n within. refl; new = λ n past within. absurd (omega arith) }

  pub same_seen : (before after : Shelf P) → after ≡ before → AreSameBoxes before after
  same_seen before after is = subst (AreSameBoxes before) (sym is) (same_self before)

  pub same_asked : (before after : Shelf P) (conn ahead : ℕ) (answer : Bool) → IsAsked before conn ahead answer after → AreSameBoxes before after
  same_asked before after conn ahead answer asked =
      let made = asked.made in
      record { made = omega arith; old = λ n within. asked.same n; new = λ n past within. absurd (omega arith) }

  pub same_made : (before after : Shelf P) (conn : ℕ) → conn ≤ before.made + 1 → IsMade before conn after → AreSameBoxes before after
  same_made before after conn next made =
      let now = made.made in
      record {
        made = omega arith;
        old = λ n within. made.old n within;
        new = λ n past within.
            let own : n ≡ conn = omega arith in
            ap after.box own ∙ made.fresh (omega arith);
      }

  pub same_keep : (before after : Shelf P) → AreSameBoxes before after → KeepItems before after
  same_keep before after same = record {
    made = same.made;
    old = λ n within. ap (λ (b : Mailbox P). b.kept) (same.old n within);
    empty = λ n past within. ap (λ (b : Mailbox P). b.kept) (same.new n past within);
  }

  shows_same : (o : Option Connection) (b d : Mailbox P) → d ≡ b → IfSome o (λ c. Shows b c) → IfSome o (λ c. Shows d c)
  shows_same o b d is shows = subst (λ (x : Mailbox P). IfSome o (λ c. Shows x c)) (sym is) shows

  -- so they are those of the same connections
  pub same_boxes : (cs : Connections) (before after : Shelf P) → AreBoxesOf cs before → AreSameBoxes before after → AreBoxesOf cs after
  same_boxes cs before after are same =
      let least = are.made in
      let more = same.made in
      record {
        made = omega arith;
        live = λ n.
            ⊎_elim
            (λ (past : length cs < n). subst (λ (o : Option Connection). IfSome o (λ c. Shows (after.box n) c)) (sym (none_past cs n past)) tt)
            (λ (within : n ≤ length cs). shows_same (connection cs n) (before.box n) (after.box n) (same.old n (omega arith)) (are.live n))
            (cases_lt (length cs) n);
        closed = λ n some within none. subst (λ (b : Mailbox P). is_set Closed b.flags ≡ true) (sym (same.old n (omega arith))) (are.closed n some within none);
        fresh = λ n past within.
            ⊎_elim
            (λ (newer : before.made < n). same.new n newer within)
            (λ (older : n ≤ before.made). same.old n older ∙ are.fresh n past older)
            (cases_lt before.made n);
      }

  -- An item posted

  -- the mailbox of a live connection isn't closed
  closed_not : (o : Option Connection) (b : Mailbox P) → is_some o ≡ true → IfSome o (λ c. Shows b c) → is_set Closed b.flags ≡ false
  closed_not (Some c) b live shows = ap (is_set Closed) shows.flags ∙ shows.unclosed
  closed_not None b live shows = absurd (let h = live in cc)

  pub not_closed : (cs : Connections) (s : Shelf P) (conn : ℕ) → is_some (connection cs conn) ≡ true → AreBoxesOf cs s → is_set Closed (s.box conn).flags ≡ false
  not_closed cs s conn live are = closed_not (connection cs conn) (s.box conn) live (are.live conn)

  -- as many items were posted to it as the connection counts
  posted_same : (o : Option Connection) (b : Mailbox P) (n : ℕ) → b.posted < n → IfSome o (λ c. Shows b c) → IfSome o (λ c. c.posted < n)
  posted_same (Some c) b n few shows = let same = shows.posted in omega (arith, few)
  posted_same None b n few shows = tt

  pub few_posted : (cs : Connections) (s : Shelf P) (conn : ℕ) → (s.box conn).posted < 2 ^ 28 - 1 → AreBoxesOf cs s → IfSome (connection cs conn) (λ c. c.posted < 2 ^ 32 - 1)
  few_posted cs s conn few are = posted_same (connection cs conn) (s.box conn) (2 ^ 32 - 1) (omega (arith, few)) (are.live conn)

  shows_post : (o : Option Connection) (b d : Mailbox P) (item : Item P) → d ≡ record b { posted = b.posted + 1; kept = b.kept ++ item ∷ [] }
      → IfSome o (λ c. Shows b c) → IfSome (option_map with_post o) (λ c. Shows d c)
  shows_post (Some c) b d item is shows = record {
    posted = ap (λ (x : Mailbox P). x.posted) is ∙ ap (λ (n : ℕ). n + 1) shows.posted;
    flags = ap (λ (x : Mailbox P). x.flags) is ∙ shows.flags;
    unclosed = shows.unclosed;
  }
  shows_post None b d item is shows = tt

  -- the mailboxes are those of the connections once the post is counted
  pub posted_box : (cs : Connections) (before after : Shelf P) (conn : ℕ) (item : Item P) → is_some (connection cs conn) ≡ true → AreBoxesOf cs before
      → IsPosted before conn item after → AreBoxesOf (changed cs conn with_post) after
  posted_box cs before after conn item live are posted =
      let least = are.made in
      let made = posted.made in
      let some = numbered cs conn live in
      let within = given cs conn live in
      let now : Option Connection = option_map with_post (connection cs conn) in
      let long : length (changed cs conn with_post) ≡ length cs = length-set cs (conn - 1) now in
      let other : (n : ℕ) → n ≢ conn → after.box n ≡ before.box n = posted.others.others in
      let elsewhere = λ (n : ℕ) (away : n ≢ conn). put_elsewhere cs conn n now some away in
      let here : connection (changed cs conn with_post) conn ≡ now = put_here cs conn now live in
      record {
        made = omega arith;
        live = λ n.
            ⊎_elim
            (λ (its : n ≡ conn).
            subst (λ (m : ℕ). IfSome (connection (changed cs conn with_post) m) (λ c. Shows (after.box m) c)) (sym its)
            (subst (λ (o : Option Connection). IfSome o (λ c. Shows (after.box conn) c)) (sym here)
            (shows_post (connection cs conn) (before.box conn) (after.box conn) item posted.posted (are.live conn))))
            (λ (away : n ≢ conn).
            subst (λ (o : Option Connection). IfSome o (λ c. Shows (after.box n) c)) (sym (elsewhere n away))
            (shows_same (connection cs n) (before.box n) (after.box n) (other n away) (are.live n)))
            (cases_eq n conn);
        closed = λ n above below none.
            ⊎_elim
            (λ (its : n ≡ conn). some_not now (still_some (connection cs conn) live) (sym here ∙ sym (ap (connection (changed cs conn with_post)) its) ∙ none))
            (λ (away : n ≢ conn).
            subst (λ (b : Mailbox P). is_set Closed b.flags ≡ true) (sym (other n away))
            (are.closed n above (omega arith) (sym (elsewhere n away) ∙ none)))
            (cases_eq n conn);
        fresh = λ n past there. other n (λ e. absurd (omega (arith, e))) ∙ are.fresh n (omega arith) (omega arith);
      }
