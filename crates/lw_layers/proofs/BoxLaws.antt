-- The mailboxes of connections, as connections are made and closed.
use Rattle.std.proofs.Common.{◌≡◌, ◌≢◌, ℕ, ◌+◌, ◌-◌, ◌≤◌, ◌<◌, ◌==◌, ◌∙◌, true, false, if◌then◌else◌, option_and_then, slice_get, [], ◌∷◌, length, Option, Some, None, is_some, IfSome, bit_or, refl, sym, ap, subst, ⊎_elim, arith, length-append}
use Rattle.std.specs.Int.{bit_at}
use Rattle.std.proofs.lemmas.Bool.{cases_eq, cases_lt, eq-eqb}
use Rattle.std.proofs.lemmas.List.{length-set}
use Rattle.std.proofs.lemmas.Nat.Bits.{bit_at_or, bit_at-lt}
use Rattle.lw_base.specs.declared.event_word.Flag.{Flag}
use Rattle.lw_base.specs.declared.event_word.Flag.TheVariants.{Closed, Writable}
use Rattle.lw_base.specs.EventWord.{bit_of, is_set}
use Rattle.lw_events.specs.declared.event.Proto.TheVariants.{Udp}
use Rattle.lw_conn.specs.declared.connections.Connection.{Connection}
use Rattle.lw_conn.specs.Connections.{Connections, added, closed as without, connection, fresh as new_connection}
use Rattle.lw_api_msg.proofs.PlaceLaws.{given, less_elsewhere, less_here, more_elsewhere, more_here, none_past, numbered}
use Rattle.lw_boxes.specs.Shelf.{HasFlag, IsMade, Mailbox, Shelf, fresh as new_mailbox}
use Rattle.lw_layers.specs.Boxes.{AreBoxesOf, KeepItems, Shows}

-- CLOSED stands once it was set
closed_stands : (flags : ℕ) → is_set Closed (bit_or flags 16) ≡ true
closed_stands flags =
    let both = bit_at_or flags 16 4 in
    let low = bit_at-lt flags 4 in
    let own : bit_at 16 4 ≡ 1 = refl in
    eq-eqb (bit_at (bit_or flags 16) 4) 1 (omega (arith, both, low, own))

module _ {P : Type 0} where
  -- connections whose mailboxes are as they were are shown
  live_same : (cs : Connections) (before after : Shelf P) → AreBoxesOf cs before → ((n : ℕ) → n ≤ length cs → after.box n ≡ before.box n)
      → (n : ℕ) → IfSome (connection cs n) (λ c. Shows (after.box n) c)
  live_same cs before after are same n =
      ⊎_elim
      (λ (past : length cs < n). subst (λ (o : Option Connection). IfSome o (λ c. Shows (after.box n) c)) (sym (none_past cs n past)) tt)
      (λ (within : n ≤ length cs). subst (λ (b : Mailbox P). IfSome (connection cs n) (λ c. Shows b c)) (sym (same n within)) (are.live n))
      (cases_lt (length cs) n)

  -- a mailbox is made for the next number
  pub made_box : (cs : Connections) (before after : Shelf P) (conn : ℕ) → conn ≡ length cs + 1 → AreBoxesOf cs before → IsMade before conn after
      → AreBoxesOf cs after
  made_box cs before after conn next are made =
      let least = are.made in
      let now = made.made in
      let same : (n : ℕ) → n ≤ length cs → after.box n ≡ before.box n = λ n within. made.old n (omega (arith, within)) in
      record {
        made = omega (arith, now);
        live = live_same cs before after are same;
        closed = λ n some within none. subst (λ (b : Mailbox P). is_set Closed b.flags ≡ true) (sym (same n within)) (are.closed n some within none);
        fresh = λ n past within.
            ⊎_elim
            (λ (newer : before.made < n).
            let own : n ≡ conn = omega (arith, now) in
            subst (λ (m : ℕ). after.box m ≡ new_mailbox) (sym own) (made.fresh (omega (arith, own))))
            (λ (older : n ≤ before.made). made.old n older ∙ are.fresh n past older)
            (cases_lt before.made n);
      }

  -- it is the mailbox of a new connection once its first flag was set
  pub new_box : (cs : Connections) (before after : Shelf P) (conn : ℕ) → conn ≡ length cs + 1 → conn ≤ before.made → AreBoxesOf cs before
      → HasFlag before conn Writable after → AreBoxesOf (added cs Udp) after
  new_box cs before after conn next there are set =
      let made = set.made in
      let long : length (added cs Udp) ≡ length cs + 1 = omega (arith, length-append cs (Some (new_connection Udp) ∷ [])) in
      let other : (n : ℕ) → n ≢ conn → after.box n ≡ before.box n = set.others.others in
      let own =
      set.set ∙ ap (λ (b : Mailbox P). let x : Mailbox P = record b { flags = bit_or b.flags (bit_of Writable) } in x) (are.fresh conn (omega arith) there) in
      let elsewhere = λ (n : ℕ) (away : n ≢ conn). more_elsewhere cs (Some (new_connection Udp)) n (λ e. away (e ∙ sym next)) in
      let here : connection (added cs Udp) conn ≡ Some (new_connection Udp) = ap (connection (added cs Udp)) next ∙ more_here cs (new_connection Udp) in
      record {
        made = omega arith;
        live = λ n.
            ⊎_elim
            (λ (its : n ≡ conn).
            subst (λ (m : ℕ). IfSome (connection (added cs Udp) m) (λ c. Shows (after.box m) c)) (sym its)
            (subst (λ (o : Option Connection). IfSome o (λ c. Shows (after.box conn) c)) (sym here)
            (record { posted = ap (λ (b : Mailbox P). b.posted) own; flags = ap (λ (b : Mailbox P). b.flags) own; unclosed = refl })))
            (λ (away : n ≢ conn).
            subst (λ (o : Option Connection). IfSome o (λ c. Shows (after.box n) c)) (sym (elsewhere n away))
            (subst (λ (b : Mailbox P). IfSome (connection cs n) (λ c. Shows b c)) (sym (other n away)) (are.live n)))
            (cases_eq n conn);
        closed = λ n some within none.
            ⊎_elim
            (λ (its : n ≡ conn). absurd (let clash : Some (new_connection Udp) ≡ None = sym here ∙ sym (ap (connection (added cs Udp)) its) ∙ none in cc))
            (λ (away : n ≢ conn).
            subst (λ (b : Mailbox P). is_set Closed b.flags ≡ true) (sym (other n away))
            (are.closed n some (omega arith) (sym (elsewhere n away) ∙ none)))
            (cases_eq n conn);
        fresh = λ n past within. other n (λ e. absurd (omega (arith, e))) ∙ are.fresh n (omega arith) (omega arith);
      }

  -- it is the mailbox of a connection that was closed once CLOSED was set
  pub closed_box : (cs : Connections) (before after : Shelf P) (conn : ℕ) → is_some (connection cs conn) ≡ true → AreBoxesOf cs before
      → HasFlag before conn Closed after → AreBoxesOf (without cs conn) after
  closed_box cs before after conn live are set =
      let least = are.made in
      let made = set.made in
      let some = numbered cs conn live in
      let within = given cs conn live in
      let long : length (without cs conn) ≡ length cs = length-set cs (conn - 1) None in
      let other : (n : ℕ) → n ≢ conn → after.box n ≡ before.box n = set.others.others in
      let elsewhere = λ (n : ℕ) (away : n ≢ conn). less_elsewhere cs conn n some away in
      record {
        made = omega arith;
        live = λ n.
            ⊎_elim
            (λ (its : n ≡ conn).
            subst (λ (o : Option Connection). IfSome o (λ c. Shows (after.box n) c)) (sym (ap (connection (without cs conn)) its ∙ less_here cs conn)) tt)
            (λ (away : n ≢ conn).
            subst (λ (o : Option Connection). IfSome o (λ c. Shows (after.box n) c)) (sym (elsewhere n away))
            (subst (λ (b : Mailbox P). IfSome (connection cs n) (λ c. Shows b c)) (sym (other n away)) (are.live n)))
            (cases_eq n conn);
        closed = λ n above below none.
            ⊎_elim
            (λ (its : n ≡ conn).
            subst (λ (b : Mailbox P). is_set Closed b.flags ≡ true) (sym (ap after.box its ∙ set.set)) (closed_stands (before.box conn).flags))
            (λ (away : n ≢ conn).
            subst (λ (b : Mailbox P). is_set Closed b.flags ≡ true) (sym (other n away))
            (are.closed n above (omega arith) (sym (elsewhere n away) ∙ none)))
            (cases_eq n conn);
        fresh = λ n past there. other n (λ e. absurd (omega (arith, e))) ∙ are.fresh n (omega arith) (omega arith);
      }

  -- no connection was made, and no mailbox
  pub no_box : (s : Shelf P) → s.made ≡ 0 → AreBoxesOf [] s
  no_box s none = record {
    made = omega arith;
    live = λ n. elim (n == 0) as (λ b. IfSome (if b then None else option_and_then (λ (o : Option Connection). o) (slice_get [] (n - 1))) (λ c. Shows (s.box n) c)) [
      | true ↦ tt
      | false ↦ tt
    ];
    closed = λ n some within is. absurd (omega arith);
    fresh = λ n past within. absurd (omega arith);
  }

  -- the number of a live connection has a mailbox
  pub live_made : (cs : Connections) (s : Shelf P) (conn : ℕ) → is_some (connection cs conn) ≡ true → AreBoxesOf cs s → (0 < conn) × (conn ≤ s.made)
  live_made cs s conn live are =
      let some = numbered cs conn live in
      let within = given cs conn live in
      let least = are.made in
      (omega (arith, some), omega arith)

  -- items stay where they are
  pub keep_self : (s : Shelf P) → KeepItems s s
  keep_self s = record { made = omega arith; old = λ n within. refl; empty = λ n new within. absurd (omega arith) }

  pub keep_same : (before after : Shelf P) → after ≡ before → KeepItems before after
  keep_same before after is = subst (KeepItems before) (sym is) (keep_self before)

  pub keep_made : (before after : Shelf P) (conn : ℕ) → conn ≤ before.made + 1 → IsMade before conn after → KeepItems before after
  keep_made before after conn next made =
      let now = made.made in
      record {
        made = omega arith;
        old = λ n within. ap (λ (b : Mailbox P). b.kept) (made.old n within);
        empty = λ n new within.
            let own : n ≡ conn = omega arith in
            ap (λ (m : ℕ). (after.box m).kept) own ∙ ap (λ (b : Mailbox P). b.kept) (made.fresh (omega arith));
      }

  pub keep_flag : (before after : Shelf P) (conn : ℕ) (flag : Flag) → HasFlag before conn flag after → KeepItems before after
  keep_flag before after conn flag set =
      let now = set.made in
      record {
        made = omega arith;
        old = λ n within.
            ⊎_elim
            (λ (its : n ≡ conn).
            ap (λ (m : ℕ). (after.box m).kept) its ∙ ap (λ (b : Mailbox P). b.kept) set.set ∙ ap (λ (m : ℕ). (before.box m).kept) (sym its))
            (λ (away : n ≢ conn). ap (λ (b : Mailbox P). b.kept) (set.others.others n away))
            (cases_eq n conn);
        empty = λ n new within. absurd (omega arith);
      }

  pub keep_then : (a b c : Shelf P) → KeepItems a b → KeepItems b c → KeepItems a c
  keep_then a b c first second =
      let one = first.made in
      let two = second.made in
      record {
        made = omega arith;
        old = λ n within. second.old n (omega arith) ∙ first.old n within;
        empty = λ n new within.
            ⊎_elim
            (λ (later : b.made < n). second.empty n later within)
            (λ (soon : n ≤ b.made). second.old n soon ∙ first.empty n new soon)
            (cases_lt b.made n);
      }
