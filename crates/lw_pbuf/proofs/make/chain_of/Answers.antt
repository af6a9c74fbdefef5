use Rattle.std.proofs.Common.{rules, ◌≡◌, ℕ, ◌*◌, List, length, min, All, true, refl, sym, ap, ◌∙◌, subst, arith}
use Rattle.std.specs.Arc.{arc_value}
use Rattle.atomic_table.specs.Seated.{TableId}
use Rattle.lw_payload.specs.declared.kinds.Kind.{Kind}
use Rattle.lw_payload.specs.Views.{pbufs_of}
use Rattle.pbuf_seats.specs.declared.owner.Owner.{Owner}
use Rattle.pbuf_seats.specs.Kept.{rows_of}
use Rattle.pbuf_seats.specs.Seats.{SeatSeen}
use Rattle.pbuf_spans.specs.Parts.{Part, IsUnder, IsChain, GivesBack}
use Rattle.pbuf_spans.specs.Spans.{parts_of}
use Rattle.lw_pbuf.specs.Takes.{AreTaken}
use Rattle.lw_pbuf.specs.Makes.{body_of, granted_of, denied_of}
use Rattle.pbuf_spans.proofs.Cutting.{all_spent}
use Rattle.pbuf_spans.proofs.Spans.{length-parts_of, joined_all, owners_held, rows_in-parts_of}
use Rattle.lw_pbuf.proofs.Bodies.{parts_of-own, parts_of-some, length-begin}
use Rattle.lw_pbuf.proofs.Made.{few_pbufs, alloc_made, alloc_denied, denied_keeps}
use Rattle.lw_pbuf.proofs.Taken.{pool_most}
use Rattle.lw_pbuf.proofs.make.chain_of.Goals as goal

pub fill-requires-clause-few : goal.fill-requires-clause-few
fill-requires-clause-few c = λ pool.
    let before = c.requires.settled pool in
    let small = c.requires.small in
    let long = ap length c.as_slice.ensures.value in
    let few = few_pbufs c.args.kind (length c.as_slice.result.now) (omega arith) in
    omega arith

pub of-requires-then-fill : goal.of-requires-then-fill
of-requires-then-fill c =
    let body = c.args.body.items in
    let ps = c.fill.new.pbufs.items in
    let text = c.as_slice.ensures.value in
    let taken = subst (λ (x : List ℕ). AreTaken c.args.seat.now c.fill.new.seat c.args.kind (parts_of true x ps)) text c.fill.ensures.taken in
    let exact = (c.fill.ensures.all c.if-fill.true).0 in
    let long = ap length text in
    let small = c.requires.small in
    record {
      chain = subst (λ (x : List Part). IsChain (arc_value c.args.counts) x) (sym c.of.ensures) record {
        under = subst (λ (u : TableId). All (λ p. IsUnder u p.owner) (parts_of true body ps)) (sym c.requires.table) taken.under;
        some = parts_of-some true body ps c.fill.ensures.some (omega arith);
        short = let e = ap length (joined_all true body ps (omega arith)) in omega arith;
      };
    }

pub returns-then-fill-clause-made : goal.returns-then-fill-clause-made
returns-then-fill-clause-made c =
    let body = c.args.body.items in
    let ps = c.fill.new.pbufs.items in
    let text = c.as_slice.ensures.value in
    let taken = subst (λ (x : List ℕ). AreTaken c.args.seat.now c.fill.new.seat c.args.kind (parts_of true x ps)) text c.fill.ensures.taken in
    let all = c.fill.ensures.all c.if-fill.true in
    let exact = all.0 in
    let count = all.1 in
    let long = ap length text in
    let g = c.granted.ensures in
    let len : c.len-octets.result ≡ length body = search rules in
    alloc_made c.args.seat.now c.fill.new.seat c.granted.new.seat c.args.kind (parts_of true body ps) taken g.same c.of-then-fill.result body (c.of-then-fill.ensures.parts ∙ c.of.ensures) (c.of-then-fill.ensures.table ∙ c.requires.table)
    (parts_of-own body ps) (joined_all true body ps (omega arith)) (length-parts_of true body ps ∙ (count ∙ ap (λ (t : List ℕ). pbufs_of c.args.kind (length t)) text))
    (λ i. length-begin true body i ps (omega arith) ∙ (c.fill.ensures.full c.if-fill.true i ∙ ap (λ (t : List ℕ). min (i * body_of c.args.kind) (length t)) text))
    (g.makes ∙ ap (λ (n : ℕ). granted_of c.args.kind n c.fill.new.seat.makes) len)

pub denied-requires-clause-few : goal.denied-requires-clause-few
denied-requires-clause-few c = λ pool.
    let claimed = c.fill.ensures.taken.claimed in
    let before = c.requires.settled pool in
    let most = pool_most c.args.kind (length (parts_of true c.as_slice.result.now c.fill.new.pbufs.items)) in
    let parts = length-parts_of true c.as_slice.result.now c.fill.new.pbufs.items in
    let few = (c.fill.ensures.tried c.if-fill.false).1 in
    let len : c.len-octets.result ≡ length c.as_slice.result.now = search rules in
    let needed = ap (λ (n : ℕ). pbufs_of c.args.kind n) len in
    let kind = ap (λ (k : Kind). pbufs_of k c.len-octets.result) pool in
    omega arith

pub granted-requires-clause-few : goal.granted-requires-clause-few
granted-requires-clause-few c = λ pool.
    let claimed = c.fill.ensures.taken.claimed in
    let before = c.requires.settled pool in
    let most = pool_most c.args.kind (length (parts_of true c.as_slice.result.now c.fill.new.pbufs.items)) in
    let parts = length-parts_of true c.as_slice.result.now c.fill.new.pbufs.items in
    let all = (c.fill.ensures.all c.if-fill.true).1 in
    let len : c.len-octets.result ≡ length c.as_slice.result.now = search rules in
    let needed = ap (λ (n : ℕ). pbufs_of c.args.kind n) len in
    let kind = ap (λ (k : Kind). pbufs_of k c.len-octets.result) pool in
    omega arith

pub give_up_all-requires-clause-under : goal.give_up_all-requires-clause-under
give_up_all-requires-clause-under c =
    let taken = c.fill.ensures.taken in
    owners_held (λ (o : Owner). IsUnder c.denied.new.seat.holder.table o) true c.as_slice.result.now c.fill.new.pbufs.items
    (subst (λ (u : TableId). All (λ p. IsUnder u p.owner) (parts_of true c.as_slice.result.now c.fill.new.pbufs.items)) (sym (ap (λ (x : SeatSeen). x.holder.table) c.denied.ensures.same ∙ taken.gives.table)) taken.under)

pub give_up_all-requires-clause-listed : goal.give_up_all-requires-clause-listed
give_up_all-requires-clause-listed c = λ s.
    let more = c.fill.ensures.taken.gives.more s in
    let same = rows_in-parts_of true c.as_slice.result.now c.fill.new.pbufs.items s in
    let kept = ap (λ (x : SeatSeen). rows_of x.kept s) c.denied.ensures.same in
    omega arith

pub returns-clause-empty : goal.returns-clause-empty
returns-clause-empty c =
    let ps = c.fill.new.pbufs.items in
    let text = c.as_slice.result.now in
    let k = c.fill.new.seat in
    let l = c.denied.new.seat in
    let g = c.denied.ensures in
    let len : c.len-octets.result ≡ length c.args.body.items = search rules in
    let kept : c.keep_counts.new.self ≡ c.give_up_all.new.seat = search rules in
    let spent = all_spent l c.give_up_all.new.seat c.keep_counts.new.self true text ps (parts_of true text ps) refl c.give_up_all.ensures.spent kept in
    let back = subst (λ (x : SeatSeen). GivesBack l.holder x.holder) (sym kept) c.give_up_all.ensures.back in
    let tried = c.fill.ensures.tried c.if-fill.false in
    let few = tried.1 in
    let parts = length-parts_of true text ps in
    let needed = ap (λ (t : List ℕ). pbufs_of c.args.kind (length t)) c.as_slice.ensures.value in (
      refl,
      alloc_denied c.args.seat.now k l c.keep_counts.new.self c.args.kind (parts_of true text ps) (length c.args.body.items) c.fill.ensures.taken g.same spent tried.0 back (omega arith)
          (g.makes ∙ ap (λ (n : ℕ). denied_of c.args.kind n k.makes) len) g.claims g.kept c.fill.ensures.places,
    )

pub returns-clause-keeps : goal.returns-clause-keeps
returns-clause-keeps c =
    let ps = c.fill.new.pbufs.items in
    let text = c.as_slice.result.now in
    let k = c.fill.new.seat in
    let l = c.denied.new.seat in
    let g = c.denied.ensures in
    let len : c.len-octets.result ≡ length c.args.body.items = search rules in
    let kept : c.keep_counts.new.self ≡ c.give_up_all.new.seat = search rules in
    let spent = all_spent l c.give_up_all.new.seat c.keep_counts.new.self true text ps (parts_of true text ps) refl c.give_up_all.ensures.spent kept in
    denied_keeps c.args.seat.now k l c.keep_counts.new.self c.args.kind (parts_of true text ps) (length c.args.body.items) c.fill.ensures.taken g.same spent c.requires.settled g.settled g.claimed g.grows
    (g.makes ∙ ap (λ (n : ℕ). denied_of c.args.kind n k.makes) len)
