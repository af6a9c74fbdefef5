use Rattle.std.proofs.Common.{◌≡◌, ◌+◌, ℕ, length, ap, subst, ◌∙◌, arith}
use Rattle.tcpip_mbox.specs.Letters.{sent_by}
use Rattle.reply_box.proofs.Taken.{one_more}
use Rattle.reply_box.proofs.place.ReplyBox.get.Goals as goal

pub returns : goal.returns
returns g c = let took = c.fetch-reply.ensures.got in let same = c.fetch-reply.ensures.same in let key = ap (λ b. b.key) c.self.view_is in
    let others : c.waits.inside.get.others ≡ 0 = c.waits.invariant in let le = took.1 in let first : took.0 ≡ 0 = omega arith in
    let count : length (sent_by 0 c.waits.inside.get.given) ≡ c.args.waits.now.count = ap (λ a. a.count) c.waits.view_is in
    let here : length (sent_by took.0 c.waits.inside.get.given) ≡ c.args.waits.now.count = ap (λ (n : ℕ). length (sent_by n c.waits.inside.get.given)) first ∙ count in
    let answers = subst (λ (n : ℕ). g.R.Answer.answers c.self.inside.mbox.key n c.fetch-reply.result.reply) here took.2 in
    let place = same.0 ∙ ap (λ a. a.place) c.waits.view_is in let own = same.1 ∙ ap (λ a. a.key) c.waits.view_is in
    let more : length (sent_by 0 c.fetch-reply.new.get.given) ≡ c.args.waits.now.count + 1 = one_more took.0 _ _ _ first took.3 ∙ ap (λ (n : ℕ). n + 1) count in
    record {
      answers = subst (λ (k : g.row.K.Denot). g.R.Answer.answers k c.args.waits.now.count c.fetch-reply.result.reply) key answers;
      got = λ i. record { place = place i; key = own i; count = more i };
    }
