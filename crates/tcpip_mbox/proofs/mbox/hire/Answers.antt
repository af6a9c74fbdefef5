use Rattle.std.proofs.Common.{rules, ◌≡◌, ℕ, ◌+◌, Some, List, length, ap, sym, subst, ◌∙◌, arith}
use Rattle.tcpip_mbox.specs.Views.{with_one_more, newest}
use Rattle.tcpip_mbox.specs.Tokens.{Sender, fresh, AreNumbered}
use Rattle.tcpip_mbox.proofs.Sharing.{hires}
use Rattle.tcpip_mbox.proofs.Puts.{AreNumbered-push, fresh_at}
use Rattle.tcpip_mbox.proofs.mbox.hire.Goals as goal

pub another-pass-requires-clause-rule : goal.another-pass-requires-clause-rule
another-pass-requires-clause-rule g c = let is = c.loop-number.invariant.1 in hires g.M.Message.fits _ _ c.args.key.now (ap (λ v. v.key) is) (ap (λ v. v.puts) is) (ap (λ v. v.gets) is) (ap (λ v. v.number) is)

pub loop-number-preserved : goal.loop-number-preserved
loop-number-preserved g c = let inv = c.loop-number.invariant in let made = c.another-pass.ensures in let put = c.push_reserved.ensures in
    let table = c.args.queue.now.table.shared.table_id in
    let known = fresh_at {M = g.row.M.Denot} table (Some c.args.key.now) c.another-pass.result (c.loop-number.number + 1) made.queue.1.0 (made.rule.1 ∙ ap newest inv.1) in
    let len : length c.loop-number.puts.items ≡ c.loop-number.number = inv.3 in
    let next : 1 + length c.loop-number.puts.items ≡ c.loop-number.number + 1 = omega arith in (
      (made.queue.0.0 ∙ inv.0.0, made.queue.0.2 ∙ inv.0.1),
      made.rule.0 ∙ ap with_one_more inv.1,
      subst (λ (l : List (Sender g.row.M.Denot g.row.K.Denot)). AreNumbered table (Some c.args.key.now) 1 l) (sym put.items) (AreNumbered-push {M = g.row.M.Denot} table (Some c.args.key.now) 1 c.loop-number.puts.items _ inv.2 (known ∙ ap (λ (n : ℕ). fresh {M = g.row.M.Denot} {K = g.row.K.Denot} table (Some c.args.key.now) n 0) (sym next))),
      search rules,
      search rules,
    )
