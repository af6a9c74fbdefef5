use Rattle.std.proofs.Common.{rules, ap, sym, ◌∙◌, List, true, arith}
use Rattle.lw_payload.specs.declared.kinds.Kind.{Kind}
use Rattle.pbuf_spans.specs.Parts.{Part, rows_in}
use Rattle.lw_pbuf.specs.Takes.{is_counted}
use Rattle.lw_pbuf.proofs.Threads.{no_rows}
use Rattle.lw_pbuf.proofs.tests.make_two.Goals as goal

pub returns-clause-second : goal.returns-clause-second
returns-clause-second c =
    let shared = c.in_ok-second.ensures.shared in
    let made = c.in_ok-first.ensures.made in
    let none = c.requires.none_kept Kind.Pool in
    record {
      table = shared.second_table ∙ (made.table ∙ sym c.requires.table);
      listed = λ s.
          let some = shared.rows s in
          let zero = no_rows (rows_in c.in_ok-first.first.parts s) (is_counted c.args.feeder.now Kind.Pool) _ (made.kept s) (search rules) in
          omega arith;
    }
