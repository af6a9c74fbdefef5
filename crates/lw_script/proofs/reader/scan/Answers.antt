use Rattle.lw_script.proofs.Scanning.{scan_behind, scan_end, scan_stop}
use Rattle.lw_script.proofs.reader.scan.Goals as goal

pub returns-in-None : goal.returns-in-None
returns-in-None c =
    let l = c.loop-line in
    scan_stop c.args.bytes.now l.rest.now c.in-Some.line.now c.in-Some.behind.now l.expected l.number l.invariant c.in-Some.ensures c.in-None.ensures

pub returns-then-not-is_empty : goal.returns-then-not-is_empty
returns-then-not-is_empty c =
    let l = c.loop-line in
    scan_behind c.args.bytes.now l.rest.now l.expected l.number l.invariant c.in_default.ensures (cc)

pub returns : goal.returns
returns c =
    let l = c.loop-line in
    scan_end c.args.bytes.now l.rest.now l.expected l.number c.whole.result c.ok_or.result l.invariant c.in_default.ensures (cc) c.whole.ensures c.ok_or.ensures.value
