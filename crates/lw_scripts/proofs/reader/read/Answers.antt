use Rattle.lw_scripts.proofs.Scanning.{scan_behind, scan_end, scan_fault}
use Rattle.lw_scripts.proofs.reader.read.Goals as goal

pub returns-then-not-is_empty : goal.returns-then-not-is_empty
returns-then-not-is_empty c =
    let l = c.loop-line in
    scan_behind c.args.wanted c.args.bytes.now l.rest.now l.place l.number l.invariant c.in_default.ensures (cc)

pub returns : goal.returns
returns c =
    let l = c.loop-line in
    scan_end c.args.wanted c.args.bytes.now l.rest.now l.place l.number c.script.result c.ok_or.result l.invariant c.in_default.ensures (cc) c.script.ensures c.ok_or.ensures.value

pub returns-in-Err : goal.returns-in-Err
returns-in-Err c =
    let l = c.loop-line in
    scan_fault c.args.wanted c.args.bytes.now l.rest.now c.in-Some.line.now c.in-Some.behind.now l.place l.number c.in-Err.fault l.invariant c.in-Some.ensures c.in-Err.ensures
