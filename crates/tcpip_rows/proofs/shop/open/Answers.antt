use Rattle.std.proofs.Common.{rules}
use Rattle.tcpip_rows.proofs.Lining.{lines_open}
use Rattle.tcpip_rows.proofs.shop.open.Goals as goal

pub line_up-requires-clause-lines : goal.line_up-requires-clause-lines
line_up-requires-clause-lines c = lines_open c.in_ok-tcpip.tcpip c.args.askers c.in_ok-tcpip.lines.items c.in_ok-tcpip.ensures.lines
