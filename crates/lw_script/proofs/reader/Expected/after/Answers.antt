use Rattle.lw_script.proofs.Scanning.{goes_on_behind, stops_comment}
use Rattle.lw_script.proofs.reader.Expected.after.Goals as goal

pub returns-then-not-begins_comment : goal.returns-then-not-begins_comment
returns-then-not-begins_comment c =
    goes_on_behind c.args.self c.args.line.now c.behind.result (cc) c.behind.ensures

pub returns-else-is_ascii : goal.returns-else-is_ascii
returns-else-is_ascii c = stops_comment c.args.self c.args.line.now (cc) c.if-is_ascii.ensures.cases
