use Rattle.lw_scripts.proofs.Scanning.{goes_on_behind, goes_on_comment, stops_comment}
use Rattle.lw_scripts.proofs.reader.after.Goals as goal

pub returns-then-not-begins_comment : goal.returns-then-not-begins_comment
returns-then-not-begins_comment c =
    goes_on_behind c.args.wanted c.args.place c.args.line.now c.behind.result (cc) c.behind.ensures

pub returns-then-is_ascii : goal.returns-then-is_ascii
returns-then-is_ascii c = goes_on_comment c.args.wanted c.args.place c.args.line.now (cc) c.if-is_ascii.ensures.cases

pub returns-else-is_ascii : goal.returns-else-is_ascii
returns-else-is_ascii c = stops_comment c.args.wanted c.args.place c.args.line.now (cc) c.if-is_ascii.ensures.cases
