use Rattle.lw_scripts.proofs.ReaderLaws.{first_fault, line_fails, only_script}
use Rattle.lw_scripts.proofs.reader.read_script.Goals as goal

pub returns-clause-only : goal.returns-clause-only
returns-clause-only c = only_script c.args.wanted c.args.bytes.now c.read.result c.read.ensures

pub returns-clause-line : goal.returns-clause-line
returns-clause-line c = line_fails c.args.wanted c.args.bytes.now c.read.result c.read.ensures

pub returns-clause-first : goal.returns-clause-first
returns-clause-first c = first_fault c.args.wanted c.args.bytes.now c.read.result c.read.ensures
