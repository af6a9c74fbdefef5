use Rattle.lwip_run.proofs.plain.plain.Goals as goal

pub serial_form-requires-clause-script : goal.serial_form-requires-clause-script
serial_form-requires-clause-script g c = (c.requires.asked c.in-Some.script.now c.in-Some.capture.now c.in-Some.ensures).0

pub serial_form-requires-clause-capture : goal.serial_form-requires-clause-capture
serial_form-requires-clause-capture g c = (c.requires.asked c.in-Some.script.now c.in-Some.capture.now c.in-Some.ensures).1
