use Rattle.lw_base.specs.declared.event_word.Flag.TheVariants.{Writable, Rest, Ended, Fault, Closed, Listen, Idle}
use Rattle.lw_base.specs.EventWord.{is_set}
use Rattle.lw_transcript.proofs.Printing.{Prints-same, Prints-then}
use Rattle.lw_transcript.proofs.FieldLists.{seven_letters}
use Rattle.lw_transcript.proofs.fields.letters.Goals as goal

pub returns : goal.returns
returns g c =
    let to_2 = Prints-then c.letter.ensures c.letter-2.ensures in
    let to_3 = Prints-then to_2 c.letter-3.ensures in
    let to_4 = Prints-then to_3 c.letter-4.ensures in
    let to_5 = Prints-then to_4 c.letter-5.ensures in
    let to_6 = Prints-then to_5 c.letter-6.ensures in
    let flags = c.args.word.flags in
    Prints-same (Prints-then to_6 c.letter-7.ensures)
    (seven_letters (is_set Writable flags) (is_set Rest flags) (is_set Ended flags) (is_set Fault flags) (is_set Closed flags) (is_set Listen flags) (is_set Idle flags))
