use Rattle.lw_base.specs.declared.event_word.Flag.TheVariants.{Writable, Rest, Ended, Fault, Closed, Listen, Idle}
use Rattle.lw_base.specs.EventWord.{is_set}
use Rattle.lw_transcript.proofs.FieldLists.{no_letters}
use Rattle.lw_transcript.proofs.fields.has_none.Goals as goal

pub returns : goal.returns
returns c =
    let flags = c.args.word.flags in
    rw (c.has.ensures, c.has-2.ensures, c.has-3.ensures, c.has-4.ensures, c.has-5.ensures, c.has-6.ensures, c.has-7.ensures)
    (no_letters (is_set Writable flags) (is_set Rest flags) (is_set Ended flags) (is_set Fault flags) (is_set Closed flags) (is_set Listen flags) (is_set Idle flags))
