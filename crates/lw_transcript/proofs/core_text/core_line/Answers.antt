use Rattle.std.proofs.Common.{◌++◌, ◌∷◌, ◌≡◌, ◌∙◌, [], List, ap, append_assoc, codes}
use Rattle.std.specs.List.{flat_map}
use Rattle.lw_transcript.specs.Fields.{Field, Word, Number, behind_text}
use Rattle.lw_transcript.specs.CoreLines.{event_fields, reply_fields, short_fields}
use Rattle.lw_transcript.proofs.Printing.{Prints-behind, Prints-same, Prints-then}
use Rattle.lw_transcript.proofs.core_text.core_line.Goals as goal

pub returns : goal.returns
returns g c =
    let e = c.args.entry.now in
    let word = codes "core" in
    let head : List Field = Number c.args.number ∷ Number e.actor ∷ [] in
    let event = event_fields e.event in
    let arrow : List Field = Word (codes "->") ∷ [] in
    let reply = reply_fields e.reply in
    let short = short_fields e.short in
    let to_1 = Prints-then c.text.ensures c.behind.ensures in
    let to_2 = Prints-behind word head event to_1 c.event.ensures in
    let to_3 = Prints-behind word (head ++ event) arrow to_2 c.behind-2.ensures in
    let to_4 = Prints-behind word ((head ++ event) ++ arrow) reply to_3 c.reply.ensures in
    let to_5 = Prints-behind word (((head ++ event) ++ arrow) ++ reply) short to_4 c.short.ensures in
    let parts : ((event ++ arrow) ++ reply) ++ short ≡ event ++ Word (codes "->") ∷ (reply ++ short) =
    append_assoc (event ++ arrow) reply short ∙ append_assoc event arrow (reply ++ short) in
    Prints-same (Prints-then to_5 c.text-2.ensures)
    (ap (λ (fs : List Field). (word ++ flat_map behind_text (Number c.args.number ∷ Number e.actor ∷ fs)) ++ codes "\n") parts)
