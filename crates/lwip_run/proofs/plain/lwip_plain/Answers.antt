use Rattle.std.proofs.Common.{◌≡◌, ◌⊎◌, map, string_bytes, subst, sym}
use Rattle.std.specs.declared.alloc.Global.{Global}
use Rattle.lwip_run.specs.Reading.{IsLost, SeesOne}
use Rattle.lwip_run.specs.Comes.{outside}
use Rattle.lwip_run.proofs.Clauses.{complete_of, of_form, script_first_of}
use Rattle.lwip_run.proofs.plain.lwip_plain.Goals as goal

pub returns-clause-complete : goal.returns-clause-complete
returns-clause-complete g c script capture is holds_script holds_capture calm still =
    let before = outside (g.F.Files.seen c.args.files.now) (g.K.Sink.seen c.args.out.now) in
    let now = outside (g.F.Files.seen c.plain-done.new.files) (g.K.Sink.seen c.plain-done.new.out) in
    let comes = of_form (map (string_bytes {Z = Global}) c.args.words.now) before now c.plain-done.result c.plain-done.ensures script capture is in
    subst (λ n. (n ≡ 0) ⊎ (n ≡ 8)) (sym c.answer.ensures.code)
    (complete_of script capture before now c.plain-done.result holds_script holds_capture calm still comes)

pub returns-clause-script_first : goal.returns-clause-script_first
returns-clause-script_first g c script capture is none =
    let before = outside (g.F.Files.seen c.args.files.now) (g.K.Sink.seen c.args.out.now) in
    let now = outside (g.F.Files.seen c.plain-done.new.files) (g.K.Sink.seen c.plain-done.new.out) in
    let comes = of_form (map (string_bytes {Z = Global}) c.args.words.now) before now c.plain-done.result c.plain-done.ensures script capture is in
    subst (λ n. (n ≡ 3) ⊎ ((n ≡ 8) ⊎ SeesOne script before.files now.files (IsLost before.files now.files))) (sym c.answer.ensures.code)
    (script_first_of script capture before now c.plain-done.result none comes)
