use Rattle.lwip_run.proofs.Forms.{form_words, three}
use Rattle.lwip_run.proofs.plain.form.Goals as goal

pub returns : goal.returns
returns c =
    let words = three c.args.words.now c.form-item.result c.script-item.result c.capture-item.result
    c.in-len3.len_at_least c.in-len3.len_below c.form-item.is c.script-item.is c.capture-item.is in
    form_words c.args.words.now c.form-item.result c.script-item.result c.capture-item.result c.as_str.result.now
    c.as_str-2.result.now c.as_str-3.result.now words c.as_str.ensures.value c.as_str-2.ensures.value c.as_str-3.ensures.value
    (c.if-ne.ensures {u = tt})
