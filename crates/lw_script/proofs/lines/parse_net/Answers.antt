use Rattle.std.proofs.Common.{◌≡◌, codes, sym, subst, ◌∙◌}
use Rattle.lw_base.specs.declared.addresses.Ip.{Ip}
use Rattle.lw_base.specs.declared.addresses.Net.{Net}
use Rattle.lw_script.specs.Spelling.{IsMask, IsNet}
use Rattle.lw_script.proofs.Spellings.{HasWords, ip_once, mask_small, net_of_words, no_five_words, words_of_net}
use Rattle.lw_script.proofs.lines.parse_net.Goals as goal

pub returns-in_err-words : goal.returns-in_err-words
returns-in_err-words c =
    rw c.from_residual.ensures (λ net h is. no_five_words c.args.line.now net h c.in_err-words.ensures is)

pub returns-in_err-ip : goal.returns-in_err-ip
returns-in_err-ip c =
    rw c.from_residual-in_err-ip.ensures
    (λ net h is. c.in_err-ip.ensures net.ip h.ip (let w = c.in_ok-words.words in words_of_net c.args.line.now w.name.now w.ip.now w.mask.now w.gateway.now w.mac.now net h c.in_ok-words.ensures is).ip_is)

pub returns-in_err-mask : goal.returns-in_err-mask
returns-in_err-mask c =
    rw c.from_residual-in_err-mask.ensures
    (λ net h is. c.in_err-mask.ensures net.mask (mask_small net.mask.0 h.mask) (let w = c.in_ok-words.words in words_of_net c.args.line.now w.name.now w.ip.now w.mask.now w.gateway.now w.mac.now net h c.in_ok-words.ensures is).mask_is)

pub returns-in_err-gateway : goal.returns-in_err-gateway
returns-in_err-gateway c =
    rw c.from_residual-in_err-gateway.ensures
    (λ net h is. c.in_err-gateway.ensures net.gateway h.gateway (let w = c.in_ok-words.words in words_of_net c.args.line.now w.name.now w.ip.now w.mask.now w.gateway.now w.mac.now net h c.in_ok-words.ensures is).gateway_is)

pub returns-in_err-mac : goal.returns-in_err-mac
returns-in_err-mac c =
    rw c.from_residual-in_err-mac.ensures
    (λ net h is. c.in_err-mac.ensures net.mac h.mac (let w = c.in_ok-words.words in words_of_net c.args.line.now w.name.now w.ip.now w.mask.now w.gateway.now w.mac.now net h c.in_ok-words.ensures is).mac_is)

pub returns-then-not-is_mask : goal.returns-then-not-is_mask
returns-then-not-is_mask c = λ net h is.
    let spelled = (let w = c.in_ok-words.words in words_of_net c.args.line.now w.name.now w.ip.now w.mask.now w.gateway.now w.mac.now net h c.in_ok-words.ensures is).mask_is in
    let read = c.in_ok-mask.ensures in
    let same = ip_once c.in_ok-mask.mask net.mask read.0 (mask_small net.mask.0 h.mask) (sym read.1 ∙ spelled) in
    let yes = c.is_mask.ensures.1 (subst (λ (m : Ip). IsMask m.0) (sym same) h.mask) in
    cc

pub returns : goal.returns
returns c =
    let w = c.in_ok-words.words in
    let name : w.name.now ≡ codes "net" = c.is_text.ensures.0 (cc) in
    let mask : IsMask c.in_ok-mask.mask.0 = c.is_mask.ensures.0 (cc) in
    let net : Net = record { ip = c.in_ok-ip.ip; mask = c.in_ok-mask.mask; gateway = c.in_ok-gateway.gateway; mac = c.in_ok-mac.mac } in
    let is : IsNet net = record { ip = c.in_ok-ip.ensures.0; mask = mask; gateway = c.in_ok-gateway.ensures.0; mac = c.in_ok-mac.ensures.0 } in
    let words : HasWords w.name.now w.ip.now w.mask.now w.gateway.now w.mac.now net =
    record { name_is = name; ip_is = c.in_ok-ip.ensures.1; mask_is = c.in_ok-mask.ensures.1; gateway_is = c.in_ok-gateway.ensures.1; mac_is = c.in_ok-mac.ensures.1 } in
    (is, net_of_words c.args.line.now w.name.now w.ip.now w.mask.now w.gateway.now w.mac.now net is c.in_ok-words.ensures words)
