use Rattle.std.proofs.Common.{◌≡◌, [], ◌∷◌, subst, sym}
use Rattle.lw_base.specs.declared.addresses.Ip.{Ip}
use Rattle.script_words.specs.Values.{IsMask, ip_spelling, mac_spelling}
use Rattle.script_words.proofs.Spellings.{ip_once, mask_small}
use Rattle.script_words.proofs.Behind.{behind_first, same_first}
use Rattle.script_words.proofs.net.parse_net_words.Goals as goal

pub returns-in_err-ip : goal.returns-in_err-ip
returns-in_err-ip c =
    rw c.from_residual-in_err-ip.ensures
    (λ net h e. c.in_err-ip.ensures net.ip (ip_spelling net.mask ∷ ip_spelling net.gateway ∷ mac_spelling net.mac ∷ []) h.ip (behind_first e c.in_ok-name.ensures))

pub returns-in_err-bits : goal.returns-in_err-bits
returns-in_err-bits c =
    rw c.from_residual-in_err-bits.ensures
    (λ net h e. c.in_err-bits.ensures net.mask (ip_spelling net.gateway ∷ mac_spelling net.mac ∷ []) (mask_small net.mask.0 h.mask) (behind_first (behind_first e c.in_ok-name.ensures) c.in_ok-ip.ensures.1))

pub returns-in_err-mask : goal.returns-in_err-mask
returns-in_err-mask c =
    rw c.from_residual-in_err-mask.ensures
    (λ net h e.
    let read = c.in_ok-bits.ensures in
    let spelled : ip_spelling c.in_ok-bits.bits ≡ ip_spelling net.mask = same_first (behind_first (behind_first e c.in_ok-name.ensures) c.in_ok-ip.ensures.1) read.1 in
    let same = ip_once c.in_ok-bits.bits net.mask read.0 (mask_small net.mask.0 h.mask) spelled in
    c.in_err-mask.ensures (subst (λ (m : Ip). IsMask m.0) (sym same) h.mask))

pub returns-in_err-gateway : goal.returns-in_err-gateway
returns-in_err-gateway c =
    rw c.from_residual-in_err-gateway.ensures
    (λ net h e. c.in_err-gateway.ensures net.gateway (mac_spelling net.mac ∷ []) h.gateway (behind_first (behind_first (behind_first e c.in_ok-name.ensures) c.in_ok-ip.ensures.1) c.in_ok-bits.ensures.1))
