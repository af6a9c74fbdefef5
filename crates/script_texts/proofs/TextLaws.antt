-- The text of parts that are written one after another.
use Rattle.std.proofs.Common.{◌≡◌, ℕ, List, [], ◌∷◌, ◌++◌, codes, map, sym, ap, ◌∙◌, append_assoc}
use Rattle.std.specs.List.{flat_map}
use Rattle.std.proofs.lemmas.Grind.{flat_map-append}
use Rattle.lw_base.specs.declared.addresses.Net.{Net as NetValue}
use Rattle.call_types.specs.declared.call.Side.TheVariants.{A as SideA, B as SideB}
use Rattle.script_words.specs.Values.{ip_spelling, mac_spelling}
use Rattle.lw_scripts.specs.declared.part.Part.{Part}
use Rattle.lw_scripts.specs.declared.part.Part.TheVariants.{Pair, Side, Net, Limits, Wire, Fault}
use Rattle.lw_scripts.specs.declared.parts.ActorScript.{ActorScript}
use Rattle.lw_scripts.specs.declared.parts.Body.TheVariants.{Two}
use Rattle.lw_scripts.specs.declared.parts.Pair.{Pair as PairScript}
use Rattle.lw_scripts.specs.declared.parts.SizeName.TheVariants.{Ram, Pool, Rom, Reference, Mailbox, Tcpip, Descriptors, Window}
use Rattle.lw_scripts.specs.declared.parts.Sizes.{Sizes}
use Rattle.lw_scripts.specs.declared.parts.Stack.{Stack}
use Rattle.lw_scripts.specs.Whole.{actor_parts, body_parts, call_parts, size_part, size_parts, stack_parts, wire_parts}
use Rattle.script_texts.specs.Texts.{actors_text, part_text, parts_text}

-- parts behind parts
pub joined : (out mid end : List ℕ) (xs ys : List Part) → mid ≡ out ++ parts_text xs → end ≡ mid ++ parts_text ys → end ≡ out ++ parts_text (xs ++ ys)
joined out mid end xs ys m e =
    e ∙ ap (λ (t : List ℕ). t ++ parts_text ys) m ∙ append_assoc out (parts_text xs) (parts_text ys) ∙ ap (λ (t : List ℕ). out ++ t) (sym (flat_map-append part_text xs ys))

-- parts behind one part
pub led : (out mid end : List ℕ) (x : Part) (ys : List Part) → mid ≡ out ++ part_text x → end ≡ mid ++ parts_text ys → end ≡ out ++ parts_text (x ∷ ys)
led out mid end x ys m e =
    e ∙ ap (λ (t : List ℕ). t ++ parts_text ys) m ∙ append_assoc out (part_text x) (parts_text ys)

grouped : (o w a b c d e : List ℕ) → (((((o ++ w) ++ a) ++ b) ++ c) ++ d) ++ e ≡ o ++ ((w ++ (a ++ (b ++ (c ++ d)))) ++ e)
grouped o w a b c d e = simp append_assoc

regrouped : (o w a b c d : List ℕ) → (((((o ++ w) ++ 32 ∷ a) ++ 32 ∷ b) ++ 32 ∷ c) ++ 32 ∷ d) ++ 10 ∷ [] ≡ o ++ ((w ++ 32 ∷ (a ++ 32 ∷ (b ++ 32 ∷ (c ++ 32 ∷ d)))) ++ 10 ∷ [])
regrouped o w a b c d = grouped o w (32 ∷ a) (32 ∷ b) (32 ∷ c) (32 ∷ d) (10 ∷ [])

-- the line of a stack's addresses
pub net_whole : (net : NetValue) (o0 o1 o2 o3 o4 o5 o6 : List ℕ)
    → o1 ≡ o0 ++ codes "net" → o2 ≡ o1 ++ 32 ∷ ip_spelling net.ip → o3 ≡ o2 ++ 32 ∷ ip_spelling net.mask → o4 ≡ o3 ++ 32 ∷ ip_spelling net.gateway
    → o5 ≡ o4 ++ 32 ∷ mac_spelling net.mac → o6 ≡ o5 ++ 10 ∷ [] → o6 ≡ o0 ++ part_text (Net net)
net_whole net o0 o1 o2 o3 o4 o5 o6 e1 e2 e3 e4 e5 e6 =
    let f2 : o2 ≡ (o0 ++ codes "net") ++ 32 ∷ ip_spelling net.ip = e2 ∙ ap (λ (t : List ℕ). t ++ 32 ∷ ip_spelling net.ip) e1 in
    let f3 : o3 ≡ ((o0 ++ codes "net") ++ 32 ∷ ip_spelling net.ip) ++ 32 ∷ ip_spelling net.mask = e3 ∙ ap (λ (t : List ℕ). t ++ 32 ∷ ip_spelling net.mask) f2 in
    let f4 : o4 ≡ (((o0 ++ codes "net") ++ 32 ∷ ip_spelling net.ip) ++ 32 ∷ ip_spelling net.mask) ++ 32 ∷ ip_spelling net.gateway = e4 ∙ ap (λ (t : List ℕ). t ++ 32 ∷ ip_spelling net.gateway) f3 in
    e6 ∙ ap (λ (t : List ℕ). t ++ 10 ∷ []) (e5 ∙ ap (λ (t : List ℕ). t ++ 32 ∷ mac_spelling net.mac) f4)
    ∙ regrouped o0 (codes "net") (ip_spelling net.ip) (ip_spelling net.mask) (ip_spelling net.gateway) (mac_spelling net.mac)

pub sizes_whole : (sizes : Sizes) (o0 o1 o2 o3 o4 o5 o6 o7 o8 : List ℕ)
    → o1 ≡ o0 ++ parts_text (size_part Ram sizes.ram) → o2 ≡ o1 ++ parts_text (size_part Pool sizes.pool) → o3 ≡ o2 ++ parts_text (size_part Rom sizes.rom)
    → o4 ≡ o3 ++ parts_text (size_part Reference sizes.reference) → o5 ≡ o4 ++ parts_text (size_part Mailbox sizes.mailbox) → o6 ≡ o5 ++ parts_text (size_part Tcpip sizes.tcpip)
    → o7 ≡ o6 ++ parts_text (size_part Descriptors sizes.descriptors) → o8 ≡ o7 ++ parts_text (size_part Window sizes.window)
    → o8 ≡ o0 ++ parts_text (size_parts sizes)
sizes_whole s o0 o1 o2 o3 o4 o5 o6 o7 o8 e1 e2 e3 e4 e5 e6 e7 e8 =
    let ram = size_part Ram s.ram in let pool = size_part Pool s.pool in let rom = size_part Rom s.rom in let reference = size_part Reference s.reference in
    let mailbox = size_part Mailbox s.mailbox in let tcpip = size_part Tcpip s.tcpip in let descriptors = size_part Descriptors s.descriptors in let window = size_part Window s.window in
    let f7 = joined o6 o7 o8 descriptors window e7 e8 in
    let f6 = joined o5 o6 o8 tcpip (descriptors ++ window) e6 f7 in
    let f5 = joined o4 o5 o8 mailbox (tcpip ++ (descriptors ++ window)) e5 f6 in
    let f4 = joined o3 o4 o8 reference (mailbox ++ (tcpip ++ (descriptors ++ window))) e4 f5 in
    let f3 = joined o2 o3 o8 rom (reference ++ (mailbox ++ (tcpip ++ (descriptors ++ window)))) e3 f4 in
    let f2 = joined o1 o2 o8 pool (rom ++ (reference ++ (mailbox ++ (tcpip ++ (descriptors ++ window))))) e2 f3 in
    joined o0 o1 o8 ram (pool ++ (rom ++ (reference ++ (mailbox ++ (tcpip ++ (descriptors ++ window)))))) e1 f2

actors_are : (actors : List ActorScript) → actors_text actors ≡ parts_text (flat_map actor_parts actors)
actors_are [] = flat_map-append part_text [] []
actors_are (a ∷ actors) =
    ap (λ (t : List ℕ). parts_text (actor_parts a) ++ t) (actors_are actors) ∙ sym (flat_map-append part_text (actor_parts a) (flat_map actor_parts actors))

pub stack_whole : (stack : Stack) (o0 o1 o2 o3 o4 : List ℕ)
    → o1 ≡ o0 ++ part_text (Net stack.net) → o2 ≡ o1 ++ part_text (Limits stack.profile) → o3 ≡ o2 ++ parts_text (size_parts stack.sizes) → o4 ≡ o3 ++ actors_text stack.actors
    → o4 ≡ o0 ++ parts_text (stack_parts stack)
stack_whole s o0 o1 o2 o3 o4 e1 e2 e3 e4 =
    let sizes = size_parts s.sizes in let actors = flat_map actor_parts s.actors in
    let f4 : o4 ≡ o3 ++ parts_text actors = e4 ∙ ap (λ (t : List ℕ). o3 ++ t) (actors_are s.actors) in
    let f3 = joined o2 o3 o4 sizes actors e3 f4 in
    let f2 = led o1 o2 o4 (Limits s.profile) (sizes ++ actors) e2 f3 in
    led o0 o1 o4 (Net s.net) (Limits s.profile ∷ (sizes ++ actors)) e1 f2

pub wire_whole : (two : PairScript) (o0 o1 o2 o3 : List ℕ)
    → o1 ≡ o0 ++ part_text Wire → o2 ≡ o1 ++ parts_text (map Fault two.faults) → o3 ≡ o2 ++ parts_text (call_parts two.commands)
    → o3 ≡ o0 ++ parts_text (wire_parts two.faults two.commands)
wire_whole two o0 o1 o2 o3 e1 e2 e3 =
    led o0 o1 o3 Wire (map Fault two.faults ++ call_parts two.commands) e1 (joined o1 o2 o3 (map Fault two.faults) (call_parts two.commands) e2 e3)

pub pair_whole : (two : PairScript) (o0 o1 o2 o3 o4 o5 o6 : List ℕ)
    → o1 ≡ o0 ++ part_text Pair → o2 ≡ o1 ++ part_text (Side SideA) → o3 ≡ o2 ++ parts_text (stack_parts two.a) → o4 ≡ o3 ++ part_text (Side SideB)
    → o5 ≡ o4 ++ parts_text (stack_parts two.b) → o6 ≡ o5 ++ parts_text (wire_parts two.faults two.commands)
    → o6 ≡ o0 ++ parts_text (body_parts (Two two))
pair_whole two o0 o1 o2 o3 o4 o5 o6 e1 e2 e3 e4 e5 e6 =
    let a = stack_parts two.a in let b = stack_parts two.b in let wire = wire_parts two.faults two.commands in
    let f5 = joined o4 o5 o6 b wire e5 e6 in
    let f4 = led o3 o4 o6 (Side SideB) (b ++ wire) e4 f5 in
    let f3 = joined o2 o3 o6 a (Side SideB ∷ (b ++ wire)) e3 f4 in
    let f2 = led o1 o2 o6 (Side SideA) (a ++ Side SideB ∷ (b ++ wire)) e2 f3 in
    led o0 o1 o6 Pair (Side SideA ∷ (a ++ Side SideB ∷ (b ++ wire))) e1 f2
