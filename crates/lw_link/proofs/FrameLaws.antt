-- What is known while the frames of a datagram are written.
use Rattle.std.proofs.Common.{ℕ, ◌≡◌, ◌≤◌, ◌<◌, ◌+◌, ◌-◌, ◌*◌, ◌%◌, ◌++◌, ◌∙◌, true, false, List, [], ◌∷◌, Some, map, length, get_or, drop, ap, refl, sym, arith, append_assoc, length-append, length-take}
use Rattle.std.proofs.Math.Seq.{get_or-append_seam}
use Rattle.std.proofs.Math.ListN.{get_or-append}
use Rattle.std.proofs.lemmas.List.{map-append}
use Rattle.std.proofs.lemmas.List.FromFn.{get_or-map-range_with_len, length-map-range_with_len, map-range_with_len_more}
use Rattle.std.proofs.lemmas.Option.{slice_get-get_or}
use Rattle.std.specs.List.{slice_get}
use Rattle.lw_base.specs.declared.addresses.Mac.{Mac}
use Rattle.lw_base.specs.declared.addresses.Net.{Net}
use Rattle.lw_base.specs.declared.heads.IpHead.{IpHead}
use Rattle.lw_frag.specs.Pieces.{Piece, IsWhole, full_count, full_len, full_octets, full_pieces, octets_of, piece, pieces_of}
use Rattle.lw_frag.specs.Laws.{IsPieceOf}
use Rattle.lw_frag.proofs.PiecesLaws.{last-fits, pieces-each}
use Rattle.lw_wire.specs.Ip.{ip_spelling}
use Rattle.lw_link.specs.Way.{mtu, packet, packet_frame, packets, IsPacket}
use Rattle.lw_link.specs.Plans.{IsReady}

-- a header has twenty octets
pub length-ip_spelling : (h : IpHead) → length (ip_spelling h) ≡ 20
unfolding ip_spelling
length-ip_spelling h = refl

-- a piece of a short datagram without options is ready
piece_ready : (h : IpHead) (n : ℕ) (p : Piece) → h.head_len ≡ 20 → n ≤ 65535 → IsPieceOf h n mtu p → IsReady n p
piece_ready h n p plain short is =
    let within = is.within in
    let place = is.place in
    record {
      within = within;
      fits = record {
        head_len = ap (λ (x : IpHead). x.head_len) is.head ∙ plain;
        total = ap (λ (x : IpHead). x.total) is.head;
        units = ap (λ (x : IpHead). x.offset % 8) is.head ∙ place;
        offset = let at = ap (λ (x : IpHead). x.offset) is.head in omega (arith, at);
      };
    }

-- the last piece of a datagram
abbrev pub last : IpHead → ℕ → Piece
last h n = piece h (full_octets n mtu) (n - full_octets n mtu) false

-- the full piece at a place is one of a datagram's
full_is : (h : IpHead) (n index : ℕ) → index < full_count n mtu → IsPieceOf h n mtu (piece h (index * full_len mtu) (full_len mtu) true)
full_is h n index below =
    let count : ℕ = full_count n mtu in
    let f : ℕ → Piece = λ i. piece h (i * full_len mtu) (full_len mtu) true in
    let p : Piece = last h n in
    let front = length-map-range_with_len f 0 count in
    let whole = length-append (full_pieces h count (full_len mtu)) (p ∷ []) in
    let within : index < length (pieces_of h n mtu) = omega arith in
    let is = pieces-each h n mtu (omega arith) index p within in
    let in_front : index < length (full_pieces h count (full_len mtu)) = omega arith in
    let at : get_or (pieces_of h n mtu) index p ≡ f index =
    get_or-append (full_pieces h count (full_len mtu)) (p ∷ []) p index in_front ∙ get_or-map-range_with_len f 0 count index index p below (omega arith) in
    rw at at is

-- and so is the last
last_is : (h : IpHead) (n : ℕ) → IsPieceOf h n mtu (last h n)
last_is h n =
    let count : ℕ = full_count n mtu in
    let fulls = full_pieces h count (full_len mtu) in
    let p : Piece = last h n in
    let whole = length-append fulls (p ∷ []) in
    let within : length fulls < length (pieces_of h n mtu) = omega arith in
    let is = pieces-each h n mtu (omega arith) (length fulls) p within in
    rw (get_or-append_seam fulls p [] p) at is

pub full_ready : (h : IpHead) (n index : ℕ) → IsWhole h → n ≤ 65535 → index < full_count n mtu → IsReady n (piece h (index * full_len mtu) (full_len mtu) true)
full_ready h n index whole short below = piece_ready h n _ whole.head_len short (full_is h n index below)

pub last_ready : (h : IpHead) (n : ℕ) → IsWhole h → n ≤ 65535 → IsReady n (last h n)
last_ready h n whole short = piece_ready h n (last h n) whole.head_len short (last_is h n)

-- the frames with these pieces
abbrev pub frames_with : Net → Mac → List ℕ → List Piece → List (List ℕ)
frames_with net mac body ps = map (packet_frame net mac) (map (packet body) ps)

-- one more piece
frames_more : (net : Net) (mac : Mac) (body : List ℕ) (old new before : List (List ℕ)) (ps : List Piece) (p : Piece) → old ≡ before ++ frames_with net mac body ps → new ≡ old ++ packet_frame net mac (packet body p) ∷ [] → new ≡ before ++ frames_with net mac body (ps ++ p ∷ [])
frames_more net mac body old new before ps p so_far pushed =
    pushed ∙ ap (λ (fs : List (List ℕ)). fs ++ packet_frame net mac (packet body p) ∷ []) so_far
    ∙ append_assoc before (frames_with net mac body ps) (packet_frame net mac (packet body p) ∷ [])
    ∙ sym (ap (λ (fs : List (List ℕ)). before ++ fs) (ap (map (packet_frame net mac)) (map-append (packet body) ps (p ∷ [])) ∙ map-append (packet_frame net mac) (map (packet body) ps) (packet body p ∷ [])))

-- one more full piece
pub full_more : (net : Net) (mac : Mac) (h : IpHead) (body : List ℕ) (old new before : List (List ℕ)) (index : ℕ) → old ≡ before ++ frames_with net mac body (full_pieces h index (full_len mtu)) → new ≡ old ++ packet_frame net mac (packet body (piece h (index * full_len mtu) (full_len mtu) true)) ∷ [] → new ≡ before ++ frames_with net mac body (full_pieces h (index + 1) (full_len mtu))
full_more net mac h body old new before index so_far pushed =
    frames_more net mac body old new before (full_pieces h index (full_len mtu)) (piece h (index * full_len mtu) (full_len mtu) true) so_far pushed
    ∙ ap (λ (ps : List Piece). before ++ frames_with net mac body ps) (sym (map-range_with_len_more (λ k. piece h (k * full_len mtu) (full_len mtu) true) 0 index index (omega arith)))

-- and the last
pub last_more : (net : Net) (mac : Mac) (h : IpHead) (body : List ℕ) (old new before : List (List ℕ)) → old ≡ before ++ frames_with net mac body (full_pieces h (full_count (length body) mtu) (full_len mtu)) → new ≡ old ++ packet_frame net mac (packet body (last h (length body))) ∷ [] → new ≡ before ++ map (packet_frame net mac) (packets h body)
last_more net mac h body old new before so_far pushed =
    frames_more net mac body old new before (full_pieces h (full_count (length body) mtu) (full_len mtu)) (last h (length body)) so_far pushed

-- the last element of a list
last_element : {A : Type 0} (xs : List A) (x : A) → slice_get (xs ++ x ∷ []) (length (xs ++ x ∷ []) - 1) ≡ Some x
last_element xs x =
    let long = length-append xs (x ∷ []) in
    let place : length (xs ++ x ∷ []) - 1 ≡ length xs = omega arith in
    let within : length xs < length (xs ++ x ∷ []) = omega arith in
    ap (slice_get (xs ++ x ∷ [])) place ∙ slice_get-get_or (xs ++ x ∷ []) (length xs) x within ∙ ap Some (get_or-append_seam xs x [] x)

-- the packet of the last piece is the last packet of a datagram
pub last_packet_of : (h : IpHead) (body p : List ℕ) → p ≡ packet body (last h (length body)) → slice_get (packets h body) (length (packets h body) - 1) ≡ Some p
last_packet_of h body p is =
    let fulls = full_pieces h (full_count (length body) mtu) (full_len mtu) in
    let q = packet body (last h (length body)) in
    ap (λ (ps : List (List ℕ)). slice_get ps (length ps - 1)) (map-append (packet body) fulls (last h (length body) ∷ []))
    ∙ last_element (map (packet body) fulls) q ∙ ap Some (sym is)

-- it fits one frame
pub last_packet_fits : (h : IpHead) (body p : List ℕ) → p ≡ packet body (last h (length body)) → IsPacket p
last_packet_fits h body p is =
    let n : ℕ = length body in
    let fits = last-fits n mtu (omega arith) in
    let head = length-ip_spelling (last h n).0 in
    let whole = length-append (ip_spelling (last h n).0) (octets_of body (last h n)) in
    let part = length-take (n - full_octets n mtu) (drop (full_octets n mtu) body) in
    rw is (record { some = omega (arith, head, whole); fits = omega (arith, head, whole, part, fits) })
