-- How long the frames are.
use Rattle.std.proofs.Common.{◌≡◌, ◌<◌, ℕ, zero, suc, ◌+◌, ◌%◌, ◌^◌, Bool, true, false, ◌==◌, if◌then◌else◌, List, [], ◌∷◌, length, slice_index, refl, arith}
use Rattle.std.proofs.lemmas.List.{length-append}
use Rattle.capture_write.specs.MadeFrames.{arp_frame, arp_request, answer, answer_frame, dns_header, ethernet_header, ip_header, query_frame, question, request, request_frame, requests, tcp_header, udp_header}
use Rattle.capture_write.specs.Made.{frame_of, client_of, kind_of, size_of}

pub length-requests : (from size : ℕ) → length (requests from size) ≡ size
unfolding requests
length-requests from zero = refl
length-requests from (suc size) =
    rw (length-append (requests from size) (slice_index request ((from + size) % 27) ∷ []), length-requests from size) (omega arith)

pub length-arp_frame : (c : ℕ) → length (arp_frame c) ≡ 42
unfolding arp_frame arp_request ethernet_header
length-arp_frame c = refl

pub length-query_frame : (c : ℕ) → length (query_frame c) ≡ 66
unfolding query_frame ethernet_header ip_header udp_header dns_header question
length-query_frame c = refl

pub length-answer_frame : (c : ℕ) → length (answer_frame c) ≡ 82
unfolding answer_frame ethernet_header ip_header udp_header dns_header question answer
length-answer_frame c = refl

pub length-request_frame : (c before size : ℕ) → length (request_frame c before size) ≡ 54 + size
unfolding request_frame ethernet_header ip_header tcp_header
length-request_frame c before size = rw (length-requests before size) (omega arith)

pub chosen_length : (b : Bool) (xs ys : List ℕ) → length xs < 2 ^ 32 → length ys < 2 ^ 32 → length (if b then xs else ys) < 2 ^ 32
chosen_length true xs ys x y = x
chosen_length false xs ys x y = y

pub frame_length : (word before : ℕ) → length (frame_of word before) < 2 ^ 32
unfolding frame_of
frame_length word before =
    let arp : length (arp_frame (client_of word)) < 2 ^ 32 = rw (length-arp_frame (client_of word)) (omega arith) in
    let query : length (query_frame (client_of word)) < 2 ^ 32 = rw (length-query_frame (client_of word)) (omega arith) in
    let answer : length (answer_frame (client_of word)) < 2 ^ 32 = rw (length-answer_frame (client_of word)) (omega arith) in
    let request : length (request_frame (client_of word) before (size_of word)) < 2 ^ 32 =
    rw (length-request_frame (client_of word) before (size_of word)) (omega arith) in
    chosen_length (kind_of word == 0) _ _ arp
    (chosen_length (kind_of word == 1) _ _ query (chosen_length (kind_of word == 2) _ _ answer request))
