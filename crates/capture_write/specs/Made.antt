-- A capture made from a number: a little-endian pcap file with microseconds (pcap-savefile(5)), whose frames are drawn by
-- the generator PCG-XSH-RR 64/32 (O'Neill, "PCG: a family of simple fast space-efficient statistically good algorithms
-- for random number generation"), one word a frame.
use Rattle.std.specs.Prelude.{ℕ, zero, suc, ◌+◌, ◌/◌, ◌%◌, ◌==◌, ◌&&◌, if◌then◌else◌, List, [], ◌∷◌, ◌++◌, length}
use Rattle.std.specs.Int.{w32, to_le_bytes}
use Rattle.capture_write.specs.MadeFrames.{arp_frame, query_frame, answer_frame, request_frame}
use Rattle.rand_pcg.specs.Lcg.{Lcg, started, increment_of, next}
use Rattle.rand_pcg.specs.Pcg.{multiplier_64, output_xsh_rr}

-- the generator that starts from a number, in stream 54, after so many words
unfoldable pub generator_after : ℕ → ℕ → Lcg
generator_after start zero = started 64 multiplier_64 start (increment_of 64 54)
generator_after start (suc count) = next 64 multiplier_64 (generator_after start count)

-- the word of the frame before which so many stand
unfoldable pub word_of : ℕ → ℕ → ℕ
word_of start index = output_xsh_rr (generator_after start index).state

-- what a word draws: one of four kinds of frame, one of 64 clients, and how many bytes of requests
abbrev pub kind_of : ℕ → ℕ
kind_of word = word % 4

abbrev pub client_of : ℕ → ℕ
client_of word = word / 256 % 64

abbrev pub size_of : ℕ → ℕ
size_of word = word / 65536 % 16 + 1

-- how many bytes of requests a word's frame carries for a client
abbrev pub sent_in : ℕ → ℕ → ℕ
sent_in client word = if kind_of word == 3 && client_of word == client then size_of word else 0

-- how many the first frames carry for it
unfoldable pub sent_before : ℕ → ℕ → ℕ → ℕ
sent_before start client zero = 0
sent_before start client (suc index) =
    sent_before start client index + sent_in client (word_of start index)

-- the frame of a word, before which its client sent so many bytes of requests
unfoldable pub frame_of : ℕ → ℕ → List ℕ
frame_of word before =
    if kind_of word == 0 then arp_frame (client_of word)
    else if kind_of word == 1 then query_frame (client_of word)
    else if kind_of word == 2 then answer_frame (client_of word)
    else request_frame (client_of word) before (size_of word)

-- the second 1,700,000,000 in 1970's count
unfoldable pub first_second : List ℕ
first_second = 0x00 ∷ 0xF1 ∷ 0x53 ∷ 0x65 ∷ []

-- the head of a record: the time, which is a microsecond later for each frame, and the captured and the original length
unfoldable pub record_head : ℕ → ℕ → List ℕ
record_head index size =
    first_second ++ to_le_bytes w32 index ++ to_le_bytes w32 size ++ to_le_bytes w32 size

abbrev pub record_of : ℕ → List ℕ → List ℕ
record_of index frame = record_head index (length frame) ++ frame

unfoldable pub records : ℕ → ℕ → List ℕ
records start zero = []
records start (suc index) =
    records start index
    ++ record_of index (frame_of (word_of start index)
    (sent_before start (client_of (word_of start index)) index))

-- magic number, version 2.4, zone, accuracy, 262,144 captured bytes at most, link type 1 (Ethernet)
unfoldable pub file_header : List ℕ
file_header =
    0xD4 ∷ 0xC3 ∷ 0xB2 ∷ 0xA1 ∷ 2 ∷ 0 ∷ 4 ∷ 0 ∷ 0 ∷ 0 ∷ 0 ∷ 0 ∷ 0 ∷ 0 ∷ 0 ∷ 0 ∷ 0 ∷ 0 ∷ 4 ∷ 0 ∷ 1
    ∷ 0 ∷ 0 ∷ 0 ∷ []

-- the file of so many frames from a number
unfoldable pub made : ℕ → ℕ → List ℕ
made start frames = file_header ++ records start frames
