-- What a capture over files reads from, and a sink over a stream writes to.
use Rattle.std.specs.Prelude.{◌≡◌, ℕ, List, Option, Some, None, Result, Ok}
use Rattle.std.specs.Io.KnownBytes.{ReadConsumes}
use Rattle.pk_outside.specs.declared.std_sink.StdSink.{StdSink}

abbrev pub stream_of : {W : Type 0} → StdSink W → W
stream_of sink = sink.stream

-- a read of an open file gave what the file gave, and with no open file it gave nothing
abbrev pub ReadsFile : {F E : Type 0} → (F → Option (List ℕ)) → Option F → Option F → Result ℕ E
    → List ℕ → Type 0
ReadsFile remaining None new result to = (new ≡ None) × (result ≡ Ok 0)
ReadsFile remaining (Some old) None result to = ⊥
ReadsFile remaining (Some old) (Some new) result to =
    ReadConsumes (remaining old) (remaining new) result to
