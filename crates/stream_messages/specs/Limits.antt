-- How long the parts of a message may be.
use Rattle.std.specs.Prelude.{ℕ}

-- the bytes of a head
unfoldable pub head_limit : ℕ
head_limit = 65536

-- the field lines of a head
unfoldable pub field_limit : ℕ
field_limit = 128

-- the bytes of a body that is shown
unfoldable pub body_limit : ℕ
body_limit = 1048576

-- the bytes of a chunk's size line
unfoldable pub line_limit : ℕ
line_limit = 4096

-- the bytes of the lines behind the last chunk
unfoldable pub trailer_limit : ℕ
trailer_limit = 65536

-- more lines than a list of chunks within the limits can have: each chunk but the last has a byte of the body, each line
-- behind it three of the trailer
unfoldable pub turn_limit : ℕ
turn_limit = 1114114
