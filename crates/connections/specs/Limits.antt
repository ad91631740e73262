-- The limits of connections that stand side by side.
use Rattle.std.specs.Prelude.{ℕ}

-- the most bytes of requests that aren't whole, over all connections: 64 MiB
abbrev pub most_held : ℕ
most_held = 67108864

-- so many of them are for all connections alike: what is left has room for one request more of 16,384 and 4,194,304 bytes, and a
-- read of 65,536, for the connection of which most are held
abbrev pub most_shared : ℕ
most_shared = 62832640

-- the places for connections
abbrev pub place_count : ℕ
place_count = 512

-- how long a client may ask, and how long it may then take its reply: 10 seconds, in nanoseconds
abbrev pub serving_nanos : ℕ
serving_nanos = 10000000000

-- how long a client may take to end, once its reply is gone: a quarter of a second, in nanoseconds
abbrev pub ending_nanos : ℕ
ending_nanos = 250000000

-- how long nothing may have come of a client whose bytes are held, if others need the room: a second, in nanoseconds
abbrev pub quiet_nanos : ℕ
quiet_nanos = 1000000000

-- how often a client is read, and written to, in its turn at the most
abbrev pub reads_in_turn : ℕ
reads_in_turn = 4

abbrev pub writes_in_turn : ℕ
writes_in_turn = 4

-- how many bytes are written at once at the most
abbrev pub most_written : ℕ
most_written = 65536

-- how often what it still sends is passed over
abbrev pub drains_in_turn : ℕ
drains_in_turn = 32
