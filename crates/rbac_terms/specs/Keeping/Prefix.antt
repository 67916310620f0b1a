-- The first bytes of a name as one number, and what a name is looked up by.
use Rattle.std.specs.Prelude.{ℕ, List, [], ◌∷◌, ◌++◌, zero, suc, ◌+◌, ◌-◌, ◌*◌, ◌%◌, ◌==◌, if◌then◌else◌, get_or, length, drop}
use Rattle.std.specs.Hash.{HashWrites, u64}
use Rattle.digests.specs.Digest.{mixed}

-- so many first bytes, each worth 256 times the next; past the end of the name each is 0
abbrev pub first_bytes : ℕ → List ℕ → ℕ
first_bytes zero bytes = 0
first_bytes (suc n) bytes = first_bytes n bytes * 256 + get_or bytes n 0

-- what is hashed of a name: its first eight bytes as one number, and all its bytes where these may not be all
abbrev pub hashed : List ℕ → HashWrites
hashed bytes = u64 (first_bytes 8 bytes) ++ (if first_bytes 8 bytes % 256 == 0 then [] else (bytes ∷ []))

-- so many last bytes in the same way, of at least as many
abbrev pub last_bytes : ℕ → List ℕ → ℕ
last_bytes n bytes = first_bytes n (drop (length bytes - n) bytes)

-- what a name is looked up by: its first eight bytes, and the last eight where these may not be all
abbrev pub digest_of : List ℕ → ℕ
digest_of bytes = mixed (first_bytes 8 bytes) (if first_bytes 8 bytes % 256 == 0 then 0 else last_bytes 8 bytes)
