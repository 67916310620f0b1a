-- Readings made in steps: each step reads a value or refuses, and the first refusal ends the reading.
use Rattle.std.specs.Prelude.{Bool, ⊤, ◌≡◌, ◌≢◌, if◌then◌else◌, Result, Ok, Err}

infixl 10 ◌>>=◌
-- what the first step reads goes to the next; a refusal ends the reading
abbrev pub ◌>>=◌ : {T U E : Type 0} → Result T E → (T → Result U E) → Result U E
(Ok value) >>= next = next value
(Err refusal) >>= next = Err refusal

infixl 10 ◌>>◌
-- the next step, unless the first one refuses
abbrev pub ◌>>◌ : {T U E : Type 0} → Result T E → Result U E → Result U E
(Ok value) >> next = next
(Err refusal) >> next = Err refusal

-- a step that refuses unless this holds
abbrev pub provided : {E : Type 0} → Bool → E → Result ⊤ E
provided holds refusal = if holds then Ok tt else Err refusal

-- a reading of which a contract sees a value's view
abbrev pub seen : {V T E : Type 0} → (V → T) → Result V E → Result T E
seen view (Ok value) = Ok (view value)
seen view (Err refusal) = Err refusal

-- what may be answered where this is to be read: just that, or that memory ran out
abbrev pub ReadsBut : {T E : Type 0} → E → Result T E → Result T E → Type 0
ReadsBut no_memory expected (Ok value) = expected ≡ Ok value
ReadsBut no_memory expected (Err refusal) = refusal ≢ no_memory → expected ≡ Err refusal
