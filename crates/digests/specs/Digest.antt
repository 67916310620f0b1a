-- One number of two, below 2^64: multiplication by odd numbers moves each bit into all greater ones.
use Rattle.std.specs.Prelude.{ℕ, ◌+◌, ◌*◌, ◌%◌, ◌^◌}

abbrev pub mixed : ℕ → ℕ → ℕ
mixed first second = ((first + second * 11400714819323198485 % 2 ^ 64) % 2 ^ 64 * 15485907386658061715) % 2 ^ 64
