use Rattle.std.proofs.Common.{◌≡◌, ℤ, Bool, Float, drop, get_or, Option, Some, None, if◌then◌else◌, option_and_then, true, false, ◌==◌, refl, sym, ap, ◌∙◌}
use Rattle.fast_float.specs.Text.{Parts, scan}
use Rattle.serde_json.specs.Data.{Num, negative, float}
use Rattle.serde_json.specs.Find.{as_u64}
use Rattle.serde_json.specs.Read.{number_of, number_from, float_of}
use Rattle.lent_json.proofs.numbers.whole_of.Goals as goal

float_no_whole : (b : Bool) (x : Float) → option_and_then as_u64 (if b then Some (float x) else None) ≡ None
float_no_whole true x = refl
float_no_whole false x = refl

no_whole : (b : Bool) (z : ℤ) (o : Option Num) → option_and_then as_u64 o ≡ None → option_and_then as_u64 (if b then Some (negative z) else o) ≡ None
no_whole true z o is = refl
no_whole false z o is = is

below : (p : Parts) → option_and_then as_u64 (number_from true p) ≡ None
below p = no_whole _ _ (float_of true p) (float_no_whole _ _)

pub returns-then-has_minus : goal.returns-then-has_minus
unfolding number_of
returns-then-has_minus c =
    let s = c.as_bytes-bytes.result.now in
    let signed : (get_or s 0 0 == 45) ≡ true = sym c.if-has_minus.ensures.value in
    let read : number_from true (scan (drop 1 s)) ≡ number_of s = rw signed in
    sym (below (scan (drop 1 s))) ∙ ap (option_and_then as_u64) (read ∙ ap number_of c.as_bytes-bytes.ensures.value)

pub returns : goal.returns
unfolding number_of
returns c =
    let s = c.as_bytes-bytes.result.now in
    let unsigned : (get_or s 0 0 == 45) ≡ false = sym c.if-has_minus.ensures.value in
    let read : number_from false (scan s) ≡ number_of s = rw unsigned in
    c.positive_whole.ensures ∙ ap (λ p. option_and_then as_u64 (number_from false p)) c.scan.ensures.parts ∙ ap (option_and_then as_u64) (read ∙ ap number_of c.as_bytes-bytes.ensures.value)
