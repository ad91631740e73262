-- The instant that a text says is in range.
use Rattle.std.proofs.Common.{◌≡◌, ℕ, Bool, true, false, cond, List, refl, ap, sym, ◌∙◌, ℤ, Some, None, arith}
use Rattle.std.specs.Prelude.{Option}
use Rattle.date_times.specs.Instant.{in_range, instant_of_seconds, instant_of, nanos_from_1970}

ranged : (b : Bool) (z t : ℤ) → in_range z ≡ b → cond b (Some z) None ≡ Some t → in_range t ≡ true
ranged true z t e h = let same : z ≡ t = cc h in ap in_range (sym same) ∙ e
ranged false z t e h = absurd (cc h)

zone_range : (seconds nanos : ℕ) (zone : Option ℤ) (t : ℤ) → instant_of_seconds seconds nanos zone ≡ Some t → in_range t ≡ true
zone_range seconds nanos None t h = absurd (cc h)
zone_range seconds nanos (Some offset) t h = let z = nanos_from_1970 seconds nanos offset in ranged (in_range z) z t refl h

text_range : (b : Bool) (seconds nanos : ℕ) (zone : Option ℤ) (t : ℤ) → cond b (instant_of_seconds seconds nanos zone) None ≡ Some t → in_range t ≡ true
text_range true seconds nanos z t h = zone_range seconds nanos z t h
text_range false seconds nanos z t h = absurd (cc h)

pub said_in_range : (text : List ℕ) (t : ℤ) → instant_of text ≡ Some t → in_range t ≡ true
said_in_range text t h = grind (arith, text_range)
