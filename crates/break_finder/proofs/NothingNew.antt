-- A tag that says nothing new of a break.
use Rattle.std.proofs.Common.{◌≡◌, ℕ}
use Rattle.std.specs.Prelude.{ℤ, Option, option_map}
use Rattle.playlist_model.specs.declared.DateRange.{DateRange}
use Rattle.playlist_model.specs.LookBack.{or_earlier}
use Rattle.break_finder.specs.declared.described.Described.{Described}
use Rattle.break_finder.specs.declared.signal.Signal.{Signal}
use Rattle.break_finder.specs.Signals.{break_signal_of_text}
use Rattle.break_finder.specs.Breaks.{described_break_and_tag}

same_parts : (a a' b b' : Option ℤ) (d d' p p' : Option ℕ) (o o' i i' : Option Signal) → a ≡ a' → b ≡ b' → d ≡ d' → p ≡ p' → o ≡ o' → i ≡ i'
    → ◌≡◌ {A = Described} (record { start = a; end = b; duration = d; planned_duration = p; scte35_out = o; scte35_in = i })
    (record { start = a'; end = b'; duration = d'; planned_duration = p'; scte35_out = o'; scte35_in = i' })
same_parts a a' b b' d d' p p' o o' i i' e1 e2 e3 e4 e5 e6 = cc

pub nothing_new : (said : Described) (tag : DateRange)
    → or_earlier said.start tag.start ≡ said.start → or_earlier said.end tag.end ≡ said.end → or_earlier said.duration tag.duration ≡ said.duration
    → or_earlier said.planned_duration tag.planned_duration ≡ said.planned_duration → or_earlier said.scte35_out (option_map break_signal_of_text tag.scte35_out) ≡ said.scte35_out
    → or_earlier said.scte35_in (option_map break_signal_of_text tag.scte35_in) ≡ said.scte35_in → described_break_and_tag said tag ≡ said
nothing_new said tag a b d p o i = same_parts _ _ _ _ _ _ _ _ _ _ _ _ a b d p o i
