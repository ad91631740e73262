use Rattle.std.specs.Prelude.{⊤}
use Rattle.std.specs.Str.{is_utf8, chars}
use Rattle.url.proofs.OnLiterals.{url_on_literals}
use Rattle.hex.proofs.OnLiterals.{hex_on_literals}
use Rattle.serde_json.proofs.OnLiterals.{serde_json_on_literals}
use Rattle.fixed_duration.specs.Text.{last_digits}
use Rattle.date_times.specs.Digits.{fixed_digits}
use Rattle.date_times.specs.Times.{year_after_days, month_after_days}
use Rattle.playlist_write.specs.Owed.{line_saying, ended_date_range_line}
use Rattle.scte35_codec.specs.Hexadecimal.{reading_hex, hex_bytes}
use Rattle.scte35_codec.specs.Reading.{reading, contents_of, tail_at, ending_at, command_at, measured_of, unmeasured_at, whole_insert_at, insert_at, optional_body_at, body_at, optional_duration_at, target_at, components_at, component_at, optional_time_at, time_at, specified_time_at}

-- what an answer unfolds to compute a definition on literals
unfoldable pub on_literals : ⊤
unfolding is_utf8 chars url_on_literals hex_on_literals serde_json_on_literals last_digits fixed_digits year_after_days month_after_days line_saying ended_date_range_line reading_hex hex_bytes reading contents_of tail_at ending_at command_at measured_of unmeasured_at whole_insert_at insert_at optional_body_at body_at optional_duration_at target_at components_at component_at optional_time_at time_at specified_time_at
on_literals = tt
