-- What a key tag or a map tag says, as the reader of one tag answers it.
use Rattle.std.specs.Prelude.{List, length, Ok}
use Rattle.playlist_model.specs.declared.FaultKind.TheVariants as fault
use Rattle.playlist_model.specs.declared.Key.{Key}
use Rattle.spec_words.specs.Outcomes.{refuse_if}
use Rattle.playlist_model.specs.Said.{Said, init_section, Outcome, over}
use Rattle.playlist_model.specs.LookBack.{put_key}
use Rattle.playlist_model.specs.Reading.{limited}
use Rattle.segment_state.specs.declared.tags.InitSectionTag.{InitSectionTag}

abbrev pub init_section_tag_said : InitSectionTag → Said
init_section_tag_said tag = init_section tag.uri tag.byte_range

-- the keys in force after one more, if no more formats than the limit are in force then
abbrev pub with_key : Key → List Key → Outcome (List Key)
with_key k keys = refuse_if (over limited.formats (length (put_key k keys))) fault.TooMany (Ok (put_key k keys))
