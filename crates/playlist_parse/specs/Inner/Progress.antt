-- How far a playlist has been read.
use Rattle.std.specs.Prelude.{◌≡◌, ◌≢◌, ℕ, not, false, is_none, unwrap_or, List, ◌∷◌, map, None, Some, Result, Ok, Err, IsOk, MatchResult}
use Rattle.spec_words.specs.Outcomes.{refuse_if}
use Rattle.url.specs.Parts.{Parts}
use Rattle.playlist_model.specs.declared.FaultKind.{FaultKind}
use Rattle.playlist_model.specs.declared.FaultKind.TheVariants.{OutOfMemory, NoTarget, NoSegments, MixedMaps}
use Rattle.playlist_model.specs.declared.DateRange.{DateRange}
use Rattle.playlist_model.specs.Segments.{Segment}
use Rattle.playlist_model.specs.declared.Playlist.{Playlist}
use Rattle.playlist_model.specs.Refusals.{RefusesByPlaylistFault}
use Rattle.playlist_model.specs.Said.{Said, Name, Outcome}
use Rattle.playlist_model.specs.LookBack.{Standing, standing_at, segments_of, date_ranges_of, with_said}
use Rattle.playlist_model.specs.Lines.{has_control}
use Rattle.playlist_model.specs.Reading.{limited, said_by, said_by_tag, are_mixed, whole_fault, playlist_of}
use Rattle.playlist_parse.specs.Light.{IsLight}
use Rattle.playlist_kept.specs.declared.read_playlist.Read.{Read}
use Rattle.playlist_kept.specs.Kept.{playlist_in}
use Rattle.playlist_parse.specs.Inner.LineViews.{line_text}
use Rattle.playlist_model.specs.Inner.Heading.{Heading, heading_at}

pub record Progress : Type 0 where
  pub base : Parts
  pub heading : Heading
  pub standing : Standing
  pub date_ranges : List DateRange
  pub segments : List Segment

-- what is read when the lines have said this, the last first
abbrev pub progress_at : Parts → List Said → Progress
progress_at base before = record {
  base = base;
  heading = heading_at before;
  standing = standing_at before;
  date_ranges = date_ranges_of before;
  segments = segments_of before;
}

-- after any lines of which all is read, the line says its part and that is read too; or its fault
-- is answered
abbrev pub TakesLine : (Parts → List Said → Outcome Said) → Progress → Progress → Result (Unit {0}) FaultKind → Type 0
TakesLine outcome old new result =
    (before : List Said) → old ≡ progress_at old.base before →
    MatchResult result
    (λ _. IsOk (outcome old.base before) × (new ≡ progress_at old.base (with_said before (outcome old.base before))))
    (λ e. RefusesByPlaylistFault e (outcome old.base before))

-- the same of the tag of this name, with this after its colon
abbrev pub TakesTag : Name → List ℕ → Progress → Progress → Result (Unit {0}) FaultKind → Type 0
TakesTag name rest old new result = TakesLine (λ base before. said_by_tag limited base before name rest) old new result

-- the same of a line that takes no memory: the fault is always the line's own
abbrev pub TakesLineExactly : (Parts → List Said → Outcome Said) → Progress → Progress → Result (Unit {0}) FaultKind → Type 0
TakesLineExactly outcome old new result =
    (before : List Said) → old ≡ progress_at old.base before →
    MatchResult result
    (λ _. IsOk (outcome old.base before) × (new ≡ progress_at old.base (with_said before (outcome old.base before))))
    (λ e. outcome old.base before ≡ Err e)

abbrev pub TakesTagExactly : Name → List ℕ → Progress → Progress → Result (Unit {0}) FaultKind → Type 0
TakesTagExactly name rest old new result = TakesLineExactly (λ base before. said_by_tag limited base before name rest) old new result

-- the target duration, or the fault of the whole text
abbrev pub target_owed : Progress → Outcome ℕ
target_owed p =
    refuse_if (is_none p.heading.target_duration) NoTarget
    (refuse_if (not p.heading.has_media) NoSegments
    (refuse_if (are_mixed p.segments) MixedMaps (Ok (unwrap_or p.heading.target_duration 0))))

-- the next of these lines is passed, and what it says is read
pub record IsLineAgain (lines later : List ((ℕ × ℕ) × List ℕ)) (old new : Progress) : Type 0 where
  pub line : List ℕ
  pub cut : map line_text lines ≡ line ∷ map line_text later
  pub heavy : IsLight line → ⊥
  pub takes :
      let done : Result (Unit {0}) FaultKind = Ok (record {}) in
      has_control line ≡ false → TakesLine (λ base before. said_by limited base before line) old new done

-- the playlist of what is read, of this target duration
abbrev pub playlist_from : Progress → ℕ → Playlist
playlist_from p target = record {
  version = unwrap_or p.heading.version 1;
  target_duration = target;
  playlist_type = p.heading.playlist_type;
  independent_segments = p.heading.independent_segments;
  end_list = p.heading.end_list;
  date_ranges = p.date_ranges;
  segments = p.segments;
}

-- the whole text's own fault, a failed allocation apart, or the playlist
abbrev pub EndsIn : Progress → Result Read FaultKind → Type 0
EndsIn progress result =
    (before : List Said) → progress ≡ progress_at progress.base before →
    MatchResult result (λ read. (whole_fault before ≡ None) × (playlist_in read ≡ playlist_of before)) (λ e. e ≢ OutOfMemory → whole_fault before ≡ Some e)
