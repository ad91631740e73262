-- A text that goes on one that was written: the lines of the segments that stood there stand in it again.
use Rattle.std.specs.Prelude.{◌≡◌, ℕ, ◌+◌, ◌≤◌, Bool, true, false, ◌||◌, List, [], ◌∷◌, ◌++◌, length, take, drop, is_some, is_none}
use Rattle.stitcher.specs.declared.OutSegment.{OutSegment}
use Rattle.playlist_write.specs.declared.resumed.WrittenText.{WrittenText}
use Rattle.playlist_write.specs.Owed.{Current, none_yet, after_segment, segments_owed, said_text}

-- what is in force after these segments
abbrev pub after_segments : Current → List OutSegment → Current
after_segments current [] = current
after_segments current (out ∷ later) = after_segments (after_segment current out) later

-- what is in force after the first of these is what it states itself, whatever stood before it
abbrev pub first_written_segment_states_all : Current → List OutSegment → Bool
first_written_segment_states_all current [] = false
first_written_segment_states_all current (out ∷ later) = is_some out.segment.init_section || is_none current.init_section

-- the keys and the initialisation section that are in force at the end of a text that was written
abbrev pub current_of : WrittenText → Current
current_of w = record { keys = w.keys; init_section = w.init_section }

-- the lines of these segments stand in the text between its places; how many they are, and what is in force after them, is known
pub record IsLaid (items : List OutSegment) (w : WrittenText) : Type 0 where
  pub front : List ℕ
  pub back : List ℕ
  pub is : w.text ≡ front ++ (said_text (segments_owed none_yet items) ++ back)
  pub from : w.from ≡ length front
  pub till : w.till ≡ length front + length (said_text (segments_owed none_yet items))
  pub count : w.count ≡ length items
  pub current : current_of w ≡ after_segments none_yet items

-- the lines of the first segments and of the one after them have this length, and that one states all that is in force after it
pub record IsFrontLength (segments : List OutSegment) (gone len : ℕ) : Type 0 where
  pub states : first_written_segment_states_all (after_segments none_yet (take gone segments)) (drop gone segments) ≡ true
  pub is : len ≡ length (said_text (segments_owed none_yet (take gone segments)) ++ said_text (segments_owed (after_segments none_yet (take gone segments)) (take 1 (drop gone segments))))

-- a text has the lines of the first of these segments, so many, after some that are gone: the lines of those and of the first one
-- of these have this length
pub record StandsAgain (segments : List OutSegment) (w : WrittenText) (len again : ℕ) : Type 0 where
  pub before : List OutSegment
  pub gone : ℕ
  pub some : 1 ≤ again
  pub laid : IsLaid (take (gone + again) before) w
  pub on : drop gone before ≡ segments
  pub front : IsFrontLength before gone len
