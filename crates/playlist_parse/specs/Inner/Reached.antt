-- How far a reading has come.
use Rattle.std.specs.Prelude.{◌≡◌, ℕ, ◌+◌, List, [], ◌∷◌, ◌++◌, map, length, Result, Err, MatchResult}
use Rattle.url.specs.Parts.{Parts}
use Rattle.playlist_model.specs.Said.{Said, nothing}
use Rattle.playlist_model.specs.LookBack.{segments_of}
use Rattle.playlist_model.specs.Reading.{said_by, said_from, and_whole, limited, Fault}
use Rattle.playlist_kept.specs.Kept.{AnswersRead}
use Rattle.playlist_parse.specs.Light.{AreLight}
use Rattle.playlist_parse.specs.Inner.Progress.{Progress, progress_at}
use Rattle.playlist_parse.specs.Inner.LineViews.{line_text}
use Rattle.playlist_parse.specs.declared.reading.Reading.{Reading}
use Rattle.playlist_kept.specs.declared.read_playlist.Read.{Read}

-- some lines after the header are read, and these are left: what the others said, with what is left, leads to the same as
-- all lines, and the next one has this number
pub record Reached (base : Parts) (progress : Progress) (number : ℕ) (left lines : List (List ℕ)) : Type 0 where
  pub before : List Said
  pub progress_is : progress ≡ progress_at base before
  pub count : length before + 1 ≡ number
  pub within : length before + length left ≡ length lines + 1
  pub rest : said_from (said_by limited base) before left ≡ said_from (said_by limited base) (nothing ∷ []) lines

-- this fault is one of the whole text's
abbrev pub Faulted : Parts → Fault → List (List ℕ) → Type 0
Faulted base fault lines = let answer : Result Read Fault = Err fault in AnswersRead answer (and_whole (said_from (said_by limited base) (nothing ∷ []) lines))

-- some lines after the header are read, none of which names a segment, and these are left: they begin with lines that
-- take no memory, in which this fault is the first
pub record Telling (base : Parts) (progress : Progress) (number : ℕ) (left : List (List ℕ)) (fault : Fault) : Type 0 where
  pub before : List Said
  pub front : List (List ℕ)
  pub later : List (List ℕ)
  pub progress_is : progress ≡ progress_at base before
  pub count : length before + 1 ≡ number
  pub none : segments_of before ≡ []
  pub left_is : left ≡ front ++ later
  pub light : AreLight front
  pub said : said_from (said_by limited base) before front ≡ Err fault

-- the first fault of lines that take no memory, at the front of all, is still to be met
abbrev pub IsToBeTold : Parts → Progress → ℕ → List (List ℕ) → List (List ℕ) → Type 0
IsToBeTold base progress number left all =
    (front later : List (List ℕ)) (fault : Fault) → all ≡ front ++ later → AreLight front
    → said_from (said_by limited base) (nothing ∷ []) front ≡ Err fault → Telling base progress number left fault

-- the lines that are left of a text that is being read
abbrev pub left_in : Reading → List (List ℕ)
left_in reading = map line_text reading.lines

-- a reading in its parts
abbrev pub reading_at : Progress → List ((ℕ × ℕ) × List ℕ) → ℕ → Reading
reading_at progress lines number = record { progress = progress; lines = lines; number = number }

-- a reading comes from here to there, whatever follows the lines that are left
abbrev pub LeadsTo : Parts → Reading → Reading → Type 0
LeadsTo base old new =
    (tail all : List (List ℕ)) → Reached base old.progress old.number (left_in old ++ tail) all → Reached base new.progress new.number (left_in new ++ tail) all

-- a reading that has come so far, with these lines left, comes to there if no line has a fault; if one has, it is the whole
-- text's
abbrev pub ComesTo : {A : Type 0} → Parts → Progress → ℕ → List (List ℕ) → Result A Fault → Reading → Type 0
ComesTo base progress number left result new =
    (tail all : List (List ℕ)) → Reached base progress number (left ++ tail) all
    → MatchResult result (λ _. Reached base new.progress new.number (left_in new ++ tail) all) (λ e. Faulted base e all)

abbrev pub Reads : {A : Type 0} → Parts → Reading → Result A Fault → Reading → Type 0
Reads base old result new = ComesTo base old.progress old.number (left_in old) result new

-- the same with this line before those that are left
abbrev pub ReadsLine : {A : Type 0} → Parts → List ℕ → Reading → Result A Fault → Reading → Type 0
ReadsLine base line old result new = ComesTo base old.progress old.number (line ∷ left_in old) result new

-- a fault of lines that take no memory is still to be met there if it is to be met here, whatever follows the lines
-- that are left
abbrev pub IsStillTold : Parts → Reading → Reading → Type 0
IsStillTold base old new =
    (tail : List (List ℕ)) (fault : Fault) → Telling base old.progress old.number (left_in old ++ tail) fault
    → Telling base new.progress new.number (left_in new ++ tail) fault

-- such a fault is still to be met if the reading went on; if it ended, it is the answer
abbrev pub ComesToTell : {A : Type 0} → Parts → Progress → ℕ → List (List ℕ) → Result A Fault → Reading → Type 0
ComesToTell base progress number left result new =
    (tail : List (List ℕ)) (fault : Fault) → Telling base progress number (left ++ tail) fault
    → MatchResult result (λ _. Telling base new.progress new.number (left_in new ++ tail) fault) (λ e. e ≡ fault)

abbrev pub TellsFault : {A : Type 0} → Parts → Reading → Result A Fault → Reading → Type 0
TellsFault base old result new = ComesToTell base old.progress old.number (left_in old) result new

abbrev pub TellsLine : {A : Type 0} → Parts → List ℕ → Reading → Result A Fault → Reading → Type 0
TellsLine base line old result new = ComesToTell base old.progress old.number (line ∷ left_in old) result new
