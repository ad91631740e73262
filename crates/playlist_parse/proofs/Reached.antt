-- How far a reading has come.
use Rattle.std.proofs.Common.{◌≡◌, ℕ, ◌+◌, List, [], ◌∷◌, ◌++◌, refl, ap, arith}
use Rattle.std.specs.Prelude.{◌≢◌, Result, Ok, Err, IsOk, None, Some, MatchResult}
use Rattle.url.specs.Parts.{Parts}
use Rattle.playlist_model.specs.declared.FaultKind.{FaultKind}
use Rattle.playlist_model.specs.declared.FaultKind.TheVariants.{OutOfMemory}
use Rattle.playlist_model.specs.declared.Playlist.{Playlist}
use Rattle.playlist_model.specs.Refusals.{RefusesByPlaylistFault}
use Rattle.playlist_model.specs.Said.{Said, nothing}
use Rattle.playlist_model.specs.LookBack.{with_said}
use Rattle.playlist_model.specs.Reading.{said_by, said_from, and_whole, whole_fault, playlist_of, Fault}
use Rattle.playlist_model.specs.Reading.{limited}
use Rattle.playlist_parse.specs.Inner.Answers.{fault_at_line, line_of_fault}
use Rattle.playlist_parse.specs.Inner.Progress.{Progress, progress_at, EndsIn}
use Rattle.playlist_parse.specs.Inner.Reached.{Reached, Faulted, left_in}
use Rattle.playlist_parse.specs.declared.reading.Reading.{Reading}
use Rattle.playlist_kept.specs.declared.read_playlist.Read.{Read}
use Rattle.playlist_kept.specs.Kept.{AnswersRead, playlist_in}

pub own_base : (base : Parts) (progress : Progress) (before : List Said) → progress ≡ progress_at base before → progress ≡ progress_at progress.base before
own_base base progress before e = grind arith

pub begun : (base : Parts) (progress : Progress) (lines : List (List ℕ)) → progress ≡ progress_at base (nothing ∷ []) → Reached base progress 2 lines lines
begun base progress lines e = record { before = nothing ∷ []; progress_is = e; count = refl; within = omega arith; rest = refl }

pub same_base : (base : Parts) (progress : Progress) (before : List Said) → progress ≡ progress_at base before → progress.base ≡ base
same_base base progress before e = ap (λ (p : Progress). p.base) e

-- one line more
pub next : {base : Parts} {progress new : Progress} {number : ℕ} {line : List ℕ} {left lines : List (List ℕ)} (r : Reached base progress number (line ∷ left) lines)
    → IsOk (said_by limited base r.before line) × (new ≡ progress_at base (with_said r.before (said_by limited base r.before line))) → Reached base new (number + 1) left lines
next {base = base} {number = number} {line = line} {left = left} {lines = lines} r h = grind arith

-- what a line ensures, at what is reached
pub taken_ok : {base : Parts} {progress : Progress} {number : ℕ} {left lines : List (List ℕ)} (line : List ℕ) (new : Progress) (r : Reached base progress number left lines)
    → ((before : List Said) → progress ≡ progress_at progress.base before
    → IsOk (said_by limited progress.base before line) × (new ≡ progress_at progress.base (with_said before (said_by limited progress.base before line))))
    → IsOk (said_by limited base r.before line) × (new ≡ progress_at base (with_said r.before (said_by limited base r.before line)))
taken_ok {base = base} {progress = progress} line new r takes = grind arith

pub kept_line : (e : FaultKind) (n : ℕ) → e ≢ OutOfMemory → line_of_fault e n ≡ n
kept_line OutOfMemory n h = absurd (h refl)
kept_line _ n h = refl

no_line : (e : FaultKind) (n : ℕ) → e ≡ OutOfMemory → line_of_fault e n ≡ 0
no_line e n h = rw h refl

failed : (e : FaultKind) (n : ℕ) (outcome : Result Playlist Fault) → (e ≢ OutOfMemory → outcome ≡ Err (record { kind = e; line = n })) → AnswersRead (Err (fault_at_line e n)) outcome
failed e n outcome h = grind arith

-- a line that is refused
pub refused : {base : Parts} {progress : Progress} {number : ℕ} {line : List ℕ} {left lines : List (List ℕ)} (e : FaultKind) (r : Reached base progress number (line ∷ left) lines)
    → RefusesByPlaylistFault e (said_by limited base r.before line) → AnswersRead (Err (fault_at_line e number)) (and_whole (said_from (said_by limited base) (nothing ∷ []) lines))
refused {base = base} {number = number} {line = line} {left = left} {lines = lines} e r h = grind arith

pub ends : {base : Parts} {progress : Progress} {number : ℕ} {left lines : List (List ℕ)} (result : Result Read FaultKind) (r : Reached base progress number left lines) → EndsIn progress result
    → MatchResult result (λ read. (whole_fault r.before ≡ None) × (playlist_in read ≡ playlist_of r.before)) (λ e. e ≢ OutOfMemory → whole_fault r.before ≡ Some e)
ends {base = base} {progress = progress} result r h = grind arith

-- a refused line's fault is the text's
pub line_refused : {base : Parts} {progress : Progress} {number : ℕ} {line : List ℕ} {left lines : List (List ℕ)} (e : FaultKind) (fault : Fault) (r : Reached base progress number (line ∷ left) lines)
    → ((before : List Said) → progress ≡ progress_at progress.base before → RefusesByPlaylistFault e (said_by limited progress.base before line)) → fault ≡ fault_at_line e number → Faulted base fault lines
line_refused {base = base} {number = number} {line = line} {lines = lines} e fault r refuses is = grind arith

-- if no line is left, the text is the playlist
pub ended : {base : Parts} {progress : Progress} {number : ℕ} {lines : List (List ℕ)} (read : Read) (r : Reached base progress number [] lines) → EndsIn progress (Ok read)
    → and_whole (said_from (said_by limited base) (nothing ∷ []) lines) ≡ Ok (playlist_in read)
ended {base = base} {progress = progress} read r h = grind arith

-- a failed allocation says nothing of the text
pub unread : (fault : Fault) (outcome : Result Playlist Fault) → fault ≡ fault_at_line OutOfMemory 0 → AnswersRead (Err fault) outcome
unread fault outcome is = grind arith

-- a whole text is what its lines said
pub told_whole : {base : Parts} {progress : Progress} {number : ℕ} {left lines : List (List ℕ)} (read : Read) (r : Reached base progress number left lines) → EndsIn progress (Ok read) → playlist_in read ≡ playlist_of r.before
told_whole {base = base} {progress = progress} read r h = grind arith

-- ---- a reading

-- before its first line
pub begun_at : (base : Parts) (reading : Reading) (tail : List (List ℕ)) → reading.number ≡ 2 → ((all : List (List ℕ)) → Reached base reading.progress 2 all all)
    → Reached base reading.progress reading.number (left_in reading ++ tail) (left_in reading ++ tail)
begun_at base reading tail first begun = grind arith

-- after its last one
pub none_more : {base : Parts} (reading : Reading) (tail all : List (List ℕ)) → reading.lines ≡ [] → Reached base reading.progress reading.number (left_in reading ++ tail) all
    → Reached base reading.progress reading.number tail all
none_more {base = base} reading tail all none r = grind arith
