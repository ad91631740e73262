-- A run that had a fault, and the fault's line, which ends with a line feed.
use Rattle.std.specs.Prelude.{◌≡◌, ◌≢◌, ℕ, List, ◌++◌, codes, Option, Some, Ok, Err}
use Rattle.playlist_model.specs.Reading.{Fault}
use Rattle.vod_run.specs.declared.fault.VodFault.{VodFault}
use Rattle.vod_run.specs.declared.fault.VodFault.TheVariants.{Playlist, NumberRange, Read, TooManyReads, Write}
use Rattle.channel_spec.specs.declared.fault.RefreshFault.TheVariants.{NumberRange as PassesRange}
use Rattle.vod_run.specs.FaultTexts.{vod_fault_text}
use Rattle.byte_streams.specs.Stands.{SourceStand, SinkStand, WasHanded}
use Rattle.byte_streams.specs.Fair.{IsFairToSource, IsFairToSink, GaveAtEachButLast}
use Rattle.vod_run.specs.Runs.{IfAtEnd}
use Rattle.vod_run.specs.Vod.{HasRead, HasJudged, Writes, WritesFront, IsInOrder, IsOfVod}

-- what `vod` says of its fault, clause by clause
pub record VodFailed (e : VodFault) (base : List ℕ) (file : Option (List ℕ)) (source_old source_new : SourceStand) (sink_old sink_new : SinkStand) : Type 0 where
  pub kind : IsOfVod e
  pub write : e ≡ Write → WritesFront base file source_old source_new sink_old sink_new
  pub nothing : e ≢ Write → sink_new ≡ sink_old
  pub order : IsInOrder e base file
  pub playlist : (fault : Fault) → e ≡ Playlist fault → HasRead base source_old source_new (Err fault)
  pub number_range : e ≡ NumberRange → HasJudged base file source_old source_new (Some PassesRange)
  pub source : IsFairToSource {A = Unit {0}} Read TooManyReads (Err e) source_old source_new
  pub to_end : IfAtEnd e (GaveAtEachButLast source_old source_new)
  pub sink : IsFairToSink {A = Unit {0}} Write (Err e) sink_old sink_new

-- what `vod` says of its success
pub record Succeeds (base : List ℕ) (file : Option (List ℕ)) (source_old source_new : SourceStand) (sink_old sink_new : SinkStand) : Type 0 where
  pub writes : Writes base file source_old source_new sink_old sink_new
  pub source : IsFairToSource {A = Unit {0}} Read TooManyReads (Ok tt) source_old source_new
  pub to_end : GaveAtEachButLast source_old source_new
  pub sink : IsFairToSink {A = Unit {0}} Write (Ok tt) sink_old sink_new

-- what is printed of a fault
abbrev pub vod_fault_line : VodFault → List ℕ
vod_fault_line e = vod_fault_text e ++ codes "\n"

-- `vod` had a fault, and its line was printed
pub record FailsAndPrints (base : List ℕ) (file : Option (List ℕ)) (source_old source_new : SourceStand) (sink_old sink_new faults_old faults_new : SinkStand) : Type 0 where
  pub fault : VodFault
  pub failed : VodFailed fault base file source_old source_new sink_old sink_new
  pub printed : WasHanded faults_old faults_new (vod_fault_line fault)
