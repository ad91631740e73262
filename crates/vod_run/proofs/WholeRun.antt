-- What a run comes to: a channel that was given the decision file, if there is one, and then one refresh.
use Rattle.std.proofs.Common.{◌≡◌, ℕ, List, [], ◌∷◌, ◌++◌, cond, ap, sym, ◌∙◌, subst, rules, arith}
use Rattle.std.specs.Prelude.{Option, Some, None, Result, Ok, Err, OnOk, IfErr, IsErrOf, IsOk, IsSome, ◌≢◌, is_ok, is_some, is_none, option_map, unwrap_or}
use Rattle.std.specs.Result.{IsErrAnd}
use Rattle.url.specs.Parts.{Parts}
use Rattle.byte_streams.specs.Stands.{GaveAll, SourceStand, SinkStand, TookAll, FailedAfterFront}
use Rattle.playlist_model.specs.declared.Playlist.{Playlist}
use Rattle.playlist_model.specs.Reading.{Fault, reading, limited, Denotes}
use Rattle.playlist_model.specs.Uri.{base_of}
use Rattle.channel_spec.specs.declared.fault.RefreshFault.{RefreshFault}
use Rattle.channel_spec.specs.declared.fault.RefreshFault.TheVariants.{NumberRange as PassesRange}
use Rattle.channel_spec.specs.Live.{Event, Told, told, refusal, after_refresh, last_playlist, owed_for}
use Rattle.owed_is_denoted.specs.Owed.{owed_text}
use Rattle.live_channel.specs.Channel as channel
use Rattle.live_channel.specs.Channel.{Channel, readable, refreshed, told_by, WritesOwed}
use Rattle.live_channel.proofs.Steps.{live_writes}
use Rattle.channel_spec.specs.Limits.{default_tolerance}
use Rattle.vod_run.specs.declared.fault.VodFault.{VodFault}
use Rattle.vod_run.specs.declared.fault.VodFault.TheVariants.{BadBase, Decision, Playlist as PlaylistOf, NumberRange, Read, TooManyReads, Write, OutOfMemory}
use Rattle.vod_run.specs.Given.{given_by, IsGivenAll}
use Rattle.vod_run.specs.Inner.Given.{IsGivenFile, IsRefreshed, PassesItsRange, RefreshesFrom, RefusesInput, RefusesFrom}
use Rattle.vod_run.specs.Events.{events_of}
use Rattle.byte_streams.specs.Fair.{IsFairToSource, IsFairToSink}
use Rattle.vod_run.specs.Runs.{IfAtEnd, OnEnd}
use Rattle.vod_run.specs.Vod.{told_with, IsInOrder, IsOfVod, HasRead, HasJudged, Writes, WritesFront}

-- what a channel writes if this playlist was accepted last
owed_so : (t : Told) (p : Playlist) (text : Option (List ℕ)) → last_playlist t.accepted ≡ Some p → WritesOwed t text
    → (unwrap_or text [] ≡ owed_text t p) × ((other : Parts) → Denotes other (owed_text t p) (owed_for t p))
owed_so t p None last w = absurd (cc)
owed_so t p (Some text) last (q, (is, same, means)) =
    let one : q ≡ p = cc in (
      same ∙ ap (owed_text t) one,
      λ other. subst (λ x. Denotes other (owed_text t x) (owed_for t x)) one (subst (λ x. Denotes other x (owed_for t q)) same (means other)),
    )

module _ (base : List ℕ) (file : Option (List ℕ)) (c : Channel) (d : IsGivenFile base file c) where
  abbrev events : List Event
  events = channel.events_of c.base (given_by file)

  pub judged_before : IsSome (base_of base) × IsOk (events_of file)
  judged_before = (ap is_some d.base, ap is_ok d.said)

  module _ (old new : SourceStand) (input : List ℕ) (g : GaveAll old new input) where
    has_read : (r : Result Playlist Fault) → reading limited c.base input ≡ r → HasRead base old new r
    has_read r h = record { input = input; given = g; read = ap (option_map (λ x. reading limited x input)) d.base ∙ ap Some h }

    judged : (p : Playlist) → reading limited c.base input ≡ Ok p → (o : Option RefreshFault) → refusal c.tolerance (told_by c.base c.tolerance (given_by file)) p ≡ o
        → HasJudged base file old new o
    judged p h o r = record {
      events = events;
      decided = d.said;
      playlist = p;
      read = has_read (Ok p) h;
      judged = subst (λ x. refusal x (told x events) p ≡ o) d.tolerance r;
    }

    module _ (then : Channel) (r : IsRefreshed c input (given_by file) then) where
      abbrev p : Playlist
      p = r.playlist

      -- what it was told then
      told_then : told_by then.base then.tolerance (refreshed input ∷ given_by file) ≡ told_with events p
      told_then =
          ap (λ x. told_by x then.tolerance (refreshed input ∷ given_by file)) r.base
          ∙ (ap (λ x. told_by c.base x (refreshed input ∷ given_by file)) (r.tolerance ∙ d.tolerance)
          ∙ ap (λ x. told default_tolerance (readable x ++ events)) r.read)

      accepted : HasJudged base file old new None
      accepted = judged p r.read None r.accepted

      last_is : last_playlist (told_with events p).accepted ≡ Some p
      unfolding accepted judged
      last_is = ap (λ o. last_playlist (cond (is_none o) (after_refresh default_tolerance (told default_tolerance events) p) (told default_tolerance events)).accepted) accepted.judged

      owes : (unwrap_or then.text [] ≡ owed_text (told_with events p) p) × ((other : Parts) → Denotes other (owed_text (told_with events p) p) (owed_for (told_with events p) p))
      owes = owed_so (told_with events p) p then.text last_is (subst (λ t. WritesOwed t then.text) told_then (live_writes then (refreshed input ∷ given_by file) r.stands))

      wrote : (sink_old sink_new : SinkStand) → TookAll sink_old sink_new (unwrap_or then.text []) → Writes base file old new sink_old sink_new
      unfolding accepted judged
      wrote sink_old sink_new w = record { accepted = accepted; written = subst (TookAll sink_old sink_new) owes.0 w; denotes = owes.1 }

      wrote_front : (sink_old sink_new : SinkStand) → FailedAfterFront sink_old sink_new (unwrap_or then.text []) → WritesFront base file old new sink_old sink_new
      unfolding accepted judged
      wrote_front sink_old sink_new w = record { accepted = accepted; written = subst (FailedAfterFront sink_old sink_new) owes.0 w }

  module _ (old new : SourceStand) where
    -- the sink took what the channel writes, or a front of it
    pub writes : (then : Channel) → RefreshesFrom old new c then → (sink_old sink_new : SinkStand) → TookAll sink_old sink_new (unwrap_or then.text [])
        → Writes base file old new sink_old sink_new
    writes then r = wrote old new r.input r.given then (r.refreshed file d.stands)

    -- the channel that wrote it
    pub given_all : (then : Channel) → RefreshesFrom old new c then → IsGivenAll base file old new then
    given_all then r =
        let refreshed : IsRefreshed c r.input (given_by file) then = r.refreshed file d.stands in
        record {
          base = d.base ∙ ap Some (sym refreshed.base);
          tolerance = refreshed.tolerance ∙ d.tolerance;
          input = r.input;
          given = r.given;
          stands = refreshed.stands;
        }

    pub writes_front : (then : Channel) → RefreshesFrom old new c then → (sink_old sink_new : SinkStand) → FailedAfterFront sink_old sink_new (unwrap_or then.text [])
        → WritesFront base file old new sink_old sink_new
    writes_front then r = wrote_front old new r.input r.given then (r.refreshed file d.stands)

    -- the fault of the refresh, as it is handed on
    pub unread : (e : VodFault) → RefusesFrom e old new c → (fault : Fault) → e ≡ PlaylistOf fault → HasRead base old new (Err fault)
    unread e h fault is =
        let refused : RefusesInput (PlaylistOf fault) old new c = subst (λ x. RefusesFrom x old new c) is h in
        has_read old new refused.input refused.given (Err fault) (refused.refused file d.stands)

    pub passes : (e : VodFault) → RefusesFrom e old new c → e ≡ NumberRange → HasJudged base file old new (Some PassesRange)
    passes e h is =
        let refused : RefusesInput NumberRange old new c = subst (λ x. RefusesFrom x old new c) is h in
        let number_range : PassesItsRange c refused.input (given_by file) = refused.refused file d.stands in
        judged old new refused.input refused.given number_range.playlist number_range.read (Some PassesRange) number_range.refused

-- ---- faults that are handed on

pub handed_on : {A : Type 0} (r : Result A VodFault) (e : VodFault) (P : VodFault → Type 0) → IsErrAnd r (λ d. d ≡ e) → P e → IfErr r P
handed_on (Ok x) e P h p = absurd h
handed_on (Err d) e P h p = subst P (sym h) p

pub is_one : {A : Type 0} (e f : VodFault) → e ≡ f → IsErrOf {T = A} (Err e) f
is_one e f same = search rules

-- a result of another type with the same fault
still : {A B : Type 0} (e f : VodFault) → IsErrOf {T = A} (Err e) f → IsErrOf {T = B} (Err e) f
still e f is = let same : e ≡ f = cc in is_one e f same

pub in_order : (old new : SourceStand) (c : Channel) (e : VodFault) (base : List ℕ) (file : Option (List ℕ)) → RefusesFrom e old new c
    → IsSome (base_of base) × IsOk (events_of file) → IsInOrder e base file
in_order old new c (PlaylistOf fault) base file h k = k
in_order old new c NumberRange base file h k = k
in_order old new c Read base file h k = k
in_order old new c TooManyReads base file h k = k
in_order old new c OutOfMemory base file h k = tt
in_order old new c _ base file h k = absurd h

pub of_input : (old new : SourceStand) (c : Channel) (e : VodFault) → RefusesFrom e old new c → IsOfVod e
of_input old new c (PlaylistOf fault) h = tt
of_input old new c NumberRange h = tt
of_input old new c Read h = tt
of_input old new c TooManyReads h = tt
of_input old new c OutOfMemory h = tt
of_input old new c _ h = absurd h

pub no_write : (old new : SourceStand) (c : Channel) (e : VodFault) → RefusesFrom e old new c → e ≢ Write
no_write old new c e h same = subst (λ x. RefusesFrom x old new c) same h

pub number_range_of : {A P : Type 0} (r : Result A VodFault) (e : VodFault) → IsErrAnd r (λ d. d ≡ e) → (e ≡ NumberRange → P) → IsErrOf r NumberRange → P
number_range_of (Ok x) e h f is = absurd h
number_range_of (Err d) e h f is = let same : d ≡ NumberRange = cc in f (sym h ∙ same)

abbrev pub FairToSource : {A : Type 0} → Result A VodFault → SourceStand → SourceStand → Type 0
FairToSource r old new = IsFairToSource Read TooManyReads r old new

abbrev pub FairToSink : {A : Type 0} → Result A VodFault → SinkStand → SinkStand → Type 0
FairToSink r old new = IsFairToSink Write r old new

pub still_fair : {A B : Type 0} (e : VodFault) (old new : SourceStand) → FairToSource {A = A} (Err e) old new → FairToSource {A = B} (Err e) old new
still_fair e old new f = grind arith

pub still_fair_sink : {A B : Type 0} (e : VodFault) (old new : SinkStand) → FairToSink {A = A} (Err e) old new → FairToSink {A = B} (Err e) old new
still_fair_sink e old new f = grind arith

-- what a call said of its source holds if its fault is handed on
pub fair_on : {A B : Type 0} (r : Result A VodFault) (e : VodFault) (old new : SourceStand) → IsErrAnd r (λ d. d ≡ e) → FairToSource {A = B} (Err e) old new → FairToSource r old new
fair_on k e old new h f = grind arith

-- the same of its sink
pub fair_sink_on : {A B : Type 0} (r : Result A VodFault) (e : VodFault) (old new : SinkStand) → IsErrAnd r (λ d. d ≡ e) → FairToSink {A = B} (Err e) old new → FairToSink r old new
fair_sink_on k e old new h f = grind arith

pub write_is_no_read : (Write ≢ Read) × (Write ≢ TooManyReads)
write_is_no_read = (λ same. absurd (cc), λ same. absurd (cc))

pub write_is_no_playlist : {A : Type 0} (fault : Fault) → Write ≡ PlaylistOf fault → A
write_is_no_playlist fault same = absurd (cc)

pub at_end : (e : VodFault) (P : Type 0) → P → IfAtEnd e P
at_end (PlaylistOf fault) P p = p
at_end NumberRange P p = p
at_end Write P p = p
at_end (Decision fault) P p = tt
at_end BadBase P p = tt
at_end Read P p = tt
at_end TooManyReads P p = tt
at_end OutOfMemory P p = tt

-- what holds at the end of the input holds if a fault is handed on
pub on_end : {A : Type 0} (r : Result A VodFault) (e : VodFault) (P : Type 0) → IsErrAnd r (λ d. d ≡ e) → IfAtEnd e P → OnEnd r P
on_end (Ok x) e P h f = absurd h
on_end (Err d) e P h f = subst (λ x. IfAtEnd x P) (sym h) f

-- the source was read to its end, and isn't to blame for what comes after
pub fair_source : {A B : Type 0} (r : Result A VodFault) (x : B) (old new : SourceStand) → FairToSource (Ok x) old new → IfErr r (λ e. (e ≢ Read) × (e ≢ TooManyReads)) → FairToSource r old new
fair_source k x old new f h = grind arith

pub unused_sink : {A : Type 0} (r : Result A VodFault) (s : SinkStand) → IfErr r (λ e. e ≢ Write) → FairToSink r s s
unused_sink k s h = grind arith

pub on_ok : {A E : Type 0} {P Q : Type 0} (r : Result A E) → OnOk r P → (P → Q) → OnOk r Q
on_ok (Ok x) p f = f p
on_ok (Err e) p f = p
