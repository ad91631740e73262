-- What a channel keeps, is owed and answers, by what it was given.
use Rattle.std.specs.Prelude.{ℕ, true, false, List, [], ◌∷◌, map, codes, Option, Some, None, option_map, Result, Ok, Err}
use Rattle.url.specs.Parts.{Parts}
use Rattle.playlist_model.specs.InCommon.{nothing_in_common}
use Rattle.playlist_model.specs.Uri.{base_of}
use Rattle.playlist_model.specs.declared.FaultKind.TheVariants.{NoHeader}
use Rattle.playlist_write.specs.declared.resumed.WrittenText.{WrittenText}
use Rattle.pod_store.specs.Store.{Entry, nothing_decided}
use Rattle.channel_spec.specs.declared.fault.RefreshFault.{RefreshFault}
use Rattle.channel_spec.specs.declared.fault.RefreshFault.TheVariants.{Playlist as Unreadable, Changed, NumberRange, OutOfMemory}
use Rattle.channel_spec.specs.Successor.{owed_heading_of}
use Rattle.channel_spec.specs.Live.{told}
use Rattle.channel_spec.specs.Kept.{Kept, kept_of}
use Rattle.channel_window.specs.declared.state.ChannelState.{ChannelState}
use Rattle.stitcher.specs.declared.OutSegment.{OutSegment}
use Rattle.channel_window.specs.Listed.{head_of, window_segments_in}
use Rattle.live_channel.specs.declared.channel.Refreshed.{Refreshed}
use Rattle.live_channel.specs.Channel.{Channel, Given, decided, withdrawn, refreshed, channel_with, with_store, text_in, owed_answer, is_out_of_memory, store_by}
use Rattle.worked_examples.specs.Breaks.{nothing_said}
use Rattle.worked_examples.specs.Channels.{five}
use Rattle.worked_examples.specs.Pods.{ab, short}
use Rattle.worked_examples.specs.Stitched.{stepped, unmarked, marked}
use Rattle.worked_examples.specs.Tables.{HasValues}
use Rattle.http_messages.specs.declared.message.Request.{Request}
use Rattle.served_examples.specs.Answers.{first_refresh, refresh}

-- ---- what is kept

-- two segments are shown, the oldest first; the second one goes on break a
abbrev pub state : ChannelState
state = record {
  store = ab;
  last = Some (owed_heading_of five);
  list = record { segment = stepped 5 3 1; instant = None; mark = None; goes_on = false; in_common = nothing_in_common; again = 0 } ∷ record { segment = stepped 6 3 0; instant = None; mark = Some (codes "a"); goes_on = false; in_common = nothing_in_common; again = 0 } ∷ [];
  shown = record {
    knowledge = record { id = codes "a"; said = nothing_said } ∷ [];
    entered = Some (codes "a");
    numbers = record { media_sequence = 8; discontinuity_sequence = 4; discontinuities = 2 };
    so_far = 7;
    rest = Some (record { id = codes "b"; place = 3 });
  };
}

-- the segments stand with the newest first, and a mark has its pod
abbrev pub kept : Kept
kept = record {
  store = ab;
  breaks = record { id = codes "a"; said = nothing_said } ∷ [];
  last = Some (owed_heading_of five);
  shown = marked (record { id = codes "a"; pod = short 1 }) (stepped 6 3 0) ∷ unmarked (stepped 5 3 1) ∷ [];
  entered = Some (codes "a");
  numbers = record { media_sequence = 8; discontinuity_sequence = 4; discontinuities = 2 };
  so_far = 7;
  rest = Some (record { mark = record { id = codes "b"; pod = short 2 }; place = 3 });
}

abbrev pub StatesAreMeant : Type 0
StatesAreMeant = (base : Parts) → HasValues (channel_with base 5 state) (
    (None, record { base = base; tolerance = 5; kept = kept; text = None })
    ∷ (Some (codes "x"), record { base = base; tolerance = 5; kept = kept; text = Some (codes "x") }) ∷ [])

-- the same with five segments
abbrev pub five_shown : ChannelState
five_shown = record state { list = record { segment = stepped 5 3 0; instant = None; mark = None; goes_on = false; in_common = nothing_in_common; again = 0 } ∷ record { segment = stepped 6 3 0; instant = None; mark = None; goes_on = false; in_common = nothing_in_common; again = 0 } ∷ record { segment = stepped 7 3 0; instant = None; mark = None; goes_on = false; in_common = nothing_in_common; again = 0 } ∷ record { segment = stepped 8 3 0; instant = None; mark = None; goes_on = false; in_common = nothing_in_common; again = 0 } ∷ record { segment = stepped 9 3 0; instant = None; mark = None; goes_on = false; in_common = nothing_in_common; again = 0 } ∷ [] }

-- the segments that it holds, the oldest first
abbrev pub SegmentsAreHeld : Type 0
SegmentsAreHeld = HasValues window_segments_in (
    (state.list, stepped 5 3 1 ∷ stepped 6 3 0 ∷ [])
    ∷ ([], [])
    ∷ (five_shown.list, stepped 5 3 0 ∷ stepped 6 3 0 ∷ stepped 7 3 0 ∷ stepped 8 3 0 ∷ stepped 9 3 0 ∷ []) ∷ [])

-- five segments are meant with the newest first
abbrev pub ShownAreMeant : Type 0
ShownAreMeant = (base : Parts) → HasValues (λ (state : ChannelState). (channel_with base 5 state None).kept.shown) (
    (five_shown, unmarked (stepped 9 3 0) ∷ unmarked (stepped 8 3 0) ∷ unmarked (stepped 7 3 0) ∷ unmarked (stepped 6 3 0) ∷ unmarked (stepped 5 3 0) ∷ []) ∷ [])

abbrev pub holding : Parts → Kept → Channel
holding base kept = record { base = base; tolerance = 5; kept = kept; text = Some (codes "x") }

-- a decision changes the store alone
abbrev pub StoresAreReplaced : Type 0
StoresAreReplaced = (base : Parts) → HasValues (with_store (holding base kept)) ((nothing_decided, holding base (record kept { store = nothing_decided })) ∷ [])

abbrev pub written : WrittenText
written = record { text = codes "x"; from = 0; till = 1; count = 1; keys = []; init_section = None }

abbrev pub TextsAreKept : Type 0
TextsAreKept = HasValues text_in ((None, None) ∷ (Some written, Some (codes "x")) ∷ [])

-- a segment of the origin as it is written
abbrev pub written_as : ℕ → ℕ → ℕ → ℕ → OutSegment
written_as number media discontinuity steps = record { segment = stepped number 3 0; media_sequence = media; discontinuity_sequence = discontinuity; discontinuities = steps; program_date_time = None }

abbrev pub FirstNumbersAreTold : Type 0
FirstNumbersAreTold = HasValues head_of (
    ([], record { media_sequence = 0; discontinuity_sequence = 0; discontinuities = 0 })
    ∷ (written_as 5 8 4 2 ∷ written_as 6 9 5 1 ∷ [], record { media_sequence = 8; discontinuity_sequence = 4; discontinuities = 2 }) ∷ [])

-- ---- what is answered

abbrev pub new_channel : Parts → Channel
new_channel base = record { base = base; tolerance = 100000000; kept = kept_of (told 100000000 []); text = None }

abbrev pub owed_to : List Given × List ℕ → Option (Result Refreshed RefreshFault)
owed_to it = option_map (λ (base : Parts). owed_answer (new_channel base) it.0 it.1) (base_of (codes "http://h/"))

abbrev pub five_from_7 : Request
five_from_7 = refresh (codes "#EXT-X-MEDIA-SEQUENCE:7" ∷ codes "#EXTINF:10," ∷ codes "a:s" ∷ codes "#EXTINF:10," ∷ codes "a:s" ∷ codes "#EXTINF:10," ∷ codes "a:s" ∷ codes "#EXTINF:10," ∷ codes "a:s" ∷ codes "#EXTINF:10," ∷ codes "a:s" ∷ [])

-- a playlist is taken, is taken again, may not follow, and can't be read
abbrev pub RefreshesAreOwed : Type 0
RefreshesAreOwed = HasValues owed_to (
    (([], first_refresh.body), Some (Ok (record { media_sequence = 0; segments = 1; fresh = 1 })))
    ∷ ((refreshed first_refresh.body ∷ [], first_refresh.body), Some (Ok (record { media_sequence = 0; segments = 1; fresh = 0 })))
    ∷ ((refreshed first_refresh.body ∷ [], (refresh (codes "#EXTINF:10," ∷ codes "a:t" ∷ [])).body), Some (Err (Changed 0)))
    ∷ (([], []), Some (Err (Unreadable (record { kind = NoHeader; line = 1 }))))
    ∷ (([], five_from_7.body), Some (Ok (record { media_sequence = 7; segments = 5; fresh = 5 })))
    ∷ ((refreshed [] ∷ refreshed [] ∷ refreshed [] ∷ refreshed [] ∷ refreshed first_refresh.body ∷ [], (refresh (codes "#EXTINF:10," ∷ codes "a:t" ∷ [])).body), Some (Err (Changed 0))) ∷ [])

abbrev pub LackOfMemoryIsSeen : Type 0
LackOfMemoryIsSeen = HasValues is_out_of_memory (
    (Ok (record { media_sequence = 0; segments = 1; fresh = 1 }), false) ∷ (Err OutOfMemory, true) ∷ (Err NumberRange, false) ∷ [])

abbrev pub decision : List ℕ
decision = codes "{\"breaks\":[{\"id\":\"b\",\"ads\":[{\"segments\":[{\"uri\":\"http://a/s\",\"duration\":\"1\"}]}]}]}"

-- the IDs of the breaks that have pods after what was given, the newest of which stands first
abbrev pub stored_after : List Given → Option (List (List ℕ))
stored_after given = option_map (λ (base : Parts). map (λ (e : Entry). e.id) (store_by (new_channel base) given).entries) (base_of (codes "http://h/"))

abbrev pub DecisionsAreStored : Type 0
DecisionsAreStored = HasValues stored_after (
    ([], Some [])
    ∷ (decided decision ∷ [], Some (codes "b" ∷ []))
    ∷ (decided (codes "{") ∷ decided decision ∷ [], Some (codes "b" ∷ []))
    ∷ (withdrawn (codes "b") ∷ decided decision ∷ [], Some [])
    ∷ (decided (codes "{") ∷ decided (codes "{") ∷ decided (codes "{") ∷ decided (codes "{") ∷ decided decision ∷ [], Some (codes "b" ∷ []))
    ∷ (withdrawn (codes "1") ∷ withdrawn (codes "2") ∷ withdrawn (codes "3") ∷ withdrawn (codes "4") ∷ decided decision ∷ [], Some (codes "b" ∷ []))
    ∷ (decided decision ∷ withdrawn (codes "b") ∷ [], Some (codes "b" ∷ [])) ∷ [])
