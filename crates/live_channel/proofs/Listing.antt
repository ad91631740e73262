-- The segments that are held, and those of the playlist that was read last.
use Rattle.std.proofs.Common.{◌≡◌, ℕ, ◌+◌, zero, suc, List, [], ◌∷◌, map, take, drop, refl, ap, sym, ◌∙◌, arith}
use Rattle.std.specs.Prelude.{Option, Some, None, Ok, option_map}
use Rattle.url.specs.Parts.{Parts}
use Rattle.playlist_model.specs.declared.Playlist.{Playlist}
use Rattle.playlist_model.specs.Segments.{Segment}
use Rattle.playlist_model.specs.Same.{kept_parts}
use Rattle.playlist_model.specs.Reading.{reading, limited}
use Rattle.channel_spec.specs.Live.{Told, last_playlist, after_refresh, owed_for}
use Rattle.channel_spec.specs.Sound.{RiseFrom}
use Rattle.channel_spec.specs.Kept.{Kept, listed, kept_of, kept_refusal, shown_by}
use Rattle.channel_spec.proofs.Listed.{shown_are_listed}
use Rattle.channel_spec.proofs.SameFault.{same_first}
use Rattle.channel_window.specs.declared.state.ChannelState.{ChannelState}
use Rattle.channel_window.specs.Checked.{AreContiguous, AreTaken}
use Rattle.channel_window.specs.Showing.{kept_in}
use Rattle.channel_window.specs.Listed.{window_segments_in}
use Rattle.channel_window.proofs.Found.{held_listed}
use Rattle.playlist_kept.specs.Kept.{IsTakenFrom, kept_segments}
use Rattle.playlist_kept.specs.declared.read_playlist.Read.{Read}
use Rattle.playlist_kept.specs.declared.source.LastPlaylist.{LastPlaylist}
use Rattle.live_channel.specs.Channel.{Given, refreshed, events_of, told_by, IsListed}
use Rattle.live_channel.proofs.Steps.{all_given}
use Rattle.live_channel.proofs.LastText.{told_next}

-- ---- parts of a list

map_take : (n : ℕ) (xs : List Segment) → map kept_parts (take n xs) ≡ take n (map kept_parts xs)
map_take zero xs = refl
map_take (suc n) [] = refl
map_take (suc n) (x ∷ xs) = ap (λ ys. kept_parts x ∷ ys) (map_take n xs)

map_drop : (n : ℕ) (xs : List Segment) → map kept_parts (drop n xs) ≡ drop n (map kept_parts xs)
map_drop zero xs = refl
map_drop (suc n) [] = refl
map_drop (suc n) (x ∷ xs) = map_drop n xs

between : (from till : ℕ) (xs : List Segment) → map kept_parts (drop from (take till xs)) ≡ drop from (take till (map kept_parts xs))
between from till xs = map_drop from (take till xs) ∙ ap (drop from) (map_take till xs)

-- ---- what is taken over from the text that was read last is as it is shown

take_none : (n : ℕ) → ◌≡◌ {A = List Segment} (take n []) []
take_none zero = refl
take_none (suc n) = refl

drop_none : (n : ℕ) → ◌≡◌ {A = List Segment} (drop n []) []
drop_none zero = refl
drop_none (suc n) = refl

pub taken_over : (source : Option LastPlaylist) (state : ChannelState) (read : Read) → IsListed source state.list → IsTakenFrom (kept_segments source) read → AreTaken (window_segments_in state.list) read.taken.now
taken_over None state read h t = record { from = 0; till = 0; same = ap (map kept_parts) (t ∙ (ap (drop read.from) (take_none read.till) ∙ drop_none read.from)) }
taken_over (Some source) state read h t =
    let held = window_segments_in state.list in
    record {
      from = read.from;
      till = read.till;
      same = ap (map kept_parts) t ∙ (between read.from read.till source.segments.items ∙ (ap (λ xs. drop read.from (take read.till xs)) (sym h) ∙ sym (between read.from read.till held)));
    }

-- ---- after an accepted refresh they are those of its playlist

pub listed_next : (base : Parts) (tolerance : ℕ) (given : List Given) (bytes : List ℕ) (p : Playlist) (state : ChannelState) → reading limited base bytes ≡ Ok p
    → kept_refusal tolerance (kept_of (told_by base tolerance given)) p ≡ None → kept_in state ≡ kept_of (told_by base tolerance (refreshed bytes ∷ given)) → map kept_parts (window_segments_in state.list) ≡ map kept_parts p.segments
listed_next base tolerance given bytes p state read unrefused stands =
    let t = told_by base tolerance (refreshed bytes ∷ given) in
    let next : t ≡ after_refresh tolerance (told_by base tolerance given) p = told_next base tolerance given bytes p read unrefused in
    let last : last_playlist t.accepted ≡ Some p = ap (λ (u : Told). last_playlist u.accepted) next in
    let shown : listed (kept_in state).shown ≡ listed (shown_by (Some p) t.history) = ap (λ (k : Kept). listed k.shown) stands ∙ ap (λ o. listed (shown_by o t.history)) last in
    let law = shown_are_listed tolerance (events_of base (refreshed bytes ∷ given)) p (owed_for t p)
    (record { sound = all_given base (refreshed bytes ∷ given); accepted = last; owed = ap (option_map (owed_for t)) last }) in
    ap (map kept_parts) (sym (held_listed state.store state.list) ∙ shown) ∙ law

-- ---- so their numbers rise by one

rise_of : (n : ℕ) (xs : List Segment) → RiseFrom n xs → RiseFrom n (map kept_parts xs)
rise_of n [] r = tt
rise_of n (x ∷ xs) r = (r.0, rise_of (n + 1) xs r.1)

rise_from : (n : ℕ) (xs : List Segment) → RiseFrom n (map kept_parts xs) → RiseFrom n xs
rise_from n [] r = tt
rise_from n (x ∷ xs) r = (r.0, rise_from (n + 1) xs r.1)

pub contiguous_too : (xs ys : List Segment) → map kept_parts xs ≡ map kept_parts ys → AreContiguous ys → AreContiguous xs
contiguous_too xs ys e r = grind (arith, rise_from, same_first, rise_of)
