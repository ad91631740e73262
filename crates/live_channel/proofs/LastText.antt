-- The last text, from refresh to refresh.
use Rattle.std.proofs.Common.{◌≡◌, ℕ, ◌-◌, ◌<◌, true, cond, List, [], ◌∷◌, ◌++◌, map, reverse, length, take, drop, refl, ap, sym, ◌∙◌, subst, arith}
use Rattle.std.specs.Prelude.{Option, Some, None, Ok, is_none}
use Rattle.std.specs.List.{list_all}
use Rattle.std.proofs.lemmas.List.{append-nil, map-append, reverse-append, take_at, length-map, length-reverse}
use Rattle.url.specs.Parts.{Parts}
use Rattle.playlist_model.specs.declared.Playlist.{Playlist}
use Rattle.playlist_model.specs.Reading.{reading, limited}
use Rattle.stitcher.specs.Stitched.{Piece, Item, Numbers, numbered, can_be_numbered}
use Rattle.stitcher.specs.Written.{written_item}
use Rattle.stitcher.specs.declared.OutSegment.{OutSegment}
use Rattle.playlist_write.specs.declared.resumed.WrittenText.{WrittenText}
use Rattle.playlist_write.specs.Laid.{IsLaid, IsFrontLength, StandsAgain}
use Rattle.read_is_writable.proofs.Whole.{can_be_written}
use Rattle.owed_is_denoted.proofs.Given.{is_read}
use Rattle.pod_store.specs.Store.{Store}
use Rattle.channel_spec.specs.LiveLaws.{GoesOn}
use Rattle.channel_spec.specs.Live.{Told, told, refusal, last_playlist, after_refresh, window_after}
use Rattle.channel_spec.specs.Live as live
use Rattle.channel_spec.specs.Kept.{Kept, kept_of, kept_succession, kept_items, kept_window, kept_refusal, window_by}
use Rattle.channel_window.specs.Showing.{kept_in}
use Rattle.channel_window.specs.declared.state.ChannelState.{ChannelState}
use Rattle.channel_spec.specs.LastWindow.{last_pieces, last_items}
use Rattle.channel_spec.proofs.KeptWhole.{kept_follows, items_go_on}
use Rattle.live_channel.specs.Channel.{Given, refreshed, readable, events_of, told_by}
use Rattle.live_channel.specs.LastText.{IsLaidOut}
use Rattle.live_channel.specs.Inner.LastText.{StoodIn, StoodBefore}
use Rattle.live_channel.proofs.Steps.{all_given}

-- ---- which lines stand again

pub stand_again : (segments : List OutSegment) (w : WrittenText) (start stood len : ℕ) → start < stood → IsLaid (take stood segments) w → IsFrontLength segments start len → StandsAgain (drop start segments) w len (stood - start)
stand_again segments w start stood len h laid front = grind arith

-- ---- the last window is the front of what is stitched next

length_numbered : (first : Numbers) (pieces : List Piece) → length (numbered first pieces) ≡ length pieces
length_numbered first [] = refl
length_numbered first (p ∷ before) = let e = length_numbered first before in omega (arith, e)

stood_by : (k : Kept) (items : List Item) (w : WrittenText) → GoesOn (last_items k) items → IsLaid (map written_item (reverse (last_items k))) w → StoodIn k items (Some w)
stood_by k items w e h = grind (arith, reverse, length-map, length-reverse, length_numbered, reverse-append, map-append, take_at)

nothing_before : (k : Kept) (items : List Item) → k.last ≡ None → GoesOn (last_items k) items
nothing_before k items e = (items, sym (append-nil items) ∙ sym (ap (λ o. items ++ numbered k.numbers (last_pieces o k)) e))

pub stood_before : (base : Parts) (tolerance : ℕ) (given : List Given) (bytes : List ℕ) (p : Playlist) (k : Kept) (written : Option WrittenText) → k ≡ kept_of (told_by base tolerance given)
    → reading limited base bytes ≡ Ok p → IsLaidOut k written → StoodBefore tolerance k p written
stood_before base tolerance given bytes p k None e read h = λ f. record {
  count = sym (ap (λ o. length (last_pieces o k)) h);
  stood = tt;
  on = nothing_before k (kept_items tolerance k p) h;
}
stood_before base tolerance given bytes p k (Some w) e read h =
    let there = kept_of (told_by base tolerance given) in
    let sound = is_read p (can_be_written limited base bytes p read) in
    let law = items_go_on tolerance p (events_of base given) (sound, all_given base given) in
    let follows = kept_follows tolerance p (events_of base given) (sound, all_given base given) in
    subst (λ x. StoodBefore tolerance x p (Some w)) (sym e)
    (λ f. stood_by there (kept_items tolerance there p) w (law.on (sym follows.succeeds ∙ f)) (subst (λ x. IsLaidOut x (Some w)) e h))

-- ---- what is written is the last window then

-- what it was told then
pub told_next : (base : Parts) (tolerance : ℕ) (given : List Given) (bytes : List ℕ) (p : Playlist) → reading limited base bytes ≡ Ok p
    → kept_refusal tolerance (kept_of (told_by base tolerance given)) p ≡ None → told_by base tolerance (refreshed bytes ∷ given) ≡ after_refresh tolerance (told_by base tolerance given) p
told_next base tolerance given bytes p read unrefused =
    let t = told_by base tolerance given in
    let f = kept_follows tolerance p (events_of base given) (is_read p (can_be_written limited base bytes p read), all_given base given) in
    let none : refusal tolerance t p ≡ None = sym f.refused ∙ unrefused in
    ap (λ r. told tolerance (readable r ++ events_of base given)) read ∙ ap (λ o. cond (is_none o) (after_refresh tolerance t p) t) none

window_written : (base : Parts) (tolerance : ℕ) (given : List Given) (bytes : List ℕ) (p : Playlist) → reading limited base bytes ≡ Ok p
    → kept_refusal tolerance (kept_of (told_by base tolerance given)) p ≡ None
    → reverse (last_items (kept_of (told_by base tolerance (refreshed bytes ∷ given)))) ≡ kept_window tolerance (kept_of (told_by base tolerance given)) p
window_written base tolerance given bytes p read unrefused =
    let t = told_by base tolerance given in
    let sound = is_read p (can_be_written limited base bytes p read) in
    let f = kept_follows tolerance p (events_of base given) (sound, all_given base given) in
    let none : refusal tolerance t p ≡ None = sym f.refused ∙ unrefused in
    let now : told tolerance (live.refreshed p ∷ events_of base given) ≡ after_refresh tolerance t p = ap (λ o. cond (is_none o) (after_refresh tolerance t p) t) none in
    let new : told_by base tolerance (refreshed bytes ∷ given) ≡ after_refresh tolerance t p = ap (λ r. told tolerance (readable r ++ events_of base given)) read ∙ now in
    let law = items_go_on tolerance p (events_of base (refreshed bytes ∷ given)) (sound, all_given base (refreshed bytes ∷ given)) in
    law.last
    ∙ (ap (λ (u : Told). window_by (last_playlist u.accepted) u.start u.history) new
    ∙ (ap (λ u. window_after u p) (sym now) ∙ sym (f.window none)))

pub laid_next : (base : Parts) (tolerance : ℕ) (given : List Given) (bytes : List ℕ) (p : Playlist) (k k' : Kept) (w : WrittenText) → k ≡ kept_of (told_by base tolerance given) → k' ≡ kept_of (told_by base tolerance (refreshed bytes ∷ given))
    → reading limited base bytes ≡ Ok p → kept_succession k p ≡ None → list_all can_be_numbered (kept_items tolerance k p) ≡ true
    → IsLaid (map written_item (kept_window tolerance k p)) w → IsLaidOut k' (Some w)
laid_next base tolerance given bytes p k k' w e e' read follows fit laid = grind (arith, window_written, reverse)

-- ---- decisions leave it

pub last_still : (old : ChannelState) (store : Store) (written : Option WrittenText) → last_items (kept_in (record old { store = store })) ≡ last_items (kept_in old)
    → IsLaidOut (kept_in old) written → IsLaidOut (kept_in (record old { store = store })) written
last_still old store None e h = h
last_still old store (Some w) e h = subst (λ items. IsLaid (map written_item (reverse items)) w) (sym e) h
