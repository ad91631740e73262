-- Tags that say nothing new leave the known breaks as they are.
use Rattle.std.proofs.Common.{◌≡◌, ℕ, Bool, true, false, cond, not, ◌&&◌, ◌||◌, List, [], ◌∷◌, map, filter, refl, sym, ap, ◌∙◌, true≢false, subst}
use Rattle.std.specs.Prelude.{Option, bytes_eq, fold}
use Rattle.std.specs.List.{list_any, IsDistinct}
use Rattle.std.specs.Map.{keys_of}
use Rattle.std.proofs.lemmas.Slice.Eq.{bytes_eq-Decides}
use Rattle.playlist_model.specs.declared.DateRange.{DateRange}
use Rattle.break_finder.specs.declared.described.Described.{Described}
use Rattle.break_finder.specs.Breaks.{Break, described_break_and_tag}
use Rattle.break_finder.specs.Known.{Accepted, is_tag_of, is_this_break, more_said, carry}
use Rattle.break_finder.specs.Kept.{break_at}
use Rattle.break_finder.specs.Inner.Kept.{BreaksById}
use Rattle.break_finder.specs.Inner.Known.{break_stands, with_tag, TagsSayNothingNew, walked}
use Rattle.break_finder.proofs.Walked.{Fits, walk_front, walked_is_carried}
use Rattle.break_finder.proofs.KeptLaws.{fits_kept}

-- ---- all of them

itself : (a : List ℕ) → bytes_eq a a ≡ true
itself a = (bytes_eq-Decides a a).1 refl

either_true : (a : Bool) → (a || true) ≡ true
either_true true = refl
either_true false = refl

-- the tags that come later are among all
tagged_more : (id : List ℕ) (tag : DateRange) (tags : List DateRange) → list_any (is_tag_of id) tags ≡ true → list_any (is_tag_of id) (tag ∷ tags) ≡ true
tagged_more id tag tags h = ap (λ b. is_tag_of id tag || b) h ∙ either_true (is_tag_of id tag)

all_stand : (all : List DateRange) (carried : Option (List ℕ)) (breaks : List Break) (tags : List DateRange) → ((id : List ℕ) → list_any (is_tag_of id) tags ≡ true → list_any (is_tag_of id) all ≡ true)
    → TagsSayNothingNew breaks tags → filter (break_stands all carried) breaks ≡ breaks
all_stand all carried [] tags more h = refl
all_stand all carried (b ∷ breaks) [] more h = absurd h
all_stand all carried (b ∷ breaks) (t ∷ tags) more h =
    let own : is_tag_of b.id t ≡ true = ap (bytes_eq b.id) (sym h.0) ∙ itself b.id in
    let here : list_any (is_tag_of b.id) all ≡ true = more b.id (ap (λ c. c || list_any (is_tag_of b.id) tags) own) in
    ap (λ c. cond (c || is_this_break b.id carried) (b ∷ filter (break_stands all carried) breaks) (filter (break_stands all carried) breaks)) here
    ∙ ap (λ bs. b ∷ bs) (all_stand all carried breaks tags (λ id e. more id (tagged_more id t tags e)) h.2)

and_left : (a b : Bool) → (a && b) ≡ true → a ≡ true
and_left true b e = refl
and_left false b e = e

and_right : (a b : Bool) → (a && b) ≡ true → b ≡ true
and_right true b e = e
and_right false b e = absurd (true≢false (sym e))

not_true : (a : Bool) → not a ≡ true → a ≡ false
not_true true e = absurd (true≢false (sym e))
not_true false e = refl

-- no tag of the later breaks is one of the first
others : (b : Break) (q : List ℕ → Bool) (breaks : List Break) (tags : List DateRange) → ((id : List ℕ) → q id ≡ true → bytes_eq b.id id ≡ false) → Fits q breaks → TagsSayNothingNew breaks tags
    → (filter (is_tag_of b.id) tags ≡ []) × (filter (λ (t : DateRange). not (bytes_eq b.id t.id)) tags ≡ tags)
unfolding Fits
others b q [] [] apart f h = (refl, refl)
others b q [] (t ∷ tags) apart f h = absurd h
others b q (x ∷ breaks) [] apart f h = absurd h
others b q (x ∷ breaks) (t ∷ tags) apart f h =
    let other : bytes_eq b.id t.id ≡ false = ap (bytes_eq b.id) (sym h.0) ∙ apart x.id f.0 in
    let later = others b (λ id. q id && not (bytes_eq x.id id)) breaks tags (λ id e. apart id (and_left (q id) (not (bytes_eq x.id id)) e)) f.1 h.2 in (
      ap (λ c. cond c (t ∷ filter (is_tag_of b.id) tags) (filter (is_tag_of b.id) tags)) other ∙ later.0,
      ap (λ c. cond (not c) (t ∷ filter (λ (u : DateRange). not (bytes_eq b.id u.id)) tags) (filter (λ (u : DateRange). not (bytes_eq b.id u.id)) tags)) other ∙ ap (λ ts. t ∷ ts) later.1,
    )

unchanged : (p : List ℕ → Bool) (breaks : List Break) (tags : List DateRange) → Fits p breaks → TagsSayNothingNew breaks tags → fold with_tag breaks tags ≡ breaks
unfolding Fits
unchanged p [] [] f h = refl
unchanged p [] (t ∷ tags) f h = absurd h
unchanged p (b ∷ breaks) [] f h = absurd h
unchanged p (b ∷ breaks) (t ∷ tags) f h =
    let own : bytes_eq t.id b.id ≡ true = ap (λ id. bytes_eq id b.id) (sym h.0) ∙ itself b.id in
    let same : with_tag (b ∷ breaks) t ≡ b ∷ breaks =
    ap (λ c. cond c (record { id = b.id; said = described_break_and_tag b.said t } ∷ breaks) (b ∷ with_tag breaks t)) own ∙ ap (λ (s : Described). record { id = b.id; said = s } ∷ breaks) h.1 in
    let apart = others b (λ id. p id && not (bytes_eq b.id id)) breaks tags (λ id e. not_true (bytes_eq b.id id) (and_right (p id) (not (bytes_eq b.id id)) e)) f.1 h.2 in
    ap (λ bs. fold with_tag bs tags) same
    ∙ (walk_front b breaks tags
    ∙ (ap (λ own. more_said own b ∷ fold with_tag breaks (filter (λ (u : DateRange). not (bytes_eq b.id u.id)) tags)) apart.0
    ∙ (ap (λ ts. b ∷ fold with_tag breaks ts) apart.1 ∙ ap (λ bs. b ∷ bs) (unchanged (λ id. p id && not (bytes_eq b.id id)) breaks tags f.1 h.2))))

-- ---- a refresh

-- nothing new is said: what is known stays
pub nothing_said_anew : (r : Accepted) (breaks : List Break) (tags : List DateRange) (es : BreaksById) → map break_at es ≡ breaks → tags ≡ r.playlist.date_ranges → IsDistinct bytes_eq (keys_of es)
    → TagsSayNothingNew (map break_at es) tags → breaks ≡ carry r breaks
nothing_said_anew r breaks tags es view_is tags_are distinct said =
    let known = map break_at es in
    let fits = fits_kept es distinct in
    let stand : filter (break_stands tags r.carried) known ≡ known = all_stand tags r.carried known tags (λ id e. e) said in
    let same : known ≡ fold with_tag (filter (break_stands tags r.carried) known) tags = sym (ap (λ bs. fold with_tag bs tags) stand ∙ unchanged (λ id. true) known tags fits said) in
    let here : known ≡ walked r known = same ∙ ap (λ ts. fold with_tag (filter (break_stands ts r.carried) known) ts) tags_are in
    let all : filter (break_stands r.playlist.date_ranges r.carried) known ≡ known = ap (λ ts. filter (break_stands ts r.carried) known) (sym tags_are) ∙ stand in
    sym view_is
    ∙ (here
    ∙ (walked_is_carried r known (subst (Fits (λ id. true)) (sym all) fits) ∙ ap (carry r) view_is))
