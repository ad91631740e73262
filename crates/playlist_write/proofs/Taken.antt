-- What a sink took of a text, piece by piece, and what is left of it.
use Rattle.std.proofs.Common.{subst, ◌≡◌, ℕ, ◌+◌, ◌-◌, List, [], ◌++◌, take, drop, length, refl, ap, sym, ◌∙◌, arith, append_assoc, append-nil, length-append}
use Rattle.std.proofs.lemmas.List.{take_at, take-append-drop}
use Rattle.std.proofs.Math.Seq.{take-append-add}
use Rattle.std.specs.Prelude.{Option, Some, None, Result, Ok, Err, OnOk, OnErr}
use Rattle.std.specs.Io.KnownBytes.{Appends}
use Rattle.byte_streams.specs.Handed.{TookFront}
use Rattle.playlist_write.specs.Inner.Taken.{TookAllBut}

-- nothing was taken
pub none_taken : (a : Option (List ℕ)) (text : List ℕ) → TookAllBut a a text text
none_taken None text = tt
none_taken (Some old) text = (refl, omega arith)

-- all was taken
pub all_taken : (a b : Option (List ℕ)) (text : List ℕ) → Appends a b text → TookAllBut a b [] text
all_taken a b text h = grind (arith, append-nil, length-append)

pub took_all : (a b : Option (List ℕ)) (text : List ℕ) → TookAllBut a b [] text → Appends a b text
took_all None b text h = tt
took_all (Some old) None text h = absurd h
took_all (Some old) (Some new) text h = sym (append-nil new) ∙ h.0

-- and then all but a rest of the rest
pub then_taken : (a b c : Option (List ℕ)) (text rest last : List ℕ) → TookAllBut a b rest text → TookAllBut b c last rest → TookAllBut a c last text
then_taken a b c text rest last h g = grind arith

-- what comes later is left too
pub with_later : (a b : Option (List ℕ)) (text rest later : List ℕ) → TookAllBut a b rest text → TookAllBut a b (rest ++ later) (text ++ later)
with_later a b text rest later h = grind (arith, append_assoc)

front_of : (old new rest text : List ℕ) (n : ℕ) → new ++ rest ≡ old ++ text → length new ≡ length old + n → new ≡ old ++ take n text
front_of old new rest text n h l =
    sym (take_at new rest (length new) refl) ∙ ap (take (length new)) h ∙ ap (λ k. take k (old ++ text)) l ∙ take-append-add old text n

-- what was taken is a front
pub front_taken : (a b : Option (List ℕ)) (text rest : List ℕ) → TookAllBut a b rest text → TookFront a b text
front_taken a b text rest h = grind (arith, front_of)

-- and what isn't taken of a text is left of it
rest_left : (a b : Option (List ℕ)) (text : List ℕ) → TookFront a b text → (rest : List ℕ) × TookAllBut a b rest text
rest_left None b text h = ([], tt)
rest_left (Some old) None text h = absurd h
rest_left (Some old) (Some new) text h =
    let n = length new - length old in (
      drop n text,
      (
        ap (λ t. t ++ drop n text) h ∙ append_assoc old (take n text) (drop n text) ∙ ap (λ t. old ++ t) (take-append-drop n text),
        omega (arith, ap length h, length-append old (take n text)),
      ),
    )

-- a front of the rest ends a front of the text
pub then_front : (a b c : Option (List ℕ)) (text rest : List ℕ) → TookAllBut a b rest text → TookFront b c rest → TookFront a c text
then_front a b c text rest h g =
    let left = rest_left b c rest g in front_taken a c text left.0 (then_taken a b c text rest left.0 h left.1)

-- a front of a text is one of a longer text
pub front_of_longer : (a b : Option (List ℕ)) (text later : List ℕ) → TookFront a b text → TookFront a b (text ++ later)
front_of_longer a b text later h =
    let left = rest_left a b text h in front_taken a b (text ++ later) (left.0 ++ later) (with_later a b text left.0 later left.1)

-- the rest in two parts, of which the first is held: of that all but an end is taken, or a front
pub taken_of_held : (a b c : Option (List ℕ)) (text rest held later last : List ℕ) → TookAllBut a b rest text → rest ≡ held ++ later → TookAllBut b c last held
    → TookAllBut a c (last ++ later) text
taken_of_held a b c text rest held later last h e g = grind (arith, then_taken, with_later)

pub front_of_held : (a b c : Option (List ℕ)) (text rest held later : List ℕ) → TookAllBut a b rest text → rest ≡ held ++ later → TookFront b c held → TookFront a c text
front_of_held a b c text rest held later h e g = grind (arith, then_front, front_of_longer)

-- what holds anyway holds of an error, and of success
pub on_err : {A E : Type 0} (r : Result A E) (P : Type 0) → P → OnErr r P
on_err (Ok x) P p = tt
on_err (Err e) P p = p

-- what follows from what holds of success, or of an error
pub ok_with : {A E : Type 0} (r : Result A E) (P Q : Type 0) → (P → Q) → OnOk r P → OnOk r Q
ok_with (Ok x) P Q f p = f p
ok_with (Err e) P Q f p = tt

pub err_with : {A E : Type 0} (r : Result A E) (P Q : Type 0) → (P → Q) → OnErr r P → OnErr r Q
err_with (Ok x) P Q f p = tt
err_with (Err e) P Q f p = f p

-- a text in three parts: the first is held with its front, and what is held after each part is less by what was taken
two_parts : (a b c : Option (List ℕ)) (front date_ranges held segments last : List ℕ) → TookAllBut a b held (front ++ date_ranges) → TookAllBut b c last (held ++ segments)
    → TookAllBut a c last ((front ++ date_ranges) ++ segments)
two_parts a b c front date_ranges held segments last h g =
    then_taken a b c ((front ++ date_ranges) ++ segments) (held ++ segments) last (with_later a b (front ++ date_ranges) held segments h) g

in_parts : (front date_ranges segments end : List ℕ) → ((front ++ date_ranges) ++ segments) ++ end ≡ front ++ (date_ranges ++ (segments ++ end))
in_parts front date_ranges segments end = grind (arith, append_assoc)

pub front_in_date_ranges : (a b : Option (List ℕ)) (front date_ranges later text : List ℕ) → front ++ (date_ranges ++ later) ≡ text → TookFront a b (front ++ date_ranges) → TookFront a b text
front_in_date_ranges a b front date_ranges later text e h = grind (arith, append_assoc, front_of_longer)

pub front_in_segments : (a b c : Option (List ℕ)) (front date_ranges held segments end text : List ℕ) → front ++ (date_ranges ++ (segments ++ end)) ≡ text
    → TookAllBut a b held (front ++ date_ranges) → TookFront b c (held ++ segments) → TookFront a c text
front_in_segments a b c front date_ranges held segments end text e h g =
    let took = then_front a b c ((front ++ date_ranges) ++ segments) (held ++ segments) (with_later a b (front ++ date_ranges) held segments h) g in
    subst (λ t. TookFront a c t) (in_parts front date_ranges segments end ∙ e) (front_of_longer a c ((front ++ date_ranges) ++ segments) end took)

before_last : (a b c : Option (List ℕ)) (front date_ranges held segments last end text : List ℕ) → front ++ (date_ranges ++ (segments ++ end)) ≡ text
    → TookAllBut a b held (front ++ date_ranges) → TookAllBut b c last (held ++ segments) → TookAllBut a c (last ++ end) text
before_last a b c front date_ranges held segments last end text e h g = grind (arith, in_parts, with_later, two_parts)

pub front_in_last : (a b c d : Option (List ℕ)) (front date_ranges held segments last end text : List ℕ) → front ++ (date_ranges ++ (segments ++ end)) ≡ text
    → TookAllBut a b held (front ++ date_ranges) → TookAllBut b c last (held ++ segments) → TookFront c d (last ++ end) → TookFront a d text
front_in_last a b c d front date_ranges held segments last end text e h g f =
    then_front a c d text (last ++ end) (before_last a b c front date_ranges held segments last end text e h g) f

pub whole_text : (a b c d : Option (List ℕ)) (front date_ranges held segments last end text : List ℕ) → front ++ (date_ranges ++ (segments ++ end)) ≡ text
    → TookAllBut a b held (front ++ date_ranges) → TookAllBut b c last (held ++ segments) → Appends c d (last ++ end) → Appends a d text
whole_text a b c d front date_ranges held segments last end text e h g f =
    took_all a d text (then_taken a c d text (last ++ end) [] (before_last a b c front date_ranges held segments last end text e h g) (all_taken c d (last ++ end) f))

-- a text in its four parts, each of which is told in other words
pub as_parts : (front first header r date_ranges s segments end : List ℕ) → front ≡ first ++ header → r ≡ date_ranges → s ≡ segments
    → front ++ (r ++ (s ++ end)) ≡ first ++ (header ++ (date_ranges ++ (segments ++ end)))
as_parts front first header r date_ranges s segments end h e f = grind (arith, append_assoc)
