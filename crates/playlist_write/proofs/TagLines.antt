-- Lines in the parts in which they are written.
use Rattle.std.proofs.Common.{◌≡◌, ℕ, List, [], ◌∷◌, ◌++◌, ap, ◌∙◌, refl, sym, append_assoc, append-nil, length, Some, true, false, arith}
use Rattle.std.specs.Prelude.{codes, bytes_eq, ◌==◌, ◌&&◌}
use Rattle.std.proofs.lemmas.Bool.{and_parts}
use Rattle.std.proofs.lemmas.Bool.Decides.{nat_tests}
use Rattle.attr_list.specs.Attributes.{Pair, pair_spelling}
use Rattle.date_times.specs.Digits.{fixed_digits}
use Rattle.fixed_duration.specs.Duration.{duration_text}
use Rattle.playlist_model.specs.declared.Key.{Key}
use Rattle.playlist_model.specs.declared.InitSection.{InitSection}
use Rattle.playlist_model.specs.Said.{duration, byte_range}
use Rattle.playlist_model.specs.Carried.{after_commas}
use Rattle.playlist_model.proofs.Carried.{attributes_are, commas_append}
use Rattle.playlist_write.specs.Spelling.{unquoted_pair, in_quotes, iv_pairs, format_pairs, part_pairs, byte_range_text}
use Rattle.playlist_write.specs.Owed.{line_saying, with_feed}
use Rattle.playlist_write.specs.Inner.KeyParts.{HasKeyFront, text_after_uri, text_before_quote, with_iv}
use Rattle.playlist_write.specs.Inner.Owed.{key_line, init_section_line}

assoc6 : (a b c d e f g : List ℕ) → a ++ (b ++ (c ++ (d ++ (e ++ (f ++ g))))) ≡ (a ++ (b ++ (c ++ (d ++ (e ++ f))))) ++ g
assoc6 a b c d e f g = simp append_assoc

assoc5 : (a b c d e : List ℕ) → a ++ (b ++ (c ++ (d ++ e))) ≡ (a ++ (b ++ (c ++ d))) ++ e
assoc5 a b c d e = simp append_assoc

pub key_parts : (k : Key) → codes "#EXT-X-KEY:" ++ (pair_spelling (unquoted_pair (codes "METHOD") k.method) ++ (pair_spelling (in_quotes (codes ",URI") k.uri)
    ++ (after_commas (iv_pairs k.iv) ++ (after_commas (format_pairs k.format) ++ (k.other_attributes ++ 10 ∷ []))))) ≡ key_line k
unfolding line_saying
key_parts k =
    let method = unquoted_pair (codes "METHOD") k.method in let uri = in_quotes (codes "URI") k.uri in
    assoc6 (codes "#EXT-X-KEY:") (pair_spelling method) (pair_spelling (in_quotes (codes ",URI") k.uri)) (after_commas (iv_pairs k.iv)) (after_commas (format_pairs k.format)) k.other_attributes (10 ∷ [])
    ∙ ap (λ t. with_feed (codes "#EXT-X-KEY:" ++ t)) (assoc5 (pair_spelling method) (pair_spelling (in_quotes (codes ",URI") k.uri)) (after_commas (iv_pairs k.iv)) (after_commas (format_pairs k.format)) k.other_attributes)
    ∙ ap (λ t. with_feed (codes "#EXT-X-KEY:" ++ ((pair_spelling method ++ (pair_spelling (in_quotes (codes ",URI") k.uri) ++ t)) ++ k.other_attributes))) (sym (commas_append (iv_pairs k.iv) (format_pairs k.format)))
    ∙ ap (λ t. with_feed (codes "#EXT-X-KEY:" ++ (t ++ k.other_attributes))) (sym (attributes_are method (uri ∷ (iv_pairs k.iv ++ format_pairs k.format))))

-- the line in the pieces in which it is written
pub key_pieces : (k : Key) → text_before_quote k ++ text_after_uri k ≡ key_line k
key_pieces k =
    let rest = after_commas (iv_pairs k.iv) ++ (after_commas (format_pairs k.format) ++ (k.other_attributes ++ 10 ∷ [])) in
    append_assoc (codes "#EXT-X-KEY:METHOD=" ++ (k.method ++ codes ",URI=\"")) k.uri (text_after_uri k)
    ∙ ap (λ t. codes "#EXT-X-KEY:METHOD=" ++ t) (append_assoc k.method (codes ",URI=\"") (k.uri ++ text_after_uri k))
    ∙ ap (λ t. codes "#EXT-X-KEY:METHOD=" ++ (k.method ++ (codes ",URI=\"" ++ t))) (sym (append_assoc k.uri (34 ∷ []) rest)) ∙ key_parts k

no_bytes : (text : List ℕ) → (length text == 0) ≡ true → text ≡ []
no_bytes [] h = refl
no_bytes (b ∷ text) h = absurd (grind (arith, nat_tests))

after_iv : (k : Key) (iv : ℕ) (others : List ℕ) (pairs : List Pair) → others ≡ [] → pairs ≡ []
    → (34 ∷ after_commas (iv_pairs (Some iv))) ++ (after_commas pairs ++ (others ++ 10 ∷ [])) ≡ codes "\",IV=0x" ++ (fixed_digits 16 32 iv ++ 10 ∷ [])
after_iv k iv others pairs o p = rw (o, p) (ap (λ t. codes "\",IV=0x" ++ (t ++ 10 ∷ [])) (append-nil (fixed_digits 16 32 iv)))

no_format : (format : List ℕ) → bytes_eq format (codes "identity") ≡ true → format_pairs format ≡ []
no_format format h = grind arith

-- the front of a line that ends with the initialisation vector
pub key_front : (k : Key) → ((length k.other_attributes == 0) && bytes_eq k.format (codes "identity")) ≡ true → HasKeyFront k (text_before_quote k)
key_front k h =
    let parts = and_parts _ _ h in
    record {
      line = λ iv. sym (key_pieces (with_iv (Some iv) k))
          ∙ ap (λ t. text_before_quote k ++ t) (after_iv k iv k.other_attributes (format_pairs k.format) (no_bytes k.other_attributes parts.0) (no_format k.format parts.1));
    }

assoc3 : (a b c d : List ℕ) → a ++ (b ++ (c ++ d)) ≡ (a ++ (b ++ c)) ++ d
assoc3 a b c d = simp append_assoc

pub init_section_parts : (s : InitSection) → codes "#EXT-X-MAP:" ++ (pair_spelling (in_quotes (codes "URI") s.uri) ++ (after_commas (part_pairs s.byte_range) ++ 10 ∷ [])) ≡ init_section_line s
unfolding line_saying
init_section_parts s =
    assoc3 (codes "#EXT-X-MAP:") (pair_spelling (in_quotes (codes "URI") s.uri)) (after_commas (part_pairs s.byte_range)) (10 ∷ [])
    ∙ ap (λ t. with_feed (codes "#EXT-X-MAP:" ++ t)) (sym (attributes_are (in_quotes (codes "URI") s.uri) (part_pairs s.byte_range)))

pub format_part : (format : List ℕ) → bytes_eq format (codes "identity") ≡ false → pair_spelling (in_quotes (codes ",KEYFORMAT") format) ≡ after_commas (format_pairs format)
format_part format h = grind (arith, append-nil)

assoc2 : (a b c : List ℕ) → a ++ (b ++ c) ≡ (a ++ b) ++ c
assoc2 a b c = simp append_assoc

-- the line of a duration in the pieces in which it is written
pub duration_parts : (n : ℕ) (title : List ℕ) → codes "#EXTINF:" ++ (duration_text n ++ (44 ∷ [] ++ with_feed title)) ≡ line_saying (duration n title)
unfolding line_saying
duration_parts n title = grind (arith, append_assoc)

pub byte_range_parts : (n o : ℕ) → codes "#EXT-X-BYTERANGE:" ++ (byte_range_text n o ++ 10 ∷ []) ≡ line_saying (byte_range n (Some o))
unfolding line_saying
byte_range_parts n o = assoc2 (codes "#EXT-X-BYTERANGE:") (byte_range_text n o) (10 ∷ [])
