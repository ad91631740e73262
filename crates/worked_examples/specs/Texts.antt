-- Durations, attribute lists, numbers and times.
use Rattle.std.specs.Prelude.{ℕ, ◌-◌, ◌^◌, pos, negsuc, List, [], ◌∷◌, ◌++◌, replicate, codes, Bool, Some, None, Ok, Err, true, false}
use Rattle.spec_words.specs.Bytes.{digit_zero}
use Rattle.fixed_duration.specs.declared.DurationFault.TheVariants.{Empty, NotDigits, TooLarge}
use Rattle.fixed_duration.specs.Duration.{duration_of, duration_text, rounded_seconds_of}
use Rattle.attr_list.specs.declared.AttrFault.TheVariants.{BadName, NoEquals, BadValue, OpenQuote, Twice, TooMany}
use Rattle.attr_list.specs.Attributes.{Pair, is_value, attributes_of, attributes_text}
use Rattle.attr_list.specs.Numbers.{decimal_of, hex_of}
use Rattle.date_times.specs.Instant.{instant_of}
use Rattle.date_times.specs.Times.{time_text}
use Rattle.worked_examples.specs.Tables.{HasValues}

-- RFC 8216, 4.2 and 4.3.2.1: a decimal-floating-point number of seconds, here in nanoseconds and below 1,000,000 s
abbrev pub DurationsAreRead : Type 0
DurationsAreRead = HasValues duration_of (
    (codes "10", Ok 10000000000)
    ∷ (codes "9.5", Ok 9500000000)
    ∷ (codes "0.000000001", Ok 1)
    ∷ (codes "0.0000000019", Ok 1)
    ∷ (codes "5.", Ok 5000000000)
    ∷ (codes ".5", Ok 500000000)
    ∷ (codes "999999.999999999", Ok 999999999999999)
    ∷ (codes "1000000", Err TooLarge)
    ∷ (codes "", Err Empty)
    ∷ (codes ".", Err NotDigits)
    ∷ (codes ".x", Err NotDigits)
    ∷ (codes "1,5", Err NotDigits)
    ∷ (codes "-1", Err NotDigits)
    ∷ (codes "1.2.3", Err NotDigits)
    ∷ (codes "1000000x", Err NotDigits)
    ∷ (codes "1000000.x", Err NotDigits)
    ∷ (replicate 45 digit_zero ++ codes "10.5", Ok 10500000000)
    ∷ (replicate 45 digit_zero ++ codes "1000000", Err TooLarge)
    ∷ (replicate 45 digit_zero ++ codes "x", Err NotDigits)
    ∷ (codes "1." ++ replicate 45 digit_zero, Ok 1000000000)
    ∷ (codes "1." ++ (replicate 45 digit_zero ++ codes "x"), Err NotDigits) ∷ [])

-- the same written, with no zero at the end of a fraction
abbrev pub DurationsAreWritten : Type 0
DurationsAreWritten = HasValues duration_text (
    (0, codes "0") ∷ (10000000000, codes "10") ∷ (9500000000, codes "9.5") ∷ (1, codes "0.000000001") ∷ (12000000120, codes "12.00000012") ∷ (1000000000, codes "1") ∷ [])

-- 4.3.3.1: EXTINF is rounded to the nearest integer
abbrev pub DurationsAreRounded : Type 0
DurationsAreRounded = HasValues rounded_seconds_of (
    (9499999999, 9) ∷ (9500000000, 10) ∷ (10499999999, 10) ∷ (0, 0) ∷ (499999999, 0) ∷ (500000000, 1) ∷ [])

abbrev pub plain_pair : List ℕ → List ℕ → Pair
plain_pair name value = record { name = name; value = value; quoted = false }

-- 45 times `A`
abbrev pub letters : List ℕ
letters = replicate 45 65

abbrev pub in_quotes : List ℕ → List ℕ → Pair
in_quotes name value = record { name = name; value = value; quoted = true }

-- 4.2: pairs of AttributeName=AttributeValue, separated by commas and with no whitespace; a name stands once
abbrev pub AttributesAreRead : Type 0
AttributesAreRead = HasValues (attributes_of None) (
    (codes "A=1,B-2=\"x, y\",C=\"\"", Ok (plain_pair (codes "A") (codes "1") ∷ in_quotes (codes "B-2") (codes "x, y") ∷ in_quotes (codes "C") [] ∷ []))
    ∷ (codes "A=0x1F=", Ok (plain_pair (codes "A") (codes "0x1F=") ∷ []))
    ∷ (codes "", Err BadName)
    ∷ (codes "a=1", Err BadName)
    ∷ (codes "@=1", Err BadName)
    ∷ (codes "=1", Err BadName)
    ∷ (codes "[=1", Err BadName)
    ∷ (codes "/=1", Err BadName)
    ∷ (codes ":=1", Err BadName)
    ∷ (codes "Z9=1", Ok (plain_pair (codes "Z9") (codes "1") ∷ []))
    ∷ (codes "A0=1", Ok (plain_pair (codes "A0") (codes "1") ∷ []))
    ∷ (codes "A=1,", Err BadName)
    ∷ (codes "A=1, B=2", Err BadName)
    ∷ (codes "A", Err NoEquals)
    ∷ (codes "A=", Err BadValue)
    ∷ (codes "A=1 2", Err BadValue)
    ∷ (codes "A=1\"", Err BadValue)
    ∷ (codes "A=\"1\"2", Err BadValue)
    ∷ (codes "A=\"1", Err OpenQuote)
    ∷ (codes "A=1,A=2", Err Twice)
    ∷ (codes "A=1,B=2,C=3,D=4,E=5", Ok (plain_pair (codes "A") (codes "1") ∷ plain_pair (codes "B") (codes "2") ∷ plain_pair (codes "C") (codes "3") ∷ plain_pair (codes "D") (codes "4") ∷ plain_pair (codes "E") (codes "5") ∷ []))
    ∷ (codes "A=1,B=2,C=3,D=4,D=5", Err Twice)
    ∷ (letters ++ codes "=1", Ok (plain_pair letters (codes "1") ∷ []))
    ∷ (letters ++ codes "=\"1\"", Ok (in_quotes letters (codes "1") ∷ []))
    ∷ (letters ++ codes "a=1", Err BadName)
    ∷ (letters ++ (codes "=1," ++ (letters ++ codes "=2")), Err Twice)
    ∷ (codes "A=" ++ letters, Ok (plain_pair (codes "A") letters ∷ []))
    ∷ (codes "A=" ++ (letters ++ codes "\""), Err BadValue)
    ∷ (codes "A=\"" ++ (letters ++ codes "\""), Ok (in_quotes (codes "A") letters ∷ []))
    ∷ (codes "A=\"" ++ (letters ++ codes "\"2"), Err BadValue) ∷ [])

-- of two faults of a pair that comes first: too many, its name, its `=`, its name once more, its value
abbrev pub PairFaultsAreOrdered : Type 0
PairFaultsAreOrdered = HasValues (attributes_of (Some 2)) (
    (codes "A=1,B=2,c", Err TooMany)
    ∷ (codes "A=1,B=2,A=", Err TooMany)
    ∷ (codes "a", Err BadName)
    ∷ (codes "a=", Err BadName)
    ∷ (codes "A=1,A", Err NoEquals)
    ∷ (codes "A=1,A=", Err Twice)
    ∷ (codes "A=1,A=\"", Err Twice) ∷ [])

-- of at most so many
abbrev pub AttributesAreLimited : Type 0
AttributesAreLimited = HasValues (attributes_of (Some 4)) (
    (codes "A=1,B=2", Ok (plain_pair (codes "A") (codes "1") ∷ plain_pair (codes "B") (codes "2") ∷ []))
    ∷ (codes "A=1,B=2,C=3,D=4", Ok (plain_pair (codes "A") (codes "1") ∷ plain_pair (codes "B") (codes "2") ∷ plain_pair (codes "C") (codes "3") ∷ plain_pair (codes "D") (codes "4") ∷ []))
    ∷ (codes "A=1,B=2,C=3,D=4,E=5", Err TooMany) ∷ [])

-- whether a text can be a value, between quotes or without: no quote between them; else not empty, and no comma, quote or space
abbrev pub ValuesAreChecked : Type 0
ValuesAreChecked = HasValues (λ (it : Bool × List ℕ). is_value it.0 it.1) (
    ((true, []), true)
    ∷ ((true, codes "\"1"), false)
    ∷ ((false, codes ",1"), false)
    ∷ ((true, codes "1, 2"), true)
    ∷ ((true, codes "1\"2"), false)
    ∷ ((true, letters ++ codes "\""), false)
    ∷ ((false, []), false)
    ∷ ((false, codes "1"), true)
    ∷ ((false, codes "1,2"), false)
    ∷ ((false, codes "1\"2"), false)
    ∷ ((false, codes "1 2"), false)
    ∷ ((false, 49 ∷ 9 ∷ 50 ∷ []), true)
    ∷ ((false, letters ++ codes ","), false) ∷ [])

abbrev pub AttributesAreWritten : Type 0
AttributesAreWritten = HasValues attributes_text (
    ([], [])
    ∷ (plain_pair (codes "A") (codes "1") ∷ in_quotes (codes "B") (codes "x, y") ∷ [], codes "A=1,B=\"x, y\"")
    ∷ (plain_pair (codes "A") (codes "1") ∷ plain_pair (codes "B") (codes "2") ∷ plain_pair (codes "C") (codes "3") ∷ plain_pair (codes "D") letters ∷ [], codes "A=1,B=2,C=3,D=" ++ letters)
    ∷ (in_quotes (codes "A") letters ∷ [], codes "A=\"" ++ (letters ++ codes "\"")) ∷ [])

-- 4.2: decimal-integer, from 0 to 2^64-1, of 1 to 20 digits
abbrev pub DecimalsAreRead : Type 0
DecimalsAreRead = HasValues decimal_of (
    (codes "0", Some 0)
    ∷ (codes "00000000000000000012", Some 12)
    ∷ (codes "000000000000000000012", None)
    ∷ (codes "18446744073709551615", Some 18446744073709551615)
    ∷ (codes "18446744073709551616", None)
    ∷ (codes "", None)
    ∷ (codes "-1", None)
    ∷ (codes "1.0", None) ∷ [])

-- 4.2: hexadecimal-sequence; an IV has 128 bits (4.3.2.4)
abbrev pub SequencesAreRead : Type 0
SequencesAreRead = HasValues hex_of (
    (codes "0x1F", Some 31)
    ∷ (codes "0Xff", Some 255)
    ∷ (codes "0xffffffffffffffffffffffffffffffff", Some (2 ^ 128 - 1))
    ∷ (codes "0x000000000000000000000000000000001", None)
    ∷ (codes "0x", None)
    ∷ (codes "0x1G", None)
    ∷ (codes "/x1F", None)
    ∷ (codes "0w1F", None)
    ∷ (codes "0y1F", None)
    ∷ (codes "0W1F", None)
    ∷ (codes "1F", None)
    ∷ (codes "1x1F", None)
    ∷ (codes "0xG", None) ∷ [])

-- 4.3.2.6: a date and time of ISO 8601, here in nanoseconds from 1970 on, of the years 1900 to 2199
abbrev pub InstantsAreRead : Type 0
InstantsAreRead = HasValues instant_of (
    (codes "1970-01-01T00:00:00Z", Some (pos 0))
    ∷ (codes "1969-12-31T23:59:59.5Z", Some (negsuc 499999999))
    ∷ (codes "2024-05-01T12:00:00.000000001Z", Some (pos 1714564800000000001))
    ∷ (codes "2024-05-01T14:00:00+02:00", Some (pos 1714564800000000000))
    ∷ (codes "2024-05-01T10:30:00-0130", Some (pos 1714564800000000000))
    ∷ (codes "2024-05-01T13:00:00+01", Some (pos 1714564800000000000))
    ∷ (codes "2024-05-01T12:00:00", Some (pos 1714564800000000000))
    ∷ (codes "2000-02-29T00:00:00Z", Some (pos 951782400000000000))
    ∷ (codes "1904-02-29T00:00:00Z", Some (negsuc 2077747199999999999))
    ∷ (codes "2100-02-29T00:00:00Z", None)
    ∷ (codes "2023-03-01T00:00:00Z", Some (pos 1677628800000000000))
    ∷ (codes "2023-12-31T00:00:00Z", Some (pos 1703980800000000000))
    ∷ (codes "2024-11-31T00:00:00Z", None)
    ∷ (codes "2024-13-01T00:00:00Z", None)
    ∷ (codes "2024-00-01T00:00:00Z", None)
    ∷ (codes "2024-05-00T00:00:00Z", None)
    ∷ (codes "2024-05-01T24:00:00Z", None)
    ∷ (codes "2024-05-01T12:60:00Z", None)
    ∷ (codes "2024-12-31T23:59:60Z", None)
    ∷ (codes "2024-05-01 12:00:00Z", None)
    ∷ (codes "2024-05-01T12:00:00z", None)
    ∷ (codes "2024-05-01T12:00:00.Z", None)
    ∷ (codes "2024-05-01T12:00:00.0000000001Z", None)
    ∷ (codes "2024-05-01T12:00:00+24:00", None)
    ∷ (codes "2024-05-01T12:00:00+02:60", None)
    ∷ (codes "2024-05-01T12:00:00+2", None)
    ∷ (codes "1900-01-01T00:00:00Z", Some (negsuc 2208988799999999999))
    ∷ (codes "1899-12-31T23:59:59Z", None)
    ∷ (codes "2199-12-31T23:59:59.999999999Z", Some (pos 7258118399999999999))
    ∷ (codes "2200-01-01T00:00:00Z", None)
    ∷ (codes "1899-12-31T23:59:59.999999999Z", None)
    ∷ (codes "1901-01-01T00:00:00Z", Some (negsuc 2177452799999999999))
    ∷ (codes "2001-01-01T00:00:00Z", Some (pos 978307200000000000))
    ∷ (codes "2024-05-01T14:00:10.25+02:00", Some (pos 1714564810250000000))
    ∷ (codes "2024-05-01T12:00:10.1000001", Some (pos 1714564810100000100))
    ∷ (codes "2024-02-30T00:00:00Z", None)
    ∷ (codes "2199-12-31T23:59:59-00:01", None) ∷ [])

-- April, June, September and November have 30 days
abbrev pub MonthsEnd : Type 0
MonthsEnd = HasValues instant_of (
    (codes "2024-04-31T00:00:00Z", None) ∷ (codes "2024-06-31T00:00:00Z", None) ∷ (codes "2024-09-31T00:00:00Z", None) ∷ [])

-- each place of the form has its digit or its sign
abbrev pub FormsAreChecked : Type 0
FormsAreChecked = HasValues instant_of (
    (codes "2024-05-01T12:00:0", None)
    ∷ (codes "202a-05-01T12:00:00Z", None)
    ∷ (codes "2024-0a-01T12:00:00Z", None)
    ∷ (codes "2024-05-0aT12:00:00Z", None)
    ∷ (codes "2024-05-01T0a:00:00Z", None)
    ∷ (codes "2024-05-01T12:0a:00Z", None)
    ∷ (codes "2024-05-01T12:00:0aZ", None)
    ∷ (codes "2024,05-01T12:00:00Z", None)
    ∷ (codes "2024.05-01T12:00:00Z", None)
    ∷ (codes "2024-05,01T12:00:00Z", None)
    ∷ (codes "2024-05.01T12:00:00Z", None)
    ∷ (codes "2024-05-01U12:00:00Z", None)
    ∷ (codes "2024-05-01T12900:00Z", None)
    ∷ (codes "2024-05-01T12;00:00Z", None)
    ∷ (codes "2024-05-01T12:00900Z", None)
    ∷ (codes "2024-05-01T12:00;00Z", None) ∷ [])

-- `Z` alone, or `hh:mm`, `hhmm` or `hh` after a sign
abbrev pub OffsetsAreRead : Type 0
OffsetsAreRead = HasValues instant_of (
    (codes "2024-05-01T12:00:00+23:00", Some (pos 1714482000000000000))
    ∷ (codes "2024-05-01T12:00:00+00:59", Some (pos 1714561260000000000))
    ∷ (codes "2024-05-01T12:00:00Z0", None)
    ∷ (codes "2024-05-01T12:00:00Y", None)
    ∷ (codes "2024-05-01T12:00:00*02:00", None)
    ∷ (codes "2024-05-01T12:00:00,02:00", None)
    ∷ (codes "2024-05-01T12:00:00/02:00", None)
    ∷ (codes "2024-05-01T12:00:00+0a:00", None)
    ∷ (codes "2024-05-01T12:00:00+02:0a", None)
    ∷ (codes "2024-05-01T12:00:00+020a", None)
    ∷ (codes "2024-05-01T12:00:00+02:0", None)
    ∷ (codes "2024-05-01T12:00:00+020", None)
    ∷ (codes "2024-05-01T12:00:00+02000", None) ∷ [])

-- in UTC, with three decimals, or nine if three would lose something
abbrev pub InstantsAreWritten : Type 0
InstantsAreWritten = HasValues time_text (
    (pos 1714564800000000000, codes "2024-05-01T12:00:00.000Z")
    ∷ (pos 1714564810250000000, codes "2024-05-01T12:00:10.250Z")
    ∷ (pos 1714564810250000001, codes "2024-05-01T12:00:10.250000001Z")
    ∷ (pos 1714564810100000100, codes "2024-05-01T12:00:10.100000100Z")
    ∷ (pos 951782400000000000, codes "2000-02-29T00:00:00.000Z")
    ∷ (pos 1703980800000000000, codes "2023-12-31T00:00:00.000Z")
    ∷ (negsuc 499999999, codes "1969-12-31T23:59:59.500Z")
    ∷ (negsuc 2208988799999999999, codes "1900-01-01T00:00:00.000Z")
    ∷ (negsuc 2177452799999999999, codes "1901-01-01T00:00:00.000Z")
    ∷ (pos 978220800000000000, codes "2000-12-31T00:00:00.000Z")
    ∷ (pos 7258118399999999999, codes "2199-12-31T23:59:59.999999999Z") ∷ [])
