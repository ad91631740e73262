-- What a splice section says, by the tables of ANSI/SCTE 35.
use Rattle.std.specs.Prelude.{true, false, [], ◌∷◌, codes, Some, None, Ok, Err}
use Rattle.scte35_codec.specs.declared.fault.SpliceFault.TheVariants.{NotHex, TooShort, TableId, Length, Protocol, Encrypted, CommandLength}
use Rattle.scte35_codec.specs.Section.{Program, Components, Insert, Other}
use Rattle.scte35_codec.specs.Hexadecimal.{reading_hex}
use Rattle.worked_examples.specs.Tables.{HasValues}

-- 9.6 splice_info_section(), 9.7.3 splice_insert(), 9.8.1 splice_time(), 9.8.2 break_duration(): a splice_insert with all its
-- fields; an immediate one; components with and without times; one whose time isn't specified; a cancelled one, and the
-- same with a command length of 0xFFF; a time_signal; a splice_null; then a fault for each row
abbrev pub SplicesAreRead : Type 0
SplicesAreRead = HasValues reading_hex ((
  codes "0xFC30280000000000030412301405480000017F6FFF000000057E00015F90010203040002AABBCC01020304",
  Ok (record { pts_adjustment = 3; cw_index = 4; tier = 291; command = Insert (record { event_id = 1207959553; body = Some (record { out_of_network = false; immediate = false; target = Program (Some (record { pts = Some 4294967301 })); duration = Some (record { auto_return = false; ticks = 90000 }); unique_program_id = 258; avail_num = 3; avails_expected = 4 }) }); descriptors = 170 ∷ 187 ∷ []; stuffing = 204 ∷ []; crc = 16909060 }),
)
    ∷ (
      codes "0xFC302000000000000000FFF00F05000000017FFFFE002932E000010000000000000000",
      Ok (record { pts_adjustment = 0; cw_index = 0; tier = 4095; command = Insert (record { event_id = 1; body = Some (record { out_of_network = true; immediate = true; target = Program None; duration = Some (record { auto_return = true; ticks = 2700000 }); unique_program_id = 1; avail_num = 0; avails_expected = 0 }) }); descriptors = []; stuffing = []; crc = 0 }),
    )
    ∷ (
      codes "0xFC302400000000000000FFF01305000000027F8F0207FE00000009087F00000000000000000000",
      Ok (record { pts_adjustment = 0; cw_index = 0; tier = 4095; command = Insert (record { event_id = 2; body = Some (record { out_of_network = true; immediate = false; target = Components ((7, Some (record { pts = Some 9 })) ∷ (8, Some (record { pts = None })) ∷ []); duration = None; unique_program_id = 0; avail_num = 0; avails_expected = 0 }) }); descriptors = []; stuffing = []; crc = 0 }),
    )
    ∷ (
      codes "0xFC301D00000000000000FFF00C05000000027F9F010700000000000000000000",
      Ok (record { pts_adjustment = 0; cw_index = 0; tier = 4095; command = Insert (record { event_id = 2; body = Some (record { out_of_network = true; immediate = true; target = Components ((7, None) ∷ []); duration = None; unique_program_id = 0; avail_num = 0; avails_expected = 0 }) }); descriptors = []; stuffing = []; crc = 0 }),
    )
    ∷ (
      codes "0Xfc301c00000000000000fff00b05000000027fcf7f00000000000000000000",
      Ok (record { pts_adjustment = 0; cw_index = 0; tier = 4095; command = Insert (record { event_id = 2; body = Some (record { out_of_network = true; immediate = false; target = Program (Some (record { pts = None })); duration = None; unique_program_id = 0; avail_num = 0; avails_expected = 0 }) }); descriptors = []; stuffing = []; crc = 0 }),
    )
    ∷ (
      codes "0xFC301600000000000000FFF0050500000002FF000000000000",
      Ok (record { pts_adjustment = 0; cw_index = 0; tier = 4095; command = Insert (record { event_id = 2; body = None }); descriptors = []; stuffing = []; crc = 0 }),
    )
    ∷ (
      codes "0xFC301600000000000000FFFFFF0500000002FF000000000000",
      Ok (record { pts_adjustment = 0; cw_index = 0; tier = 4095; command = Insert (record { event_id = 2; body = None }); descriptors = []; stuffing = []; crc = 0 }),
    )
    ∷ (
      codes "0xFC301600000000000000FFF00506FE00000009000000000000",
      Ok (record { pts_adjustment = 0; cw_index = 0; tier = 4095; command = Other 6 (254 ∷ 0 ∷ 0 ∷ 0 ∷ 9 ∷ []); descriptors = []; stuffing = []; crc = 0 }),
    )
    ∷ (
      codes "0xFC301100000000000000FFF00000000000000000",
      Ok (record { pts_adjustment = 0; cw_index = 0; tier = 4095; command = Other 0 []; descriptors = []; stuffing = []; crc = 0 }),
    )
    ∷ (codes "FC301100000000000000FFF00000000000000000", Err NotHex)
    ∷ (codes "0xFC301100000000000000FFF0000000000000000", Err NotHex)
    ∷ (codes "0xFC301100000000000000FFF0000000000000000G", Err NotHex)
    ∷ (codes "0x", Err TooShort)
    ∷ (codes "0xFC301100000000000000FFF000000000000000", Err TooShort)
    ∷ (codes "0xFD301100000000000000FFF00000000000000000", Err TableId)
    ∷ (codes "0xFC301200000000000000FFF00000000000000000", Err Length)
    ∷ (codes "0xFC301000000000000000FFF00000000000000000", Err Length)
    ∷ (codes "0xFC301101000000000000FFF00000000000000000", Err Protocol)
    ∷ (codes "0xFC301100800000000000FFF00000000000000000", Err Encrypted)
    ∷ (codes "0xFC301200000000000000FFFFFF067F000000000000", Err CommandLength)
    ∷ (codes "0xFC301100000000000000FFFFFF06000000000000", Err CommandLength)
    ∷ (codes "0xFC301700000000000000FFF0060500000002FF00000000000000", Err CommandLength)
    ∷ (codes "0xFC301100000000000000FFF00A00000000000000", Err CommandLength)
    ∷ (codes "0xFC301100000000000000FFF00000000500000000", Err CommandLength) ∷ [])

-- a section of 191 bytes: twelve components, one of which states no time, a break of more than 2^32 ticks, descriptors and stuffing; and one of 85 bytes whose
-- command states no length. The algorithm of an encryption that isn't there is no part of the adjustment
abbrev pub LargeSplicesAreRead : Type 0
LargeSplicesAreRead = HasValues reading_hex ((
  codes "0xFC30BC0003000000030412305405480000017FAF0C017F02FE0000000203FE0000000304FE0000000405FE0000000506FE0000000607FE0000000708FE0000000809FE000000090AFE0000000A0BFE0000000B0CFF00000005FF0000000701028384002D0102030405060708090A0B0C0D0E0F101112131415161718191A1B1C1D1E1F202122232425262728292A2B2C2D65666768696A6B6C6D6E6F707172737475767778797A7B7C7D7E7F808182838485868788898A8B8C8D8E01020304",
  Ok (record { pts_adjustment = 4294967299; cw_index = 4; tier = 291; command = Insert (record { event_id = 1207959553; body = Some (record { out_of_network = true; immediate = false; target = Components ((1, Some (record { pts = None })) ∷ (2, Some (record { pts = Some 2 })) ∷ (3, Some (record { pts = Some 3 })) ∷ (4, Some (record { pts = Some 4 })) ∷ (5, Some (record { pts = Some 5 })) ∷ (6, Some (record { pts = Some 6 })) ∷ (7, Some (record { pts = Some 7 })) ∷ (8, Some (record { pts = Some 8 })) ∷ (9, Some (record { pts = Some 9 })) ∷ (10, Some (record { pts = Some 10 })) ∷ (11, Some (record { pts = Some 11 })) ∷ (12, Some (record { pts = Some 4294967301 })) ∷ []); duration = Some (record { auto_return = true; ticks = 4294967303 }); unique_program_id = 258; avail_num = 131; avails_expected = 132 }) }); descriptors = 1 ∷ 2 ∷ 3 ∷ 4 ∷ 5 ∷ 6 ∷ 7 ∷ 8 ∷ 9 ∷ 10 ∷ 11 ∷ 12 ∷ 13 ∷ 14 ∷ 15 ∷ 16 ∷ 17 ∷ 18 ∷ 19 ∷ 20 ∷ 21 ∷ 22 ∷ 23 ∷ 24 ∷ 25 ∷ 26 ∷ 27 ∷ 28 ∷ 29 ∷ 30 ∷ 31 ∷ 32 ∷ 33 ∷ 34 ∷ 35 ∷ 36 ∷ 37 ∷ 38 ∷ 39 ∷ 40 ∷ 41 ∷ 42 ∷ 43 ∷ 44 ∷ 45 ∷ []; stuffing = 101 ∷ 102 ∷ 103 ∷ 104 ∷ 105 ∷ 106 ∷ 107 ∷ 108 ∷ 109 ∷ 110 ∷ 111 ∷ 112 ∷ 113 ∷ 114 ∷ 115 ∷ 116 ∷ 117 ∷ 118 ∷ 119 ∷ 120 ∷ 121 ∷ 122 ∷ 123 ∷ 124 ∷ 125 ∷ 126 ∷ 127 ∷ 128 ∷ 129 ∷ 130 ∷ 131 ∷ 132 ∷ 133 ∷ 134 ∷ 135 ∷ 136 ∷ 137 ∷ 138 ∷ 139 ∷ 140 ∷ 141 ∷ 142 ∷ []; crc = 16909060 }),
)
    ∷ (
      codes "0xFC305200000000000000FFFFFF05480000017FEFFE00000009FE0000000701020304002D0102030405060708090A0B0C0D0E0F101112131415161718191A1B1C1D1E1F202122232425262728292A2B2C2D01020304",
      Ok (record { pts_adjustment = 0; cw_index = 0; tier = 4095; command = Insert (record { event_id = 1207959553; body = Some (record { out_of_network = true; immediate = false; target = Program (Some (record { pts = Some 9 })); duration = Some (record { auto_return = true; ticks = 7 }); unique_program_id = 258; avail_num = 3; avails_expected = 4 }) }); descriptors = 1 ∷ 2 ∷ 3 ∷ 4 ∷ 5 ∷ 6 ∷ 7 ∷ 8 ∷ 9 ∷ 10 ∷ 11 ∷ 12 ∷ 13 ∷ 14 ∷ 15 ∷ 16 ∷ 17 ∷ 18 ∷ 19 ∷ 20 ∷ 21 ∷ 22 ∷ 23 ∷ 24 ∷ 25 ∷ 26 ∷ 27 ∷ 28 ∷ 29 ∷ 30 ∷ 31 ∷ 32 ∷ 33 ∷ 34 ∷ 35 ∷ 36 ∷ 37 ∷ 38 ∷ 39 ∷ 40 ∷ 41 ∷ 42 ∷ 43 ∷ 44 ∷ 45 ∷ []; stuffing = []; crc = 16909060 }),
    ) ∷ [])

-- of two faults the first in the section is told; a length has 12 bits
abbrev pub SpliceFaultsAreOrdered : Type 0
SpliceFaultsAreOrdered = HasValues reading_hex (
    (codes "0xFB301100000000000000FFF00000000000000000", Err TableId)
    ∷ (codes "0xFD301200000000000000FFF00000000000000000", Err TableId)
    ∷ (codes "0xFC381100000000000000FFF00000000000000000", Err Length)
    ∷ (codes "0xFC311100000000000000FFF00000000000000000", Err Length)
    ∷ (codes "0xFC301201000000000000FFF00000000000000000", Err Length)
    ∷ (codes "0xFC301101800000000000FFF00000000000000000", Err Protocol)
    ∷ (codes "0xFC301100000000000000FFF00000000100000000", Err CommandLength)
    ∷ (codes "0xFC301400000000000000FFF00305000002000000000000", Err CommandLength)
    ∷ (codes "0xFC301600000000000000FFFFFF0600000002FF000000000000", Err CommandLength)
    ∷ (codes "0xFC301600000000000000FFFFFF0400000002FF000000000000", Err CommandLength)
    ∷ (codes "1xFC301100000000000000FFF00000000000000000", Err NotHex)
    ∷ (codes "/xFC301100000000000000FFF00000000000000000", Err NotHex)
    ∷ (codes "0wFC301100000000000000FFF00000000000000000", Err NotHex)
    ∷ (codes "0yFC301100000000000000FFF00000000000000000", Err NotHex)
    ∷ (codes "0WFC301100000000000000FFF00000000000000000", Err NotHex)
    ∷ (codes "0YFC301100000000000000FFF00000000000000000", Err NotHex) ∷ [])
