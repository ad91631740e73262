use Rattle.std.proofs.Common.{◌≡◌, drop, map, codes}
use Rattle.std.specs.List.{list_any}
use Rattle.httparse.specs.Borrowed.{header_parts}
use Rattle.http_messages.specs.Requests.{is_header_field_named}
use Rattle.http_messages.proofs.head.has_transfer_coding.Given as goal

abbrev pub invariant-loop-field : goal.invariant-loop-field
invariant-loop-field l =
    list_any (is_header_field_named (codes "transfer-encoding")) (map header_parts (drop l.field-index l.fields))
    ≡ list_any (is_header_field_named (codes "transfer-encoding")) (map header_parts l.fields)
