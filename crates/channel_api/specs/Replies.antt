-- The replies, no channel among them.
use Rattle.std.specs.Prelude.{ℕ, List, [], ◌∷◌, ◌++◌, codes, map, Option, Some, None, Ok, Err}
use Rattle.std.specs.List.{flat_map}
use Rattle.pod_store.specs.declared.fault.DecisionKind.{DecisionKind}
use Rattle.pod_store.specs.declared.fault.DecisionKind.TheVariants as decision
use Rattle.pod_store.specs.FaultTexts.{fault_text}
use Rattle.pod_store.specs.Outcome.{DecisionOutcome}
use Rattle.pod_store.specs.Store.{Store}
use Rattle.break_finder.specs.declared.why.Why.{Why}
use Rattle.break_finder.specs.Breaks.{Break}
use Rattle.break_finder.specs.Entering.{id_of_break}
use Rattle.channel_spec.specs.declared.fault.RefreshFault.{RefreshFault}
use Rattle.channel_spec.specs.declared.fault.RefreshFault.TheVariants as fault
use Rattle.http_messages.specs.declared.message.Reply.{Reply}
use Rattle.http_messages.specs.declared.message.ContentType.TheVariants.{Playlist}
use Rattle.http_messages.specs.declared.message.Allow.{Allow}
use Rattle.http_messages.specs.Replies.{bare, plain_http_reply}
use Rattle.channel_api.specs.declared.channel_body.BodyFault.{BodyFault}
use Rattle.channel_api.specs.declared.channel_body.BodyFault.TheVariants as body
use Rattle.channel_spec.specs.FaultTexts.{refresh_fault_text}
use Rattle.channel_api.specs.FaultTexts.{body_fault_text, why_word}

-- a text and a line feed
abbrev pub reply_line : ℕ → List ℕ → Reply
reply_line status text = plain_http_reply status (text ++ codes "\n")

abbrev pub not_found : Reply
not_found = reply_line 404 (codes "not found")

abbrev pub not_allowed : Allow → Reply
not_allowed allow = record (reply_line 405 (codes "method not allowed")) { allow = Some allow }

-- ---- making a channel

abbrev pub body_fault_reply : BodyFault → Reply
body_fault_reply body.NotJson = reply_line 422 (body_fault_text body.NotJson)
body_fault_reply body.Shape = reply_line 422 (body_fault_text body.Shape)
body_fault_reply body.OutOfMemory = bare 503

abbrev pub bad_base : Reply
bad_base = reply_line 422 (codes "C1 BadBase")

abbrev pub bad_tolerance : Reply
bad_tolerance = reply_line 422 (codes "C2 BadTolerance")

abbrev pub exists : Reply
exists = reply_line 409 (codes "channel exists")

-- ---- refreshes

-- a text that can't be read is 422 (RFC 9110, 15.5.21), one that may not follow is 409 (15.5.10)
abbrev pub refused_refresh_status : RefreshFault → ℕ
refused_refresh_status (fault.Playlist unread) = 422
refused_refresh_status _ = 409

abbrev pub refused_refresh : RefreshFault → Reply
refused_refresh fault = reply_line (refused_refresh_status fault) (refresh_fault_text fault)

-- ---- decisions

abbrev pub refused_decisions_status : DecisionKind → ℕ
refused_decisions_status decision.Used = 409
refused_decisions_status decision.Full = 409
refused_decisions_status decision.Unknown = 409
refused_decisions_status _ = 422

abbrev pub decisions_reply : DecisionOutcome Store → Reply
decisions_reply (Ok store) = bare 204
decisions_reply (Err fault) = reply_line (refused_decisions_status fault.kind) (fault_text fault)

-- ---- reads

abbrev pub live_reply : Option (List ℕ) → Reply
live_reply None = not_found
live_reply (Some text) = record { status = 200; allow = None; content = Some (record { media = Playlist; text = text }) }

-- an ID, a tab, a word and a line feed
abbrev pub id_line : List ℕ → List ℕ → List ℕ
id_line id word = id ++ (codes "\t" ++ (word ++ codes "\n"))

-- a known ID, and why its break is filled or not
abbrev pub why_line : (List ℕ → Why) → List ℕ → List ℕ
why_line reason id = id_line id (why_word (reason id))

abbrev pub why_text : (List ℕ → Why) → List Break → List ℕ
why_text reason breaks = flat_map (why_line reason) (map id_of_break breaks)

-- a text, or no content if that is empty
abbrev pub reply_of_text : List ℕ → Reply
reply_of_text [] = bare 200
reply_of_text (b ∷ text) = plain_http_reply 200 (b ∷ text)
