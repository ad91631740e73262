-- One call more in a client's turn.
use Rattle.std.proofs.Common.{◌≡◌, ℕ, ◌+◌, ◌<◌, true, false, true≢false, arith, List, length, ◌∷◌, ◌++◌, zero, refl, sym, ap, ◌∙◌, append_assoc, length-append}
use Rattle.std.proofs.KnownBytes.{Consumes-trans, Appends-trans}
use Rattle.std.specs.Prelude.{Option, Some, None}
use Rattle.http_edge.specs.Edges.{NamedChannel}
use Rattle.connections.specs.declared.conversation.Conversation.{Conversation}
use Rattle.connections.specs.declared.conversation.Conversation.TheVariants.{Asking, Answering}
use Rattle.connections.specs.Arrivals.{is_asking}
use Rattle.connections.specs.Conversing.{Goes}
use Rattle.connections.specs.Clients.{AreSent}
use Rattle.connections.specs.declared.devices.Passage.TheVariants.{Bytes}
use Rattle.connections.specs.Devices.{DeviceStand, Calls, one_call}
use Rattle.connections.specs.Table.{State, at, left_of, part_of_request, ConversationGoesOn}
use Rattle.connections.specs.Wires.{HasHeard, HasSaid}
use Rattle.connections.specs.Turns.{AreRead, bytes_of_pieces, MovedEach, HasListened, HasSpoken}
use Rattle.connections.proofs.Held.{left_before}

pub moved_none : (calls : Calls) → MovedEach zero calls calls
unfolding MovedEach
moved_none calls = refl

pub moved_more : (n count : ℕ) (old middle new : Calls) → MovedEach n old middle → 0 < count → new ≡ one_call (Bytes count) middle → MovedEach (n + 1) old new
unfolding MovedEach
moved_more n count old middle new each some one = grind arith

pub heard_more : (first before after : DeviceStand) (place : ℕ) (old middle new : State) → HasListened first before place old middle
    → is_asking (at middle place) ≡ true → HasHeard before after place middle new → HasListened first after place old new
heard_more first before after place old middle new listened asking heard = record {
  pieces = heard.piece ∷ listened.pieces;
  given = Consumes-trans first.bytes before.bytes after.bytes (bytes_of_pieces listened.pieces) heard.piece listened.given heard.gave_it.given;
  run = (middle, listened.run, asking, heard.happens);
}

pub said_more : (first before after : DeviceStand) (place : ℕ) (old middle new : State) → HasSpoken first before place old middle
    → HasSaid before after place middle new → HasSpoken first after place old new
said_more first before after place old middle new spoken said =
    let sent = bytes_of_pieces spoken.pieces in record {
      pieces = said.piece ∷ spoken.pieces;
      taken = Appends-trans first.bytes before.bytes after.bytes sent said.piece spoken.taken said.took_it.taken;
      left =
          spoken.left ∙ ap (λ l. sent ++ l) (left_before place said.piece middle new said.happens)
          ∙ sym (append_assoc sent said.piece (left_of (at new place)));
      run = (middle, spoken.run, said.happens);
    }

-- ---- what was read of a request

pub read_none : (place : ℕ) (now : State) → AreRead 0 place now now
read_none place now = omega arith

grown : (place : ℕ) (bytes piece : List ℕ) (new : State) (after : Conversation) (pieces : ℕ) (before edge : List NamedChannel) → Goes (Asking bytes pieces) piece before edge after
    → at new place ≡ Some after → is_asking (at new place) ≡ true → length (part_of_request (at new place)) ≡ length bytes + length piece
grown place bytes piece new (Asking more count) pieces before edge goes here asking = ap (λ c. length (part_of_request c)) here ∙ ap length goes.0 ∙ length-append bytes piece
grown place bytes piece new (Answering rest status) pieces before edge goes here asking = absurd (true≢false (sym asking ∙ ap is_asking here))

longer : (place : ℕ) (piece : List ℕ) (old new : State) (c : Option Conversation) → is_asking c ≡ true → ConversationGoesOn c old place piece new
    → is_asking (at new place) ≡ true → length (part_of_request (at new place)) ≡ length (part_of_request c) + length piece
longer place piece old new None asks goes asking = absurd (true≢false (sym asks))
longer place piece old new (Some (Asking bytes pieces)) asks (after, goes, puts) asking = grown place bytes piece new after pieces old.edge new.edge goes puts.here asking
longer place piece old new (Some (Answering rest status)) asks goes asking = absurd (true≢false (sym asks))

pub read_more : (n : ℕ) (before after : DeviceStand) (place : ℕ) (old middle new : State) → AreRead n place old middle → is_asking (at middle place) ≡ true
    → HasHeard before after place middle new → is_asking (at new place) ≡ true → AreRead (n + 1) place old new
read_more n before after place old middle new read asks heard asking =
    let more = longer place heard.piece middle new (at middle place) asks heard.happens asking in
    omega (arith, read, more, heard.gave_it.some)

-- ---- what is left of a reply

pub sent_none : (place : ℕ) (now : State) → AreSent 0 place now now
sent_none place now = omega arith

pub sent_more : (n : ℕ) (before after : DeviceStand) (place : ℕ) (old middle new : State) → AreSent n place old middle → HasSaid before after place middle new → AreSent (n + 1) place old new
sent_more n before after place old middle new sent said = grind (arith, left_before, length-append)

-- ---- who is answered asks no more

pub told_more : (before after : DeviceStand) (place : ℕ) (old middle new : State) → (is_asking (at old place) ≡ false → is_asking (at middle place) ≡ false) → HasSaid before after place middle new
    → is_asking (at old place) ≡ false → is_asking (at new place) ≡ false
told_more before after place old middle new earlier said h = grind arith
